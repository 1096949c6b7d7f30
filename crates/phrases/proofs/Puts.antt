-- A part whose last node was just put.
use Rattle.std.proofs.Common.{◌≡◌, ℕ, suc, ◌+◌, ◌<◌, ◌≤◌, List, length, set, IfOk, None, Ok, Err, Result, sym, refl, ap, ◌∙◌, subst, arith}
use mathlib.Core.Option.{some}
use Rattle.fault.specs.declared.rules.Fault.{Fault}
use Rattle.words.specs.Tokens.{Bytes, Place}
use Rattle.fault.specs.Limits.{nodes as nodes_limit}
use Rattle.words.specs.Lexing.{end_of}
use Rattle.words.specs.Views.{spoken, standing}
use Rattle.phrases.specs.Places.{worth_of, following, Lies, TellsAhead}
use Rattle.grammar.specs.Parts.{Part}
use Rattle.grammar.specs.Readers.{Outcome, Outcome.found}
use Rattle.tree.specs.Holds.{Says, node_at, said}
use Rattle.tree.specs.Kept.{Below, Beyond}
use Rattle.tree.specs.declared.nodes.Node.{Node}
use Rattle.tree.specs.declared.nodes.What.{What}
use Rattle.tree.proofs.Grown.{below_then, beyond_then, below_set, beyond_set, here}
use Rattle.phrases.specs.declared.parsers.Parser.{Parser}
use Rattle.phrases.specs.States.{Grounded, tokens_ahead, worth, before, behind, ahead_at, Counted, new_node, Numbers, NumbersOn, Holding, Done, Answers, refused_by}

pub grounded_counted : (text : Bytes) (ys : List Node) (b c : Parser) → Counted b c → Grounded text ys b → Grounded text c.nodes.now c
grounded_counted text ys b c e g =
    record {
      lies = subst (λ s. Lies text (standing s)) (sym e.scanner) g.lies;
      tells = subst (λ l. TellsAhead text (spoken l.token) l.place) (sym e.ahead) g.tells;
      entries = refl;
    }

pub counted_tokens : (b c : Parser) → Counted b c → tokens_ahead c ≡ tokens_ahead b
counted_tokens b c e =
    ap (λ l. before (spoken l.token) l.place (behind c)) e.ahead ∙ ap (λ s. before (spoken b.ahead.token) (ahead_at b) (following (standing s))) e.scanner

-- the arena in which the node was put
wrote_in : (text : Bytes) (ys : List Node) (b c : Parser) (v : Node) → Grounded text ys b → c.nodes.now ≡ set b.nodes.now b.count v → c.nodes.now ≡ set ys b.count v
wrote_in text ys b c v g e = e ∙ ap (λ l. set l b.count v) g.entries

room_in : (text : Bytes) (ys : List Node) (b : Parser) → Grounded text ys b → suc (b.count + worth b) ≤ nodes_limit → b.count < length ys
room_in text ys b g h = let e = ap length g.entries in let f = b.fits in omega (arith, e, f, h)

-- what is found, and the node for it is put
pub done_put : (P : Holding) (text : Bytes) (o : Outcome) (from : ℕ) (a b c : Parser) (xs ys : List Node) (w : What) (p : Place) (u : Part) (i : ℕ) →
    Counted b c → c.nodes.now ≡ set b.nodes.now b.count (new_node w p) → i ≡ b.count → o ≡ found u (tokens_ahead b) → Grounded text ys b → Below from xs ys → Beyond b.count xs ys →
    from ≤ b.count → suc (b.count + worth b) ≤ nodes_limit →
    (Below b.count ys c.nodes.now → Says c.nodes.now b.count w p → (node_at c.nodes.now b.count).next ≡ None → P text c.nodes.now from (suc b.count) b.count u) →
    Answers P text o from a c xs c.nodes.now (Ok i)
unfolding Answers
done_put P text o from a b c xs ys w p u i state put root value g below beyond low paid h =
    let zs = c.nodes.now in
    let wrote : zs ≡ set ys b.count (new_node w p) = wrote_in text ys b c (new_node w p) g put in
    let room : b.count < length ys = room_in text ys b g paid in
    let stays : Below b.count ys zs = subst (Below b.count ys) (sym wrote) (below_set b.count b.count ys (new_node w p) (omega arith)) in
    let after : Beyond (suc b.count) ys zs = subst (Beyond (suc b.count) ys) (sym wrote) (beyond_set (suc b.count) b.count ys (new_node w p) (omega arith)) in
    let node : node_at zs b.count ≡ new_node w p = subst (λ l. node_at l b.count ≡ new_node w p) (sym wrote) (here ys b.count (new_node w p) room) in
    let more = state.count in
    record {
      part = u;
      value = value ∙ ap (found u) (sym (counted_tokens b c state));
      grounded = grounded_counted text ys b c state g;
      below = below_then from b.count xs ys zs low below stays;
      beyond = subst (λ n. Beyond n xs zs) (sym more) (beyond_then b.count (suc b.count) xs ys zs (omega arith) beyond after);
      holds = subst (λ n. P text zs from n i u) (sym more) (subst (λ n. P text zs from (suc b.count) n u) (sym root) (h stays (ap said node) (ap (λ n. n.next) node)));
    }

-- the node that is put was paid for
pub numbers_put : (a b c : Parser) → Counted b c → suc (b.count + worth b) ≤ a.count + worth a → worth b < worth a → a.count ≤ b.count → Numbers a c
numbers_put a b c e h k l =
    let n = e.count in
    let m : worth c ≡ worth b = ap (λ s. worth_of (spoken c.ahead.token) (standing s)) e.scanner ∙ ap (λ l. worth_of (spoken l.token) (standing b.scanner)) e.ahead in
    record { thrifty = omega (arith, n, m, h); onward = omega (arith, m, k); grown = omega (arith, n, l) }

-- what a function has answered
pub answered : (P : Holding) (text : Bytes) (o : Outcome) (from : ℕ) (a b : Parser) (xs ys : List Node) (i : ℕ) → Answers P text o from a b xs ys (Ok i) → Done P text o from a b xs ys i
unfolding Answers
answered P text o from a b xs ys i h = h

pub answer : (P : Holding) (text : Bytes) (o : Outcome) (from : ℕ) (a b : Parser) (xs ys : List Node) (i : ℕ) → Done P text o from a b xs ys i → Answers P text o from a b xs ys (Ok i)
unfolding Answers
answer P text o from a b xs ys i h = h

pub refusal : (P : Holding) (text : Bytes) (o : Outcome) (from : ℕ) (a b : Parser) (xs ys : List Node) (f : Fault) → Answers P text o from a b xs ys (Err f) → refused_by (end_of text) o ≡ some f
unfolding Answers
refusal P text o from a b xs ys f h = h

pub to_refusal : (P : Holding) (text : Bytes) (o : Outcome) (from : ℕ) (a b : Parser) (xs ys : List Node) (f x : Fault) → f ≡ x → refused_by (end_of text) o ≡ some x → Answers P text o from a b xs ys (Err f)
unfolding Answers
to_refusal P text o from a b xs ys f x e h = h ∙ ap some (sym e)

-- what a call leaves to the next one is the whole's
pub answers_later : (P : Holding) (text : Bytes) (o q : Outcome) (from : ℕ) (a b c : Parser) (xs ys zs : List Node) (r : Result ℕ Fault) →
    o ≡ q → Below from xs ys → Beyond b.count xs ys → IfOk r (λ _. NumbersOn b c) → Answers P text q from b c ys zs r → Answers P text o from a c xs zs r
unfolding Answers
answers_later P text o q from a b c xs ys zs (Ok i) e below beyond n d =
    record {
      part = d.part;
      value = e ∙ d.value;
      grounded = d.grounded;
      below = below_then from from xs ys zs (omega arith) below d.below;
      beyond = beyond_then b.count c.count xs ys zs n.grown beyond d.beyond;
      holds = d.holds;
    }
answers_later P text o q from a b c xs ys zs (Err f) e below beyond n d = ap (refused_by (end_of text)) e ∙ d

-- numbers of a whole by those of its parts
pub numbers_on : (b c : Parser) (r : Result ℕ Fault) → IfOk r (λ _. Numbers b c) → IfOk r (λ _. NumbersOn b c)
numbers_on b c (Ok i) n = record { thrifty = n.thrifty; onward = omega (arith, n.onward); grown = omega (arith, n.grown) }
numbers_on b c (Err f) n = tt

pub numbers_later : (a b c : Parser) (r : Result ℕ Fault) → b.count + worth b ≤ a.count + worth a → worth b < worth a → a.count < b.count → IfOk r (λ _. NumbersOn b c) → IfOk r (λ _. Numbers a c)
numbers_later a b c (Ok i) h k l n = record { thrifty = omega (arith, h, n.thrifty); onward = omega (arith, k, n.onward); grown = omega (arith, l, n.grown) }
numbers_later a b c (Err f) h k l n = tt

pub numbers_on_later : (a b c : Parser) (r : Result ℕ Fault) → b.count + worth b ≤ a.count + worth a → worth b ≤ worth a → a.count ≤ b.count → IfOk r (λ _. NumbersOn b c) → IfOk r (λ _. NumbersOn a c)
numbers_on_later a b c (Ok i) h k l n = record { thrifty = omega (arith, h, n.thrifty); onward = omega (arith, k, n.onward); grown = omega (arith, l, n.grown) }
numbers_on_later a b c (Err f) h k l n = tt

-- an answer where nothing was read
pub answers_here : (P : Holding) (text : Bytes) (o : Outcome) (from : ℕ) (a : Parser) (xs : List Node) (i : ℕ) → Grounded text xs a → Answers P text o from a a xs xs (Ok i) → Answers P text o from a a xs a.nodes.now (Ok i)
answers_here P text o from a xs i g h = subst (λ ys. Answers P text o from a a xs ys (Ok i)) (sym g.entries) h

-- a node is put on top of what is held: what the next call begins with
pub put_kept : (P : Holding) (text : Bytes) (from : ℕ) (b c : Parser) (xs ys : List Node) (w : What) (p : Place) (u : Part) (i : ℕ) →
    Counted b c → c.nodes.now ≡ set b.nodes.now b.count (new_node w p) → i ≡ b.count → Grounded text ys b → Below from xs ys → Beyond b.count xs ys → from ≤ b.count → suc (b.count + worth b) ≤ nodes_limit →
    (Below b.count ys c.nodes.now → Says c.nodes.now b.count w p → (node_at c.nodes.now b.count).next ≡ None → P text c.nodes.now from (suc b.count) b.count u) →
    (Grounded text c.nodes.now c) × (Below from xs c.nodes.now) × (Beyond c.count xs c.nodes.now) × P text c.nodes.now from c.count i u
put_kept P text from b c xs ys w p u i state put root g below beyond low paid h =
    let zs = c.nodes.now in
    let wrote : zs ≡ set ys b.count (new_node w p) = wrote_in text ys b c (new_node w p) g put in
    let room : b.count < length ys = room_in text ys b g paid in
    let stays : Below b.count ys zs = subst (Below b.count ys) (sym wrote) (below_set b.count b.count ys (new_node w p) (omega arith)) in
    let after : Beyond (suc b.count) ys zs = subst (Beyond (suc b.count) ys) (sym wrote) (beyond_set (suc b.count) b.count ys (new_node w p) (omega arith)) in
    let node : node_at zs b.count ≡ new_node w p = subst (λ l. node_at l b.count ≡ new_node w p) (sym wrote) (here ys b.count (new_node w p) room) in
    let more = state.count in (
      grounded_counted text ys b c state g,
      below_then from b.count xs ys zs low below stays,
      subst (λ n. Beyond n xs zs) (sym more) (beyond_then b.count (suc b.count) xs ys zs (omega arith) beyond after),
      subst (λ n. P text zs from n i u) (sym more) (subst (λ n. P text zs from (suc b.count) n u) (sym root) (h stays (ap said node) (ap (λ n. n.next) node))),
    )
