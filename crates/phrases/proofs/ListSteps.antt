-- Lists: what stays held, how a list goes on, and what its element is.
use Rattle.std.proofs.Common.{◌≡◌, ℕ, suc, ◌-◌, ◌<◌, ◌≤◌, Bool, true, false, cond, eqb, ◌≢◌, List, [], ◌++◌, length, set, Some, None, Option, sym, refl, ap, ◌∙◌, subst, arith, get_or-set_other, get_or-set_same}
use mathlib.Core.Option.{some}
use Rattle.std.proofs.lemmas.Bool.{eqb-true}
use Rattle.domain.specs.declared.Domain.{Domain}
use Rattle.fault.specs.declared.rules.Fault.{Fault}
use Rattle.words.specs.declared.tokens.Word.TheVariants.{Program, End, Table, If, Then, Else, While, Do, Read, Write, Join, Not, Project, Select, Exists}
use Rattle.words.specs.declared.tokens.Word.TheVariants.{All, Update, Extend, Rename}
use Rattle.words.specs.declared.tokens.Sign.TheVariants.{LeftParenthesis, RightParenthesis, LeftBracket, RightBracket, LeftBrace, RightBrace, Semicolon}
use Rattle.words.specs.declared.tokens.Sign.TheVariants.{Comma, Assign}
use Rattle.words.specs.Tokens.{Bytes, Place, Terminal, Token, Token.◌at◌, Terminal.word, Terminal.sign, Terminal.domain, Terminal.logic, Terminal.comparison}
use Rattle.words.specs.Tokens.{Terminal.sum, Terminal.product, Terminal.truth, Terminal.integer, Terminal.string, Terminal.name, Terminal.broken}
use Rattle.grammar.specs.Tree.{Name, AtomicType, Name.named, AtomicType.typed}
use Rattle.grammar.specs.Parts.{Part, Level, Turn.stop, Turn.take_operator, Leaf.name_leaf, Leaf.type_leaf, Leaf.constant_leaf, Operator.commas, turn_if, turn_at, level_after, between_in, code_in, combine}
use Rattle.grammar.specs.Parts.{name_part, type_part, attribute_declaration, tuple_constant, place_part, left_parenthesis, right_parenthesis, code_of}
use Rattle.grammar.specs.Parts.{Level.statement_level, Level.name_level, Level.type_level, Level.constant_level, Level.attribute_level, Level.tuple_level}
use Rattle.grammar.specs.Parts.{Level.logic_level, Level.comparison_level, Level.sum_level, Level.product_level, Level.compared_level}
use Rattle.grammar.specs.Promise.{any_token}
use Rattle.grammar.specs.Readers.{Outcome, Outcome.found as read, and_then, take_turn, rest, Shorter, read_leaf, read_attribute, read_tuple, brackets_at, expect_token, expect_if, read_level}
use Rattle.grammar.proofs.Fuel.{rest_nil, rest_cons, level_is, leaf_shorter, attribute_shorter, tuple_shorter, bracket_shorter}
use Rattle.tree.specs.Holds.{Says, node_at, said, Holder, Chained, HoldsName, HoldsType, HoldsConstant, HoldsAttribute, HoldsTuple, type_at}
use Rattle.tree.specs.Kept.{Below, Beyond}
use Rattle.tree.specs.declared.nodes.Node.{Node}
use Rattle.tree.specs.declared.nodes.What.TheVariants as what
use Rattle.tree.proofs.Stable.{Agree, Firm, Ordered, Stable, chain_order, chain_stable, chain_append}
use Rattle.tree.proofs.Stable.{name_order, type_order, constant_order, attribute_order, tuple_order, name_stable, type_stable, constant_stable, attribute_stable, tuple_stable}
use Rattle.tree.proofs.Stable.{expression_stable, statements_stable}
use Rattle.tree.proofs.Grown.{below_firm, below_agree}
use Rattle.phrases.specs.declared.sorts.Listed.{Listed}
use Rattle.phrases.specs.declared.sorts.Listed.TheVariants as listed
use Rattle.phrases.specs.Held.{Held, ListHeld}
use Rattle.phrases.specs.Sorts.{level_of, item_reader, relinked}
use Rattle.phrases.specs.States.{before, code_ahead, broken_in, refused_by, Halts}
use Rattle.phrases.proofs.Steps.{refused_ahead, refused_first, refused_then}

-- a list stays where its entries stay
list_below : {A : Type 0} (H : Holder A) → Ordered H → Stable H → (xs ys : List Node) (from upto i : ℕ) (l : List A) → Below upto xs ys → ListHeld H xs from upto i l → ListHeld H ys from upto i l
list_below H o s xs ys from upto i l b (m, e, h) = (m, e, chain_stable H o s xs ys from m i l (below_firm from (suc m) xs ys (subst (λ n. Below n xs ys) e b)) h)

-- what is held stays where its entries stay
pub held_below : (l : Level) (text : Bytes) (xs ys : List Node) (from upto i : ℕ) (t : Part) → Below upto xs ys → Held l text xs from upto i t → Held l text ys from upto i t
unfolding Held
held_below statement_level text xs ys from upto i t b (m, e, h) = (m, e, statements_stable text xs ys from m i t.statements (below_firm from (suc m) xs ys (subst (λ n. Below n xs ys) e b)) h)
held_below name_level text xs ys from upto i t b h = list_below (HoldsName text) (name_order text) (name_stable text) xs ys from upto i t.names b h
held_below type_level text xs ys from upto i t b (h, z) = (list_below (HoldsType text) (type_order text) (type_stable text) xs ys from upto i t.types b h, z)
held_below constant_level text xs ys from upto i t b h = list_below (HoldsConstant text) (constant_order text) (constant_stable text) xs ys from upto i t.constants b h
held_below attribute_level text xs ys from upto i t b h = list_below (HoldsAttribute text) (attribute_order text) (attribute_stable text) xs ys from upto i t.attributes b h
held_below tuple_level text xs ys from upto i t b h = list_below (HoldsTuple text) (tuple_order text) (tuple_stable text) xs ys from upto i t.tuples b h
held_below logic_level text xs ys from upto i t b (e, h) = (e, expression_stable text xs ys from i t.expression (below_agree from (suc i) xs ys (subst (λ n. Below n xs ys) e b)) h)
held_below comparison_level text xs ys from upto i t b (e, h) = (e, expression_stable text xs ys from i t.expression (below_agree from (suc i) xs ys (subst (λ n. Below n xs ys) e b)) h)
held_below compared_level text xs ys from upto i t b (e, h) = (e, expression_stable text xs ys from i t.expression (below_agree from (suc i) xs ys (subst (λ n. Below n xs ys) e b)) h)
held_below sum_level text xs ys from upto i t b (e, h) = (e, expression_stable text xs ys from i t.expression (below_agree from (suc i) xs ys (subst (λ n. Below n xs ys) e b)) h)
held_below product_level text xs ys from upto i t b (e, h) = (e, expression_stable text xs ys from i t.expression (below_agree from (suc i) xs ys (subst (λ n. Below n xs ys) e b)) h)

-- an arena in which one node was linked
linked_here : (ys zs : List Node) (last next : ℕ) → last < length ys → zs ≡ set ys last (relinked (node_at ys last) next) → node_at zs last ≡ relinked (node_at ys last) next
linked_here ys zs last next h e = subst (λ l. node_at l last ≡ relinked (node_at ys last) next) (sym e) (rw get_or-set_same)

linked_other : (ys zs : List Node) (last next j : ℕ) → (j ≡ last → ⊥) → zs ≡ set ys last (relinked (node_at ys last) next) → node_at zs j ≡ node_at ys j
linked_other ys zs last next j h e = subst (λ l. node_at l j ≡ node_at ys j) (sym e) (let ne : j ≢ last = h in rw get_or-set_other)

linked_said : (ys zs : List Node) (last next j : ℕ) → last < length ys → zs ≡ set ys last (relinked (node_at ys last) next) → said (node_at zs j) ≡ said (node_at ys j)
linked_said ys zs last next j h e = go (eqb j last) refl
  where
    go : (b : Bool) → eqb j last ≡ b → said (node_at zs j) ≡ said (node_at ys j)
    go true i = let z = eqb-true j last i in subst (λ k. said (node_at zs k) ≡ said (node_at ys k)) (sym z) (ap said (linked_here ys zs last next h e))
    go false i = ap said (linked_other ys zs last next j (λ z. absurd (let y : ◌≡◌ {A = ℕ} 0 1 = grind (arith, z, i) in omega (arith, y))) e)

-- an element more, linked to the one before it
list_link : {A : Type 0} (H : Holder A) → Ordered H → Stable H → (xs ys zs : List Node) (from m upto first next : ℕ) (l k : List A) →
    ListHeld H xs from m first l → ListHeld H ys m upto next k → Below m xs ys → m - 1 < length ys → zs ≡ set ys (m - 1) (relinked (node_at ys (m - 1)) next) → ListHeld H zs from upto first (l ++ k)
list_link H o s xs ys zs from m upto first next l k (last, e, h) (end, i, g) below room wrote =
    let d : m - 1 ≡ last = omega (arith, e) in
    let room2 : last < length ys = omega (arith, d, room) in
    let wrote2 : zs ≡ set ys last (relinked (node_at ys last) next) = subst (λ n. zs ≡ set ys n (relinked (node_at ys n) next)) d wrote in
    let r = chain_order H o ys m end next k g in
    let agree : Agree from (suc last) xs zs = record {
      same = λ j lo hi. linked_said ys zs last next j room2 wrote2 ∙ ap said (below j (omega (arith, hi, e)));
      linked = λ j lo hi. ap (λ n. n.next) (linked_other ys zs last next j (λ z. omega (arith, z, hi)) wrote2 ∙ below j (omega (arith, hi, e)));
    } in
    let firm : Firm m (suc end) ys zs = record {
      same = λ j lo hi. ap said (linked_other ys zs last next j (λ z. omega (arith, z, lo, e)) wrote2);
      linked = λ j lo hi. ap (λ n. n.next) (linked_other ys zs last next j (λ z. omega (arith, z, lo, e)) wrote2);
    } in (
      end,
      i,
      chain_append H o s xs zs from last first end next l k agree (ap (λ n. n.next) (linked_here ys zs last next room2 wrote2)) (omega (arith, r.0, e)) h
          (subst (λ n. Chained H zs n end next k) e (chain_stable H o s ys zs m end next k firm g)),
    )

both_none : {A : Type 0} (l k : List A) → l ≡ [] → k ≡ [] → l ++ k ≡ []
both_none l k e f = ap (λ i. i ++ k) e ∙ f

pub held_link : (d : Listed) (text : Bytes) (xs ys zs : List Node) (from m upto first next : ℕ) (p : Place) (t u : Part) →
    Held (level_of d) text xs from m first t → Held (level_of d) text ys m upto next u → Below m xs ys → m - 1 < length ys → zs ≡ set ys (m - 1) (relinked (node_at ys (m - 1)) next) →
    Held (level_of d) text zs from upto first (combine commas p t u)
unfolding Held
held_link listed.Names text xs ys zs from m upto first next p t u h k b r w = list_link (HoldsName text) (name_order text) (name_stable text) xs ys zs from m upto first next t.names u.names h k b r w
held_link listed.Types text xs ys zs from m upto first next p t u (h, e) (k, f) b r w =
    (list_link (HoldsType text) (type_order text) (type_stable text) xs ys zs from m upto first next t.types u.types h k b r w, both_none t.tuples u.tuples e f)
held_link listed.Constants text xs ys zs from m upto first next p t u h k b r w = list_link (HoldsConstant text) (constant_order text) (constant_stable text) xs ys zs from m upto first next t.constants u.constants h k b r w
held_link listed.Attributes text xs ys zs from m upto first next p t u h k b r w = list_link (HoldsAttribute text) (attribute_order text) (attribute_stable text) xs ys zs from m upto first next t.attributes u.attributes h k b r w
held_link listed.Tuples text xs ys zs from m upto first next p t u h k b r w = list_link (HoldsTuple text) (tuple_order text) (tuple_stable text) xs ys zs from m upto first next t.tuples u.tuples h k b r w

-- a linked node changes nothing below the list, and nothing behind it
pub link_below : (from last next : ℕ) (ys zs : List Node) → from ≤ last → zs ≡ set ys last (relinked (node_at ys last) next) → Below from ys zs
link_below from last next ys zs h e j l = linked_other ys zs last next j (λ z. omega (arith, z, l, h)) e

pub link_beyond : (upto last next : ℕ) (ys zs : List Node) → last < upto → zs ≡ set ys last (relinked (node_at ys last) next) → Beyond upto ys zs
link_beyond upto last next ys zs h e j l = linked_other ys zs last next j (λ z. omega (arith, z, l, h)) e

pub held_some : (d : Listed) (text : Bytes) (xs : List Node) (from m first : ℕ) (t : Part) → Held (level_of d) text xs from m first t → from < m
unfolding Held
held_some listed.Names text xs from m first t (l, e, h) = let r = chain_order (HoldsName text) (name_order text) xs from l first t.names h in omega (arith, e, r.0, r.1)
held_some listed.Types text xs from m first t ((l, e, h), z) = let r = chain_order (HoldsType text) (type_order text) xs from l first t.types h in omega (arith, e, r.0, r.1)
held_some listed.Constants text xs from m first t (l, e, h) = let r = chain_order (HoldsConstant text) (constant_order text) xs from l first t.constants h in omega (arith, e, r.0, r.1)
held_some listed.Attributes text xs from m first t (l, e, h) = let r = chain_order (HoldsAttribute text) (attribute_order text) xs from l first t.attributes h in omega (arith, e, r.0, r.1)
held_some listed.Tuples text xs from m first t (l, e, h) = let r = chain_order (HoldsTuple text) (tuple_order text) xs from l first t.tuples h in omega (arith, e, r.0, r.1)

-- a comma goes on with a list, every other token ends it
comma_turn : (t : Terminal) (p : Place) → turn_if 1 (between_in t p) ≡ cond (eqb 26 (code_in t)) (take_operator commas) stop
comma_turn (word Program) p = refl
comma_turn (word End) p = refl
comma_turn (word Table) p = refl
comma_turn (word If) p = refl
comma_turn (word Then) p = refl
comma_turn (word Else) p = refl
comma_turn (word While) p = refl
comma_turn (word Do) p = refl
comma_turn (word Read) p = refl
comma_turn (word Write) p = refl
comma_turn (word Join) p = refl
comma_turn (word Not) p = refl
comma_turn (word Project) p = refl
comma_turn (word Select) p = refl
comma_turn (word Exists) p = refl
comma_turn (word All) p = refl
comma_turn (word Update) p = refl
comma_turn (word Extend) p = refl
comma_turn (word Rename) p = refl
comma_turn (sign LeftParenthesis) p = refl
comma_turn (sign RightParenthesis) p = refl
comma_turn (sign LeftBracket) p = refl
comma_turn (sign RightBracket) p = refl
comma_turn (sign LeftBrace) p = refl
comma_turn (sign RightBrace) p = refl
comma_turn (sign Semicolon) p = refl
comma_turn (sign Comma) p = refl
comma_turn (sign Assign) p = refl
comma_turn (domain d) p = refl
comma_turn (logic o) p = refl
comma_turn (comparison o) p = refl
comma_turn (sum o) p = refl
comma_turn (product o) p = refl
comma_turn (truth b) p = refl
comma_turn (integer x) p = refl
comma_turn (string x) p = refl
comma_turn (name x) p = refl
comma_turn (broken r) p = refl

list_turn : (d : Listed) (t : Terminal) (p : Place) → turn_at (level_of d) (t at p) ≡ turn_if 1 (between_in t p)
list_turn listed.Names t p = refl
list_turn listed.Types t p = refl
list_turn listed.Constants t p = refl
list_turn listed.Attributes t p = refl
list_turn listed.Tuples t p = refl

pub item_shorter : (n : ℕ) (d : Listed) → Shorter (item_reader n d)
item_shorter n listed.Names = leaf_shorter name_leaf
item_shorter n listed.Types = leaf_shorter type_leaf
item_shorter n listed.Constants = leaf_shorter constant_leaf
item_shorter n listed.Attributes = attribute_shorter
item_shorter n listed.Tuples = tuple_shorter n

list_again : (d : Listed) → level_after (level_of d) ≡ level_of d
list_again listed.Names = refl
list_again listed.Types = refl
list_again listed.Constants = refl
list_again listed.Attributes = refl
list_again listed.Tuples = refl

-- without a comma the list is what it is
pub list_stops : (n : ℕ) (d : Listed) (t : Part) (k : Option Terminal) (p : Place) (s : List Token) → eqb 26 (code_ahead k) ≡ false → rest (item_reader n d) (brackets_at any_token n) (level_of d) t (before k p s) ≡ read t (before k p s)
list_stops n d t None p s e = rest_nil (item_reader n d) (brackets_at any_token n) (level_of d) t
list_stops n d t (Some w) p s e =
    rest_cons (item_reader n d) (brackets_at any_token n) (item_shorter n d) (bracket_shorter n) (level_of d) t (w at p) s ∙
    ap (λ x. take_turn (λ l t s. rest (item_reader n d) (brackets_at any_token n) l t s) (item_reader n d) (brackets_at any_token n) x (level_of d) t (w at p) s)
    (list_turn d w p ∙ comma_turn w p ∙ ap (λ b. cond b (take_operator commas) stop) e)

-- with one it goes on behind the next element
pub list_goes_on : (n : ℕ) (d : Listed) (t : Part) (k : Option Terminal) (p : Place) (s : List Token) → eqb 26 (code_ahead k) ≡ true →
    rest (item_reader n d) (brackets_at any_token n) (level_of d) t (before k p s) ≡ and_then (item_reader n d s) (λ u r. rest (item_reader n d) (brackets_at any_token n) (level_of d) (combine commas p t u) r)
list_goes_on n d t None p s e = absurd (let z = eqb-true 26 29 e in omega (arith, z))
list_goes_on n d t (Some w) p s e =
    rest_cons (item_reader n d) (brackets_at any_token n) (item_shorter n d) (bracket_shorter n) (level_of d) t (w at p) s ∙
    ap (λ x. take_turn (λ l t s. rest (item_reader n d) (brackets_at any_token n) l t s) (item_reader n d) (brackets_at any_token n) x (level_of d) t (w at p) s)
    (list_turn d w p ∙ comma_turn w p ∙ ap (λ b. cond b (take_operator commas) stop) e) ∙
    ap (λ l. and_then (item_reader n d s) (λ u r. rest (item_reader n d) (brackets_at any_token n) l (combine commas p t u) r)) (list_again d)

-- what is no token ends it too
pub list_halts : (end : Place) (n : ℕ) (d : Listed) (t : Part) → Halts end (rest (item_reader n d) (brackets_at any_token n) (level_of d) t)
unfolding refused_by
list_halts end n d t c p q = ap (refused_by end) (list_stops n d t (Some (broken c)) p q refl)

-- no element begins with it
pub item_halts : (end : Place) (n : ℕ) (d : Listed) (g : Part → List Token → Outcome) → Halts end (λ s. and_then (item_reader n d s) g)
unfolding refused_by read_leaf read_attribute read_tuple expect_token
item_halts end n listed.Names g c p q = refl
item_halts end n listed.Types g c p q = refl
item_halts end n listed.Constants g c p q = refl
item_halts end n listed.Attributes g c p q = refl
item_halts end n listed.Tuples g c p q = refl

-- a type alone, and a name alone
pub one_type : (text : Bytes) (xs : List Node) (from m i : ℕ) (y : AtomicType) → Held type_level text xs from m i (type_part y) → (m ≡ suc i) × HoldsType text xs from i y
unfolding Held
one_type text xs from m i y ((l, e, (a, w, z)), o) = (omega (arith, e, w), a)

pub one_name : (text : Bytes) (xs : List Node) (from m i : ℕ) (x : Name) → Held name_level text xs from m i (name_part x) → (m ≡ suc i) × HoldsName text xs from i x
unfolding Held
one_name text xs from m i x (l, e, (a, w, z)) = (omega (arith, e, w), a)

attribute_made : (text : Bytes) (zs : List Node) (from m upto i j : ℕ) (y : AtomicType) (x : Name) → Held type_level text zs from m i (type_part y) → Held name_level text zs m upto j (name_part x) →
    Says zs upto (what.Attribute i j) (type_at y) → (node_at zs upto).next ≡ None → Held attribute_level text zs from (suc upto) upto (attribute_declaration (type_part y) (name_part x))
unfolding Held
attribute_made text zs from m upto i j y x h k says next =
    let (e, a) = one_type text zs from m i y h in
    let (f, b) = one_name text zs m upto j x k in
    let o = name_order text zs m j x b in
    (upto, refl, ((i, j, a, subst (λ n. HoldsName text zs n j x) e b, omega (arith, e, o), f, says), refl, next))

-- an attribute, of its type and its name
pub attribute_held : (text : Bytes) (xs ys zs : List Node) (from m upto i j : ℕ) (t u : Part) (d : Domain) (p : Place) (x : Bytes) (q : Place) → t ≡ type_part (typed d p) → u ≡ name_part (named x q) →
    Held type_level text xs from m i t → Held name_level text ys m upto j u → Below m xs ys → Below upto ys zs → Says zs upto (what.Attribute i j) p → (node_at zs upto).next ≡ None →
    Held attribute_level text zs from (suc upto) upto (attribute_declaration t u)
attribute_held text xs ys zs from m upto i j t u d p x q e f h k b c says next =
    let z = held_some listed.Names text ys m upto j u k in
    subst (λ v. Held attribute_level text zs from (suc upto) upto (attribute_declaration v u)) (sym e)
    (subst (λ v. Held attribute_level text zs from (suc upto) upto (attribute_declaration (type_part (typed d p)) v)) (sym f)
    (attribute_made text zs from m upto i j (typed d p) (named x q)
    (subst (Held type_level text zs from m i) e (held_below type_level text xs zs from m i t (λ n l. c n (omega (arith, l, z)) ∙ b n l) h))
    (subst (Held name_level text zs m upto j) f (held_below name_level text ys zs m upto j u c k)) says next))

-- a tuple, of its constants
pub tuple_held : (text : Bytes) (ys zs : List Node) (from upto i : ℕ) (t : Part) (p : Place) → Held constant_level text ys from upto i t → Below upto ys zs → Says zs upto (what.Tuple i) p → (node_at zs upto).next ≡ None →
    Held tuple_level text zs from (suc upto) upto (tuple_constant (place_part p) t)
unfolding Held
tuple_held text ys zs from upto i t p h b says next =
    let (l, e, k) = held_below constant_level text ys zs from upto i t b h in
    (upto, refl, ((i, l, k, e, says), refl, next))

-- a word or sign that is expected is no broken token
pub expect_halts : (end : Place) (w : Token) (g : Part → List Token → Outcome) → code_of w < 28 → Halts end (λ s. and_then (expect_token w s) g)
unfolding expect_token refused_by
expect_halts end w g l c p q = ap (λ b. refused_by end (and_then (expect_if b (broken c at p) q) g)) (let z : eqb (code_of w) 28 ≡ false = grind (arith, l) in z)

found_halts : (end : Place) (t : Part) → Halts end (λ s. read t s)
unfolding refused_by
found_halts end t c p q = refl

-- neither is a list
pub level_halts : (end : Place) (n : ℕ) (d : Listed) (g : Part → List Token → Outcome) → Halts end (λ s. and_then (read_level (item_reader n d) (brackets_at any_token n) (level_of d) s) g)
unfolding refused_by read_level read_leaf read_attribute read_tuple expect_token
level_halts end n listed.Names g c p q = refl
level_halts end n listed.Types g c p q = refl
level_halts end n listed.Constants g c p q = refl
level_halts end n listed.Attributes g c p q = refl
level_halts end n listed.Tuples g c p q = refl

-- an attribute by its parts
pub attribute_first : (end : Place) (s : List Token) (f : Fault) → refused_by end (read_leaf type_leaf s) ≡ some f → refused_by end (read_attribute s) ≡ some f
unfolding read_attribute
attribute_first end s f h = refused_first end (read_leaf type_leaf s) (λ t r. and_then (read_leaf name_leaf r) (λ u q. read (attribute_declaration t u) q)) f (λ t. item_halts end 0 listed.Names (λ u q. read (attribute_declaration t u) q)) h

pub attribute_second : (end : Place) (s : List Token) (t : Part) (r : List Token) (f : Fault) → read_leaf type_leaf s ≡ read t r → refused_by end (read_leaf name_leaf r) ≡ some f → refused_by end (read_attribute s) ≡ some f
unfolding read_attribute
attribute_second end s t r f e h =
    refused_then end (read_leaf type_leaf s) t r (λ t r. and_then (read_leaf name_leaf r) (λ u q. read (attribute_declaration t u) q)) f e
    (refused_first end (read_leaf name_leaf r) (λ u q. read (attribute_declaration t u) q) f (λ u. found_halts end (attribute_declaration t u)) h)

pub attribute_found : (s : List Token) (t : Part) (r : List Token) (u : Part) (q : List Token) → read_leaf type_leaf s ≡ read t r → read_leaf name_leaf r ≡ read u q → read_attribute s ≡ read (attribute_declaration t u) q
unfolding read_attribute
attribute_found s t r u q e f = rw (e, f)

-- a tuple by its parts
pub tuple_first : (end : Place) (n : ℕ) (s : List Token) (f : Fault) → refused_by end (expect_token left_parenthesis s) ≡ some f → refused_by end (read_tuple (brackets_at any_token n) s) ≡ some f
unfolding read_tuple
tuple_first end n s f h =
    refused_first end (expect_token left_parenthesis s) (λ z r. and_then (read_level (read_leaf constant_leaf) (brackets_at any_token n) constant_level r) (λ t q. and_then (expect_token right_parenthesis q) (λ _ p. read (tuple_constant z t) p))) f
    (λ z. level_halts end n listed.Constants (λ t q. and_then (expect_token right_parenthesis q) (λ _ p. read (tuple_constant z t) p))) h

pub tuple_second : (end : Place) (n : ℕ) (s : List Token) (z : Part) (r : List Token) (f : Fault) → expect_token left_parenthesis s ≡ read z r → refused_by end (read_level (read_leaf constant_leaf) (brackets_at any_token n) constant_level r) ≡ some f →
    refused_by end (read_tuple (brackets_at any_token n) s) ≡ some f
unfolding read_tuple
tuple_second end n s z r f e h =
    refused_then end (expect_token left_parenthesis s) z r (λ z r. and_then (read_level (read_leaf constant_leaf) (brackets_at any_token n) constant_level r) (λ t q. and_then (expect_token right_parenthesis q) (λ _ p. read (tuple_constant z t) p))) f e
    (refused_first end (read_level (read_leaf constant_leaf) (brackets_at any_token n) constant_level r) (λ t q. and_then (expect_token right_parenthesis q) (λ _ p. read (tuple_constant z t) p)) f
    (λ t. expect_halts end right_parenthesis (λ _ p. read (tuple_constant z t) p) (omega arith)) h)

pub tuple_third : (end : Place) (n : ℕ) (s : List Token) (z : Part) (r : List Token) (t : Part) (q : List Token) (f : Fault) → expect_token left_parenthesis s ≡ read z r →
    read_level (read_leaf constant_leaf) (brackets_at any_token n) constant_level r ≡ read t q → refused_by end (expect_token right_parenthesis q) ≡ some f → refused_by end (read_tuple (brackets_at any_token n) s) ≡ some f
unfolding read_tuple
tuple_third end n s z r t q f e g h = rw (e, g) (refused_first end (expect_token right_parenthesis q) (λ _ p. read (tuple_constant z t) p) f (λ u. found_halts end (tuple_constant z t)) h)

pub tuple_found : (n : ℕ) (s : List Token) (z : Part) (r : List Token) (t : Part) (q : List Token) (y : Part) (p : List Token) → expect_token left_parenthesis s ≡ read z r →
    read_level (read_leaf constant_leaf) (brackets_at any_token n) constant_level r ≡ read t q → expect_token right_parenthesis q ≡ read y p → read_tuple (brackets_at any_token n) s ≡ read (tuple_constant z t) p
unfolding read_tuple
tuple_found n s z r t q y p e g h = rw (e, g, h)

-- a list by its first element
pub list_first : (end : Place) (n : ℕ) (d : Listed) (s : List Token) (f : Fault) → refused_by end (item_reader n d s) ≡ some f → refused_by end (read_level (item_reader n d) (brackets_at any_token n) (level_of d) s) ≡ some f
list_first end n d s f h =
    ap (refused_by end) (level_is (item_reader n d) (brackets_at any_token n) (level_of d) s) ∙
    refused_first end (item_reader n d s) (λ t r. rest (item_reader n d) (brackets_at any_token n) (level_of d) t r) f (λ t. list_halts end n d t) h

pub list_found : (n : ℕ) (d : Listed) (s : List Token) (t : Part) (r : List Token) → item_reader n d s ≡ read t r → read_level (item_reader n d) (brackets_at any_token n) (level_of d) s ≡ rest (item_reader n d) (brackets_at any_token n) (level_of d) t r
list_found n d s t r e = level_is (item_reader n d) (brackets_at any_token n) (level_of d) s ∙ ap (λ x. and_then x (λ t r. rest (item_reader n d) (brackets_at any_token n) (level_of d) t r)) e

-- a list that goes on, by its next element
pub more_halts : (end : Place) (n : ℕ) (d : Listed) (t : Part) (k : Option Terminal) (p : Place) (s : List Token) (f : Fault) → eqb 26 (code_ahead k) ≡ true → broken_in s ≡ some f →
    refused_by end (rest (item_reader n d) (brackets_at any_token n) (level_of d) t (before k p s)) ≡ some f
more_halts end n d t k p s f e h =
    ap (refused_by end) (list_goes_on n d t k p s e) ∙
    refused_ahead end (λ s. and_then (item_reader n d s) (λ u r. rest (item_reader n d) (brackets_at any_token n) (level_of d) (combine commas p t u) r)) s f
    (item_halts end n d (λ u r. rest (item_reader n d) (brackets_at any_token n) (level_of d) (combine commas p t u) r)) h

pub more_first : (end : Place) (n : ℕ) (d : Listed) (t : Part) (k : Option Terminal) (p : Place) (s : List Token) (f : Fault) → eqb 26 (code_ahead k) ≡ true → refused_by end (item_reader n d s) ≡ some f →
    refused_by end (rest (item_reader n d) (brackets_at any_token n) (level_of d) t (before k p s)) ≡ some f
more_first end n d t k p s f e h =
    ap (refused_by end) (list_goes_on n d t k p s e) ∙
    refused_first end (item_reader n d s) (λ u r. rest (item_reader n d) (brackets_at any_token n) (level_of d) (combine commas p t u) r) f (λ u. list_halts end n d (combine commas p t u)) h

pub more_found : (n : ℕ) (d : Listed) (t : Part) (k : Option Terminal) (p : Place) (s : List Token) (u : Part) (r : List Token) → eqb 26 (code_ahead k) ≡ true → item_reader n d s ≡ read u r →
    rest (item_reader n d) (brackets_at any_token n) (level_of d) t (before k p s) ≡ rest (item_reader n d) (brackets_at any_token n) (level_of d) (combine commas p t u) r
more_found n d t k p s u r e h = list_goes_on n d t k p s e ∙ ap (λ x. and_then x (λ u r. rest (item_reader n d) (brackets_at any_token n) (level_of d) (combine commas p t u) r)) h
