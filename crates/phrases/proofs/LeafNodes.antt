-- A token that is a node by itself: the reader finds it, and the node holds it.
use Rattle.std.proofs.Common.{◌≡◌, ℕ, suc, ◌+◌, ◌≤◌, Bool, cond, leb, List, [], length, take, drop, pos, Some, None, Option, sym, refl, ap, ◌∙◌, subst, arith}
use Rattle.std.proofs.lemmas.Bool.{le-leb}
use Rattle.domain.specs.declared.Domain.{Domain}
use Rattle.fault.specs.Limits.{script_bytes, name_bytes, string_bytes, integer_max}
use Rattle.words.specs.Numbers.{value_of}
use Rattle.words.specs.Spans.{part_of}
use Rattle.words.specs.Tokens.{Bytes, Place, Terminal, Token, Terminal.word, Terminal.sign, Terminal.domain, Terminal.logic, Terminal.comparison}
use Rattle.words.specs.Tokens.{Terminal.sum, Terminal.product, Terminal.truth, Terminal.integer, Terminal.string, Terminal.name, Terminal.broken}
use Rattle.grammar.specs.Tree.{Name.named, AtomicType.typed, Constant.integer_constant, Constant.string_constant, Constant.truth_constant}
use Rattle.grammar.specs.Parts.{Part, Leaf, Leaf.name_leaf, Leaf.type_leaf, Leaf.constant_leaf, name_part, type_part, constant_part}
use Rattle.grammar.specs.Readers.{Cause.cannot_follow, Outcome.found, Outcome.refused_at, read_leaf}
use Rattle.tree.specs.Holds.{Says, node_at}
use Rattle.tree.specs.declared.nodes.Node.{Node}
use Rattle.tree.specs.declared.nodes.What.{What}
use Rattle.tree.specs.declared.nodes.What.TheVariants as what
use Rattle.phrases.specs.Held.{Held, leaf_level}
use Rattle.phrases.specs.Leaves.{within, span_of, integer_of, leaf_node}
use Rattle.phrases.specs.Places.{Spells, TellsAhead, pays_ahead}
use Rattle.phrases.specs.Sorts.{leaf_pays}
use Rattle.phrases.specs.States.{before}

-- a number in range is itself
within_is : (limit n : ℕ) → n ≤ limit → within limit n ≡ n
within_is limit n h = ap (λ b. cond b n 0) (le-leb n limit h)

-- the span of what is spelt in a text is a part of it
pub span_part : (text x : Bytes) (start limit : ℕ) → length text ≤ script_bytes → limit ≤ 255 → Spells text start limit x → part_of (span_of start x) text ≡ Some x
span_part text x start limit g few s =
    let i = within_is 65535 start (omega (arith, g, s.inside)) in
    let j = within_is 255 (length x) (omega (arith, few, s.short)) in
    subst (λ n. cond (leb (n + within 255 (length x)) (length text)) (Some (take (within 255 (length x)) (drop n text))) None ≡ Some x) (sym i)
    (subst (λ n. cond (leb (start + n) (length text)) (Some (take n (drop start text))) None ≡ Some x) (sym j)
    (ap (λ b. cond b (Some (take (length x) (drop start text))) None) (le-leb (start + length x) (length text) s.inside) ∙ ap Some s.bytes))

name_held : (text : Bytes) (ns : List Node) (i : ℕ) (x : Bytes) (p : Place) → length text ≤ script_bytes → Spells text p.byte name_bytes x →
    Says ns i (what.Name (span_of p.byte x)) p → (node_at ns i).next ≡ None → Held (leaf_level name_leaf) text ns i (suc i) i (name_part (named x p))
unfolding Held
name_held text ns i x p g t h n = (i, refl, ((refl, span_of p.byte x, h, span_part text x p.byte name_bytes g (omega arith) t), refl, n))

type_held : (text : Bytes) (ns : List Node) (i : ℕ) (d : Domain) (p : Place) → Says ns i (what.AtomicType d) p → (node_at ns i).next ≡ None → Held (leaf_level type_leaf) text ns i (suc i) i (type_part (typed d p))
unfolding Held
type_held text ns i d p h n = ((i, refl, ((refl, h), refl, n)), refl)

integer_held : (text : Bytes) (ns : List Node) (i : ℕ) (x : Bytes) (p : Place) → value_of x ≤ integer_max → Says ns i (what.Integer (integer_of x)) p → (node_at ns i).next ≡ None →
    Held (leaf_level constant_leaf) text ns i (suc i) i (constant_part (integer_constant (pos (value_of x)) p))
unfolding Held
integer_held text ns i x p t h n = (i, refl, ((refl, subst (λ v. Says ns i (what.Integer (pos v)) p) (within_is integer_max (value_of x) t) h), refl, n))

string_held : (text : Bytes) (ns : List Node) (i : ℕ) (x : Bytes) (p : Place) → length text ≤ script_bytes → Spells text (p.byte + 1) string_bytes x →
    Says ns i (what.Text (span_of (p.byte + 1) x)) p → (node_at ns i).next ≡ None → Held (leaf_level constant_leaf) text ns i (suc i) i (constant_part (string_constant x p))
unfolding Held
string_held text ns i x p g t h n = (i, refl, ((refl, span_of (p.byte + 1) x, h, span_part text x (p.byte + 1) string_bytes g (omega arith) t), refl, n))

truth_held : (text : Bytes) (ns : List Node) (i : ℕ) (b : Bool) (p : Place) → Says ns i (what.Truth b) p → (node_at ns i).next ≡ None → Held (leaf_level constant_leaf) text ns i (suc i) i (constant_part (truth_constant b p))
unfolding Held
truth_held text ns i b p h n = (i, refl, ((refl, h), refl, n))

-- what follows from the node that a token is: without one it is refused; else it pays for it, is read, and the node holds it
abbrev LeafBy : Bytes → Leaf → Option Terminal → Place → List Token → Option What → Type 0
LeafBy text l k p s None = read_leaf l (before k p s) ≡ refused_at cannot_follow (before k p s)
LeafBy text l k p s (Some w) =
    (leaf_pays l ≤ pays_ahead k) ×
    (length text ≤ script_bytes → TellsAhead text k p →
    (u : Part) × (read_leaf l (before k p s) ≡ found u s) × ((ns : List Node) (i : ℕ) → Says ns i w p → (node_at ns i).next ≡ None → Held (leaf_level l) text ns i (suc i) i u))

leaf_by : (text : Bytes) (l : Leaf) (k : Option Terminal) (p : Place) (s : List Token) → LeafBy text l k p s (leaf_node l k p.byte)
unfolding read_leaf
leaf_by text l None p s = refl
leaf_by text name_leaf (Some (word v)) p s = refl
leaf_by text name_leaf (Some (sign v)) p s = refl
leaf_by text name_leaf (Some (domain d)) p s = refl
leaf_by text name_leaf (Some (logic v)) p s = refl
leaf_by text name_leaf (Some (comparison v)) p s = refl
leaf_by text name_leaf (Some (sum v)) p s = refl
leaf_by text name_leaf (Some (product v)) p s = refl
leaf_by text name_leaf (Some (truth b)) p s = refl
leaf_by text name_leaf (Some (integer x)) p s = refl
leaf_by text name_leaf (Some (string x)) p s = refl
leaf_by text name_leaf (Some (name x)) p s = (omega arith, λ g t. (name_part (named x p), refl, λ ns i h n. name_held text ns i x p g t h n))
leaf_by text name_leaf (Some (broken v)) p s = refl
leaf_by text type_leaf (Some (word v)) p s = refl
leaf_by text type_leaf (Some (sign v)) p s = refl
leaf_by text type_leaf (Some (domain d)) p s = (omega arith, λ g t. (type_part (typed d p), refl, λ ns i h n. type_held text ns i d p h n))
leaf_by text type_leaf (Some (logic v)) p s = refl
leaf_by text type_leaf (Some (comparison v)) p s = refl
leaf_by text type_leaf (Some (sum v)) p s = refl
leaf_by text type_leaf (Some (product v)) p s = refl
leaf_by text type_leaf (Some (truth b)) p s = refl
leaf_by text type_leaf (Some (integer x)) p s = refl
leaf_by text type_leaf (Some (string x)) p s = refl
leaf_by text type_leaf (Some (name x)) p s = refl
leaf_by text type_leaf (Some (broken v)) p s = refl
leaf_by text constant_leaf (Some (word v)) p s = refl
leaf_by text constant_leaf (Some (sign v)) p s = refl
leaf_by text constant_leaf (Some (domain d)) p s = refl
leaf_by text constant_leaf (Some (logic v)) p s = refl
leaf_by text constant_leaf (Some (comparison v)) p s = refl
leaf_by text constant_leaf (Some (sum v)) p s = refl
leaf_by text constant_leaf (Some (product v)) p s = refl
leaf_by text constant_leaf (Some (truth b)) p s = (omega arith, λ g t. (constant_part (truth_constant b p), refl, λ ns i h n. truth_held text ns i b p h n))
leaf_by text constant_leaf (Some (integer x)) p s = (omega arith, λ g t. (constant_part (integer_constant (pos (value_of x)) p), refl, λ ns i h n. integer_held text ns i x p t h n))
leaf_by text constant_leaf (Some (string x)) p s = (omega arith, λ g t. (constant_part (string_constant x p), refl, λ ns i h n. string_held text ns i x p g t h n))
leaf_by text constant_leaf (Some (name x)) p s = refl
leaf_by text constant_leaf (Some (broken v)) p s = refl

-- what the token's node holds
pub leaf_found : (text : Bytes) (l : Leaf) (k : Option Terminal) (p : Place) (s : List Token) (w : What) → length text ≤ script_bytes → TellsAhead text k p → Some w ≡ leaf_node l k p.byte →
    (u : Part) × (read_leaf l (before k p s) ≡ found u s) × ((ns : List Node) (i : ℕ) → Says ns i w p → (node_at ns i).next ≡ None → Held (leaf_level l) text ns i (suc i) i u)
leaf_found text l k p s w g t e = let h = subst (LeafBy text l k p s) (sym e) (leaf_by text l k p s) in h.1 g t

-- another token is refused
pub leaf_refused : (l : Leaf) (k : Option Terminal) (p : Place) (s : List Token) → None ≡ leaf_node l k p.byte → read_leaf l (before k p s) ≡ refused_at cannot_follow (before k p s)
leaf_refused l k p s e = subst (LeafBy [] l k p s) (sym e) (leaf_by [] l k p s)

-- it is a token, which pays for its node
pub leaf_pays_lem : (l : Leaf) (k : Option Terminal) (p : Place) (w : What) → Some w ≡ leaf_node l k p.byte → leaf_pays l ≤ pays_ahead k
leaf_pays_lem l k p w e = let h = subst (LeafBy [] l k p []) (sym e) (leaf_by [] l k p []) in h.0

pub leaf_some : (l : Leaf) → 1 ≤ leaf_pays l
leaf_some name_leaf = omega arith
leaf_some type_leaf = omega arith
leaf_some constant_leaf = omega arith

-- a type that is read is the token's
pub type_read : (k : Option Terminal) (p : Place) (s : List Token) (t : Part) (r : List Token) → read_leaf type_leaf (before k p s) ≡ found t r → (d : Domain) × (t ≡ type_part (typed d p))
unfolding read_leaf
type_read None p s t r e = absurd (let z : ◌≡◌ {A = ℕ} 0 1 = cc in omega arith)
type_read (Some (word v)) p s t r e = absurd (let z : ◌≡◌ {A = ℕ} 0 1 = cc in omega arith)
type_read (Some (sign v)) p s t r e = absurd (let z : ◌≡◌ {A = ℕ} 0 1 = cc in omega arith)
type_read (Some (domain v)) p s t r e = (v, cc)
type_read (Some (logic v)) p s t r e = absurd (let z : ◌≡◌ {A = ℕ} 0 1 = cc in omega arith)
type_read (Some (comparison v)) p s t r e = absurd (let z : ◌≡◌ {A = ℕ} 0 1 = cc in omega arith)
type_read (Some (sum v)) p s t r e = absurd (let z : ◌≡◌ {A = ℕ} 0 1 = cc in omega arith)
type_read (Some (product v)) p s t r e = absurd (let z : ◌≡◌ {A = ℕ} 0 1 = cc in omega arith)
type_read (Some (truth v)) p s t r e = absurd (let z : ◌≡◌ {A = ℕ} 0 1 = cc in omega arith)
type_read (Some (integer v)) p s t r e = absurd (let z : ◌≡◌ {A = ℕ} 0 1 = cc in omega arith)
type_read (Some (string v)) p s t r e = absurd (let z : ◌≡◌ {A = ℕ} 0 1 = cc in omega arith)
type_read (Some (name v)) p s t r e = absurd (let z : ◌≡◌ {A = ℕ} 0 1 = cc in omega arith)
type_read (Some (broken v)) p s t r e = absurd (let z : ◌≡◌ {A = ℕ} 0 1 = cc in omega arith)

-- a name that is read is the token's
pub name_read : (k : Option Terminal) (p : Place) (s : List Token) (t : Part) (r : List Token) → read_leaf name_leaf (before k p s) ≡ found t r → (x : Bytes) × (t ≡ name_part (named x p))
unfolding read_leaf
name_read None p s t r e = absurd (let z : ◌≡◌ {A = ℕ} 0 1 = cc in omega arith)
name_read (Some (word v)) p s t r e = absurd (let z : ◌≡◌ {A = ℕ} 0 1 = cc in omega arith)
name_read (Some (sign v)) p s t r e = absurd (let z : ◌≡◌ {A = ℕ} 0 1 = cc in omega arith)
name_read (Some (domain v)) p s t r e = absurd (let z : ◌≡◌ {A = ℕ} 0 1 = cc in omega arith)
name_read (Some (logic v)) p s t r e = absurd (let z : ◌≡◌ {A = ℕ} 0 1 = cc in omega arith)
name_read (Some (comparison v)) p s t r e = absurd (let z : ◌≡◌ {A = ℕ} 0 1 = cc in omega arith)
name_read (Some (sum v)) p s t r e = absurd (let z : ◌≡◌ {A = ℕ} 0 1 = cc in omega arith)
name_read (Some (product v)) p s t r e = absurd (let z : ◌≡◌ {A = ℕ} 0 1 = cc in omega arith)
name_read (Some (truth v)) p s t r e = absurd (let z : ◌≡◌ {A = ℕ} 0 1 = cc in omega arith)
name_read (Some (integer v)) p s t r e = absurd (let z : ◌≡◌ {A = ℕ} 0 1 = cc in omega arith)
name_read (Some (string v)) p s t r e = absurd (let z : ◌≡◌ {A = ℕ} 0 1 = cc in omega arith)
name_read (Some (name v)) p s t r e = (v, cc)
name_read (Some (broken v)) p s t r e = absurd (let z : ◌≡◌ {A = ℕ} 0 1 = cc in omega arith)
