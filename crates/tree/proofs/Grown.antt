-- Arenas that grow: what a call and a further node leave of what was there.
use Rattle.std.proofs.Common.{◌≡◌, ℕ, ◌<◌, ◌≤◌, ◌≢◌, List, length, set, ap, ◌∙◌, arith, get_or-set_other, get_or-set_same}
use Rattle.tree.specs.declared.nodes.Node.{Node}
use Rattle.tree.specs.Holds.{node_at, said}
use Rattle.tree.specs.Kept.{Below, Beyond}
use Rattle.tree.proofs.Stable.{Agree, Firm}

pub below_then : (n m : ℕ) (xs ys zs : List Node) → n ≤ m → Below n xs ys → Below m ys zs → Below n xs zs
below_then n m xs ys zs h s t i l = t i (omega arith) ∙ s i l

pub beyond_then : (n m : ℕ) (xs ys zs : List Node) → n ≤ m → Beyond n xs ys → Beyond m ys zs → Beyond m xs zs
beyond_then n m xs ys zs h s t i l = t i l ∙ s i (omega arith)

-- one more node at entry m
pub below_set : (n m : ℕ) (xs : List Node) (v : Node) → n ≤ m → Below n xs (set xs m v)
below_set n m xs v h i l = let ne : i ≢ m = omega arith in rw get_or-set_other

pub beyond_set : (n m : ℕ) (xs : List Node) (v : Node) → m < n → Beyond n xs (set xs m v)
beyond_set n m xs v h i l = let ne : i ≢ m = omega arith in rw get_or-set_other

pub here : (xs : List Node) (i : ℕ) (v : Node) → i < length xs → node_at (set xs i v) i ≡ v
here xs i v h = rw get_or-set_same

-- what is the same below n is linked in the same way
pub below_firm : (from n : ℕ) (xs ys : List Node) → Below n xs ys → Firm from n xs ys
below_firm from n xs ys b = record { same = λ j l m. ap said (b j m); linked = λ j l m. ap (λ i. i.next) (b j m) }

pub below_agree : (from n : ℕ) (xs ys : List Node) → Below n xs ys → Agree from n xs ys
below_agree from n xs ys b = record { same = λ j l m. ap said (b j m); linked = λ j l m. ap (λ i. i.next) (b j (omega arith)) }
