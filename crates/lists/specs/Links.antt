-- Lists of nodes by their links.
use Rattle.std.specs.Prelude.{◌≡◌, ℕ, cond, ◌&&◌, List, [], ◌∷◌, length, Some, None, Option, nat_lt}
use Rattle.tree.specs.declared.nodes.Node.{Node}
use Rattle.tree.specs.Holds.{node_at, Said, said}

-- a link from entry i, if it leads onward and within so many entries
abbrev pub onward : ℕ → ℕ → Option ℕ → Option ℕ
onward i most None = None
onward i most (Some next) = cond (nat_lt i next && nat_lt next most) (Some next) None

-- where a link leads, if that is onward and within the arena
abbrev pub next_of : List Node → ℕ → Option ℕ
next_of ns i = onward i (length ns) (node_at ns i).next

-- the nodes from entry i on, link by link, are elements of the list; `Is s x` says that a node which says s is the element x
abbrev pub Linked : {A : Type 0} → (Said → A → Type 0) → List Node → ℕ → List A → Type 0
Linked Is ns i [] = ⊥
Linked Is ns i (x ∷ []) = (Is (said (node_at ns i)) x) × (next_of ns i ≡ None)
Linked Is ns i (x ∷ y ∷ ys) = (Is (said (node_at ns i)) x) × (next : ℕ) × (next_of ns i ≡ Some next) × Linked Is ns next (y ∷ ys)
