-- What stays in an arena that grows.
use Rattle.std.specs.Prelude.{◌≡◌, ℕ, ◌<◌, ◌≤◌, List}
use Rattle.tree.specs.declared.nodes.Node.{Node}
use Rattle.tree.specs.Holds.{node_at}

-- the entries below n are the same
abbrev pub Below : ℕ → List Node → List Node → Type 0
Below n xs ys = (i : ℕ) → i < n → node_at ys i ≡ node_at xs i

-- the entries from n on are the same
abbrev pub Beyond : ℕ → List Node → List Node → Type 0
Beyond n xs ys = (i : ℕ) → n ≤ i → node_at ys i ≡ node_at xs i
