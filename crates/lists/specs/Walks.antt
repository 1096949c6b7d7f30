-- The nodes of a list, one link after the other.
use Rattle.std.specs.Prelude.{ℕ, suc, List, [], ◌∷◌, length, Some, None, Option}
use Prim.Native.Nat.{zero}
use Rattle.tree.specs.declared.nodes.Node.{Node}
use Rattle.tree.specs.Holds.{node_at}
use Rattle.lists.specs.Links.{next_of}
use Rattle.lists.specs.declared.arena.Elements.{Elements}

-- so many nodes at most, from an entry on
abbrev pub walk : ℕ → List Node → Option ℕ → List Node
walk zero ns at = []
walk (suc more) ns None = []
walk (suc more) ns (Some i) = node_at ns i ∷ walk more ns (next_of ns i)

-- all of them: since links lead onward, no list has more than the entries of the arena and one outside
unfoldable pub walked : List Node → Option ℕ → List Node
walked ns at = walk (suc (length ns)) ns at

-- the elements that are still to come
abbrev pub left : Elements → List Node
left e = walked e.nodes.now e.at
