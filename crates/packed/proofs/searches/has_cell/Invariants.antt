use Rattle.std.proofs.Common.{◌≡◌, drop}
use Rattle.std.specs.List.{list_any}
use Rattle.store.specs.Meaning.{same_cell}
use Rattle.packed.proofs.searches.has_cell.Given as goal

abbrev pub invariant-loop-cell : goal.invariant-loop-cell
invariant-loop-cell l =
    list_any (λ cell. same_cell cell l.wanted) (drop l.cell-index l.cells) ≡ list_any (λ cell. same_cell cell l.wanted) l.cells
