use Rattle.std.proofs.Common.{◌≡◌, ◌-◌, true, length, drop}
use Rattle.store.specs.Meaning.{same_row}
use Rattle.chained.specs.Chains.{nexts, values, walk, gather, under}
use Rattle.chained.proofs.rows.same_row.Given as goal

abbrev pub invariant-loop-cell : goal.invariant-loop-cell
invariant-loop-cell l =
    (same_row (gather (values l.links) (walk (nexts l.links) (length l.row - l.cell-index) l.at)) (drop l.cell-index l.row) ≡ same_row (gather (values l.links) (walk (nexts l.links) (length l.row) l.from)) l.row) × (under (length l.links) (walk (nexts l.links) (length l.row - l.cell-index) l.at) ≡ true)
