use Rattle.std.proofs.Common.{◌≡◌, take}
use Rattle.chained.specs.Chains.{nexts, values, walk, step, put}
use Rattle.chained.proofs.rows.write_row.Given as goal

abbrev pub invariant-loop-cell : goal.invariant-loop-cell
invariant-loop-cell l =
    let ns = nexts l.initial.links in
    (l.at ≡ step ns l.cell-index l.from) × (values l.links ≡ put (values l.initial.links) (walk ns l.cell-index l.from) (take l.cell-index l.row)) × (nexts l.links ≡ ns)
