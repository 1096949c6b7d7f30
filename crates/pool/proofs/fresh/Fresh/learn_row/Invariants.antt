use Rattle.std.proofs.Common.{◌≡◌, map, drop}
use Rattle.listing.specs.Seen.{value_in}
use Rattle.pool.specs.Strings.{numbered}
use Rattle.pool.specs.Learning.{learned_of, learn_row}
use Rattle.pool.proofs.fresh.Fresh.learn_row.Given as goal

abbrev pub invariant-loop-cell : goal.invariant-loop-cell
invariant-loop-cell l =
    learn_row (numbered l.source.known) (learned_of l.source.text.now l.self) (map (value_in l.source.text.now) (drop l.cell-index l.cells))
    ≡ learn_row (numbered l.source.known) (learned_of l.source.text.now l.initial.self) (map (value_in l.source.text.now) l.cells)
