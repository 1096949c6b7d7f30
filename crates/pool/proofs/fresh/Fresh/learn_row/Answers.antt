use Rattle.pool.specs.Strings.{numbered}
use Rattle.pool.proofs.Learns.{row_turn, row_end}
use Rattle.pool.proofs.fresh.Fresh.learn_row.Goals as goal

pub loop-cell-preserved : goal.loop-cell-preserved
loop-cell-preserved c = row_turn (numbered c.args.source.known) c.args.source.text.now c.args.cells.now c.loop-cell.cell-index _ _ _ c.loop-cell-test.true _ c.learn_cell.ensures c.loop-cell.invariant

pub returns : goal.returns
returns c = row_end (numbered c.args.source.known) c.args.source.text.now c.args.cells.now c.loop-cell.cell-index _ _ c.loop-cell-test.false c.loop-cell.invariant
