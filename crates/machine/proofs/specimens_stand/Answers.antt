use Rattle.machine.proofs.Computed.{specimens_stand, rows_fall_together, cells_run_out}
use Rattle.machine.proofs.specimens_stand.Goals as goal

pub returns : goal.returns
returns c = record { table = specimens_stand; together = rows_fall_together; cells = cells_run_out }
