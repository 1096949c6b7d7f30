use Rattle.std.proofs.Common.{arith}
use Rattle.lines.proofs.Puts.{writes_line}
use Rattle.lines.proofs.calls.end_line.Goals as goal

pub returns : goal.returns
returns c = writes_line (omega (arith, c.in_ok-fits.ensures)) c.new-end.ensures.bytes c.new-end.ensures.empty c.put_all.ensures (search arith) (omega arith)
