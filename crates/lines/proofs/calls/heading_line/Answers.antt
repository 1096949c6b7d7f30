use Rattle.std.proofs.Common.{arith}
use Rattle.lines.proofs.Puts.{writes_line}
use Rattle.lines.proofs.calls.heading_line.Goals as goal

pub returns : goal.returns
returns c =
    writes_line (omega (arith, c.in_ok-fits.ensures)) c.new-heading.ensures.bytes c.new-heading.ensures.empty c.put_heading.ensures.bytes (search arith) (omega (arith, c.put_heading.ensures.short))
