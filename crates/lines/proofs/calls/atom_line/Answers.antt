use Rattle.std.proofs.Common.{length-append, codes, arith}
use Rattle.texts.specs.Lines.{value_bytes}
use Rattle.lines.specs.Shown.{value_of}
use Rattle.lines.proofs.Puts.{writes_line, adds_then}
use Rattle.lines.proofs.calls.atom_line.Goals as goal

pub returns : goal.returns
returns c =
    let long = length-append (value_bytes (value_of c.args.sources c.args.value)) (codes "\n") in
    writes_line (omega (arith, c.in_ok-fits.ensures)) c.new-atom.ensures.bytes c.new-atom.ensures.empty (adds_then c.put.ensures.bytes c.put-2.ensures) (search arith) (omega (arith, long, c.put.ensures.short))
