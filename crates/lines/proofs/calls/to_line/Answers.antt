use Rattle.std.proofs.Common.{length, length-append, codes, ap, arith}
use Rattle.texts.specs.Lines.{string_bytes}
use Rattle.lines.specs.Shown.{text_of}
use Rattle.lines.proofs.Puts.{writes_line, adds_then, adds_as, string_length}
use Rattle.lines.proofs.calls.to_line.Goals as goal

pub returns : goal.returns
returns c =
    let name = text_of c.args.sources c.args.name in
    let long = length-append (string_bytes name) (codes "\n") in
    let same = ap length c.of.ensures.value in
    writes_line (omega (arith, c.in_ok-fits.ensures)) c.new-to.ensures.bytes c.new-to.ensures.empty
    (adds_then c.put_all.ensures (adds_then (adds_as (ap string_bytes c.of.ensures.value) c.put_string.ensures) c.put.ensures)) (search arith)
    (omega (arith, long, string_length name, same, c.of.ensures.short))
