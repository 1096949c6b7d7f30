use Rattle.std.proofs.Common.{length-append, ◌++◌, codes, arith}
use Rattle.schema.specs.Kinds.{type_of}
use Rattle.texts.specs.Lines.{source_bytes, format_line}
use Rattle.lines.specs.Shown.{name_of}
use Rattle.lines.proofs.Puts.{writes_line, adds_then}
use Rattle.lines.proofs.calls.wish_line.Goals as goal

pub returns : goal.returns
returns c =
    let long = length-append (source_bytes (name_of c.args.sources c.args.source)) (codes " " ++ format_line (type_of c.args.sources.script.now c.args.kind.now)) in
    writes_line (omega (arith, c.in_ok-fits.ensures)) c.new-wish.ensures.bytes c.new-wish.ensures.empty
    (adds_then c.put_all.ensures (adds_then c.put_source.ensures.bytes (adds_then c.put.ensures c.put_format.ensures.bytes))) (search arith)
    (omega (arith, long, c.put_source.ensures.short, c.put_format.ensures.short))
