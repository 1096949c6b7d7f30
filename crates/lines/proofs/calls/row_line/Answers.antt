use Rattle.std.proofs.Common.{◌≤◌, length, ap, ◌∙◌, arith, rules}
use Rattle.std.proofs.lemmas.List.{length-take}
use Rattle.fault.specs.Limits.{columns}
use Rattle.schema.specs.Columns.{held}
use Rattle.texts.specs.Lines.{row_line}
use Rattle.lines.specs.Shown.{values_of}
use Rattle.lines.proofs.Puts.{writes_line, adds_as}
use Rattle.lines.proofs.Loops.{row_text}
use Rattle.lines.proofs.calls.row_line.Goals as goal

pub returns : goal.returns
returns c =
    let text = row_text c.args.sources c.args.values.now c.width.result ∙ ap (λ n. row_line (values_of c.args.sources n c.args.values.now)) c.width.ensures in
    let size = ap length text in
    let few : length (held c.args.schema.now) ≤ columns = search rules in
    let taken = length-take c.width.result c.args.values.now in
    writes_line (omega (arith, c.in_ok-fits.ensures)) c.new-row.ensures.bytes c.new-row.ensures.empty (adds_as text c.put_entries.ensures.bytes) (search arith)
    (omega (arith, size, few, taken, c.width.ensures, c.put_entries.ensures.short))
