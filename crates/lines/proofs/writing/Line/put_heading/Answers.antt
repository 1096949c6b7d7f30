use Rattle.std.proofs.Common.{◌≤◌, map, length, ap, ◌∙◌, arith, rules}
use Rattle.fault.specs.Limits.{columns}
use Rattle.schema.specs.Columns.{held, column_of}
use Rattle.texts.specs.Lines.{heading_line}
use Rattle.lines.proofs.Puts.{adds_as}
use Rattle.lines.proofs.Loops.{heading_text}
use Rattle.lines.proofs.writing.Line.put_heading.Goals as goal

pub returns : goal.returns
returns c =
    let names = c.columns-columns.result in
    let text = heading_text names.text.now names.attributes.now (held c.args.schema.now) c.columns-columns.ensures.attributes
    ∙ ap (λ t. heading_line (map (column_of t) (held c.args.schema.now))) c.columns-columns.ensures.text in
    let few : length (held c.args.schema.now) ≤ columns = search rules in
    let same = ap length c.columns-columns.ensures.attributes in
    let size = ap length text in
    record { bytes = adds_as text c.put_entries.ensures.bytes; short = omega (arith, size, same, few, c.put_entries.ensures.short) }
