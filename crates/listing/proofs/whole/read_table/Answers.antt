use Rattle.std.proofs.Common.{arith}
use Rattle.schema.specs.Columns.{schema_of}
use Rattle.listing.proofs.Tables.{reply_is, reply_long, tells_table}
use Rattle.listing.proofs.whole.read_table.Goals as goal

pub returns-then-text-gt-TEXT_BYTES : goal.returns-then-text-gt-TEXT_BYTES
returns-then-text-gt-TEXT_BYTES c = record {
  reply = reply_long (schema_of c.args.script.now c.args.schema.now) c.args.text.now _ c.if-text-gt-TEXT_BYTES.true c.too_long.ensures;
  right = λ short. absurd (omega (arith, short, c.if-text-gt-TEXT_BYTES.true));
}

pub returns : goal.returns
returns c =
    let cs = schema_of c.args.script.now c.args.schema.now in
    let reply = reply_is cs c.args.text.now c.new.result c.pass_table.new.self c.pass_table.result c.if-text-gt-TEXT_BYTES.false c.new.ensures.text c.new.ensures.start
    c.pass_table.ensures.same c.pass_table.ensures.value c.pass_table.ensures.place in
    record { reply = reply; right = λ short. tells_table cs c.args.text.now c.pass_table.result short reply }
