use Rattle.std.proofs.Common.{rules}
use Rattle.schema.specs.Columns.{schema_of}
use Rattle.schema.proofs.Sames.{schema_decided}
use Rattle.schema.proofs.sameness.same_schema.Goals as goal

pub returns-clause-same : goal.returns-clause-same
returns-clause-same c = schema_decided (schema_of c.args.left_text.now c.args.left.now) (schema_of c.args.right_text.now c.args.right.now) (search rules)
