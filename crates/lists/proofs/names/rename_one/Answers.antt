use Rattle.std.proofs.Common.{rules}
use Rattle.schema.specs.Columns.{schema_of}
use Rattle.tree.specs.Holds.{said}
use Rattle.lists.proofs.Renaming.{renamed_here}
use Rattle.lists.proofs.names.rename_one.Goals as goal

pub returns : goal.returns
returns c = renamed_here c.args.text.now (said c.args.node) c.args.domain (schema_of c.args.text.now c.args.fresh) c.in_ok-span.span _ (search rules) c.extend.ensures
