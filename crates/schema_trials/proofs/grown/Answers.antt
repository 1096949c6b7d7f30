use Rattle.std.proofs.Common.{ap, ◌∙◌}
use Rattle.schema.specs.Columns.{schema_of}
use Rattle.schema_trials.specs.Trials.{text, column_for}
use Rattle.schema_trials.proofs.Growing.{grown_has}
use Rattle.schema_trials.proofs.grown.Goals as goal

pub returns : goal.returns
returns c = ap (schema_of text) c.unwrap_or.ensures ∙ grown_has text c.args.schema c.column.result (column_for c.args.which) c.with.result c.column.ensures c.with.ensures
