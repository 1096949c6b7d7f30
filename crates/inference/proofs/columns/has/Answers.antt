use Rattle.std.proofs.Common.{◌∙◌, sym}
use Rattle.schema.specs.Columns.{name_of, column_of}
use Rattle.scope.specs.Names.{called}
use Rattle.scope.proofs.Searches.{any_position, any_map}
use Rattle.typing.specs.Environments.{is_column}
use Rattle.inference.proofs.columns.has.Goals as goal

pub returns : goal.returns
returns c = c.is_some.ensures ∙ sym (any_position (λ a. called (name_of c.args.columns.text.now a) c.args.name.now) c.args.columns.attributes.now c.newest.ensures.value) ∙ sym (any_map (column_of c.args.columns.text.now) (is_column c.args.name.now) c.args.columns.attributes.now)
