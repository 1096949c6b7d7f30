use Rattle.std.proofs.Common.{◌≡◌, Some, Err, ap, ◌∙◌, rules}
use Rattle.fault.specs.declared.rules.Rule.TheVariants.{TooMany}
use Rattle.schema.specs.Columns.{held, schema_of}
use Rattle.typing.specs.Environments.{fault}
use Rattle.inference.specs.Views.{answered}
use Rattle.inference.proofs.Steps.{column_crowded, column_old, column_new}
use Rattle.inference.proofs.columns.extend.Goals as goal

pub returns-in_err-longer : goal.returns-in_err-longer
returns-in_err-longer c = λ n spelled.
    let told : c.from_residual.result ≡ Err (fault TooMany c.args.operator) = search rules in
    ap (answered (schema_of c.args.text.now)) told ∙ column_crowded c.args.text.now (held c.args.schema) (record { name = Some c.args.name; domain = c.args.domain }) n c.args.domain c.args.operator c.args.name_at (search rules)

pub returns-then-meets_in : goal.returns-then-meets_in
returns-then-meets_in c = λ n spelled.
    ap Err c.fault-then-meets_in.ensures ∙ column_old c.args.text.now (held c.args.schema) (record { name = Some c.args.name; domain = c.args.domain }) (held c.in_ok-longer.longer) n c.args.domain c.args.operator c.args.name_at (search rules) (search rules)

pub returns : goal.returns
returns c = λ n spelled.
    column_new c.args.text.now (held c.args.schema) (record { name = Some c.args.name; domain = c.args.domain }) (held c.in_ok-longer.longer) n c.args.domain c.args.operator c.args.name_at (search rules) (search rules) (search rules)
