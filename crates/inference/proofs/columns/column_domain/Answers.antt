use Rattle.std.proofs.Common.{◌≡◌, Err, ◌∙◌, rules}
use Rattle.fault.specs.declared.rules.Rule.TheVariants.{NameNotFound}
use Rattle.typing.specs.Environments.{fault}
use Rattle.inference.proofs.Meeting.{column_found, column_missing}
use Rattle.inference.proofs.columns.column_domain.Goals as goal

pub returns-in_err-position : goal.returns-in_err-position
returns-in_err-position c =
    let told : c.from_residual.result ≡ Err (fault NameNotFound c.args.at) = search rules in
    told ∙ column_missing c.args.columns.text.now c.args.columns.attributes.now c.args.name.now c.args.at (search rules)

pub returns : goal.returns
returns c = column_found c.args.columns.text.now c.args.columns.attributes.now c.args.name.now c.in_ok-position.position _ c.args.at (search rules)
