use Rattle.std.proofs.Common.{◌≡◌, Err, ap, ◌∙◌, rules}
use Rattle.fault.specs.declared.rules.Rule.TheVariants.{TooMany}
use Rattle.schema.specs.Columns.{held, schema_of}
use Rattle.typing.specs.Environments.{fault}
use Rattle.inference.specs.Views.{answered}
use Rattle.inference.proofs.Steps.{join_crowded, join_common, join_all}
use Rattle.inference.proofs.columns.join.Goals as goal

pub returns-in_err-all : goal.returns-in_err-all
returns-in_err-all c =
    let told : c.from_residual.result ≡ Err (fault TooMany c.args.at) = search rules in
    ap (answered (schema_of c.args.text.now)) told ∙ join_crowded c.args.text.now (held c.args.left) (held c.args.right.now) c.args.at (search rules)

pub returns-then-meets : goal.returns-then-meets
returns-then-meets c = ap Err c.fault-then-meets.ensures ∙ join_common c.args.text.now (held c.args.left) (held c.args.right.now) (held c.in_ok-all.all) c.args.at (search rules) (search rules)

pub returns : goal.returns
returns c = join_all c.args.text.now (held c.args.left) (held c.args.right.now) (held c.in_ok-all.all) c.args.at (search rules) (search rules)
