use Rattle.std.proofs.Common.{rules}
use Rattle.lists.proofs.Fitting.{columns_linked}
use Rattle.lists.proofs.constants.columns.Goals as goal

pub returns-in_err-domain : goal.returns-in_err-domain
returns-in_err-domain c = columns_linked c.args.nodes.now c.args.first c.args.schema (search rules)

pub returns-in_err-longer : goal.returns-in_err-longer
returns-in_err-longer c = columns_linked c.args.nodes.now c.args.first c.args.schema (search rules)

pub returns : goal.returns
returns c = columns_linked c.args.nodes.now c.args.first c.args.schema (search rules)
