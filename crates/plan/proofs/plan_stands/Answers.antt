use Rattle.plan.proofs.Types.{plans_keep_types}
use Rattle.plan.proofs.plan_stands.Goals as goal

pub returns : goal.returns
returns c = plans_keep_types
