use Rattle.std.proofs.Common.{arith}
use Rattle.chained.proofs.Joining.{under_front}
use Rattle.chained.proofs.links.join.Goals as goal

pub after-last-requires : goal.after-last-requires
after-last-requires c = under_front _ _ c.saturating_sub.result c.args.size c.args.first (omega arith) c.requires
