use Rattle.std.proofs.Common.{◌-◌, refl, ◌∙◌, arith}
use Rattle.chained.specs.Chains.{nexts}
use Rattle.chained.proofs.Projections.{nexts_set, values_same}
use Rattle.chained.proofs.Walks.{step_under}
use Rattle.chained.proofs.Joining.{join_none, join_some}
use Rattle.chained.proofs.links.join_last.Goals as goal

pub returns-then-size-eq0 : goal.returns-then-size-eq0
returns-then-size-eq0 c =
    let r = join_none (nexts c.args.links.now) c.args.size c.args.first c.args.next (omega arith) in
    record { head = r.0; nexts = r.1; values = refl }

pub bounds-links-last : goal.bounds-links-last
bounds-links-last c =
    omega (arith, c.requires.last, step_under _ (nexts c.args.links.now) c.args.size (c.args.size - 1) c.args.first (omega arith) c.requires.inside)

pub returns : goal.returns
returns c =
    let r = join_some (nexts c.args.links.now) c.args.size c.args.first c.args.next c.args.last (omega arith) c.requires.last in
    record { head = r.0; nexts = nexts_set c.args.links.now _ _ ∙ r.1; values = values_same c.args.links.now _ _ refl }
