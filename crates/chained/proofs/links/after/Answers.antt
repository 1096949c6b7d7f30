use Rattle.std.proofs.Common.{sym, ◌∙◌}
use Rattle.chained.proofs.Projections.{next_at}
use Rattle.chained.proofs.Walks.{step_next, under_next}
use Rattle.chained.proofs.links.after.Goals as goal

pub bounds-links-at : goal.bounds-links-at
bounds-links-at c = (under_next _ _ _ _ _ c.loop-test.true c.loop.invariant.1).0

pub loop-preserved : goal.loop-preserved
loop-preserved c =
    rw (next_at c.args.links.now c.loop.at) (sym (step_next _ _ _ _ c.loop-test.true) ∙ c.loop.invariant.0, (under_next _ _ _ _ _ c.loop-test.true c.loop.invariant.1).1)
