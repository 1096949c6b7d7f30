use Rattle.std.proofs.Common.{◌∙◌}
use Rattle.store.proofs.Laws.{lawful_sound}
use Rattle.store_calls.proofs.Lawfulness.{responds_capacity}
use Rattle.store_calls.proofs.responses.replies.Goals as goal

pub returns-in_err-reply : goal.returns-in_err-reply
returns-in_err-reply g c = lawful_sound _ _ (responds_capacity _ _ _ c.respond.ensures ∙ c.loop-line.invariant) (g.met.S.RowStore.sound _)

pub returns-in_err-push_str : goal.returns-in_err-push_str
returns-in_err-push_str g c = lawful_sound _ _ (responds_capacity _ _ _ c.respond.ensures ∙ c.loop-line.invariant) (g.met.S.RowStore.sound _)

pub loop-line-preserved : goal.loop-line-preserved
loop-line-preserved g c = responds_capacity _ _ _ c.respond.ensures ∙ c.loop-line.invariant

pub returns : goal.returns
returns g c = lawful_sound _ _ c.loop-line.invariant (g.met.S.RowStore.sound _)
