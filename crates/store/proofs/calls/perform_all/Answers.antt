use Rattle.std.proofs.Common.{ap, ◌∙◌}
use Rattle.store.proofs.Laws.{lawful_sound}
use Rattle.store.proofs.Kept.{capacity_after_all, made_one, made_all}
use Rattle.store.proofs.calls.perform_all.Goals as goal

pub loop-call-preserved : goal.loop-call-preserved
loop-call-preserved g c = made_one _ _ _ c.args.calls.now c.loop-call.call-index _ c.loop-call-test.true c.perform.ensures.after c.loop-call.invariant

pub returns : goal.returns
returns g c =
    let meaning = g.S.RowStore.meaning in
    let calls = c.args.calls.now in
    let all = made_all _ _ calls c.loop-call.call-index c.loop-call-test.false c.loop-call.invariant in
    record { after = all; lawful = lawful_sound _ _ (ap (λ s. s.capacity) all ∙ capacity_after_all (meaning c.args.store.now) calls) (g.met.S.RowStore.sound _) }
