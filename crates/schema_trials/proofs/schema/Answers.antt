use Rattle.std.proofs.Common.{ap, ◌∙◌}
use Rattle.schema_trials.specs.Trials.{with_room, column_for}
use Rattle.schema_trials.proofs.Growing.{letters_more}
use Rattle.schema_trials.proofs.schema.Goals as goal

pub loop-which-preserved : goal.loop-which-preserved
loop-which-preserved c =
    c.grown-schema-in-loop-which.ensures ∙ ap (λ cs. with_room cs (column_for c.which-item.result)) c.loop-which.invariant
    ∙ letters_more c.args.integers c.loop-which.which-index c.which-item.result c.args.columns.now c.loop-which-test.true c.which-item.is
