use Rattle.std.proofs.Common.{◌≡◌}
use Rattle.store_calls.proofs.responses.replies.Given as goal

abbrev pub invariant-loop-line : goal.invariant-loop-line
invariant-loop-line g l = (g.S.RowStore.meaning l.store).capacity ≡ (g.S.RowStore.meaning l.initial.store).capacity
