use Rattle.std.proofs.Common.{◌≡◌, drop}
use Rattle.store.specs.Calls.{after_all}
use Rattle.store.proofs.calls.perform_all.Given as goal

-- the calls still to be made come to what all of them come to
abbrev pub invariant-loop-call : goal.invariant-loop-call
invariant-loop-call g l = after_all (g.S.RowStore.meaning l.store) (drop l.call-index l.calls) ≡ after_all (g.S.RowStore.meaning l.initial.store) l.calls
