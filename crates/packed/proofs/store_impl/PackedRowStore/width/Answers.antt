use Rattle.std.proofs.Common.{Err, ap, ◌∙◌}
use Rattle.store.proofs.Exits.{passed_on}
use Rattle.directory.proofs.Questions.{width_refused, width_answered}
use Rattle.packed.proofs.Fields.{entries, run}
use Rattle.packed.proofs.store_impl.PackedRowStore.width.Goals as goal

pub returns-in_err-entry : goal.returns-in_err-entry
returns-in_err-entry c =
    let s = c.args.self.now in
    let h = c.in_err-entry.ensures in
    passed_on c.from_residual.result _ c.from_residual.ensures.1 ∙ ap Err h.1 ∙ width_refused s.capacity (entries s) (run s) c.args.table h.0

pub returns : goal.returns
returns c =
    let s = c.args.self.now in
    let h = c.in_ok-entry.ensures in
    width_answered s.capacity (entries s) (run s) c.args.table _ h.0 h.1
