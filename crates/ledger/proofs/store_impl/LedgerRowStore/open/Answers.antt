use Rattle.std.proofs.Common.{sym, ◌∙◌}
use Rattle.store.proofs.Kept.{sound_open}
use Rattle.ledger.proofs.Fields.{widths, lines, meaning, sound, parts}
use Rattle.ledger.proofs.Changes.{sound_as, opened_done, used_opened, below_opened}
use Rattle.ledger.proofs.store_impl.LedgerRowStore.open.Goals as goal

pub invariant_of-self : goal.invariant_of-self
invariant_of-self c =
    let s = c.args.self.now in
    let w = c.args.width in
    let r = opened_done s.capacity (widths s) (lines s) w s.owned c.open.result _ c.open.ensures in
    parts _ (lines s) (sound_as _ _ r.1 (sound_open (meaning s) w (sound s))) (s.counted ∙ sym (used_opened s.capacity (widths s) (lines s) w s.owned c.open.result _ c.open.ensures)) (below_opened s.capacity (widths s) (lines s) w s.owned c.open.result _ c.open.ensures) s.room

pub returns : goal.returns
returns c =
    let s = c.args.self.now in
    let r = opened_done s.capacity (widths s) (lines s) c.args.width s.owned c.open.result _ c.open.ensures in
    record { reply = r.0; after = r.1 }
