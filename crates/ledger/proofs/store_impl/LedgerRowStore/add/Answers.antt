use Rattle.std.proofs.Common.{◌≡◌, ℕ, ◌+◌, ◌-◌, length, get_or, Err, sym, ap, ◌∙◌, arith}
use Rattle.std.proofs.lemmas.List.{get_or_read, length-take-le}
use Rattle.store.proofs.Cases.{add_repeat, add_full, add_new}
use Rattle.store.proofs.Kept.{sound_add}
use Rattle.ledger.specs.Lines.{below}
use Rattle.ledger.proofs.Fields.{widths, lines, meaning, sound, parts}
use Rattle.ledger.proofs.Numbering.{length_numbered, table_good, below_append}
use Rattle.ledger.proofs.Counting.{lines_used}
use Rattle.ledger.proofs.Changes.{sound_as, last_wide, add_found, add_done, used_add}
use Rattle.ledger.proofs.store_impl.LedgerRowStore.add.Goals as goal

pub shared_ref_as_front-has_row : goal.shared_ref_as_front-has_row
shared_ref_as_front-has_row c =
    let s = c.args.self.now in
    let ws = widths s in
    let w : ℕ = c.in_ok-width.width in
    let l = c.in_ok-width.ensures in
    let m : ℕ = c.table_count-table.result - 1 in
    let m_is : m ≡ length ws - 1 = omega arith in
    let wide : w ≡ get_or ws m 0 = get_or_read ws _ w (omega (arith, l.0)) l.1 0 ∙ ap (λ k. get_or ws k 0) (sym m_is) in
    let good = table_good ws (lines s) m (omega (arith, l.0)) s.sound in
    omega (arith, wide, good.1)

pub has_row-requires : goal.has_row-requires
has_row-requires c =
    let s = c.args.self.now in
    let ws = widths s in
    let w : ℕ = c.in_ok-width.width in
    let l = c.in_ok-width.ensures in
    let m : ℕ = c.table_count-table.result - 1 in
    let m_is : m ≡ length ws - 1 = omega arith in
    let wide : w ≡ get_or ws m 0 = get_or_read ws _ w (omega (arith, l.0)) l.1 0 ∙ ap (λ k. get_or ws k 0) (sym m_is) in
    let good = table_good ws (lines s) m (omega (arith, l.0)) s.sound in
    omega (arith, wide, good.1, length-take-le w c.args.row.now (omega (arith, wide, good.1, c.told-row)))

pub returns-then-has_row : goal.returns-then-has_row
returns-then-has_row c =
    let s = c.args.self.now in
    let ws = widths s in
    let w : ℕ = c.in_ok-width.width in
    let l = c.in_ok-width.ensures in
    let m : ℕ = c.table_count-table.result - 1 in
    let m_is : m ≡ length ws - 1 = omega arith in
    let wide : w ≡ get_or ws m 0 = get_or_read ws _ w (omega (arith, l.0)) l.1 0 ∙ ap (λ k. get_or ws k 0) (sym m_is) in
    let good = table_good ws (lines s) m (omega (arith, l.0)) s.sound in
    let found = add_found s.capacity ws (lines s) m w c.args.row.now l.0 m_is wide c.deref.result.now c.has_row.result (omega (arith, wide, good.1, c.told-row)) c.deref.ensures.value c.has_row.ensures in
    let r = add_repeat (meaning s) c.args.row.now (omega (arith, l.0, length_numbered 0 (widths s) (lines s))) (found ∙ c.if-has_row.true) in
    record { reply = r.0; after = r.1 }

pub returns-then-width-self : goal.returns-then-width-self
returns-then-width-self c =
    let s = c.args.self.now in
    let ws = widths s in
    let w : ℕ = c.in_ok-width.width in
    let l = c.in_ok-width.ensures in
    let m : ℕ = c.table_count-table.result - 1 in
    let m_is : m ≡ length ws - 1 = omega arith in
    let wide : w ≡ get_or ws m 0 = get_or_read ws _ w (omega (arith, l.0)) l.1 0 ∙ ap (λ k. get_or ws k 0) (sym m_is) in
    let good = table_good ws (lines s) m (omega (arith, l.0)) s.sound in
    let found = add_found s.capacity ws (lines s) m w c.args.row.now l.0 m_is wide c.deref.result.now c.has_row.result (omega (arith, wide, good.1, c.told-row)) c.deref.ensures.value c.has_row.ensures in
    let r = add_full (meaning s) c.args.row.now (omega (arith, l.0, length_numbered 0 (widths s) (lines s))) (found ∙ c.if-has_row.false) (omega (arith, s.counted, last_wide s.capacity ws (lines s) m w c.args.row.now l.0 m_is wide)) in
    record { reply = ap Err c.refuse.ensures ∙ r.0; after = r.1 }

pub push_reserved-requires : goal.push_reserved-requires
push_reserved-requires c =
    let s = c.args.self.now in
    let ws = widths s in
    let w : ℕ = c.in_ok-width.width in
    let l = c.in_ok-width.ensures in
    let m : ℕ = c.table_count-table.result - 1 in
    let m_is : m ≡ length ws - 1 = omega arith in
    let wide : w ≡ get_or ws m 0 = get_or_read ws _ w (omega (arith, l.0)) l.1 0 ∙ ap (λ k. get_or ws k 0) (sym m_is) in
    let good = table_good ws (lines s) m (omega (arith, l.0)) s.sound in
    omega (arith, wide, good.0, lines_used ws (lines s) s.owned s.sound, s.counted, s.within, s.room)

pub invariant_of-self : goal.invariant_of-self
invariant_of-self c =
    let s = c.args.self.now in
    let ws = widths s in
    let w : ℕ = c.in_ok-width.width in
    let l = c.in_ok-width.ensures in
    let m : ℕ = c.table_count-table.result - 1 in
    let m_is : m ≡ length ws - 1 = omega arith in
    let wide : w ≡ get_or ws m 0 = get_or_read ws _ w (omega (arith, l.0)) l.1 0 ∙ ap (λ k. get_or ws k 0) (sym m_is) in
    let good = table_good ws (lines s) m (omega (arith, l.0)) s.sound in
    let found = add_found s.capacity ws (lines s) m w c.args.row.now l.0 m_is wide c.deref.result.now c.has_row.result (omega (arith, wide, good.1, c.told-row)) c.deref.ensures.value c.has_row.ensures in
    let last = last_wide s.capacity ws (lines s) m w c.args.row.now l.0 m_is wide in
    let grew = c.push_reserved.ensures.items in
    let r = add_new (meaning s) c.args.row.now (omega (arith, l.0, length_numbered 0 (widths s) (lines s))) (found ∙ c.if-has_row.false) (omega (arith, s.counted, last)) in
    parts ws _ (sound_as _ _ (add_done s.capacity ws (lines s) m w c.args.row.now l.0 m_is wide _ grew ∙ r.1) (sound_add (meaning s) c.args.row.now (sound s) c.told-row)) (ap (λ n. n + w) s.counted ∙ sym (used_add s.capacity ws (lines s) m w c.args.row.now l.0 m_is wide _ grew)) (ap (below (length ws)) grew ∙ below_append (length ws) (length ws) (lines s) _ (omega arith) s.owned (omega (arith, l.0))) (omega (arith, s.room, c.push_reserved.ensures.capacity))

pub returns : goal.returns
returns c =
    let s = c.args.self.now in
    let ws = widths s in
    let w : ℕ = c.in_ok-width.width in
    let l = c.in_ok-width.ensures in
    let m : ℕ = c.table_count-table.result - 1 in
    let m_is : m ≡ length ws - 1 = omega arith in
    let wide : w ≡ get_or ws m 0 = get_or_read ws _ w (omega (arith, l.0)) l.1 0 ∙ ap (λ k. get_or ws k 0) (sym m_is) in
    let good = table_good ws (lines s) m (omega (arith, l.0)) s.sound in
    let found = add_found s.capacity ws (lines s) m w c.args.row.now l.0 m_is wide c.deref.result.now c.has_row.result (omega (arith, wide, good.1, c.told-row)) c.deref.ensures.value c.has_row.ensures in
    let last = last_wide s.capacity ws (lines s) m w c.args.row.now l.0 m_is wide in
    let r = add_new (meaning s) c.args.row.now (omega (arith, l.0, length_numbered 0 (widths s) (lines s))) (found ∙ c.if-has_row.false) (omega (arith, s.counted, last)) in
    record { reply = r.0; after = add_done s.capacity ws (lines s) m w c.args.row.now l.0 m_is wide _ c.push_reserved.ensures.items ∙ r.1 }
