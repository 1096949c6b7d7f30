use Rattle.std.proofs.Common.{◌≡◌, ℕ, suc, ◌-◌, ◌*◌, ◌<◌, length, get_or, take, set, Err, ap, ◌∙◌, ap₂, arith}
use Rattle.std.proofs.lemmas.List.{get_or_read, get_or_default, length-set, length-take-le}
use Rattle.store.proofs.Exits.{passed_on}
use Rattle.store.proofs.Cases.{settle_absent, settle_accepted}
use Rattle.store.proofs.Kept.{sound_settle}
use Rattle.directory.proofs.Settling.{settled_entries, last_read}
use Rattle.ledger.specs.Lines.{lines_of, renumbered, written}
use Rattle.ledger.proofs.Fields.{widths, lines, meaning, sound, parts}
use Rattle.ledger.proofs.Numbering.{length_numbered, below_settle}
use Rattle.ledger.proofs.Counting.{few_lines, size_within}
use Rattle.ledger.proofs.Changes.{sound_as, handed_on, settle_done, used_settle, vs_long}
use Rattle.ledger.proofs.store_impl.LedgerRowStore.settle.Goals as goal

pub returns-in_err-old : goal.returns-in_err-old
returns-in_err-old c =
    let s = c.args.self.now in
    let h = c.in_err-old.ensures in
    let r = settle_absent (meaning s) c.args.table (omega (arith, h.1.0, length_numbered 0 (widths s) (lines s))) in
    record { reply = passed_on c.from_residual.result _ c.from_residual.ensures.1 ∙ ap Err h.1.1 ∙ r.0; after = ap (λ ws. written s.capacity ws (lines s)) h.0 ∙ r.1 }

pub overflow_cast-self : goal.overflow_cast-self
overflow_cast-self c =
    let s = c.args.self.now in
    let ws = widths s in
    let t = c.args.table in
    let h = c.in_ok-old.ensures in
    let rows : c.count_rows.result ≡ length (lines_of t (lines s)) = c.count_rows.ensures ∙ ap (λ ls. length (lines_of t ls)) c.deref.ensures.value in
    let old : c.in_ok-old.old ≡ get_or ws t 0 = get_or_read ws t _ (omega (arith, h.0)) h.1.0 0 in
    let size : c.count_rows.result * c.in_ok-old.old ≡ length (lines_of t (lines s)) * get_or ws t 0 = ap₂ ◌*◌ rows old in
    omega (arith, rows, few_lines ws (lines s) t s.owned s.sound, s.counted, s.within, s.small)

pub overflow_mul-self : goal.overflow_mul-self
overflow_mul-self c =
    let s = c.args.self.now in
    let ws = widths s in
    let t = c.args.table in
    let h = c.in_ok-old.ensures in
    let rows : c.count_rows.result ≡ length (lines_of t (lines s)) = c.count_rows.ensures ∙ ap (λ ls. length (lines_of t ls)) c.deref.ensures.value in
    let old : c.in_ok-old.old ≡ get_or ws t 0 = get_or_read ws t _ (omega (arith, h.0)) h.1.0 0 in
    let size : c.count_rows.result * c.in_ok-old.old ≡ length (lines_of t (lines s)) * get_or ws t 0 = ap₂ ◌*◌ rows old in
    omega (arith, size, size_within ws (lines s) t (omega (arith, h.0)), s.counted, s.within, s.small)

pub overflow_sub-self : goal.overflow_sub-self
overflow_sub-self c =
    let s = c.args.self.now in
    let ws = widths s in
    let t = c.args.table in
    let h = c.in_ok-old.ensures in
    let rows : c.count_rows.result ≡ length (lines_of t (lines s)) = c.count_rows.ensures ∙ ap (λ ls. length (lines_of t ls)) c.deref.ensures.value in
    let old : c.in_ok-old.old ≡ get_or ws t 0 = get_or_read ws t _ (omega (arith, h.0)) h.1.0 0 in
    let size : c.count_rows.result * c.in_ok-old.old ≡ length (lines_of t (lines s)) * get_or ws t 0 = ap₂ ◌*◌ rows old in
    omega (arith, size, size_within ws (lines s) t (omega (arith, h.0)), s.counted)

pub invariant_of-self-2 : goal.invariant_of-self-2
invariant_of-self-2 c =
    let s = c.args.self.now in
    let ws = widths s in
    let t = c.args.table in
    let h = c.in_ok-old.ensures in
    let rows : c.count_rows.result ≡ length (lines_of t (lines s)) = c.count_rows.ensures ∙ ap (λ ls. length (lines_of t ls)) c.deref.ensures.value in
    let old : c.in_ok-old.old ≡ get_or ws t 0 = get_or_read ws t _ (omega (arith, h.0)) h.1.0 0 in
    let size : c.count_rows.result * c.in_ok-old.old ≡ length (lines_of t (lines s)) * get_or ws t 0 = ap₂ ◌*◌ rows old in
    let vs = c.settle.new.self.entries.items in
    let m : ℕ = length ws - 1 in
    let w : ℕ = get_or ws m c.in_ok-old.old in
    let w_is : w ≡ get_or ws m 0 = get_or_default ws m c.in_ok-old.old 0 (omega (arith, h.0)) in
    let up : suc m ≡ length ws = omega (arith, h.0) in
    let earlier : t < m = omega (arith, h.0) in
    let vs_is : vs ≡ set (take m ws) t w = h.1.1 ∙ settled_entries ws t c.in_ok-old.old w h.0 (last_read ws c.in_ok-old.old (omega (arith, h.0))) in
    let last : c.table_count-last.result ≡ m = c.table_count-last.ensures ∙ ap length vs_is ∙ length-set (take m ws) t w ∙ length-take-le m ws (omega arith) in
    let slice = c.as_mut_slice.ensures.value in
    let left = handed_on c.remove.new.lines.items c.as_mut_slice.result.now c.renumber.new.lines c.table_count-last.result t c.remove.new.lines.len slice c.renumber.ensures c.renumber.auto.lines (omega (arith, c.as_mut_slice.ensures.len, ap length slice)) ∙ ap₂ (λ k x. renumbered k t x) last c.remove.ensures.kept in
    let r = settle_accepted (meaning s) t (omega (arith, h.0, length_numbered 0 ws (lines s))) in
    parts vs _ (sound_as _ _ (settle_done s.capacity ws vs (lines s) _ m t w earlier up w_is vs_is left ∙ r.1) (sound_settle (meaning s) t (sound s))) (omega (arith, size, s.counted, used_settle s.capacity ws vs (lines s) _ m t w earlier up w_is vs_is left)) (below_settle ws vs m t (lines s) _ earlier up (vs_long s.capacity ws vs (lines s) _ m t w earlier up w_is vs_is left) left s.owned) (omega (arith, s.room, c.remove.ensures.capacity))

pub returns : goal.returns
returns c =
    let s = c.args.self.now in
    let ws = widths s in
    let t = c.args.table in
    let h = c.in_ok-old.ensures in
    let rows : c.count_rows.result ≡ length (lines_of t (lines s)) = c.count_rows.ensures ∙ ap (λ ls. length (lines_of t ls)) c.deref.ensures.value in
    let old : c.in_ok-old.old ≡ get_or ws t 0 = get_or_read ws t _ (omega (arith, h.0)) h.1.0 0 in
    let size : c.count_rows.result * c.in_ok-old.old ≡ length (lines_of t (lines s)) * get_or ws t 0 = ap₂ ◌*◌ rows old in
    let vs = c.settle.new.self.entries.items in
    let m : ℕ = length ws - 1 in
    let w : ℕ = get_or ws m c.in_ok-old.old in
    let w_is : w ≡ get_or ws m 0 = get_or_default ws m c.in_ok-old.old 0 (omega (arith, h.0)) in
    let up : suc m ≡ length ws = omega (arith, h.0) in
    let earlier : t < m = omega (arith, h.0) in
    let vs_is : vs ≡ set (take m ws) t w = h.1.1 ∙ settled_entries ws t c.in_ok-old.old w h.0 (last_read ws c.in_ok-old.old (omega (arith, h.0))) in
    let last : c.table_count-last.result ≡ m = c.table_count-last.ensures ∙ ap length vs_is ∙ length-set (take m ws) t w ∙ length-take-le m ws (omega arith) in
    let slice = c.as_mut_slice.ensures.value in
    let left = handed_on c.remove.new.lines.items c.as_mut_slice.result.now c.renumber.new.lines c.table_count-last.result t c.remove.new.lines.len slice c.renumber.ensures c.renumber.auto.lines (omega (arith, c.as_mut_slice.ensures.len, ap length slice)) ∙ ap₂ (λ k x. renumbered k t x) last c.remove.ensures.kept in
    let r = settle_accepted (meaning s) t (omega (arith, h.0, length_numbered 0 ws (lines s))) in
    record { reply = r.0; after = settle_done s.capacity ws vs (lines s) _ m t w earlier up w_is vs_is left ∙ r.1 }
