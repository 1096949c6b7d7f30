use Rattle.std.proofs.Common.{◌≡◌, ℕ, ◌*◌, length, refl, ap, ◌∙◌, ap₂, arith}
use Rattle.store.proofs.Cases.{drop_accepted}
use Rattle.store.proofs.Kept.{sound_drop}
use Rattle.ledger.specs.Lines.{lines_of, without}
use Rattle.ledger.proofs.Fields.{widths, lines, meaning, sound, parts}
use Rattle.ledger.proofs.Numbering.{below_drop}
use Rattle.ledger.proofs.Counting.{few_lines}
use Rattle.ledger.proofs.Changes.{sound_as, drop_done, used_drop, drop_some}
use Rattle.ledger.proofs.store_impl.LedgerRowStore.drop_last.Goals as goal

pub overflow_cast-self : goal.overflow_cast-self
overflow_cast-self c =
    let s = c.args.self.now in
    let vs = c.pop.new.self.entries.items in
    let w : ℕ = c.in_ok-width.width in
    let is = c.in_ok-width.ensures in
    let here : c.table_count-table.result ≡ length vs = c.table_count-table.ensures in
    let rows : c.count_rows.result ≡ length (lines_of (length vs) (lines s)) = c.count_rows.ensures ∙ ap₂ (λ n ls. length (lines_of n ls)) here c.deref.ensures.value in
    let size : c.count_rows.result * w ≡ length (lines_of (length vs) (lines s)) * w = ap (λ n. n * w) rows in
    omega (arith, rows, few_lines (widths s) (lines s) (length vs) s.owned s.sound, s.counted, s.within, s.small)

pub overflow_mul-self : goal.overflow_mul-self
overflow_mul-self c =
    let s = c.args.self.now in
    let vs = c.pop.new.self.entries.items in
    let w : ℕ = c.in_ok-width.width in
    let is = c.in_ok-width.ensures in
    let here : c.table_count-table.result ≡ length vs = c.table_count-table.ensures in
    let rows : c.count_rows.result ≡ length (lines_of (length vs) (lines s)) = c.count_rows.ensures ∙ ap₂ (λ n ls. length (lines_of n ls)) here c.deref.ensures.value in
    let size : c.count_rows.result * w ≡ length (lines_of (length vs) (lines s)) * w = ap (λ n. n * w) rows in
    omega (arith, size, used_drop s.capacity (widths s) vs w (lines s) _ is refl, s.counted, s.within, s.small)

pub overflow_sub-self : goal.overflow_sub-self
overflow_sub-self c =
    let s = c.args.self.now in
    let vs = c.pop.new.self.entries.items in
    let w : ℕ = c.in_ok-width.width in
    let is = c.in_ok-width.ensures in
    let here : c.table_count-table.result ≡ length vs = c.table_count-table.ensures in
    let rows : c.count_rows.result ≡ length (lines_of (length vs) (lines s)) = c.count_rows.ensures ∙ ap₂ (λ n ls. length (lines_of n ls)) here c.deref.ensures.value in
    let size : c.count_rows.result * w ≡ length (lines_of (length vs) (lines s)) * w = ap (λ n. n * w) rows in
    omega (arith, size, used_drop s.capacity (widths s) vs w (lines s) _ is refl, s.counted)

pub invariant_of-self-2 : goal.invariant_of-self-2
invariant_of-self-2 c =
    let s = c.args.self.now in
    let vs = c.pop.new.self.entries.items in
    let w : ℕ = c.in_ok-width.width in
    let is = c.in_ok-width.ensures in
    let here : c.table_count-table.result ≡ length vs = c.table_count-table.ensures in
    let rows : c.count_rows.result ≡ length (lines_of (length vs) (lines s)) = c.count_rows.ensures ∙ ap₂ (λ n ls. length (lines_of n ls)) here c.deref.ensures.value in
    let size : c.count_rows.result * w ≡ length (lines_of (length vs) (lines s)) * w = ap (λ n. n * w) rows in
    let left = c.remove.ensures.kept ∙ ap (λ n. without n (lines s)) here in
    let r = drop_accepted (meaning s) (drop_some s.capacity (widths s) vs w (lines s) is) in
    parts vs _ (sound_as _ _ (drop_done s.capacity (widths s) vs w (lines s) _ is left ∙ r.1) (sound_drop (meaning s) (sound s))) (omega (arith, size, s.counted, used_drop s.capacity (widths s) vs w (lines s) _ is left)) (below_drop (widths s) vs w (lines s) _ is left s.owned) (omega (arith, s.room, c.remove.ensures.capacity))

pub returns : goal.returns
returns c =
    let s = c.args.self.now in
    let vs = c.pop.new.self.entries.items in
    let w : ℕ = c.in_ok-width.width in
    let is = c.in_ok-width.ensures in
    let here : c.table_count-table.result ≡ length vs = c.table_count-table.ensures in
    let rows : c.count_rows.result ≡ length (lines_of (length vs) (lines s)) = c.count_rows.ensures ∙ ap₂ (λ n ls. length (lines_of n ls)) here c.deref.ensures.value in
    let size : c.count_rows.result * w ≡ length (lines_of (length vs) (lines s)) * w = ap (λ n. n * w) rows in
    let left = c.remove.ensures.kept ∙ ap (λ n. without n (lines s)) here in
    let r = drop_accepted (meaning s) (drop_some s.capacity (widths s) vs w (lines s) is) in
    record { reply = r.0; after = drop_done s.capacity (widths s) vs w (lines s) _ is left ∙ r.1 }
