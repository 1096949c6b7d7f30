use Rattle.std.proofs.Common.{◌≡◌, ℕ, ◌+◌, ◌*◌, ◌<◌, length, get_or, pos, Ok, Err, sym, ap, ◌∙◌, inl, inr, ⊎_elim, arith, w64, SFits, rules}
use Rattle.std.proofs.lemmas.List.{get_or_read}
use Rattle.std.proofs.lemmas.Int.{to_z-of_z}
use Rattle.store.proofs.Exits.{passed_on}
use Rattle.directory.proofs.Questions.{cell_refused, cell_outside, cell_answered}
use Rattle.chained.specs.Chains.{values, nexts, walk, under}
use Rattle.chained.proofs.Projections.{no_link, value_at, length_values, length_nexts}
use Rattle.chained.proofs.Reading.{cell_walk, cell_low, cell_read}
use Rattle.chained.proofs.Fields.{entries, links, run, kept}
use Rattle.chained.proofs.store_impl.ChainedRowStore.cell.Goals as goal

pub returns-in_err-entry : goal.returns-in_err-entry
returns-in_err-entry c =
    let s = c.args.self.now in
    let h = c.in_err-entry.ensures in
    passed_on c.from_residual.result _ c.from_residual.ensures.1 ∙ ap Err h.1 ∙ cell_refused s.capacity (entries s) (run s) c.args.table c.args.row c.args.column h.0

pub returns-then-row-entry : goal.returns-then-row-entry
returns-then-row-entry c =
    let s = c.args.self.now in
    let h = c.in_ok-entry.ensures in
    ap Err c.refuse.ensures ∙ cell_outside s.capacity (entries s) (run s) c.args.table _ h.0 h.1 c.args.row c.args.column (⊎_elim (λ p. inl (omega (arith, p))) (λ p. inr (omega (arith, p.1))) c.then-row-entry.either)

pub after-at-requires : goal.after-at-requires
after-at-requires c =
    let s = c.args.self.now in
    let e = c.in_ok-entry.entry in
    let h = c.in_ok-entry.ensures in
    ap (λ n. under n (walk (nexts c.deref.result.now) (c.args.row * e.width + c.args.column) e.first)) (sym (length_nexts c.deref.result.now)) ∙ cell_walk (kept s) c.args.table e h.0 h.1 c.args.row c.args.column (omega arith) (omega arith) (nexts c.deref.result.now) (ap nexts c.deref.ensures.value)

pub index-requires : goal.index-requires
index-requires c =
    let s = c.args.self.now in
    let e = c.in_ok-entry.entry in
    let h = c.in_ok-entry.ensures in
    omega (arith, length_values (links s), cell_low (kept s) c.args.table e h.0 h.1 c.args.row c.args.column (omega arith) (omega arith) (nexts c.deref.result.now) c.after-at.result (ap nexts c.deref.ensures.value) c.after-at.ensures)

pub returns : goal.returns
returns c =
    let s = c.args.self.now in
    let e = c.in_ok-entry.entry in
    let h = c.in_ok-entry.ensures in
    let x = c.index.result.now.value in
    let f : SFits w64 x = search rules in
    let at : ℕ = c.after-at.result in
    let next = ap nexts c.deref.ensures.value in
    let low : at < length (links s) = omega (arith, length_values (links s), cell_low (kept s) c.args.table e h.0 h.1 c.args.row c.args.column (omega arith) (omega arith) (nexts c.deref.result.now) at next c.after-at.ensures) in
    let read : x ≡ get_or (values (links s)) at (pos 0) = ap (λ l. l.value) (get_or_read (links s) at c.index.result.now low c.index.ensures no_link) ∙ value_at (links s) at in
    ap Ok (to_z-of_z w64 x f) ∙ cell_answered s.capacity (entries s) (run s) c.args.table e h.0 h.1 c.args.row c.args.column x (omega arith) (omega arith) (read ∙ cell_read (kept s) c.args.table e h.0 h.1 c.args.row c.args.column (omega arith) (omega arith) (nexts c.deref.result.now) at next c.after-at.ensures)
