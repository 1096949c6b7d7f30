use Rattle.std.proofs.Common.{◌≡◌, ◌+◌, ◌*◌, get_or, pos, Ok, Err, ap, ◌∙◌, inl, inr, ⊎_elim, arith, w64, SFits, rules}
use Rattle.std.proofs.lemmas.List.{get_or_read}
use Rattle.std.proofs.lemmas.Int.{to_z-of_z}
use Rattle.store.proofs.Exits.{passed_on}
use Rattle.directory.proofs.Decoding.{cell_inside}
use Rattle.directory.proofs.Questions.{cell_refused, cell_outside, cell_answered}
use Rattle.packed.proofs.Beginnings.{begins_at}
use Rattle.packed.proofs.Fields.{entries, run}
use Rattle.packed.proofs.store_impl.PackedRowStore.cell.Goals as goal

pub returns-in_err-entry : goal.returns-in_err-entry
returns-in_err-entry c =
    let s = c.args.self.now in
    let h = c.in_err-entry.ensures in
    passed_on c.from_residual.result _ c.from_residual.ensures.1 ∙ ap Err h.1 ∙ cell_refused s.capacity (entries s) (run s) c.args.table c.args.row c.args.column h.0

pub returns-then-row-entry : goal.returns-then-row-entry
returns-then-row-entry c =
    let s = c.args.self.now in
    let h = c.in_ok-entry.ensures in
    ap Err c.refuse.ensures ∙ cell_outside s.capacity (entries s) (run s) c.args.table _ h.0 h.1 c.args.row c.args.column (⊎_elim (λ p. inl (omega (arith, p))) (λ p. inr (omega (arith, p.1))) c.then-row-entry.either)

pub index-requires : goal.index-requires
index-requires c =
    let s = c.args.self.now in
    let h = c.in_ok-entry.ensures in
    omega (arith, begins_at (entries s) c.args.table _ s.begun h.0 h.1, cell_inside (entries s) c.args.table c.args.row c.args.column _ h.0 h.1 (omega arith) (omega arith))

pub returns : goal.returns
returns c =
    let s = c.args.self.now in
    let e = c.in_ok-entry.entry in
    let h = c.in_ok-entry.ensures in
    let x = c.index.result.now in
    let f : SFits w64 x = search rules in
    let t = c.args.table in
    let from = begins_at (entries s) t e s.begun h.0 h.1 in
    let read : x ≡ get_or (run s) (e.first + c.args.row * e.width + c.args.column) (pos 0) = get_or_read (run s) _ x (omega (arith, from, cell_inside (entries s) t c.args.row c.args.column e h.0 h.1 (omega arith) (omega arith))) c.index.ensures (pos 0) in
    ap Ok (to_z-of_z w64 x f) ∙ cell_answered s.capacity (entries s) (run s) t e h.0 h.1 c.args.row c.args.column x (omega arith) (omega arith) (read ∙ ap (λ n. get_or (run s) (n + c.args.row * e.width + c.args.column) (pos 0)) from)
