use Rattle.std.proofs.Common.{◌≡◌, ℤ, Some, get_or, pos, Ok, Err, sym, refl, ap, ◌∙◌, inl, inr, arith, w64, SFits, rules}
use Rattle.std.specs.List.{slice_get}
use Rattle.std.specs.Option.{ok_or}
use Rattle.std.proofs.lemmas.List.{get_or_read}
use Rattle.std.proofs.lemmas.Int.{to_z-of_z}
use Rattle.std.proofs.lemmas.Option.{slice_get_within, get_or_from_slice_get}
use Rattle.store.proofs.Exits.{passed_on}
use Rattle.store.specs.Meaning.{no_table}
use Rattle.store.proofs.Cases.{cell_absent}
use Rattle.ledger.specs.Lines.{lines_of}
use Rattle.ledger.proofs.Fields.{widths, lines, meaning}
use Rattle.ledger.proofs.Numbering.{length_numbered, table_is, table_good}
use Rattle.ledger.proofs.Counting.{rows_counted, row_missing}
use Rattle.ledger.proofs.Changes.{cell_is}
use Rattle.ledger.proofs.store_impl.LedgerRowStore.cell.Goals as goal

pub returns-in_err-width : goal.returns-in_err-width
returns-in_err-width c =
    let s = c.args.self.now in
    let h = c.in_err-width.ensures in
    passed_on c.from_residual.result _ c.from_residual.ensures.1 ∙ ap Err h.1 ∙ cell_absent (meaning s) c.args.table c.args.row c.args.column (inl (omega (arith, h.0, length_numbered 0 (widths s) (lines s))))

pub returns-in_err-line : goal.returns-in_err-line
returns-in_err-line c =
    let s = c.args.self.now in
    let h = c.in_ok-width.ensures in
    let missing = row_missing (lines_of c.args.table (lines s)) c.args.row _ _ (c.in_err-line.ensures.value ∙ ap (λ o. ok_or o c.refuse.result) (c.find_row-line.ensures ∙ ap (λ ls. slice_get (lines_of c.args.table ls) c.args.row) c.deref.ensures.value)) in
    passed_on c.from_residual-in_err-line.result _ c.from_residual-in_err-line.ensures.1 ∙ ap Err (missing.1 ∙ c.refuse.ensures) ∙ cell_absent (meaning s) c.args.table c.args.row c.args.column (inr (inl (omega (arith, missing.0, rows_counted (widths s) (lines s) c.args.table h.0))))

pub returns-then-column-width : goal.returns-then-column-width
returns-then-column-width c =
    let s = c.args.self.now in
    let h = c.in_ok-width.ensures in
    let wide = get_or_read (widths s) _ _ h.0 h.1 0 ∙ ap (λ x. x.width) (sym (table_is (widths s) (lines s) c.args.table no_table h.0)) in
    ap Err c.refuse-then-column-width.ensures ∙ cell_absent (meaning s) c.args.table c.args.row c.args.column (inr (inr (omega (arith, wide))))

pub bounds-line-column : goal.bounds-line-column
bounds-line-column c =
    let s = c.args.self.now in
    let h = c.in_ok-width.ensures in
    omega (arith, get_or_read (widths s) _ _ h.0 h.1 0, (table_good (widths s) (lines s) c.args.table h.0 s.sound).1)

pub returns : goal.returns
returns c =
    let s = c.args.self.now in
    let h = c.in_ok-width.ensures in
    let l = c.in_ok-line.line in
    let rows = lines_of c.args.table (lines s) in
    let x : ℤ = get_or l.cells c.args.column (pos 0) in
    let f : SFits w64 x = search rules in
    let wide = get_or_read (widths s) _ _ h.0 h.1 0 in
    let found : slice_get rows c.args.row ≡ Some l = sym (c.find_row-line.ensures ∙ ap (λ ls. slice_get (lines_of c.args.table ls) c.args.row) c.deref.ensures.value) ∙ c.in_ok-line.ensures.ok_part in
    ap Ok (to_z-of_z w64 x f) ∙ cell_is s.capacity (widths s) (lines s) c.args.table c.args.row c.args.column l x h.0 (slice_get_within rows c.args.row l found) (omega (arith, wide)) (sym (get_or_from_slice_get rows c.args.row l l found)) refl
