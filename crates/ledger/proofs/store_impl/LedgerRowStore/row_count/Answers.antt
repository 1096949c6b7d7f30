use Rattle.std.proofs.Common.{length, Ok, Err, ap, ◌∙◌, arith}
use Rattle.store.proofs.Exits.{passed_on}
use Rattle.store.proofs.Cases.{rows_absent, rows_told}
use Rattle.ledger.specs.Lines.{lines_of}
use Rattle.ledger.proofs.Fields.{widths, lines, meaning}
use Rattle.ledger.proofs.Numbering.{length_numbered}
use Rattle.ledger.proofs.Counting.{rows_counted, few_lines}
use Rattle.ledger.proofs.store_impl.LedgerRowStore.row_count.Goals as goal

pub returns-in_err-entry : goal.returns-in_err-entry
returns-in_err-entry c =
    let s = c.args.self.now in
    let h = c.in_err-entry.ensures in
    passed_on c.from_residual.result _ c.from_residual.ensures.1 ∙ ap Err h.1 ∙ rows_absent (meaning s) c.args.table (omega (arith, h.0, length_numbered 0 (widths s) (lines s)))

pub overflow_cast-result : goal.overflow_cast-result
overflow_cast-result c =
    let s = c.args.self.now in
    omega (arith, c.count_rows.ensures ∙ ap (λ ls. length (lines_of c.args.table ls)) c.deref.ensures.value, few_lines (widths s) (lines s) c.args.table s.owned s.sound, s.counted, s.within, s.small)

pub returns : goal.returns
returns c =
    let s = c.args.self.now in
    let here = c.in_ok-entry.ensures.0 in
    ap Ok (c.count_rows.ensures ∙ ap (λ ls. length (lines_of c.args.table ls)) c.deref.ensures.value ∙ rows_counted (widths s) (lines s) c.args.table here) ∙ rows_told (meaning s) c.args.table (omega (arith, here, length_numbered 0 (widths s) (lines s)))
