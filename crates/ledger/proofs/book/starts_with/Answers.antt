use Rattle.std.proofs.Common.{length, take}
use Rattle.std.proofs.lemmas.Slice.Eq.{slice_eq-Decides}
use Rattle.std.proofs.lemmas.Bool.Decides.{same_from_decides, Decides-int_eq}
use Rattle.store.proofs.Rows.{same_row_decides}
use Rattle.ledger.proofs.book.starts_with.Goals as goal

pub returns : goal.returns
returns c =
    let row = c.args.row.now in
    same_from_decides _ _ (slice_eq-Decides Decides-int_eq (take (length row) c.args.line.now.cells) row c.eq.result c.eq.ensures) (same_row_decides _ _)
