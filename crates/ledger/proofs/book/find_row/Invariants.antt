use Rattle.std.proofs.Common.{◌≡◌, drop}
use Rattle.std.specs.List.{slice_get}
use Rattle.ledger.specs.Lines.{lines_of}
use Rattle.ledger.proofs.book.find_row.Given as goal

-- the row is so far on among the lines that are left
abbrev pub invariant-loop-line : goal.invariant-loop-line
invariant-loop-line l =
    slice_get (lines_of l.table (drop l.line-index l.lines)) l.left ≡ slice_get (lines_of l.table l.lines) l.row
