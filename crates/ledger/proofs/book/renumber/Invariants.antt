use Rattle.std.proofs.Common.{◌≡◌, ◌++◌, take, drop}
use Rattle.ledger.specs.Lines.{renumbered}
use Rattle.ledger.proofs.book.renumber.Given as goal

-- the first lines are done
abbrev pub invariant-loop-line : goal.invariant-loop-line
invariant-loop-line l =
    l.lines ≡ renumbered l.from l.to (take l.line-index l.initial.lines) ++ drop l.line-index l.initial.lines
