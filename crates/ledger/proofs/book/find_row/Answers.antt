use Rattle.std.proofs.Common.{◌≡◌, suc, ◌+◌, ◌-◌, drop, sym, ap, ◌∙◌, ap₂, arith}
use Rattle.std.specs.List.{slice_get}
use Rattle.ledger.specs.Lines.{lines_of}
use Rattle.ledger.proofs.Passes.{lines_hit, lines_miss, lines_end}
use Rattle.ledger.proofs.book.find_row.Goals as goal
use Rattle.ledger.proofs.book.find_row.Goals.{then-line-table+else-left-eq0, else-line-table}

pub returns-then-left-eq0 : goal.returns-then-left-eq0
returns-then-left-eq0 c =
    sym (ap₂ slice_get (lines_hit c.args.lines.now c.args.table c.loop-line.line-index _ (omega arith) c.if-line-table.true) c.if-left-eq0.true) ∙ c.loop-line.invariant

pub loop-line-preserved : goal.loop-line-preserved
loop-line-preserved c =
    elim c.if-line-table.branch [
      | then-line-table+else-left-eq0 w ↦
          (let up : c.loop-line.left ≡ suc (c.loop-line.left - 1) = omega arith in
          ap (slice_get (lines_of c.args.table (drop (c.loop-line.line-index + 1) c.args.lines.now))) w.left-is ∙ sym (ap₂ slice_get (lines_hit c.args.lines.now c.args.table c.loop-line.line-index _ (omega arith) w.if-line-table.true) up) ∙ c.loop-line.invariant)
      | else-line-table w ↦
          ap (slice_get (lines_of c.args.table (drop (c.loop-line.line-index + 1) c.args.lines.now))) w.left-is ∙ sym (ap (λ x. slice_get x c.loop-line.left) (lines_miss c.args.lines.now c.args.table c.loop-line.line-index _ (omega arith) w.if-line-table.false)) ∙ c.loop-line.invariant
    ]

pub returns : goal.returns
returns c =
    sym (ap (λ x. slice_get x c.loop-line.left) (lines_end c.args.lines.now c.args.table c.loop-line.line-index (omega arith))) ∙ c.loop-line.invariant
