use Rattle.std.proofs.Common.{◌∙◌, arith}
use Rattle.std.proofs.lemmas.List.{set-get_or}
use Rattle.ledger.proofs.Passes.{renumber_hit, renumber_miss, renumber_all, renumber_long}
use Rattle.ledger.proofs.book.renumber.Goals as goal
use Rattle.ledger.proofs.book.renumber.Goals.{then-line-from, else-line-from}

pub loop-line-preserved : goal.loop-line-preserved
loop-line-preserved c =
    let long = renumber_long c.args.lines.now c.loop-line.lines c.args.from c.args.to c.loop-line.line-index c.loop-line.invariant in
    elim c.if-line-from.branch [
      | then-line-from w ↦ w.lines-is ∙ renumber_hit c.args.lines.now c.loop-line.lines c.args.from c.args.to c.loop-line.line-index _ (omega (arith, long)) c.loop-line.invariant w.if-line-from.true
      | else-line-from w ↦ w.lines-is ∙ set-get_or c.loop-line.lines c.loop-line.line-index _ ∙ renumber_miss c.args.lines.now c.loop-line.lines c.args.from c.args.to c.loop-line.line-index _ (omega (arith, long)) c.loop-line.invariant w.if-line-from.false
    ]

pub returns : goal.returns
returns c =
    let long = renumber_long c.args.lines.now c.loop-line.lines c.args.from c.args.to c.loop-line.line-index c.loop-line.invariant in
    renumber_all c.args.lines.now c.loop-line.lines c.args.from c.args.to c.loop-line.line-index (omega (arith, long)) c.loop-line.invariant
