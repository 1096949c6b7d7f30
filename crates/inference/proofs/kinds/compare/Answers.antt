use Rattle.inference.proofs.kinds.compare.Goals as goal

pub returns : goal.returns
returns c = cc (c.answer_if.ensures c.args.text.now, c.comparable.ensures)
