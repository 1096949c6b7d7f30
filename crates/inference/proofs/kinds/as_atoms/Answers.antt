use Rattle.inference.proofs.kinds.as_atoms.Goals as goal

pub returns : goal.returns
returns c = λ text. cc (c.answer_if.ensures text, c.both_atoms.ensures text)
