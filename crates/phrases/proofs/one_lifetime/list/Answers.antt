use Rattle.std.proofs.lemmas.Result.{err_from_is_err_and}
use Rattle.phrases.proofs.ListCalls.{none_begins, begins}
use Rattle.phrases.proofs.Steps.{answers_err}
use Rattle.phrases.proofs.one_lifetime.list.Goals as goal

pub returns-in_err-first-clause-answer : goal.returns-in_err-first-clause-answer
returns-in_err-first-clause-answer g c =
    λ d h n text xs z. answers_err _ _ _ _ _ _ _ _ _ _ (err_from_is_err_and c.from_residual.result c.from_residual.ensures.1) (none_begins d n text xs c.args.parser.now c.item.new.arg2 z _ (h.follows _ _ _ c.in_err-first.ensures n))

pub returns-clause-answer : goal.returns-clause-answer
returns-clause-answer g c =
    let m = c.more_items.ensures in
    λ d h n text xs z. begins d n text xs c.args.parser.now c.item.new.arg2 z c.more_items.new.parser _ c.more_items.result (h.follows _ _ _ c.in_ok-first.ensures n) m.numbers (m.answer d h n)
