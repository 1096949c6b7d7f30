use Rattle.std.proofs.Common.{sym, refl, ◌∙◌}
use Rattle.std.proofs.lemmas.Result.{err_from_is_err_and}
use Rattle.phrases.proofs.ListCalls.{stops, broken_behind, no_element, goes_on}
use Rattle.phrases.proofs.Steps.{answers_err}
use Rattle.phrases.proofs.one_lifetime.+more_items.Goals as goal

pub returns-then-not-sees-clause-answer : goal.returns-then-not-sees-clause-answer
returns-then-not-sees-clause-answer g t c =
    λ d w n text xs gr from u h. stops d n text xs c.args.parser.now c.args.first from u gr h (sym c.sees.ensures ∙ c.if-not-sees.true)

pub returns-in_err-advance-clause-answer : goal.returns-in_err-advance-clause-answer
returns-in_err-advance-clause-answer g t c =
    λ d w n text xs gr from u h. answers_err _ text _ _ _ _ _ _ _ _ (err_from_is_err_and c.from_residual.result c.from_residual.ensures.1)
    (broken_behind d n text xs c.args.parser.now c.args.first from u gr h (sym c.sees.ensures ∙ c.if-not-sees.false) c.advance.new.self _ (c.in_err-advance.ensures.step text xs gr))

pub returns-in_err-next-clause-answer : goal.returns-in_err-next-clause-answer
returns-in_err-next-clause-answer g t c =
    λ d w n text xs gr from u h. answers_err _ text _ _ _ _ _ _ _ _ (err_from_is_err_and c.from_residual-in_err-next.result c.from_residual-in_err-next.ensures.1)
    (no_element d n text xs c.args.parser.now c.args.first from u gr h (sym c.sees.ensures ∙ c.if-not-sees.false) c.advance.new.self (c.in_ok-advance.ensures.step text xs gr) c.item.new.arg2 _ (w.follows _ _ _ c.in_err-next.ensures n))

pub returns-clause-answer : goal.returns-clause-answer
returns-clause-answer g t c =
    let s = c.in_ok-advance.ensures in
    let i = c.requires.moves.numbers _ _ _ c.in_ok-next.ensures in
    let m = c.more_items.ensures in
    λ d w n text xs gr from u h.
    goes_on d n text xs c.args.parser.now c.args.first from u gr h (sym c.sees.ensures ∙ c.if-not-sees.false) c.advance.new.self (s.step text xs gr) c.item.new.arg2 _ c.more_items.new.parser c.in_ok-next.next c.link.new.nodes c.more_items.result
    s.count (w.follows _ _ _ c.in_ok-next.ensures n) i.grown c.requires.begun c.link.ensures refl m.numbers
    (λ v t k. m.answer d w n text c.link.new.nodes (record { lies = v.lies; tells = v.tells; entries = refl }) from t k)
