use Rattle.std.proofs.Common.{sym, ◌∙◌}
use Rattle.phrases.proofs.Steps.{expected_there, expected_else, paid_less, code_pays}
use Rattle.words.specs.Views.{spoken}
use Rattle.phrases.specs.Sorts.{wanted_of}
use Rattle.phrases.proofs.parsers.Parser.expect.Goals as goal

pub returns-then-not-sees-clause-step : goal.returns-then-not-sees-clause-step
returns-then-not-sees-clause-step c =
    λ text xs g. expected_else text _ _ _ _ _ g (sym c.sees.ensures ∙ c.if-not-sees.true) c.refuse.ensures

pub returns-clause-paid : goal.returns-clause-paid
returns-clause-paid c =
    paid_less _ _ _ _ (code_pays (wanted_of c.args.wanted) (spoken c.args.self.now.ahead.token) (sym c.sees.ensures ∙ c.if-not-sees.false)) c.advance.ensures.paid

pub returns-clause-step : goal.returns-clause-step
returns-clause-step c =
    λ text xs g. expected_there text _ _ _ _ _ g (sym c.sees.ensures ∙ c.if-not-sees.false) (c.advance.ensures.step text xs g)
