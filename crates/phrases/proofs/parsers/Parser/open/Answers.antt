use Rattle.std.proofs.Common.{◌-◌, arith}
use Rattle.std.proofs.lemmas.Result.{err_from_is_err_and}
use Rattle.phrases.proofs.Steps.{opened_none, opened_broken, to_opened, stepped_broken}
use Rattle.phrases.proofs.parsers.Parser.open.Goals as goal

pub returns-then-depth-eq0-clause-step : goal.returns-then-depth-eq0-clause-step
returns-then-depth-eq0-clause-step c =
    λ text xs g. opened_none text _ _ c.args.self.now _ _ c.if-depth-eq0.true c.requires.token g c.refuse.ensures

pub returns-in_err-advance-clause-step : goal.returns-in_err-advance-clause-step
returns-in_err-advance-clause-step c =
    let y = err_from_is_err_and c.from_residual.result c.from_residual.ensures.1 in
    λ text xs g. opened_broken text _ c.args.depth (c.args.depth - 1) c.args.self.now c.advance.new.self _ _ _ (omega (arith, c.if-depth-eq0.false)) c.requires.token y.1 y.2 (stepped_broken text _ c.args.self.now c.advance.new.self _ (c.in_err-advance.ensures.step text xs g))

pub returns-clause-step : goal.returns-clause-step
returns-clause-step c =
    let s = c.in_ok-advance.ensures in
    λ text xs g. to_opened text _ _ _ c.args.self.now c.advance.new.self (omega (arith, c.if-depth-eq0.false)) (s.step text xs g)
