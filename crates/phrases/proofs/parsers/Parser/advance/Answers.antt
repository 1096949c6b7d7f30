use Rattle.std.proofs.Common.{arith}
use Rattle.std.proofs.lemmas.Result.{err_from_is_err_and}
use Rattle.phrases.proofs.Steps.{heard_pays, heard_tells, heard_tokens, faulty_tokens, stepped_err, to_stepped}
use Rattle.phrases.proofs.parsers.Parser.advance.Goals as goal

pub returns-in_err-self-clause-step : goal.returns-in_err-self-clause-step
returns-in_err-self-clause-step c =
    let y = err_from_is_err_and c.from_residual.result c.from_residual.ensures.1 in
    let n = c.in_err-self.ensures in
    λ text xs g. stepped_err _ _ _ _ _ _ _ y.1 y.2 (faulty_tokens _ _ _ n.value)

pub returns-clause-paid : goal.returns-clause-paid
returns-clause-paid c =
    let n = c.in_ok-self.ensures in
    let pays = heard_pays _ _ _ _ n.value n.moved in
    omega (arith, pays)

pub returns-clause-step : goal.returns-clause-step
returns-clause-step c =
    let n = c.in_ok-self.ensures in
    λ text xs g. let h = heard_tells text _ _ _ _ n.value g.lies in to_stepped text xs _ _ _ (record { lies = h.0; tells = h.1; entries = g.entries }) (heard_tokens _ _ _ _ n.value)

pub invariant_of-self-2 : goal.invariant_of-self-2
invariant_of-self-2 c =
    let n = c.in_ok-self.ensures in
    let pays = heard_pays _ _ _ _ n.value n.moved in
    let r = c.args.self.now.room in
    record { fits = c.args.self.now.fits; room = omega (arith, pays, r) }
