-- What a call that passes a refusal on returns.
use Rattle.std.proofs.Common.{◌≡◌, Result, Ok, Err, ap}
use Rattle.std.specs.Result.{IsErrAnd}
use Rattle.fault.specs.declared.rules.Fault.{Fault}

pub passed_on : {T : Type 0} (r : Result T Fault) (f : Fault) → IsErrAnd r (λ e. e ≡ f) → r ≡ Err f
passed_on (Ok x) f h = absurd h
passed_on (Err e) f h = ap Err h
