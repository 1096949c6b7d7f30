-- The code's answers, as the definitions have them.
use Rattle.std.specs.Prelude.{Ok, Err, Result}
use Rattle.fault.specs.declared.rules.Fault.{Fault}
use Rattle.typing.specs.Checker.{Answer}

-- an answer with its value as the definitions see it; a fault is the same there
abbrev pub answered : {A B : Type 0} → (A → B) → Result A Fault → Answer B
answered view (Ok a) = Ok (view a)
answered view (Err f) = Err f
