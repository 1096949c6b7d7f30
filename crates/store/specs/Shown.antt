-- How an answer is told: an accepted call's, or the fault of a refusal.
use Rattle.std.specs.Prelude.{ℕ, List, codes, decimal, Ok, Err}
use Rattle.std.specs.Fmt.{signed_decimal}
use Rattle.fault.specs.Shown.{fault_line}
use Rattle.store.specs.Calls.{Answered}
use Rattle.store.specs.declared.calls.Answer.TheVariants.{Accepted, Number, Value}

abbrev pub answer_line : Answered → List ℕ
answer_line (Ok Accepted) = codes "accepted"
answer_line (Ok (Number n)) = decimal n
answer_line (Ok (Value v)) = signed_decimal v
answer_line (Err f) = fault_line f
