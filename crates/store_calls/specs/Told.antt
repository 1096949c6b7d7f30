-- What a line is answered by, and how that is told.
use Rattle.std.specs.Prelude.{◌≡◌, ℕ, List, codes, Ok, Err, Result}
use Rattle.store.specs.Meaning.{Store}
use Rattle.store.specs.Calls.{answer, after}
use Rattle.store.specs.Shown.{answer_line}
use Rattle.store.specs.declared.calls.Answer.{Answer}
use Rattle.store.specs.declared.calls.Call.{Call}
use Rattle.store_calls.specs.declared.responses.Refusal.{Refusal}
use Rattle.store_calls.specs.declared.responses.Refusal.TheVariants.{NoCall, Fault}

-- what the store answers is told as the store tells it
abbrev pub response_line : Result Answer Refusal → List ℕ
response_line (Ok a) = answer_line (Ok a)
response_line (Err (Fault f)) = answer_line (Err f)
response_line (Err NoCall) = codes "not a store call"

-- The response to a line: what one call is answered by, and the store after that call; or none, and the store as it was.
abbrev pub Responds : Store → Result Answer Refusal → Store → Type 0
Responds s (Ok a) s' = (call : Call) × ((Ok a ≡ answer s call) × (s' ≡ after s call))
Responds s (Err (Fault f)) s' = (call : Call) × ((Err f ≡ answer s call) × (s' ≡ after s call))
Responds s (Err NoCall) s' = s' ≡ s
