-- A response leaves the capacity as it was.
use Rattle.std.proofs.Common.{◌≡◌, Ok, Err, Result, ap, ◌∙◌}
use Rattle.store.specs.Meaning.{Store}
use Rattle.store.specs.declared.calls.Answer.{Answer}
use Rattle.store.proofs.Kept.{capacity_after}
use Rattle.store_calls.specs.Told.{Responds}
use Rattle.store_calls.specs.declared.responses.Refusal.{Refusal}
use Rattle.store_calls.specs.declared.responses.Refusal.TheVariants.{NoCall, Fault}

pub responds_capacity : (s : Store) (r : Result Answer Refusal) (s' : Store) → Responds s r s' → s'.capacity ≡ s.capacity
responds_capacity s (Ok a) s' (call, p) = ap (λ x. x.capacity) p.1 ∙ capacity_after s call
responds_capacity s (Err (Fault f)) s' (call, p) = ap (λ x. x.capacity) p.1 ∙ capacity_after s call
responds_capacity s (Err NoCall) s' e = ap (λ x. x.capacity) e
