-- The value of digits: it only grows as digits follow.
use Rattle.std.proofs.Common.{◌≡◌, ℕ, ◌+◌, ◌-◌, ◌*◌, ◌≤◌, cond, leb, List, [], ◌∷◌, Some, None, arith}
use Rattle.std.proofs.lemmas.Bool.Decides.{nat_tests}
use Rattle.words.specs.Numbers.{value_on, value_of, value_within}

-- digits behind a value never make it less
pub value_grows : (v : ℕ) (ds : List ℕ) → v ≤ value_on v ds
value_grows v [] = omega arith
value_grows v (d ∷ ds) = let on = value_grows (10 * v + (d - 48)) ds in omega arith

-- a value that leaves the limit with one digit has left it for good
pub past_the_limit : (limit v d : ℕ) (ds all : List ℕ) → value_on v (d ∷ ds) ≡ value_of all →
    None ≡ cond (leb (10 * v + (d - 48)) limit) (Some (10 * v + (d - 48))) None → None ≡ value_within limit all
past_the_limit limit v d ds all whole h = let on = value_grows (10 * v + (d - 48)) ds in grind (arith, nat_tests)
