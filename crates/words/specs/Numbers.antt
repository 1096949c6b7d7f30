-- Integers as a script writes them: digits, of which those in front may be zeros.
use Rattle.std.specs.Prelude.{ℕ, ◌+◌, ◌-◌, ◌*◌, cond, [], ◌∷◌, Some, None, Option, nat_le}
use Rattle.words.specs.Tokens.{Bytes}

-- the value of digits that follow others of the value v
abbrev pub value_on : ℕ → Bytes → ℕ
value_on v [] = v
value_on v (d ∷ ds) = value_on (10 * v + (d - 48)) ds

abbrev pub value_of : Bytes → ℕ
value_of ds = value_on 0 ds

-- the value, where it is at most the limit
abbrev pub value_within : ℕ → Bytes → Option ℕ
value_within limit ds = cond (nat_le (value_of ds) limit) (Some (value_of ds)) None
