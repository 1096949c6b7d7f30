-- A number of one digit is told by that digit.
use Rattle.std.proofs.Common.{◌≡◌, ◌+◌, ◌<◌, true, [], ◌∷◌, ℤ, pos, negsuc, nat_abs, arith, rules}
use Rattle.std.proofs.lemmas.Bool.{false≢true}
use Rattle.std.proofs.lemmas.Fmt.{decimal_digit}
use Rattle.std.specs.Fmt.{signed_decimal}
use lib.Signed.{le_z, lt_z}

pub one_digit : (z : ℤ) → le_z (pos 0) z ≡ true → lt_z z (pos 10) ≡ true → signed_decimal z ≡ (48 + nat_abs z) ∷ []
one_digit (pos n) low high = let small : n < 10 = search (rules, high) in decimal_digit n small
one_digit (negsuc n) low high = absurd (false≢true low)
