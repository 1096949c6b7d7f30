-- What is left of the digits gives the whole value.
use Rattle.std.proofs.Common.{◌≡◌, ◌^◌, ◌<◌, ◌≤◌, drop}
use Rattle.words.specs.Numbers.{value_on, value_of}
use Rattle.words.proofs.numbers.value_within.Given as goal

abbrev pub invariant-loop-digit : goal.invariant-loop-digit
invariant-loop-digit l =
    (l.value ≤ l.limit)
    × (l.value < 2 ^ 64)
    × (value_on l.value (drop l.digit-index l.digits) ≡ value_of l.digits)
