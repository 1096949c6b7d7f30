-- A token by its parts: how many bytes it takes, what it says, where it leaves the text.
use Rattle.std.proofs.Common.{◌≡◌, ℕ, ◌-◌, ◌≤◌, take, Some, Option, arith}
use Rattle.std.proofs.lemmas.Bool.Decides.{nat_tests}
use Rattle.fault.specs.Limits.{name_bytes}
use Rattle.words.specs.Letters.{run, name_byte}
use Rattle.words.specs.Lexing.{Spot, further, word_or_name, name_at}
use Rattle.words.specs.Spelling.{keyword_of}
use Rattle.words.specs.Tokens.{Terminal}
use Rattle.words.specs.Views.{heard}

-- a word or a name of n bytes
pub name_is : (s p : Spot) (n : ℕ) (t : Option Terminal) → n ≡ run name_byte s.rest → n ≤ name_bytes →
    t ≡ Some (word_or_name (keyword_of (take (n - 0) s.rest)) (take (n - 0) s.rest)) → p ≡ further n s → heard t s.here p ≡ name_at s
name_is s p n t len few said on = grind (arith, nat_tests)
