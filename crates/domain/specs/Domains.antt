-- The domains and their facts: the word of a script, the letter of a heading.
-- A cell of every domain starts as 0: the integer 0, string number 0 (the empty string), false.
use Rattle.std.specs.Prelude.{◌≡◌, ℕ, cond, List, ℤ, pos, Some, None, codes, Option, ◌==◌}
use Rattle.domain.specs.declared.Domain.{Domain}
use Rattle.domain.specs.declared.Domain.TheVariants.{Integer, String, Boolean}

pub record Facts : Type 0 where
  pub word : List ℕ
  pub letter : ℕ

-- the table: i, s and b are 105, 115 and 98
abbrev pub facts : Domain → Facts
facts Integer = record { word = codes "integer"; letter = 105 }
facts String = record { word = codes "string"; letter = 115 }
facts Boolean = record { word = codes "boolean"; letter = 98 }

abbrev pub word_of : Domain → List ℕ
word_of d = (facts d).word

abbrev pub letter_of : Domain → ℕ
letter_of d = (facts d).letter

-- the cell that a variable starts with
abbrev pub start : Domain → ℤ
start d = pos 0

-- the domain of a letter
abbrev pub domain_of : ℕ → Option Domain
domain_of l =
    cond (l == letter_of Integer) (Some Integer)
    (cond (l == letter_of String) (Some String)
    (cond (l == letter_of Boolean) (Some Boolean) None))

-- each domain's letter tells that domain, and only a domain's letter tells one
pub record LettersTell : Type 0 where
  pub told : (d : Domain) → domain_of (letter_of d) ≡ Some d
  pub only : (l : ℕ) (d : Domain) → domain_of l ≡ Some d → l ≡ letter_of d
