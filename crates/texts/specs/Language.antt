-- The right texts: of values, of headings, of rows, of tables and of atoms. This page is the format, with no reader in sight.
-- Letters, digits, the bytes of names and of strings are those of a script.
-- A table is its heading, a line for each row, and `end`; an atom is one line. Every line ends in a line feed.
use Rattle.std.specs.Prelude.{◌≡◌, ℕ, suc, ◌+◌, ◌-◌, ◌*◌, ◌≤◌, Bool, true, false, cond, ◌&&◌, List, [], ◌∷◌, ◌++◌, length, ℤ, pos, neg_ℤ, Some, None, codes, Option, nat_le}
use Rattle.fault.specs.Limits.{string_bytes, name_bytes, integer_max}
use Rattle.words.specs.Letters.{letter, digit, name_byte, plain}
use Rattle.std.specs.List.{list_all}
use Rattle.domain.specs.declared.Domain.{Domain}
use Rattle.domain.specs.declared.Domain.TheVariants.{Integer, String, Boolean}
use Rattle.domain.specs.Domains.{letter_of}
use Rattle.schema.specs.Columns.{Column}
use Rattle.texts.specs.Formats.{Format, Word, One, After, Given, Either, Many, Line}

-- what a cell of a listing stands for
pub data Value : Type 0 where
  integer : ℤ → Value
  string : List ℕ → Value
  boolean : Bool → Value

-- Integers: digits without needless zeros, a minus before a number below zero.

abbrev pub first_digit : ℕ → Bool
first_digit b = nat_le 49 b && nat_le b 57

-- the number that digits write behind the number n
abbrev pub worth : ℕ → List ℕ → ℕ
worth n [] = n
worth n (b ∷ p) = worth (n * 10 + (b - 48)) p

-- the largest integer, and the size of the least
abbrev pub most : ℕ
most = integer_max

abbrev pub least : ℕ
least = integer_max + 1

-- further digits behind the number n, while the number stays within the limit
abbrev pub FurtherDigits : ℕ → ℕ → Format ℕ
FurtherDigits limit n m p = (list_all digit p ≡ true) × (m ≡ worth n p) × (m ≤ limit)

-- a number from 1 to the limit: a digit from 1 to 9, then further digits
abbrev pub CountText : ℕ → Format ℕ
CountText limit = After (One first_digit) (λ b. FurtherDigits limit (b - 48))

abbrev pub IntegerText : Format ℤ
IntegerText =
    Either (After (Word (codes "-") tt) (λ (_ : Unit {0}). Given (λ n. neg_ℤ (pos n)) (CountText least)))
    (Either (Word (codes "0") (pos 0)) (Given pos (CountText most)))

-- Strings: in double quotes, of bytes from 32 on but 34 and 127; there are no escapes.

abbrev pub quote : List ℕ
quote = codes "\""

-- at most n plain bytes, and the closing quote
abbrev pub QuotedText : ℕ → Format (List ℕ)
QuotedText n bytes p = (list_all plain bytes ≡ true) × (length bytes ≤ n) × (p ≡ bytes ++ quote)

abbrev pub StringText : Format (List ℕ)
StringText bytes p = (list_all plain bytes ≡ true) × (length bytes ≤ string_bytes) × (p ≡ quote ++ (bytes ++ quote))

-- Booleans.

abbrev pub BooleanText : Format Bool
BooleanText = Either (Word (codes "true") true) (Word (codes "false") false)

-- a value of a domain
abbrev pub ValueText : Domain → Format Value
ValueText Integer = Given integer IntegerText
ValueText String = Given string StringText
ValueText Boolean = Given boolean BooleanText

-- Headings: each column by its name, or `?`, a colon and the letter of its domain.

-- a letter, then letters, digits and underscores
abbrev pub is_name : List ℕ → Bool
is_name [] = false
is_name (b ∷ n) = letter b && (list_all name_byte n && nat_le (suc (length n)) name_bytes)

-- the name that a heading has for a column; bytes that are no name are none
abbrev pub shown_name : Option (List ℕ) → Option (List ℕ)
shown_name None = None
shown_name (Some n) = cond (is_name n) (Some n) None

-- `?` agrees with any name; a column without a name is `?`
abbrev pub NameText : Option (List ℕ) → Format (Unit {0})
NameText None = Word (codes "?") tt
NameText (Some n) = Either (Word (codes "?") tt) (Word n tt)

abbrev pub kind : Domain → List ℕ
kind d = 58 ∷ letter_of d ∷ []

abbrev pub ColumnText : Column → Format (Unit {0})
ColumnText c = After (NameText (shown_name c.name)) (λ _. Word (kind c.domain) tt)

-- `(a:i,b:s)` and the line feed
abbrev pub HeadingText : List Column → Format (List (Unit {0}))
HeadingText = Line ColumnText

-- `(3,"x")` and the line feed
abbrev pub RowText : List Domain → Format (List Value)
RowText = Line ValueText

abbrev pub domains : List Column → List Domain
domains [] = []
domains (c ∷ cs) = c.domain ∷ domains cs

abbrev pub ending : List ℕ
ending = codes "end\n"

-- a table of these columns
abbrev pub TableText : List Column → Format (List (List Value))
TableText cs = After (HeadingText cs) (λ _. After (Many (RowText (domains cs)) (Word ending [])) (λ rows. Word [] rows))

-- an atom of this domain
abbrev pub AtomText : Domain → Format Value
AtomText d = After (ValueText d) (λ v. After (Word (codes "\n") v) (λ w. Word [] w))
