-- The readers of values, headings, rows, tables and atoms, in the order of the format.
-- Each refuses by its own rule: a value by WrongCell, a heading by WrongHeading, all else by WrongRow.
use Rattle.std.specs.Prelude.{ℕ, zero, suc, ◌+◌, ◌-◌, ◌*◌, Bool, true, false, cond, List, [], ◌∷◌, ℤ, pos, neg_ℤ, Some, None, codes, Option, ◌==◌, nat_le}
use Rattle.fault.specs.Limits.{string_bytes}
use Rattle.fault.specs.declared.rules.Rule.TheVariants.{WrongHeading, WrongRow, WrongCell}
use Rattle.words.specs.Letters.{digit, plain}
use Rattle.domain.specs.declared.Domain.{Domain}
use Rattle.domain.specs.declared.Domain.TheVariants.{Integer, String, Boolean}
use Rattle.schema.specs.Columns.{Column}
use Rattle.texts.specs.Readers.{Reading, Reading.taken, Reading.refused, Reader, first, after, give, either, one, word, finish, many, line}
use Rattle.texts.specs.Language.{Value, Value.integer, Value.string, Value.boolean, first_digit, most, least, quote, shown_name, kind, domains, ending}

-- whether the next byte is b
abbrev pub next : ℕ → Option ℕ → Bool
next b None = false
next b (Some c) = c == b

abbrev pub next_digit : Option ℕ → Bool
next_digit None = false
next_digit (Some b) = digit b

-- digits behind the number n, as long as there are any; one that leaves the limit is refused
abbrev pub further_on : Bool → Bool → ℕ → ℕ → List ℕ → Reading ℕ → Reading ℕ
further_on false room n b s x = taken n (b ∷ s)
further_on true false n b s x = refused WrongCell (b ∷ s)
further_on true true n b s x = x

abbrev pub further : ℕ → ℕ → Reader ℕ
further limit n [] = taken n []
further limit n (b ∷ s) =
    further_on (digit b) (nat_le (n * 10 + (b - 48)) limit) n b s (further limit (n * 10 + (b - 48)) s)

abbrev pub read_count : ℕ → Reader ℕ
read_count limit = after (one WrongCell first_digit) (λ b. further limit (b - 48))

-- no digit may follow
abbrev pub apart : {A : Type 0} → A → Reader A
apart a s = cond (next_digit (first s)) (refused WrongCell s) (taken a s)

abbrev pub read_integer : Reader ℤ
read_integer =
    either (next 45) (after (word WrongCell (codes "-") tt) (λ (_ : Unit {0}). give (λ n. neg_ℤ (pos n)) (read_count least)))
    (either (next 48) (after (word WrongCell (codes "0") (pos 0)) apart) (give pos (read_count most)))

-- what stands before the closing quote, at most n bytes
unfoldable pub read_quoted : ℕ → Reader (List ℕ)
read_quoted zero = word WrongCell quote []
read_quoted (suc n) =
    either (next 34) (word WrongCell quote []) (after (one WrongCell plain) (λ b. give (λ more. b ∷ more) (read_quoted n)))

abbrev pub read_string : Reader (List ℕ)
read_string = after (word WrongCell quote tt) (λ (_ : Unit {0}). read_quoted string_bytes)

abbrev pub read_boolean : Reader Bool
read_boolean = either (next 116) (word WrongCell (codes "true") true) (word WrongCell (codes "false") false)

abbrev pub read_value : Domain → Reader Value
read_value Integer = give integer read_integer
read_value String = give string read_string
read_value Boolean = give boolean read_boolean

abbrev pub read_name : Option (List ℕ) → Reader (Unit {0})
read_name None = word WrongHeading (codes "?") tt
read_name (Some n) = either (next 63) (word WrongHeading (codes "?") tt) (word WrongHeading n tt)

abbrev pub read_column : Column → Reader (Unit {0})
read_column c = after (read_name (shown_name c.name)) (λ _. word WrongHeading (kind c.domain) tt)

abbrev pub read_heading : List Column → Reader (List (Unit {0}))
read_heading = line WrongHeading read_column

abbrev pub read_row : List Domain → Reader (List Value)
read_row = line WrongRow read_value

-- the rows, and `end`
abbrev pub read_rows : List Domain → Reader (List (List Value))
read_rows ds = many (next 40) (read_row ds) (word WrongRow ending [])

-- the rows, `end` and the text's end
abbrev pub read_body : List Domain → Reader (List (List Value))
read_body ds = after (read_rows ds) (λ rows. finish WrongRow rows)

abbrev pub read_table : List Column → Reader (List (List Value))
read_table cs = after (read_heading cs) (λ _. read_body (domains cs))

abbrev pub read_atom : Domain → Reader Value
read_atom d = after (read_value d) (λ v. after (word WrongRow (codes "\n") v) (λ w. finish WrongRow w))
