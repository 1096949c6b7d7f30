-- Which rule a refused text breaks, and so which layer refuses it: the heading up to and with its line feed,
-- the cell where the reader of a value is at work, the row for all else.
use Rattle.std.specs.Prelude.{◌≡◌, ℕ, Bool, true, false, not, ◌||◌, ◌⊎◌, ◌↔◌, List, [], ◌∷◌, ◌++◌, ◌==◌, Option}
use Rattle.fault.specs.declared.rules.Rule.{Rule}
use Rattle.fault.specs.declared.rules.Rule.TheVariants.{WrongHeading, WrongRow, WrongCell}
use Rattle.domain.specs.declared.Domain.{Domain}
use Rattle.domain.specs.declared.Domain.TheVariants.{Integer, String, Boolean}
use Rattle.schema.specs.Columns.{Column}
use Rattle.texts.specs.Formats.{Format, Word, After, Many, opening, comma}
use Rattle.texts.specs.Language.{Value, ValueText, HeadingText, RowText, domains}
use Rattle.texts.specs.Readers.{Reading.refused, first}
use Rattle.texts.specs.Reading.{next_digit, read_table, read_atom}
use Rattle.texts.specs.Promise.{Placed}

-- a value's text may end before this byte, or the text's end: an integer's before anything but a digit
abbrev pub may_end : Domain → Option ℕ → Bool
may_end Integer o = not (next_digit o)
may_end String o = true
may_end Boolean o = true

-- what may stand behind the value v
abbrev pub Behind : Domain → Value → Format Value
Behind d v w p = (w ≡ v) × (may_end d (first p) ≡ true)

-- texts that begin with a value of the domain
abbrev pub BegunByValue : Domain → Format Value
BegunByValue d = After (ValueText d) (Behind d)

-- p are the entries of a row up to where a value of the domain d is due
abbrev pub Due : List ℕ → List Domain → Domain → List ℕ → Type 0
Due before [] d p = ⊥
Due before (e ∷ ds) d p =
    ((d ≡ e) × (p ≡ before)) ⊎
    ((v : Value) × (entry : List ℕ) × (rest : List ℕ) × (p ≡ before ++ (entry ++ rest)) × ValueText e v entry × Due comma ds d rest)

-- p is a heading, whole rows, and a row up to where a value of the domain d is due
pub record ValueDue (cs : List Column) (d : Domain) (p : List ℕ) : Type 0 where
  pub names : List (Unit {0})
  pub heading : List ℕ
  pub rows : List (List Value)
  pub lines : List ℕ
  pub row : List ℕ
  pub parts : p ≡ heading ++ (lines ++ (opening ++ row))
  pub headed : HeadingText cs names heading
  pub filled : Many (RowText (domains cs)) (Word [] []) rows lines
  pub due : Due [] (domains cs) d row

-- whether a line feed is among the bytes
abbrev pub has_line_feed : List ℕ → Bool
has_line_feed [] = false
has_line_feed (b ∷ p) = b == 10 || has_line_feed p

-- Refused at r by this rule, s being p and then r.
pub record TableLayer (cs : List Column) (s p r : List ℕ) (rule : Rule) : Type 0 where
  -- the heading refuses exactly if no line feed stands before the place
  pub heading : (rule ≡ WrongHeading) ↔ (has_line_feed p ≡ false)
  -- the cell refuses exactly if a value is due somewhere before, and this is the first byte with which no text goes on that begins with one
  pub cell : (rule ≡ WrongCell) ↔ ((front : List ℕ) × (text : List ℕ) × (d : Domain) × (s ≡ front ++ text) × ValueDue cs d front × Placed (BegunByValue d) text r)
  -- there is no fourth
  pub three : (rule ≡ WrongHeading) ⊎ ((rule ≡ WrongRow) ⊎ (rule ≡ WrongCell))

abbrev pub TablesByLayer : Type 0
TablesByLayer = (cs : List Column) (s p r : List ℕ) (rule : Rule) → read_table cs s ≡ refused rule r → s ≡ p ++ r → TableLayer cs s p r rule

-- an atom has no heading
pub record AtomLayer (d : Domain) (s r : List ℕ) (rule : Rule) : Type 0 where
  pub cell : (rule ≡ WrongCell) ↔ Placed (BegunByValue d) s r
  pub two : (rule ≡ WrongRow) ⊎ (rule ≡ WrongCell)

abbrev pub AtomsByLayer : Type 0
AtomsByLayer = (d : Domain) (s r : List ℕ) (rule : Rule) → read_atom d s ≡ refused rule r → AtomLayer d s r rule
