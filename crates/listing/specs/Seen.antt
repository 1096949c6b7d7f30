-- What a reader of a supplied text holds and answers, in the words of the text format.
use Rattle.std.specs.Prelude.{◌≡◌, ℕ, ◌+◌, List, map, take, drop, Ok, Err, Option, Result, ◌==◌, count_by}
use Rattle.fault.specs.declared.places.Place.{Place}
use Rattle.fault.specs.declared.rules.Fault.{Fault}
use Rattle.fault.specs.declared.rules.Rule.{Rule}
use Rattle.fault.specs.declared.rules.Rule.TheVariants.{WrongHeading, WrongRow}
use Rattle.words.specs.declared.spans.Span.{Span}
use Rattle.domain.specs.declared.Domain.{Domain}
use Rattle.schema.specs.declared.attributes.Attribute.{Attribute}
use Rattle.schema.specs.Columns.{Column, name_of}
use Rattle.texts.specs.Language.{shown_name}
use Rattle.texts.specs.Language as language
use Rattle.texts.specs.Readers as texts
use Rattle.texts.specs.Readers.{Reading, Reading.taken, Reading.refused, after, word}
use Rattle.texts.specs.Reading.{read_column, read_value}
use Rattle.listing.specs.declared.reader.Reader.{Reader}
use Rattle.listing.specs.declared.cell.Cell.{Cell}
use Rattle.listing.specs.declared.cell.Cell.TheVariants as cell

-- the bytes that are still to be read
abbrev pub rest : Reader → List ℕ
rest s = drop s.at s.text.now

-- Places: lines count from 1, by the line feeds before a byte.

abbrev pub line_of : List ℕ → ℕ → ℕ
line_of text at = count_by (λ b. b == 10) (take at text) + 1

abbrev pub place_at : List ℕ → ℕ → Place
place_at text at = record { line = line_of text at; byte = at }

abbrev pub fault_at : Rule → List ℕ → ℕ → Fault
fault_at rule text at = record { rule = rule; place = place_at text at }

-- Answers.

-- an answer, by what it stands for, and where the reader then stands, as the format's readers tell it
abbrev pub seen_as : {A B : Type 0} → (List ℕ → A → B) → Reader → Result A Fault → Reading B
seen_as f s (Ok a) = taken (f s.text.now a) (rest s)
seen_as f s (Err e) = refused e.rule (rest s)

-- an answer that stands for itself
abbrev pub seen : {A : Type 0} → Reader → Result A Fault → Reading A
seen s r = seen_as (λ text a. a) s r

-- a fault's place is where the reader stands
abbrev pub AtFault : {A : Type 0} → Reader → Result A Fault → Type 0
AtFault s (Ok a) = Unit {0}
AtFault s (Err f) = f ≡ fault_at f.rule s.text.now s.at

-- The reader goes on from one place of its text to another, and answers as the format's reader does there.
pub record ReadsAs {A B : Type 0} (f : List ℕ → A → B) (reader : texts.Reader B) (from to : Reader) (answer : Result A Fault) : Type 0 where
  pub value : seen_as f to answer ≡ reader (rest from)
  -- a refusal names the place where the reader stands
  pub place : AtFault to answer
  pub same : to.text.now ≡ from.text.now

-- the same for an answer that stands for itself
abbrev pub Reads : {A : Type 0} → texts.Reader A → Reader → Reader → Result A Fault → Type 0
Reads reader from to answer = ReadsAs (λ text a. a) reader from to answer

-- the bytes of a part of the text
abbrev pub part : List ℕ → Span → List ℕ
part text s = take s.len (drop s.start text)

-- the value of a cell of the text
abbrev pub value_in : List ℕ → Cell → language.Value
value_in text (cell.Integer z) = language.Value.integer z
value_in text (cell.String s) = language.Value.string (part text s)
value_in text (cell.Boolean b) = language.Value.boolean b

-- the cells of a row, by their values
abbrev pub values_in : ℕ → List ℕ → List Cell → List language.Value
values_in width text cells = map (value_in text) (take width cells)

-- a reading whose value is let go
abbrev pub passed : {A : Type 0} → Reading A → Reading (Unit {0})
passed (taken a r) = taken tt r
passed (refused rule r) = refused rule r

-- the name that a heading has for an attribute
abbrev pub title_of : List ℕ → Attribute → Option (List ℕ)
title_of script a = shown_name (name_of script a)

-- One entry of a line, behind what separates it from the one before; the loops of the code go by these.

abbrev pub column_behind : List ℕ → Column → texts.Reader (Unit {0})
column_behind before c = after (word WrongHeading before tt) (λ (_ : Unit {0}). read_column c)

abbrev pub value_behind : List ℕ → Domain → texts.Reader language.Value
value_behind before d = after (word WrongRow before tt) (λ (_ : Unit {0}). read_value d)

-- the domains of attributes, in order
abbrev pub domains_of : List Attribute → List Domain
domains_of attributes = map (λ a. a.domain) attributes
