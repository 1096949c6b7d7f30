-- What the trials are made of: columns by a letter, over the text `aba`, and the answer of a step in numbers.
use Rattle.std.specs.Prelude.{ℕ, ◌==◌, cond, List, [], ◌∷◌, ◌++◌, map, take, replicate, length, codes, Ok, Err, Result, Some, None}
use Rattle.domain.specs.declared.Domain.{Domain}
use Rattle.domain.specs.declared.Domain.TheVariants.{Integer, String}
use Rattle.fault.specs.Limits.{columns}
use Rattle.fault.specs.declared.rules.Fault.{Fault}
use Rattle.fault.specs.Rules.{number_of}
use Rattle.words.specs.Tokens.{Place}
use Rattle.schema.specs.Columns.{Column}
use Rattle.typing.specs.Checker.{Answer}
use Rattle.schema_trials.specs.declared.Refused.{Refused}

-- the text that spells every name
abbrev pub text : List ℕ
text = codes "aba"

abbrev pub named : List ℕ → Domain → Column
named name d = record { name = Some name; domain = d }

abbrev pub nameless : Domain → Column
nameless d = record { name = None; domain = d }

-- the column of a letter: a and b are integers of that name, s is a string of the name a, i an integer and any other a string without a name
abbrev pub column_for : ℕ → Column
column_for letter =
    cond (letter == 97) (named (codes "a") Integer)
    (cond (letter == 98) (named (codes "b") Integer)
    (cond (letter == 115) (named (codes "a") String)
    (cond (letter == 105) (nameless Integer) (nameless String))))

-- so many nameless integers and then a column for each letter, as far as a schema has room
abbrev pub columns_for : ℕ → List ℕ → List Column
columns_for integers letters = take columns (replicate integers (nameless Integer) ++ map column_for letters)

-- one column more, if there is room for it
abbrev pub with_room : List Column → Column → List Column
with_room cs c = take columns (cs ++ (c ∷ []))

-- the number and byte of a fault
abbrev pub refusal_of : Fault → Refused
refusal_of f = record { number = number_of f.rule; byte = f.place.byte }

-- an answer as the width of the result, or the number and the byte of the fault
abbrev pub outcome : Answer (List Column) → Result ℕ Refused
outcome (Ok cs) = Ok (length cs)
outcome (Err f) = Err (refusal_of f)

-- a place of the first line
abbrev pub at_byte : ℕ → Place
at_byte b = record { line = 1; byte = b }
