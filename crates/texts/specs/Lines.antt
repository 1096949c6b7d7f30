-- The lines that are written: of values, rows, headings, tables and atoms, of named prints and of wishes.
use Rattle.std.specs.Prelude.{ℕ, Bool, true, false, List, [], ◌∷◌, ◌++◌, Some, None, codes, Option}
use Rattle.std.specs.Fmt.{signed_decimal}
use Rattle.domain.specs.Domains.{letter_of}
use Rattle.schema.specs.Columns.{Column}
use Rattle.schema.specs.Kinds.{ValueType, ValueType.atom, ValueType.table}
use Rattle.texts.specs.Formats.{opening, comma, closing}
use Rattle.texts.specs.Language.{Value, Value.integer, Value.string, Value.boolean, quote, shown_name, kind, ending}

abbrev pub boolean_bytes : Bool → List ℕ
boolean_bytes true = codes "true"
boolean_bytes false = codes "false"

abbrev pub string_bytes : List ℕ → List ℕ
string_bytes s = quote ++ (s ++ quote)

abbrev pub value_bytes : Value → List ℕ
value_bytes (integer z) = signed_decimal z
value_bytes (string s) = string_bytes s
value_bytes (boolean b) = boolean_bytes b

abbrev pub bytes_of_name : Option (List ℕ) → List ℕ
bytes_of_name None = codes "?"
bytes_of_name (Some n) = n

abbrev pub column_bytes : Column → List ℕ
column_bytes c = bytes_of_name (shown_name c.name) ++ kind c.domain

-- the entries that are left of a line, the first of them behind `before`, and the end of the line
abbrev pub entries_bytes : {X : Type 0} → (X → List ℕ) → List ℕ → List X → List ℕ
entries_bytes f before [] = closing
entries_bytes f before (x ∷ xs) = before ++ (f x ++ entries_bytes f comma xs)

abbrev pub line_bytes : {X : Type 0} → (X → List ℕ) → List X → List ℕ
line_bytes f xs = opening ++ entries_bytes f [] xs

-- `(a:i,b:s)`
abbrev pub heading_line : List Column → List ℕ
heading_line cs = line_bytes column_bytes cs

-- `(3,"x")`
abbrev pub row_line : List Value → List ℕ
row_line vs = line_bytes value_bytes vs

-- `end`
abbrev pub end_line : List ℕ
end_line = ending

-- an atom
abbrev pub atom_line : Value → List ℕ
atom_line v = value_bytes v ++ codes "\n"

-- `to "NAME"`
abbrev pub to_line : List ℕ → List ℕ
to_line name = codes "to " ++ (string_bytes name ++ codes "\n")

-- a format: the letter of an atom's domain, or a table's heading, with its line feed
abbrev pub format_line : ValueType → List ℕ
format_line (atom d) = letter_of d ∷ codes "\n"
format_line (table cs) = heading_line cs

-- `from "NAME" FORMAT`, or `from input FORMAT`
abbrev pub source_bytes : Option (List ℕ) → List ℕ
source_bytes None = codes "input"
source_bytes (Some name) = string_bytes name

abbrev pub wish_line : Option (List ℕ) → ValueType → List ℕ
wish_line source type = codes "from " ++ (source_bytes source ++ (codes " " ++ format_line type))

-- the lines of a table, from its heading to `end`
abbrev pub row_lines : List (List Value) → List ℕ
row_lines [] = end_line
row_lines (row ∷ rows) = row_line row ++ row_lines rows

abbrev pub table_lines : List Column → List (List Value) → List ℕ
table_lines cs rows = heading_line cs ++ (row_lines rows ++ [])
