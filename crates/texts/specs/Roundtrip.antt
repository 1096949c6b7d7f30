-- What is written reads back: a table's lines, read for its own columns, give the same rows in the same order.
-- And each value has one text only, so that what is read is written as it was.
use Rattle.std.specs.Prelude.{◌≡◌, ℕ, ◌≤◌, true, List, [], ◌∷◌, length}
use Rattle.std.specs.Int.Signed.{mag}
use Rattle.fault.specs.Limits.{string_bytes}
use Rattle.words.specs.Letters.{plain}
use Rattle.std.specs.List.{list_all}
use Rattle.domain.specs.declared.Domain.{Domain}
use Rattle.domain.specs.declared.Domain.TheVariants.{Integer, String, Boolean}
use Rattle.schema.specs.Columns.{Column}
use Rattle.texts.specs.Readers.{Reading.taken}
use Rattle.texts.specs.Language.{Value, Value.integer, Value.string, Value.boolean, most, domains, ValueText}
use Rattle.texts.specs.Reading.{read_table, read_atom}
use Rattle.texts.specs.Lines.{value_bytes, table_lines, atom_line}

-- a value of a domain: a signed 64-bit integer, a string that a text can hold, a boolean
abbrev pub Fits : Domain → Value → Type 0
Fits Integer (integer z) = mag z ≤ most
Fits Integer (string s) = ⊥
Fits Integer (boolean b) = ⊥
Fits String (integer z) = ⊥
Fits String (string s) = (list_all plain s ≡ true) × (length s ≤ string_bytes)
Fits String (boolean b) = ⊥
Fits Boolean (integer z) = ⊥
Fits Boolean (string s) = ⊥
Fits Boolean (boolean b) = Unit {0}

-- a row has a value of each domain in turn
abbrev pub RowFits : List Domain → List Value → Type 0
RowFits [] [] = Unit {0}
RowFits [] (v ∷ vs) = ⊥
RowFits (d ∷ ds) [] = ⊥
RowFits (d ∷ ds) (v ∷ vs) = Fits d v × RowFits ds vs

abbrev pub RowsFit : List Domain → List (List Value) → Type 0
RowsFit ds [] = Unit {0}
RowsFit ds (row ∷ rows) = RowFits ds row × RowsFit ds rows

abbrev pub TablesReadBack : Type 0
TablesReadBack =
    (cs : List Column) (rows : List (List Value)) → RowsFit (domains cs) rows → read_table cs (table_lines cs rows) ≡ taken rows []

abbrev pub AtomsReadBack : Type 0
AtomsReadBack = (d : Domain) (v : Value) → Fits d v → read_atom d (atom_line v) ≡ taken v []

-- no two texts of one value, and every value that is read fits
abbrev pub OneText : Type 0
OneText = (d : Domain) (v : Value) (p : List ℕ) → ValueText d v p → (p ≡ value_bytes v) × Fits d v
