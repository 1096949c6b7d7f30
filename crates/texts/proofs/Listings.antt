-- The readers of headings, rows, tables and atoms are exact.
use Rattle.std.proofs.Common.{◌≡◌, ℕ, Bool, true, false, cond, List, [], ◌∷◌, ◌++◌, Some, None, codes, Option, refl, arith}
use Rattle.fault.specs.declared.rules.Rule.TheVariants.{WrongHeading, WrongRow}
use Rattle.domain.specs.declared.Domain.{Domain}
use Rattle.schema.specs.Columns.{Column}
use Rattle.texts.specs.Formats.{Format, Word, After, Many}
use Rattle.texts.specs.Readers.{first}
use Rattle.texts.specs.Language.{Value, is_name, shown_name, NameText, kind, ColumnText, HeadingText, RowText, domains, ending, TableText, AtomText, ValueText}
use Rattle.texts.specs.Reading.{next, next_digit, read_name, read_column, read_heading, read_value, read_row, read_rows, read_body, read_table, read_atom}
use Rattle.texts.proofs.Exactness.{Reads, anywhere, at_end, after_reads, either_reads, word_reads, finish_reads, many_reads, line_reads, Leads, word_leads, after_leads}
use Rattle.texts.proofs.Values.{leaves, leaves_before, value_reads}

-- a name does not begin with `?`
name_leads : (n : List ℕ) → is_name n ≡ true → Leads (Word n (tt {0})) (next 63) false
name_leads [] h = absurd (grind (arith, h))
name_leads (b ∷ n) h = word_leads b n tt (next 63) false (grind (arith, h))

-- the name that a heading shows is a name
abbrev Proper : Option (List ℕ) → Type 0
Proper None = Unit {0}
Proper (Some n) = is_name n ≡ true

shown_proper : (o : Option (List ℕ)) → Proper (shown_name o)
shown_proper None = tt
shown_proper (Some n) = go (is_name n) refl
  where
    go : (x : Bool) → is_name n ≡ x → Proper (cond x (Some n) None)
    go true e = e
    go false e = tt

name_reads : (o : Option (List ℕ)) → Proper o → Reads (NameText o) anywhere (read_name o)
name_reads None h = word_reads WrongHeading (codes "?") tt
name_reads (Some n) h = either_reads (next 63) _ _ anywhere _ _ (word_reads WrongHeading (codes "?") tt) (word_reads WrongHeading n tt)
    (λ a p r t e. word_leads 63 [] tt (next 63) true refl a p r t) (λ a p r t e. name_leads n h a p r t)

pub column_reads : (c : Column) → Reads (ColumnText c) anywhere (read_column c)
column_reads c = after_reads _ _ anywhere anywhere _ _ (name_reads (shown_name c.name) (shown_proper c.name))
    (λ a p t. word_reads WrongHeading (kind c.domain) tt) (λ a b p r t e. tt)

pub heading_reads : (cs : List Column) → Reads (HeadingText cs) anywhere (read_heading cs)
heading_reads cs = line_reads WrongHeading ColumnText (λ _. anywhere) read_column column_reads (λ x o h. tt) cs

pub row_reads : (ds : List Domain) → Reads (RowText ds) anywhere (read_row ds)
row_reads ds = line_reads WrongRow ValueText leaves read_value value_reads leaves_before ds

-- the rows of a table, each begun by `(`, and `end`
abbrev pub RowsText : List Domain → Format (List (List Value))
RowsText ds = Many (RowText ds) (Word ending [])

pub rows_reads : (ds : List Domain) → Reads (RowsText ds) anywhere (read_rows ds)
rows_reads ds = many_reads (next 40) (RowText ds) (Word ending []) anywhere _ _ (row_reads ds) (word_reads WrongRow ending [])
    (after_leads (next 40) true (word_leads 40 [] tt (next 40) true refl))
    (λ vs p r t e. word_leads 101 (codes "nd\n") [] (next 40) false refl vs p r t)
    (λ vs p t. t.0) refl

pub body_reads : (ds : List Domain) → Reads (After (RowsText ds) (λ rows. Word [] rows)) at_end (read_body ds)
body_reads ds = after_reads _ _ anywhere at_end _ _ (rows_reads ds) (λ rows p t. finish_reads WrongRow rows) (λ a b p r t e. tt)

pub table_reads : (cs : List Column) → Reads (TableText cs) at_end (read_table cs)
table_reads cs = after_reads _ _ anywhere at_end _ _ (heading_reads cs) (λ a p t. body_reads (domains cs)) (λ a b p r t e. tt)

pub atom_reads : (d : Domain) → Reads (AtomText d) at_end (read_atom d)
atom_reads d =
    after_reads _ _ (leaves d) at_end _ _ (value_reads d) (λ v p t.
    after_reads _ _ anywhere at_end _ _ (word_reads WrongRow (codes "\n") v) (λ w p t. finish_reads WrongRow w) (λ a b p r t e. tt))
    (λ v w p r t e. leaves_before d (first (p ++ r)) (after_leads next_digit false (word_leads 10 [] v next_digit false refl) w p r t))
