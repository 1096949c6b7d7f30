-- The rows of a right text have a value for each column.
use Rattle.std.proofs.Common.{◌≡◌, ℕ, suc, List, [], ◌∷◌, map, length, sym, refl, ap, ◌∙◌, subst}
use Rattle.std.proofs.lemmas.List.{length-map}
use Rattle.fault.specs.declared.rules.Rule.{Rule}
use Rattle.domain.specs.declared.Domain.{Domain}
use Rattle.schema.specs.declared.attributes.Attribute.{Attribute}
use Rattle.schema.specs.Columns.{Column, column_of}
use Rattle.texts.specs.Formats.{Word, Entries, Many, comma}
use Rattle.texts.specs.Language.{Value, ValueText, RowText, TableText, domains, ending}
use Rattle.texts.specs.Readers.{Reading, Reading.taken, Reading.refused, bind}
use Rattle.texts.specs.Reading.{read_heading, read_body, read_table}
use Rattle.texts.proofs.Whole.{exact}
use Rattle.texts.proofs.Listings.{table_reads}
use Rattle.listing.specs.Seen.{passed}
use Rattle.pool.specs.Learning.{cell_of}
use Rattle.take.specs.Taking.{cell_rows}
use Rattle.take.proofs.Settles.{AllWide}

entries_length : (before : List ℕ) (ds : List Domain) (vs : List Value) (p : List ℕ) → Entries ValueText before ds vs p → length vs ≡ length ds
entries_length before [] vs p t = ap length t.0
entries_length before (d ∷ ds) vs p t = ap length t.ends.ends.is ∙ ap (λ n. suc n) (entries_length comma ds t.ends.ends.value t.ends.back t.ends.ends.text)

rows_wide : (strings : List (List ℕ)) (ds : List Domain) (rows : List (List Value)) (p : List ℕ) → Many (RowText ds) (Word ending []) rows p → AllWide (length ds) (cell_rows strings rows)
rows_wide strings ds [] p t = tt
rows_wide strings ds (row ∷ rows) p t = (length-map row (cell_of strings) ∙ entries_length [] ds row t.3.back t.3.ends, rows_wide strings ds rows t.1 t.4)

domains_length : (script : List ℕ) (all : List Attribute) → length (domains (map (column_of script) all)) ≡ length all
domains_length script [] = refl
domains_length script (a ∷ all) = ap (λ n. suc n) (domains_length script all)

pub text_wide : (strings : List (List ℕ)) (script : List ℕ) (all : List Attribute) (text : List ℕ) (rows : List (List Value)) → read_table (map (column_of script) all) text ≡ taken rows [] → AllWide (length all) (cell_rows strings rows)
text_wide strings script all text rows e =
    let cs = map (column_of script) all in
    let t = ((exact (TableText cs) (read_table cs) (table_reads cs)).accepts text rows).0 e in
    subst (λ n. AllWide n (cell_rows strings rows)) (domains_length script all) (rows_wide strings (domains cs) rows t.ends.front (subst (λ r. Many (RowText (domains cs)) (Word ending []) r t.ends.front) (sym t.ends.ends.0) t.ends.begins))

abbrev told : {A : Type 0} → Reading A → Type 0
told (taken a r) = Unit {0}
told (refused rule r) = ⊥

abbrev left_of : {A : Type 0} → Reading A → List ℕ
left_of (taken a r) = r
left_of (refused rule r) = r

-- behind the heading of a right text come its rows
pub body_reads_rows : (cs : List Column) (text : List ℕ) (rows : List (List Value)) (u : Unit {0}) (q : List ℕ) → read_table cs text ≡ taken rows [] → taken u q ≡ passed (read_heading cs text) → read_body (domains cs) q ≡ taken rows []
body_reads_rows cs text rows u q e h = go (read_heading cs text) h e
  where
    go : (y : Reading (List (Unit {0}))) → taken u q ≡ passed y → bind y (λ _. read_body (domains cs)) ≡ taken rows [] → read_body (domains cs) q ≡ taken rows []
    go (taken us r) k f = ap (read_body (domains cs)) (ap left_of k) ∙ f
    go (refused rule r) k f = absurd (subst told k tt)

-- and its heading is not refused
pub heading_not_refused : (cs : List Column) (text : List ℕ) (rows : List (List Value)) (rule : Rule) (r : List ℕ) → read_table cs text ≡ taken rows [] → refused rule r ≡ passed (read_heading cs text) → ⊥
heading_not_refused cs text rows rule r e h = go (read_heading cs text) h e
  where
    go : (y : Reading (List (Unit {0}))) → refused rule r ≡ passed y → bind y (λ _. read_body (domains cs)) ≡ taken rows [] → ⊥
    go (taken us q) k f = subst told (sym k) tt
    go (refused other q) k f = subst told (sym f) tt
