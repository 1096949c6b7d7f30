-- A supplied text by its parts: what it is asked for, and what is known before it is read.
use Rattle.std.specs.Prelude.{◌≡◌, ℕ, true, List, [], length, Result, is_ok}
use Rattle.fault.specs.declared.rules.Fault.{Fault}
use Rattle.domain.specs.declared.Domain.{Domain}
use Rattle.schema.specs.Columns.{Column, schema_of, held}
use Rattle.store.specs.Meaning.{Row, Store, last_table}
use Rattle.texts.specs.Language.{Value}
use Rattle.texts.specs.Readers.{Reading.taken}
use Rattle.texts.specs.Reading.{read_body, read_table}
use Rattle.listing.specs.Seen.{domains_of}
use Rattle.pool.specs.declared.fresh.Fresh.{Fresh}
use Rattle.pool.specs.Strings.{numbered}
use Rattle.pool.specs.Learning.{Learned, learned_of, strings_of}
use Rattle.take.specs.declared.supply.Supply.{Supply}
use Rattle.take.specs.Taking.{table_rows, cell_rows, add_all, ready, fits_reply, fits_after}

-- the bytes of the text
abbrev pub text_of : Supply → List ℕ
text_of s = s.source.text.now

-- the columns of the table that it is for, their domains, and how many they are
abbrev pub columns_of : Supply → List Column
columns_of s = schema_of s.script.now s.schema.now

abbrev pub column_domains : Supply → List Domain
column_domains s = domains_of (held s.schema.now)

abbrev pub width_of : Supply → ℕ
width_of s = length (held s.schema.now)

-- the strings that have a number before the text is read
abbrev pub known_of : Supply → List (List ℕ)
known_of s = numbered s.source.known

-- what was learned of the text
abbrev pub learned_from : Supply → Fresh → Learned
learned_from s fresh = learned_of (text_of s) fresh

-- the table that its rows make
abbrev pub rows_of : Supply → Fresh → List (List Value) → List Row
rows_of s fresh rows = table_rows (known_of s) (learned_from s fresh) rows

-- The rows of a right text, read from these bytes on, are added to the last table one after the other, up to one that is refused.
abbrev pub FillsRows : Supply → Fresh → List ℕ → Store → Store → Result (Unit {0}) Fault → Type 0
FillsRows s fresh start before after answer = (rows : List (List Value)) (q : List ℕ) →
    read_body (column_domains s) start ≡ taken rows q → (last_table before).width ≡ width_of s →
    (is_ok answer ≡ (add_all before (cell_rows (strings_of s.source fresh) rows)).whole) × (after ≡ (add_all before (cell_rows (strings_of s.source fresh) rows)).store)

-- The rows of a right text come into a table of a store that is ready, or nothing changes.
abbrev pub TakesRows : Supply → Fresh → ℕ → Store → Store → Result (Unit {0}) Fault → Type 0
TakesRows s fresh n before after answer = (rows : List (List Value)) →
    read_table (columns_of s) (text_of s) ≡ taken rows [] → ready before n (width_of s) ≡ true →
    (answer ≡ fits_reply (rows_of s fresh rows) (width_of s) before) × (after ≡ fits_after (rows_of s fresh rows) (width_of s) n before)
