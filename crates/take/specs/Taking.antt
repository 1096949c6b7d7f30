-- What a supplied text comes to: its rows as cells, no row twice, in the place of the variable's old rows.
use Rattle.std.specs.Prelude.{ℕ, ◌-◌, ◌*◌, Bool, true, false, cond, ◌&&◌, List, [], ◌∷◌, ◌++◌, map, length, Ok, Err, Result, ◌==◌, nat_le, nat_lt, slice_set, is_err}
use Rattle.fault.specs.declared.rules.Fault.{Fault}
use Rattle.fault.specs.declared.rules.Rule.{Rule}
use Rattle.fault.specs.declared.rules.Rule.TheVariants.{Disorder, TooManyRows, TooManyStrings}
use Rattle.fault.specs.Limits.{tables, text_bytes}
use Rattle.fault.specs.Places.{nowhere}
use Rattle.store.specs.Meaning.{Row, Table, Store, table_count, table_at, cells_left, with_tables, insert, good_width, added, add_reply, accepted}
use Rattle.schema.specs.Columns.{Column}
use Rattle.texts.specs.Language.{Value}
use Rattle.texts.specs.Readers.{Reading, Reading.taken, Reading.refused, bind}
use Rattle.texts.specs.Reading.{read_table}
use Rattle.listing.specs.Seen.{fault_at}
use Rattle.listing.specs.Whole.{too_long}
use Rattle.pool.specs.declared.fresh.Fresh.{Fresh}
use Rattle.pool.specs.Learning.{Learned, learned_of, learn_rows, cell_of}

-- the rows of a text as cells, given the strings that have a number
abbrev pub cell_rows : List (List ℕ) → List (List Value) → List Row
cell_rows strings [] = []
cell_rows strings (row ∷ rows) = map (cell_of strings) row ∷ cell_rows strings rows

-- each row by the store's own insert, so that none stands twice
abbrev pub insert_all : List Row → List Row → List Row
insert_all rows [] = rows
insert_all rows (row ∷ more) = insert_all (insert rows row) more

-- the table that a text's rows make
abbrev pub table_rows : List (List ℕ) → Learned → List (List Value) → List Row
table_rows known l rows = insert_all [] (cell_rows (known ++ l.fresh) rows)

-- a table in the place of an earlier one
abbrev pub replaced : Store → ℕ → Table → Store
replaced s n t = with_tables s (slice_set s.tables n t)

-- 53 and 54 speak of the whole text
abbrev pub of_supply : Rule → Fault
of_supply rule = record { rule = rule; place = record { line = 1; byte = 0 } }

-- what the store has to be: a table of this place and width, and a place for one table more of it
abbrev pub ready : Store → ℕ → ℕ → Bool
ready s n width = nat_lt n (table_count s) && ((table_at s n).width == width && (good_width width && nat_lt (table_count s) tables))

-- anything else is out of order
abbrev pub disorder : Fault
disorder = record { rule = Disorder; place = nowhere }

-- the different rows against the cells left, the old ones still counted
abbrev pub fits_reply : List Row → ℕ → Store → Result (Unit {0}) Fault
fits_reply rows width s = cond (nat_le (length rows * width) (cells_left s)) (Ok tt) (Err (of_supply TooManyRows))

abbrev pub fits_after : List Row → ℕ → ℕ → Store → Store
fits_after rows width n s = cond (nat_le (length rows * width) (cells_left s)) (replaced s n (record { width = width; rows = rows })) s

-- strings first, then rows
abbrev pub rows_reply : Learned → List Row → ℕ → Store → Result (Unit {0}) Fault
rows_reply l rows width s = cond (is_err l.room) (Err (of_supply TooManyStrings)) (fits_reply rows width s)

-- Rows added one after the other, up to one that is refused.
pub record Filled : Type 0 where
  pub store : Store
  pub whole : Bool

abbrev pub add_all : Store → List Row → Filled
add_all s [] = record { store = s; whole = true }
add_all s (row ∷ rows) = cond (accepted (add_reply s row)) (add_all (added s row) rows) (record { store = s; whole = false })

-- what learning a whole text gives
abbrev pub learnt : List (List ℕ) → Learned → Reading (List (List Value)) → Reading Learned
learnt known l x = bind x (λ rows r. taken (learn_rows known l rows) r)

-- an answer with what was learned
abbrev pub with_learned : {A : Type 0} → Result A Fault → Learned → Result Learned Fault
with_learned (Ok a) l = Ok l
with_learned (Err f) l = Err f

abbrev pub learned_reply : List ℕ → Result Fresh Fault → Result Learned Fault
learned_reply text (Ok fresh) = Ok (learned_of text fresh)
learned_reply text (Err f) = Err f

-- What a text comes to, for a store that is ready: the strings that it brings, or the first refusal, and the store afterwards.

abbrev pub take_read : List ℕ → List (List ℕ) → Learned → ℕ → Store → Reading (List (List Value)) → Result Learned Fault
take_read text known l width s (refused rule r) = Err (fault_at rule text (length text - length r))
take_read text known l width s (taken rows r) =
    with_learned (rows_reply (learn_rows known l rows) (table_rows known (learn_rows known l rows) rows) width s) (learn_rows known l rows)

abbrev pub take_reply : List Column → List ℕ → List (List ℕ) → Learned → ℕ → ℕ → Store → Result Learned Fault
take_reply cs text known l n width s =
    cond (nat_lt text_bytes (length text)) (Err too_long)
    (cond (ready s n width) (take_read text known l width s (read_table cs text)) (Err disorder))

abbrev pub read_after : List (List ℕ) → Learned → ℕ → ℕ → Store → Reading (List (List Value)) → Store
read_after known l n width s (refused rule r) = s
read_after known l n width s (taken rows r) =
    cond (is_err (learn_rows known l rows).room) s (fits_after (table_rows known (learn_rows known l rows) rows) width n s)

abbrev pub take_after : List Column → List ℕ → List (List ℕ) → Learned → ℕ → ℕ → Store → Store
take_after cs text known l n width s =
    cond (nat_lt text_bytes (length text)) s
    (cond (ready s n width) (read_after known l n width s (read_table cs text)) s)
