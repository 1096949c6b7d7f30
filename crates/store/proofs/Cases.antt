-- Each call and question, case by case, for any store: what an implementation has to show, and what a caller gets.
use Rattle.std.proofs.Common.{◌≡◌, ℕ, ◌+◌, ◌<◌, ◌≤◌, true, false, ◌⊎◌, [], ◌∷◌, ◌++◌, length, get_or, set, pos, Ok, Err, sym, ap, ◌∙◌, arith}
use Rattle.std.proofs.lemmas.List.{set-get_or}
use Rattle.std.proofs.lemmas.Bool.Decides.{nat_tests}
use Rattle.fault.specs.declared.rules.Rule.TheVariants.{NoCellsLeft, TooManyTables, WidthOutside, NoSuchPlace}
use Rattle.fault.specs.Limits.{columns, tables}
use Rattle.store.specs.Meaning.{Row, Table, Store, no_table, table_count, table_at, last_place, last_table, with_tables, cells_left, row_for, repeats, refused_by}
use Rattle.store.specs.Meaning.{open_reply, open_after, opened, add_reply, add_after, added, drop_reply, drop_after, dropped, settle_reply, settle_after, settled}
use Rattle.store.specs.Meaning.{width_reply, rows_reply, cell_reply}

-- Open.

-- all places are taken
pub open_many : (s : Store) (w : ℕ) → tables ≤ table_count s → (Err (refused_by TooManyTables) ≡ open_reply s w) × (s ≡ open_after s w)
open_many s w h = grind (arith, nat_tests)

-- a width outside the columns
pub open_outside : (s : Store) (w : ℕ) → table_count s < tables → (w < 1) ⊎ (columns < w) → (Err (refused_by WidthOutside) ≡ open_reply s w) × (s ≡ open_after s w)
open_outside s w h k = grind (arith, nat_tests)

pub open_accepted : (s : Store) (w : ℕ) → table_count s < tables → 1 ≤ w → w ≤ columns → (Ok tt ≡ open_reply s w) × (opened s w ≡ open_after s w)
open_accepted s w h k l = grind (arith, nat_tests)

-- Add.

-- no table to add to
pub add_absent : (s : Store) (r : Row) → table_count s ≡ 0 → (Err (refused_by NoSuchPlace) ≡ add_reply s r) × (s ≡ add_after s r)
add_absent s r h = grind (arith, nat_tests)

-- to insert a row that stands there leaves the store as it is
pub added_same : (s : Store) (r : Row) → repeats s r ≡ true → added s r ≡ s
added_same s r k = ap (with_tables s) (rw k (set-get_or s.tables (last_place s) no_table))

-- an equal row stands there
pub add_repeat : (s : Store) (r : Row) → 0 < table_count s → repeats s r ≡ true → (Ok tt ≡ add_reply s r) × (s ≡ add_after s r)
add_repeat s r h k = (grind (arith, nat_tests), sym (added_same s r k) ∙ (grind (arith, nat_tests)))

-- a new row, and too few cells
pub add_full : (s : Store) (r : Row) → 0 < table_count s → repeats s r ≡ false → cells_left s < (last_table s).width → (Err (refused_by NoCellsLeft) ≡ add_reply s r) × (s ≡ add_after s r)
add_full s r h k l = grind (arith, nat_tests)

-- a table with a row more at its end
abbrev pub grown : Table → Row → Table
grown t r = record { width = t.width; rows = t.rows ++ r ∷ [] }

-- to insert a new row puts it at the end
pub added_new : (s : Store) (r : Row) → repeats s r ≡ false → added s r ≡ with_tables s (set s.tables (last_place s) (grown (last_table s) (row_for s r)))
added_new s r k = grind (arith, nat_tests)

-- a new row, and room for it
pub add_new : (s : Store) (r : Row) → 0 < table_count s → repeats s r ≡ false → (last_table s).width ≤ cells_left s → (Ok tt ≡ add_reply s r) × (with_tables s (set s.tables (last_place s) (grown (last_table s) (row_for s r))) ≡ add_after s r)
add_new s r h k l = (grind (arith, nat_tests), sym (added_new s r k) ∙ (grind (arith, nat_tests)))

-- Drop.

pub drop_absent : (s : Store) → table_count s ≡ 0 → (Err (refused_by NoSuchPlace) ≡ drop_reply s) × (s ≡ drop_after s)
drop_absent s h = grind (arith, nat_tests)

pub drop_accepted : (s : Store) → 0 < table_count s → (Ok tt ≡ drop_reply s) × (dropped s ≡ drop_after s)
drop_accepted s h = grind (arith, nat_tests)

-- Settle.

-- no such table, or the last one
pub settle_absent : (s : Store) (n : ℕ) → table_count s ≤ n + 1 → (Err (refused_by NoSuchPlace) ≡ settle_reply s n) × (s ≡ settle_after s n)
settle_absent s n h = grind (arith, nat_tests)

pub settle_accepted : (s : Store) (n : ℕ) → n + 1 < table_count s → (Ok tt ≡ settle_reply s n) × (settled s n ≡ settle_after s n)
settle_accepted s n h = grind (arith, nat_tests)

-- The questions.

pub width_absent : (s : Store) (t : ℕ) → table_count s ≤ t → Err (refused_by NoSuchPlace) ≡ width_reply s t
width_absent s t h = grind (arith, nat_tests)

pub width_told : (s : Store) (t : ℕ) → t < table_count s → Ok (table_at s t).width ≡ width_reply s t
width_told s t h = grind (arith, nat_tests)

pub rows_absent : (s : Store) (t : ℕ) → table_count s ≤ t → Err (refused_by NoSuchPlace) ≡ rows_reply s t
rows_absent s t h = grind (arith, nat_tests)

pub rows_told : (s : Store) (t : ℕ) → t < table_count s → Ok (length (table_at s t).rows) ≡ rows_reply s t
rows_told s t h = grind (arith, nat_tests)

-- no such table, row or column
pub cell_absent : (s : Store) (t r c : ℕ) → (table_count s ≤ t) ⊎ ((length (table_at s t).rows ≤ r) ⊎ ((table_at s t).width ≤ c)) → Err (refused_by NoSuchPlace) ≡ cell_reply s t r c
cell_absent s t r c h = grind (arith, nat_tests)

pub cell_told : (s : Store) (t r c : ℕ) → t < table_count s → r < length (table_at s t).rows → c < (table_at s t).width → Ok (get_or (get_or (table_at s t).rows r []) c (pos 0)) ≡ cell_reply s t r c
cell_told s t r c h i j = grind (arith, nat_tests)
