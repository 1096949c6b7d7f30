-- What a row store is: a capacity in cells, and a list of tables. Each call has its reply and the store afterwards.
-- Every definition computes. Nothing here knows how rows are kept.
use Rattle.std.specs.Prelude.{ℕ, ◌+◌, ◌-◌, ◌*◌, Bool, true, false, cond, ◌&&◌, ◌||◌, List, [], ◌∷◌, ◌++◌, length, take, ℤ, pos, negsuc, Ok, Err, Result, ◌==◌, nat_le, nat_lt, slice_index_or, slice_set}
use Rattle.fault.specs.declared.rules.Fault.{Fault}
use Rattle.fault.specs.declared.rules.Rule.{Rule}
use Rattle.fault.specs.declared.rules.Rule.TheVariants.{NoCellsLeft, TooManyTables, WidthOutside, NoSuchPlace}
use Rattle.fault.specs.Limits.{columns, tables}
use Rattle.fault.specs.Places.{nowhere}

abbrev pub Row : Type 0
Row = List ℤ

pub record Table : Type 0 where
  pub width : ℕ
  pub rows : List Row

pub record Store : Type 0 where
  pub capacity : ℕ
  pub tables : List Table

-- Cells.

-- the cells that a table uses
abbrev pub size : Table → ℕ
size t = length t.rows * t.width

abbrev pub used : List Table → ℕ
used [] = 0
used (t ∷ ts) = size t + used ts

abbrev pub cells_left : Store → ℕ
cells_left s = s.capacity - used s.tables

-- Tables.

abbrev pub table_count : Store → ℕ
table_count s = length s.tables

-- what a place outside the list holds
abbrev pub no_table : Table
no_table = record { width = 0; rows = [] }

abbrev pub table_at : Store → ℕ → Table
table_at s t = slice_index_or s.tables t no_table

abbrev pub last_place : Store → ℕ
last_place s = table_count s - 1

abbrev pub last_table : Store → Table
last_table s = table_at s (last_place s)

abbrev pub with_tables : Store → List Table → Store
with_tables s ts = record { capacity = s.capacity; tables = ts }

-- Equal rows.

abbrev pub same_cell : ℤ → ℤ → Bool
same_cell (pos a) (pos b) = a == b
same_cell (pos a) (negsuc b) = false
same_cell (negsuc a) (pos b) = false
same_cell (negsuc a) (negsuc b) = a == b

abbrev pub same_row : Row → Row → Bool
same_row [] [] = true
same_row [] (y ∷ ys) = false
same_row (x ∷ xs) [] = false
same_row (x ∷ xs) (y ∷ ys) = same_cell x y && same_row xs ys

-- is the row among these
abbrev pub has : List Row → Row → Bool
has [] r = false
has (x ∷ xs) r = same_row x r || has xs r

-- Every row that comes to a table comes by this: at the end, unless it is there already.
abbrev pub insert : List Row → Row → List Row
insert rows r = cond (has rows r) rows (rows ++ r ∷ [])

abbrev pub inserted : Table → Row → Table
inserted t r = record { width = t.width; rows = insert t.rows r }

-- Replies.

-- A store's refusal names its rule and no place.
abbrev pub refused_by : Rule → Fault
refused_by rule = record { rule = rule; place = nowhere }

abbrev pub Reply : Type 0
Reply = Result (Unit {0}) Fault

abbrev pub accepted : Reply → Bool
accepted (Ok u) = true
accepted (Err f) = false

-- what a call leaves: the new store if it was accepted, else the old one
abbrev pub leaves : Reply → Store → Store → Store
leaves reply new old = cond (accepted reply) new old

-- Open: appends an empty table of this width.

abbrev pub good_width : ℕ → Bool
good_width w = nat_le 1 w && nat_le w columns

abbrev pub open_reply : Store → ℕ → Reply
open_reply s w =
    cond (nat_lt (table_count s) tables) (cond (good_width w) (Ok tt) (Err (refused_by WidthOutside))) (Err (refused_by TooManyTables))

abbrev pub opened : Store → ℕ → Store
opened s w = with_tables s (s.tables ++ record { width = w; rows = [] } ∷ [])

abbrev pub open_after : Store → ℕ → Store
open_after s w = leaves (open_reply s w) (opened s w) s

-- Add: inserts a row, the first cells of those given, into the last table.

abbrev pub has_table : Store → Bool
has_table s = nat_lt 0 (table_count s)

abbrev pub row_for : Store → Row → Row
row_for s r = take (last_table s).width r

abbrev pub repeats : Store → Row → Bool
repeats s r = has (last_table s).rows (row_for s r)

abbrev pub fits : Store → Bool
fits s = nat_le (last_table s).width (cells_left s)

abbrev pub add_reply : Store → Row → Reply
add_reply s r =
    cond (has_table s) (cond (repeats s r || fits s) (Ok tt) (Err (refused_by NoCellsLeft))) (Err (refused_by NoSuchPlace))

abbrev pub added : Store → Row → Store
added s r = with_tables s (slice_set s.tables (last_place s) (inserted (last_table s) (row_for s r)))

abbrev pub add_after : Store → Row → Store
add_after s r = leaves (add_reply s r) (added s r) s

-- Drop: takes the last table away.

abbrev pub drop_reply : Store → Reply
drop_reply s = cond (has_table s) (Ok tt) (Err (refused_by NoSuchPlace))

abbrev pub dropped : Store → Store
dropped s = with_tables s (take (last_place s) s.tables)

abbrev pub drop_after : Store → Store
drop_after s = leaves (drop_reply s) (dropped s) s

-- Settle: puts the last table in the place of an earlier one, which goes.

abbrev pub settle_reply : Store → ℕ → Reply
settle_reply s n = cond (nat_lt (n + 1) (table_count s)) (Ok tt) (Err (refused_by NoSuchPlace))

abbrev pub settled : Store → ℕ → Store
settled s n = with_tables s (slice_set (take (last_place s) s.tables) n (last_table s))

abbrev pub settle_after : Store → ℕ → Store
settle_after s n = leaves (settle_reply s n) (settled s n) s

-- The questions about a table.

abbrev pub width_reply : Store → ℕ → Result ℕ Fault
width_reply s t = cond (nat_lt t (table_count s)) (Ok (table_at s t).width) (Err (refused_by NoSuchPlace))

abbrev pub rows_reply : Store → ℕ → Result ℕ Fault
rows_reply s t = cond (nat_lt t (table_count s)) (Ok (length (table_at s t).rows)) (Err (refused_by NoSuchPlace))

abbrev pub has_cell : Store → ℕ → ℕ → ℕ → Bool
has_cell s t r c = nat_lt t (table_count s) && (nat_lt r (length (table_at s t).rows) && nat_lt c (table_at s t).width)

abbrev pub cell_reply : Store → ℕ → ℕ → ℕ → Result ℤ Fault
cell_reply s t r c =
    cond (has_cell s t r c) (Ok (slice_index_or (slice_index_or (table_at s t).rows r []) c (pos 0))) (Err (refused_by NoSuchPlace))
