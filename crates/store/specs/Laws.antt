-- What callers may rely on, in their own words: when a call is refused, and what no list of calls can bring about.
use Rattle.std.specs.Prelude.{◌≡◌, ℕ, ◌+◌, ◌<◌, ◌≤◌, List, [], ◌∷◌, length, take, ◌≢◌, slice_index_or, Err}
use Rattle.fault.specs.declared.rules.Rule.{Rule}
use Rattle.fault.specs.declared.rules.Rule.TheVariants.{NoCellsLeft, TooManyTables, WidthOutside, NoSuchPlace}
use Rattle.fault.specs.Limits as limits
use Rattle.store.specs.Meaning.{Row, Store, table_count, table_at, last_table, used, cells_left, refused_by}
use Rattle.store.specs.Sound.{Sound}
use Rattle.store.specs.Calls.{Answered, answer, after, after_all}
use Rattle.store.specs.declared.calls.Call.{Call}
use Rattle.store.specs.declared.calls.Call.TheVariants.{Open, Add, Drop, Settle, Capacity, CellsLeft, TableCount, Width, RowCount, Cell}

-- the row stands among these
abbrev pub Among : Row → List Row → Type 0
Among r rows = (i : ℕ) × (i < length rows) × (slice_index_or rows i [] ≡ r)

-- The reasons of a refusal, one constructor each, with the rule that is named.
pub data Refuses (s : Store) : Call → Rule → Type 0 where
  -- every place for a table is taken
  too_many : {w : ℕ} → limits.tables ≤ table_count s → Refuses s (Open w) TooManyTables
  -- a place is free, but no table is that wide
  too_narrow : {w : ℕ} → table_count s < limits.tables → w < 1 → Refuses s (Open w) WidthOutside
  too_wide : {w : ℕ} → table_count s < limits.tables → limits.columns < w → Refuses s (Open w) WidthOutside
  -- there is no table to add to or to drop, and none to settle but earlier ones
  none_to_add_to : {r : Row} → table_count s ≡ 0 → Refuses s (Add r) NoSuchPlace
  none_to_drop : table_count s ≡ 0 → Refuses s Drop NoSuchPlace
  none_earlier : {n : ℕ} → table_count s ≤ n + 1 → Refuses s (Settle n) NoSuchPlace
  -- the row is new, and wider than the cells left
  no_cells : {r : Row} → 0 < table_count s → (Among (take (last_table s).width r) (last_table s).rows → ⊥) → cells_left s < (last_table s).width → Refuses s (Add r) NoCellsLeft
  -- a question about what is not there
  no_table_wide : {t : ℕ} → table_count s ≤ t → Refuses s (Width t) NoSuchPlace
  no_table_long : {t : ℕ} → table_count s ≤ t → Refuses s (RowCount t) NoSuchPlace
  no_table : {t r c : ℕ} → table_count s ≤ t → Refuses s (Cell t r c) NoSuchPlace
  no_row : {t r c : ℕ} → length (table_at s t).rows ≤ r → Refuses s (Cell t r c) NoSuchPlace
  no_column : {t r c : ℕ} → (table_at s t).width ≤ c → Refuses s (Cell t r c) NoSuchPlace

-- A call is refused exactly for these reasons, and then nothing changes.
pub record RefusedRightly (s : Store) (call : Call) (a : Answered) (s' : Store) : Type 0 where
  pub reason : (rule : Rule) → a ≡ Err (refused_by rule) → Refuses s call rule
  pub always : (rule : Rule) → Refuses s call rule → a ≡ Err (refused_by rule)
  pub nothing : (rule : Rule) → Refuses s call rule → s' ≡ s

-- no two of these rows are equal
abbrev pub NoTwoEqual : List Row → Type 0
NoTwoEqual rows = (i j : ℕ) → i < j → j < length rows → slice_index_or rows i [] ≢ slice_index_or rows j []

-- Between two moments of a store: the capacity stays, no more cells are used than it has, no table has two equal rows.
pub record Lawful (old new : Store) : Type 0 where
  pub capacity : new.capacity ≡ old.capacity
  pub within : used new.tables ≤ old.capacity
  pub apart : (t : ℕ) → NoTwoEqual (table_at new t).rows
  pub even : (t i : ℕ) → t < table_count new → i < length (table_at new t).rows → length (slice_index_or (table_at new t).rows i []) ≡ (table_at new t).width

-- calls as they can be made: a row has all its columns
abbrev pub Whole : Call → Type 0
Whole (Open w) = Unit {0}
Whole (Add r) = length r ≡ limits.columns
Whole Drop = Unit {0}
Whole (Settle n) = Unit {0}
Whole Capacity = Unit {0}
Whole CellsLeft = Unit {0}
Whole TableCount = Unit {0}
Whole (Width t) = Unit {0}
Whole (RowCount t) = Unit {0}
Whole (Cell t r c) = Unit {0}

abbrev pub AllWhole : List Call → Type 0
AllWhole [] = Unit {0}
AllWhole (call ∷ calls) = Whole call × AllWhole calls

-- The laws, for every store and every list of calls.
pub record StoreLaws : Type 0 where
  pub refusals : (s : Store) (call : Call) → RefusedRightly s call (answer s call) (after s call)
  pub sound : (s : Store) (calls : List Call) → Sound s → AllWhole calls → Sound (after_all s calls)
  pub lawful : (s : Store) (calls : List Call) → Sound s → AllWhole calls → Lawful s (after_all s calls)
