-- What always holds of a store, as a test that computes: an implementation keeps these facts beside its fields.
use Rattle.std.specs.Prelude.{◌≡◌, ℕ, ◌≤◌, Bool, true, not, ◌&&◌, List, [], ◌∷◌, length, ◌==◌}
use Rattle.fault.specs.Limits as limits
use Rattle.store.specs.Meaning.{Row, Table, Store, used, has, good_width}

-- no two of these rows are equal
abbrev pub apart : List Row → Bool
apart [] = true
apart (r ∷ rs) = not (has rs r) && apart rs

-- every row has this many cells
abbrev pub wide : ℕ → List Row → Bool
wide w [] = true
wide w (r ∷ rs) = length r == w && wide w rs

abbrev pub sound_table : Table → Bool
sound_table t = good_width t.width && (wide t.width t.rows && apart t.rows)

abbrev pub sound_tables : List Table → Bool
sound_tables [] = true
sound_tables (t ∷ ts) = sound_table t && sound_tables ts

pub record Sound (s : Store) : Type 0 where
  pub small : s.capacity ≤ limits.cells
  pub within : used s.tables ≤ s.capacity
  pub few : length s.tables ≤ limits.tables
  pub right : sound_tables s.tables ≡ true
