-- Sound tables stay sound, whatever is done with them. Shown once, for every implementation.
use Rattle.std.proofs.Common.{◌≡◌, ℕ, zero, suc, ◌<◌, ◌≤◌, true, false, not, ◌&&◌, eqb, leb, List, [], ◌∷◌, ◌++◌, length, get_or, take, set, refl, ◌∙◌, arith}
use Rattle.std.proofs.lemmas.Bool.{and_parts, and_from, or_parts, or_from, not_from_false, not-true, eq-eqb, le-leb, leb-true}
use Rattle.fault.specs.Limits.{columns}
use Rattle.store.specs.Meaning.{Row, Table, no_table, good_width, same_row, has}
use Rattle.store.specs.Sound.{apart, wide, sound_table, sound_tables}
use Rattle.store.proofs.Rows.{same_row_sym}
use Rattle.store.proofs.Cases.{grown}

-- the three facts about a sound table
pub record Good (t : Table) : Type 0 where
  pub low : 1 ≤ t.width
  pub high : t.width ≤ columns
  pub even : wide t.width t.rows ≡ true
  pub separate : apart t.rows ≡ true

-- a table that passes the test has them
pub good : (t : Table) → sound_table t ≡ true → Good t
good t h =
    let p = and_parts (good_width t.width) (wide t.width t.rows && apart t.rows) h in
    let q = and_parts (wide t.width t.rows) (apart t.rows) p.1 in
    let r = and_parts (leb 1 t.width) (leb t.width columns) p.0 in
    record {
      low = leb-true 1 t.width r.0;
      high = leb-true t.width columns r.1;
      even = q.0;
      separate = q.1;
    }

-- and one that has them passes it
pub sound_good : (t : Table) → Good t → sound_table t ≡ true
sound_good t g =
    and_from (good_width t.width) (wide t.width t.rows && apart t.rows) (and_from (leb 1 t.width) (leb t.width columns) (le-leb 1 t.width g.low) (le-leb t.width columns g.high)) (and_from (wide t.width t.rows) (apart t.rows) g.even g.separate)

-- Lists of tables.

pub sound_append : (ts us : List Table) → sound_tables ts ≡ true → sound_tables us ≡ true → sound_tables (ts ++ us) ≡ true
sound_append [] us h k = k
sound_append (t ∷ ts) us h k =
    let p = and_parts (sound_table t) (sound_tables ts) h in
    and_from (sound_table t) (sound_tables (ts ++ us)) p.0 (sound_append ts us p.1 k)

pub sound_take : (n : ℕ) (ts : List Table) → sound_tables ts ≡ true → sound_tables (take n ts) ≡ true
sound_take zero ts h = refl
sound_take (suc n) [] h = refl
sound_take (suc n) (t ∷ ts) h =
    let p = and_parts (sound_table t) (sound_tables ts) h in
    and_from (sound_table t) (sound_tables (take n ts)) p.0 (sound_take n ts p.1)

pub sound_set : (ts : List Table) (n : ℕ) (u : Table) → sound_table u ≡ true → sound_tables ts ≡ true → sound_tables (set ts n u) ≡ true
sound_set [] n u k h = refl
sound_set (t ∷ ts) zero u k h = and_from (sound_table u) (sound_tables ts) k (and_parts (sound_table t) (sound_tables ts) h).1
sound_set (t ∷ ts) (suc n) u k h =
    let p = and_parts (sound_table t) (sound_tables ts) h in
    and_from (sound_table t) (sound_tables (set ts n u)) p.0 (sound_set ts n u k p.1)

-- each table of a sound list is sound
pub sound_at : (ts : List Table) (n : ℕ) → n < length ts → sound_tables ts ≡ true → sound_table (get_or ts n no_table) ≡ true
sound_at [] n l h = absurd (omega arith)
sound_at (t ∷ ts) zero l h = (and_parts (sound_table t) (sound_tables ts) h).0
sound_at (t ∷ ts) (suc n) l h = sound_at ts n (omega arith) (and_parts (sound_table t) (sound_tables ts) h).1

-- An empty table of a good width is sound.
pub sound_empty : (w : ℕ) → 1 ≤ w → w ≤ columns → sound_table (record { width = w; rows = [] }) ≡ true
sound_empty w h k = sound_good (record { width = w; rows = [] }) (record { low = h; high = k; even = refl; separate = refl })

-- A row more.

has_push : (rs : List Row) (r x : Row) → has rs x ≡ false → same_row r x ≡ false → has (rs ++ r ∷ []) x ≡ false
has_push [] r x h k = or_from (same_row r x) false k refl
has_push (q ∷ rs) r x h k =
    let p = or_parts (same_row q x) (has rs x) h in
    or_from (same_row q x) (has (rs ++ r ∷ []) x) p.0 (has_push rs r x p.1 k)

apart_push : (rs : List Row) (r : Row) → apart rs ≡ true → has rs r ≡ false → apart (rs ++ r ∷ []) ≡ true
apart_push [] r h k = refl
apart_push (q ∷ rs) r h k =
    let p = and_parts (not (has rs q)) (apart rs) h in
    let o = or_parts (same_row q r) (has rs r) k in
    let away = has_push rs r q (not-true (has rs q) p.0) (same_row_sym r q ∙ o.0) in
    and_from (not (has (rs ++ r ∷ []) q)) (apart (rs ++ r ∷ [])) (not_from_false (has (rs ++ r ∷ []) q) away) (apart_push rs r p.1 o.1)

wide_push : (w : ℕ) (rs : List Row) (r : Row) → wide w rs ≡ true → length r ≡ w → wide w (rs ++ r ∷ []) ≡ true
wide_push w [] r h k = and_from (eqb (length r) w) true (eq-eqb (length r) w k) refl
wide_push w (q ∷ rs) r h k =
    let p = and_parts (eqb (length q) w) (wide w rs) h in
    and_from (eqb (length q) w) (wide w (rs ++ r ∷ [])) p.0 (wide_push w rs r p.1 k)

-- a new row of the right width keeps a table sound
pub sound_grown : (t : Table) (r : Row) → sound_table t ≡ true → length r ≡ t.width → has t.rows r ≡ false → sound_table (grown t r) ≡ true
sound_grown t r h l k =
    let g = good t h in
    sound_good (grown t r) (record { low = g.low; high = g.high; even = wide_push t.width t.rows r g.even l; separate = apart_push t.rows r g.separate k })
