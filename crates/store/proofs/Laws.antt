-- The laws of a store, from its soundness.
use Rattle.std.proofs.Common.{◌≡◌, ℕ, zero, suc, ◌<◌, true, not, eqb, List, [], ◌∷◌, length, get_or, sym, refl, ◌∙◌, arith}
use Rattle.std.proofs.lemmas.Bool.{and_parts, not-true, eqb-true, false≢true}
use Rattle.store.specs.Meaning.{Row, Table, Store, no_table, table_at, has}
use Rattle.store.specs.Sound.{Sound, apart, wide, sound_table, sound_tables}
use Rattle.store.specs.Calls.{after_all}
use Rattle.store.specs.Laws.{NoTwoEqual, Lawful, StoreLaws}
use Rattle.store.proofs.Soundness.{good, sound_at}
use Rattle.store.proofs.Reasons.{among_found, refused_rightly}
use Rattle.store.proofs.Kept.{sound_after_all, capacity_after_all}

-- rows that the test calls apart are
pub apart_rows : (rows : List Row) → apart rows ≡ true → NoTwoEqual rows
apart_rows [] h i j l k e = absurd (omega arith)
apart_rows (r ∷ rows) h zero zero l k e = absurd (omega arith)
apart_rows (r ∷ rows) h zero (suc j) l k e =
    let p = and_parts (not (has rows r)) (apart rows) h in
    false≢true (sym (not-true (has rows r) p.0) ∙ among_found rows r j (omega arith) (sym e))
apart_rows (r ∷ rows) h (suc i) zero l k e = absurd (omega arith)
apart_rows (r ∷ rows) h (suc i) (suc j) l k e = apart_rows rows (and_parts (not (has rows r)) (apart rows) h).1 i j (omega arith) (omega arith) e

-- rows that the test calls wide have that width
pub wide_rows : (w : ℕ) (rows : List Row) (i : ℕ) → wide w rows ≡ true → i < length rows → length (get_or rows i []) ≡ w
wide_rows w [] i h l = absurd (omega arith)
wide_rows w (r ∷ rows) zero h l = eqb-true (length r) w (and_parts (eqb (length r) w) (wide w rows) h).0
wide_rows w (r ∷ rows) (suc i) h l = wide_rows w rows i (and_parts (eqb (length r) w) (wide w rows) h).1 (omega arith)

-- at a place outside the list there is no row at all
apart_at : (ts : List Table) (t : ℕ) → sound_tables ts ≡ true → apart (get_or ts t no_table).rows ≡ true
apart_at [] t h = refl
apart_at (u ∷ ts) zero h = (good u (and_parts (sound_table u) (sound_tables ts) h).0).separate
apart_at (u ∷ ts) (suc t) h = apart_at ts t (and_parts (sound_table u) (sound_tables ts) h).1

-- what a sound store of the same capacity is to the store before
pub lawful_sound : (old new : Store) → new.capacity ≡ old.capacity → Sound new → Lawful old new
lawful_sound old new same h =
    record {
      capacity = same;
      within = omega (arith, same, h.within);
      apart = λ t. apart_rows (table_at new t).rows (apart_at new.tables t h.right);
      even = λ t i l k. wide_rows (table_at new t).width (table_at new t).rows i (good (table_at new t) (sound_at new.tables t l h.right)).even k;
    }

pub store_laws : StoreLaws
store_laws =
    record {
      refusals = refused_rightly;
      sound = sound_after_all;
      lawful = λ s calls h k. lawful_sound s (after_all s calls) (capacity_after_all s calls) (sound_after_all s calls h k);
    }
