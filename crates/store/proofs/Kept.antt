-- Each call keeps a store sound, and its capacity.
use Rattle.std.proofs.Common.{◌≡◌, ℕ, ◌+◌, ◌<◌, ◌≤◌, true, false, List, [], ◌∷◌, length, get_or, take, drop, set, sym, refl, ap, ◌∙◌, subst, ⊎_elim, zero-mul, arith}
use Rattle.std.proofs.lemmas.List.{length-append, length-set, length-take-le, drop_more, drop_all}
use Rattle.std.proofs.lemmas.Bool.{and_from, cond_both, cases_Bool}
use Rattle.std.proofs.lemmas.Bool.Decides.{nat_tests}
use Rattle.fault.specs.Limits as limits
use Rattle.store.specs.Meaning.{Row, Table, Store, Reply, table_count, last_place, last_table, with_tables, cells_left, row_for, repeats, accepted, leaves}
use Rattle.store.specs.Meaning.{open_reply, open_after, opened, add_reply, add_after, added, drop_reply, drop_after, dropped, settle_reply, settle_after, settled}
use Rattle.store.specs.Sound.{Sound}
use Rattle.store.specs.Calls.{after, after_all}
use Rattle.store.specs.Laws.{Whole, AllWhole}
use Rattle.store.specs.declared.calls.Call.{Call}
use Rattle.store.specs.declared.calls.Call.TheVariants.{Open, Add, Drop, Settle, Capacity, CellsLeft, TableCount, Width, RowCount, Cell}
use Rattle.store.proofs.Cases.{grown, added_same, added_new}
use Rattle.store.proofs.Cells.{used_append, used_set, used_take, size_grown}
use Rattle.store.proofs.Soundness.{good, sound_append, sound_take, sound_set, sound_at, sound_empty, sound_grown}

-- what holds of the old store, and of the new one if the call is accepted, holds of what the call leaves
leaves_both : (P : Store → Type 0) (reply : Reply) (new old : Store) → (accepted reply ≡ true → P new) → P old → P (leaves reply new old)
leaves_both P reply new old h k = cond_both (accepted reply) new old P h (λ _. k)

open_facts : (s : Store) (w : ℕ) → accepted (open_reply s w) ≡ true → (table_count s < limits.tables) × ((1 ≤ w) × (w ≤ limits.columns))
open_facts s w h = grind (arith, nat_tests)

pub sound_open : (s : Store) (w : ℕ) → Sound s → Sound (open_after s w)
sound_open s w h = leaves_both Sound (open_reply s w) (opened s w) s (λ a. go (open_facts s w a)) h
  where
    go : (table_count s < limits.tables) × ((1 ≤ w) × (w ≤ limits.columns)) → Sound (opened s w)
    go f =
        record {
          small = h.small;
          within = omega (arith, h.within, used_append s.tables (record { width = w; rows = [] } ∷ []), zero-mul w);
          few = omega (arith, f.0, length-append s.tables (record { width = w; rows = [] } ∷ []));
          right = sound_append s.tables (record { width = w; rows = [] } ∷ []) h.right (and_from _ true (sound_empty w f.1.0 f.1.1) refl);
        }

-- a table of a sound store grown by a new row that fits
pub sound_added : (s : Store) (r : Row) → Sound s → 0 < table_count s → length (row_for s r) ≡ (last_table s).width → repeats s r ≡ false → (last_table s).width ≤ cells_left s → Sound (with_tables s (set s.tables (last_place s) (grown (last_table s) (row_for s r))))
sound_added s r h some long new fit =
    record {
      small = h.small;
      within = omega (arith, h.within, used_set s.tables (last_place s) (grown (last_table s) (row_for s r)) (omega arith), size_grown (last_table s) (row_for s r));
      few = omega (arith, h.few, length-set s.tables (last_place s) (grown (last_table s) (row_for s r)));
      right = sound_set s.tables (last_place s) (grown (last_table s) (row_for s r)) (sound_grown (last_table s) (row_for s r) (sound_at s.tables (last_place s) (omega arith) h.right) long new) h.right;
    }

add_facts : (s : Store) (r : Row) → accepted (add_reply s r) ≡ true → repeats s r ≡ false → (0 < table_count s) × ((last_table s).width ≤ cells_left s)
add_facts s r h k = grind (arith, nat_tests)

add_some : (s : Store) (r : Row) → accepted (add_reply s r) ≡ true → 0 < table_count s
add_some s r h = grind (arith, nat_tests)

-- the row that is added has the width of the last table
pub row_long : (s : Store) (r : Row) → Sound s → 0 < table_count s → length r ≡ limits.columns → length (row_for s r) ≡ (last_table s).width
row_long s r h some long =
    length-take-le (last_table s).width r (omega (arith, (good (last_table s) (sound_at s.tables (last_place s) (omega arith) h.right)).high))

pub sound_add : (s : Store) (r : Row) → Sound s → length r ≡ limits.columns → Sound (add_after s r)
sound_add s r h long = leaves_both Sound (add_reply s r) (added s r) s (λ a. ⊎_elim old (new a) (cases_Bool (repeats s r))) h
  where
    old : repeats s r ≡ true → Sound (added s r)
    old k = subst Sound (sym (added_same s r k)) h

    new : accepted (add_reply s r) ≡ true → repeats s r ≡ false → Sound (added s r)
    new a k = subst Sound (sym (added_new s r k)) (sound_added s r h (add_some s r a) (row_long s r h (add_some s r a) long) k (add_facts s r a k).1)

drop_some : (s : Store) → accepted (drop_reply s) ≡ true → 0 < table_count s
drop_some s h = grind (arith, nat_tests)

pub sound_drop : (s : Store) → Sound s → Sound (drop_after s)
sound_drop s h = leaves_both Sound (drop_reply s) (dropped s) s (λ a. go (drop_some s a)) h
  where
    go : 0 < table_count s → Sound (dropped s)
    go some =
        record {
          small = h.small;
          within = omega (arith, h.within, used_take s.tables (last_place s) (omega arith));
          few = omega (arith, h.few, length-take-le (last_place s) s.tables (omega arith));
          right = sound_take (last_place s) s.tables h.right;
        }

settle_earlier : (s : Store) (n : ℕ) → accepted (settle_reply s n) ≡ true → n + 1 < table_count s
settle_earlier s n h = grind (arith, nat_tests)

pub sound_settle : (s : Store) (n : ℕ) → Sound s → Sound (settle_after s n)
sound_settle s n h = leaves_both Sound (settle_reply s n) (settled s n) s (λ a. go (settle_earlier s n a)) h
  where
    go : n + 1 < table_count s → Sound (settled s n)
    go l =
        let front = take (last_place s) s.tables in
        let long : length front ≡ last_place s = length-take-le (last_place s) s.tables (omega arith) in
        record {
          small = h.small;
          within = omega (arith, h.within, used_take s.tables (last_place s) (omega arith), used_set front n (last_table s) (omega arith));
          few = omega (arith, h.few, length-set front n (last_table s), long);
          right = sound_set front n (last_table s) (sound_at s.tables (last_place s) (omega arith) h.right) (sound_take (last_place s) s.tables h.right);
        }

-- any call
pub sound_after : (s : Store) (call : Call) → Sound s → Whole call → Sound (after s call)
sound_after s (Open w) h k = sound_open s w h
sound_after s (Add r) h k = sound_add s r h k
sound_after s Drop h k = sound_drop s h
sound_after s (Settle n) h k = sound_settle s n h
sound_after s Capacity h k = h
sound_after s CellsLeft h k = h
sound_after s TableCount h k = h
sound_after s (Width t) h k = h
sound_after s (RowCount t) h k = h
sound_after s (Cell t r c) h k = h

-- any list of calls
pub sound_after_all : (s : Store) (calls : List Call) → Sound s → AllWhole calls → Sound (after_all s calls)
sound_after_all s [] h k = h
sound_after_all s (call ∷ calls) h k = sound_after_all (after s call) calls (sound_after s call h k.0) k.1

-- The capacity stays.

leaves_capacity : (reply : Reply) (s : Store) (ts : List Table) → (leaves reply (with_tables s ts) s).capacity ≡ s.capacity
leaves_capacity reply s ts = leaves_both (λ x. x.capacity ≡ s.capacity) reply (with_tables s ts) s (λ _. refl) refl

pub capacity_after : (s : Store) (call : Call) → (after s call).capacity ≡ s.capacity
capacity_after s (Open w) = leaves_capacity (open_reply s w) s (opened s w).tables
capacity_after s (Add r) = leaves_capacity (add_reply s r) s (added s r).tables
capacity_after s Drop = leaves_capacity (drop_reply s) s (dropped s).tables
capacity_after s (Settle n) = leaves_capacity (settle_reply s n) s (settled s n).tables
capacity_after s Capacity = refl
capacity_after s CellsLeft = refl
capacity_after s TableCount = refl
capacity_after s (Width t) = refl
capacity_after s (RowCount t) = refl
capacity_after s (Cell t r c) = refl

pub capacity_after_all : (s : Store) (calls : List Call) → (after_all s calls).capacity ≡ s.capacity
capacity_after_all s [] = refl
capacity_after_all s (call ∷ calls) = capacity_after_all (after s call) calls ∙ capacity_after s call

-- A list of calls, made one by one: `whole` is what all of them come to.

pub made_one : (s s' whole : Store) (calls : List Call) (i : ℕ) (d : Call) → i < length calls → s' ≡ after s (get_or calls i d) → after_all s (drop i calls) ≡ whole → after_all s' (drop (i + 1) calls) ≡ whole
made_one s s' whole calls i d l made h =
    ap (λ x. after_all x (drop (i + 1) calls)) made ∙ sym (ap (after_all s) (drop_more calls i d l)) ∙ h

pub made_all : (s whole : Store) (calls : List Call) (i : ℕ) → length calls ≤ i → after_all s (drop i calls) ≡ whole → s ≡ whole
made_all s whole calls i l h = sym (ap (after_all s) (drop_all i calls l)) ∙ h
