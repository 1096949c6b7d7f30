-- What the code of `add` has in hand on chains, as plain facts: e is the last entry, and the row has all its columns.
use Rattle.std.proofs.Common.{◌≡◌, ℕ, ◌+◌, ◌-◌, ◌*◌, ◌<◌, ◌≤◌, Bool, true, false, Some, None, Option, List, [], ◌∷◌, ◌++◌, length, get_or, take, drop, set, ℤ, sym, refl, ap, ◌∙◌, ap₂, arith}
use Rattle.std.proofs.lemmas.List.{set_at, length-take-le}
use Rattle.fault.specs.Limits.{columns}
use Rattle.store.specs.Meaning.{Row, has}
use Rattle.directory.specs.Run.{chunk, extent, extent_of}
use Rattle.directory.specs.declared.entry.Entry.{Entry}
use Rattle.directory.proofs.Keeping.{Held}
use Rattle.directory.proofs.Growing.{last_split}
use Rattle.directory.proofs.Adding.{row_wide}
use Rattle.chained.specs.Chains.{walk, step, gather, run, under, put, searched, head_of, joined}
use Rattle.chained.proofs.Joining.{under_front}
use Rattle.chained.proofs.RowLoops.{found_by, missed_by}
use Rattle.chained.proofs.Keeping.{Kept, held_kept, last_inside, free_inside, run_rest, write_walk, run_add, kept_add}

module _ {c u f : ℕ} {es : List Entry} {cs : List ℤ} {ns : List ℕ} (k : Kept c u f es cs ns) (e : Entry) (row : Row)
    (some : 0 < length es) (e_is : e ≡ get_or es (length es - 1) e) (long : length row ≡ columns) where
  abbrev front : List Entry
  front = take (length es - 1) es

  -- the part of the row that counts
  abbrev new : Row
  new = take e.width row

  split_last : es ≡ front ++ e ∷ []
  split_last = last_split es e some e_is

  new_wide : length new ≡ e.width
  new_wide = row_wide (held_kept k) e row some e_is long

  -- the chain of the last table is within the cells
  pub extend_inside : under c (walk ns (extent_of e) e.first) ≡ true
  extend_inside = last_inside k front e split_last

  -- The search along the chain.
  sizes : e.count * length new ≡ extent_of e
  sizes = ap (λ m. e.count * m) new_wide

  pub search_inside : under c (walk ns (e.count * length new) e.first) ≡ true
  search_inside = ap (λ m. under c (walk ns m e.first)) sizes ∙ extend_inside

  -- is a search over the run
  pub search_is : (r : Bool) → r ≡ has (chunk e.count (length new) (gather cs (walk ns (e.count * length new) e.first))) new → r ≡ has (chunk e.count (length new) (drop (extent front) (run es cs ns))) new
  search_is r r_is =
      r_is ∙ ap (λ x. has (chunk e.count (length new) x) new) (ap (λ m. gather cs (walk ns m e.first)) sizes ∙ run_rest k front e split_last (extent front) refl)

  -- what the search answers, if the cells hold xs and go on as ms say
  abbrev along : List ℤ → List ℕ → Option ℕ
  along xs ms = searched (has (chunk e.count (length new) (gather xs (walk ms (e.count * length new) e.first))) new) (step ms (e.count * length new - 1) e.first)

  -- nothing: the run has the row
  pub search_none : (xs : List ℤ) (ms : List ℕ) → xs ≡ cs → ms ≡ ns → None ≡ along xs ms → true ≡ has (chunk e.count (length new) (drop (extent front) (run es cs ns))) new
  search_none xs ms xs_is ms_is is = search_is true (found_by _ _ (is ∙ ap₂ along xs_is ms_is))

  -- a cell: the run has no such row, and the chain of the last table ends there
  pub search_some : (end : ℕ) (xs : List ℤ) (ms : List ℕ) → xs ≡ cs → ms ≡ ns → Some end ≡ along xs ms → (false ≡ has (chunk e.count (length new) (drop (extent front) (run es cs ns))) new) × (end ≡ step ns (extent_of e - 1) e.first)
  search_some end xs ms xs_is ms_is is =
      let r = missed_by _ _ end (is ∙ ap₂ along xs_is ms_is) in
      (search_is false r.0, r.1 ∙ ap (λ n. step ns (n - 1) e.first) sizes)

  -- The chain joined to the free one: `ms` are the links then, and the table begins at h.
  module _ (ms : List ℕ) (h : ℕ) (ms_is : ms ≡ joined ns (extent_of e) e.first f) (h_is : h ≡ head_of (extent_of e) e.first f) (fit : e.width ≤ c - u) where
    abbrev entries_after : List Entry
    entries_after = set es (length es - 1) (record { first = h; width = e.width; count = e.count + 1 })

    entries_are : entries_after ≡ front ++ record { first = h; width = e.width; count = e.count + 1 } ∷ []
    entries_are =
        let x : Entry = record { first = h; width = e.width; count = e.count + 1 } in
        ap (λ y. set y (length es - 1) x) split_last ∙ set_at front e [] x (length es - 1) (length-take-le (length es - 1) es (omega arith))

    first_free : walk ms e.width f ≡ walk ns e.width f
    first_free = write_walk k front e split_last e.width new ms (put cs (walk ms e.width f) new) (u + e.width) (step ms e.width f) h entries_after fit new_wide ms_is h_is refl refl refl refl entries_are

    pub write_inside : under c (walk ms (length new) f) ≡ true
    write_inside = ap (λ n. under c (walk ms n f)) new_wide ∙ ap (under c) first_free ∙ under_front c ns e.width (c - u) f fit (free_inside k front e split_last)

    -- the row written: `ds` are the cells then, and the free chain goes on at f'
    module _ (ds : List ℤ) (ls : List ℕ) (f' : ℕ) (fs : List Entry) (ds_is : ds ≡ put cs (walk ms (length new) f) new) (ls_is : ls ≡ ms)
        (f'_is : f' ≡ step ms (length new) f) (fs_is : fs ≡ entries_after) where
      wrote : ds ≡ put cs (walk ls e.width f) new
      wrote = ds_is ∙ ap₂ (λ x n. put cs (walk x n f) new) (sym ls_is) new_wide

      goes_on : f' ≡ step ls e.width f
      goes_on = f'_is ∙ ap₂ (λ x n. step x n f) (sym ls_is) new_wide

      pub extend_run : run fs ds ls ≡ run es cs ns ++ new
      extend_run = run_add k front e split_last e.width new ls ds (u + e.width) f' h fs fit new_wide (ls_is ∙ ms_is) h_is wrote goes_on refl refl (fs_is ∙ entries_are)

      pub extend_kept : Held c fs (run es cs ns ++ new) → Kept c (u + e.width) f' fs ds ls
      extend_kept held = kept_add k front e split_last e.width new ls ds (u + e.width) f' h fs fit new_wide (ls_is ∙ ms_is) h_is wrote goes_on refl refl (fs_is ∙ entries_are) held
