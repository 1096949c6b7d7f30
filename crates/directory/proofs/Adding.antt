-- Adding a row to the last table of a directory over a run of cells: what the code of `add` has in hand, and what it comes to.
use Rattle.std.proofs.Common.{◌≡◌, ℕ, ◌+◌, ◌-◌, ◌*◌, ◌^◌, ◌<◌, ◌≤◌, Bool, true, false, List, ◌++◌, length, get_or, take, drop, set, ℤ, Ok, Err, ap, ◌∙◌, ap₂, le-mul_of_pos_right, arith}
use Rattle.std.proofs.lemmas.List.{length-take-le}
use Rattle.fault.specs.declared.rules.Rule.TheVariants.{NoCellsLeft}
use Rattle.fault.specs.Limits.{columns}
use Rattle.store.specs.Meaning.{Row, has, repeats, refused_by, add_reply, add_after}
use Rattle.store.proofs.Cases.{grown, add_repeat, add_full, add_new}
use Rattle.directory.specs.Run.{chunk, extent_of, extent, decode, laid}
use Rattle.directory.specs.declared.entry.Entry.{Entry}
use Rattle.directory.proofs.Decoding.{length_decode}
use Rattle.directory.proofs.Keeping.{Held}
use Rattle.directory.proofs.Growing.{entry_good, last_extent, last_is, last_width, left_cells, found, decode_add, held_add}

-- e is the last entry, and the row has all its columns
module _ {c : ℕ} {es : List Entry} {cs : List ℤ} (h : Held c es cs) (e : Entry) (row : Row)
    (some : 0 < length es) (last_entry : e ≡ get_or es (length es - 1) e) (long : length row ≡ columns) where
  pub add_good : (1 ≤ e.width) × (e.width ≤ columns)
  add_good = entry_good es cs (length es - 1) e h.sound (omega arith) last_entry

  -- the table's cells are at the end of the run
  pub add_size : extent (take (length es - 1) es) + e.count * e.width ≡ length cs
  add_size = omega (arith, last_extent es e some last_entry, h.full)

  -- the rows can be counted in 16 bits
  pub add_count : e.count + 1 < 2 ^ 16
  add_count = omega (arith, add_size, add_good.0, le-mul_of_pos_right {m = e.width} e.count add_good.0, h.within, h.small)

  -- the part of the row that counts
  pub row_wide : length (take e.width row) ≡ e.width
  row_wide = length-take-le e.width row (omega (arith, add_good.1))

  -- r is what a search over the last table's cells found
  module _ (slice : List ℤ) (from : ℕ) (r : Bool) (slice_is : slice ≡ cs) (from_is : from ≡ extent (take (length es - 1) es))
      (r_is : r ≡ has (chunk e.count (length (take e.width row)) (drop from slice)) (take e.width row)) where
    add_found : (has (chunk e.count e.width (drop (length cs - extent_of e) cs)) (take e.width row) ≡ r) × (repeats (laid c es cs) row ≡ r)
    add_found = found es e some last_entry cs h.full c row slice from r (omega (arith, add_good.1)) slice_is from_is r_is

    -- an equal row stands there
    pub add_again : r ≡ true → (Ok tt ≡ add_reply (laid c es cs) row) × (laid c es cs ≡ add_after (laid c es cs) row)
    add_again is = add_repeat (laid c es cs) row (omega (arith, length_decode es cs)) (add_found.1 ∙ is)

    -- the row is new, and the cells left are too few
    pub add_over : r ≡ false → (u : ℕ) → u ≡ length cs → c - u < e.width → (Err (refused_by NoCellsLeft) ≡ add_reply (laid c es cs) row) × (laid c es cs ≡ add_after (laid c es cs) row)
    add_over is u u-is l =
        add_full (laid c es cs) row (omega (arith, length_decode es cs)) (add_found.1 ∙ is) (omega (arith, left_cells es e some last_entry cs h.full c, last_width es e some last_entry cs h.full c))

    -- the row is new, and there is room: fs and ds are the entries and the run with the row
    module _ (is : r ≡ false) (fit : e.width ≤ c - length cs) (f : ℕ) (fs : List Entry) (ds : List ℤ)
        (entries_are : fs ≡ set es (length es - 1) (record { first = f; width = e.width; count = e.count + 1 })) (ds_is : ds ≡ cs ++ take e.width row) where
      pub add_held : Held c fs ds
      add_held = held_add e f (take e.width row) fs ds h some last_entry row_wide (add_found.0 ∙ is) (omega (arith, h.within)) entries_are ds_is

      pub add_done : (Ok tt ≡ add_reply (laid c es cs) row) × (laid c fs ds ≡ add_after (laid c es cs) row)
      add_done =
          let r = add_new (laid c es cs) row (omega (arith, length_decode es cs)) (add_found.1 ∙ is) (omega (arith, left_cells es e some last_entry cs h.full c, last_width es e some last_entry cs h.full c)) in
          (r.0, ap₂ (laid c) entries_are ds_is ∙ ap (λ ts. record { capacity = c; tables = ts }) (decode_add es e some last_entry cs h.full (take e.width row) row_wide f ∙ ap (λ t. set (decode es cs) (length (decode es cs) - 1) (grown t (take t.width row))) (last_is es e some last_entry cs h.full c)) ∙ r.1)
