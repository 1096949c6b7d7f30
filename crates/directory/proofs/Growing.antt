-- The last table of a directory over a run of cells, and one row more in it.
use Rattle.std.proofs.Common.{◌≡◌, ℕ, ◌+◌, ◌-◌, ◌*◌, ◌<◌, ◌≤◌, Bool, true, false, List, [], ◌∷◌, ◌++◌, length, get_or, take, drop, set, ℤ, sym, ap, ◌∙◌, ap₂, add-zero, add-mul, one-mul, add-one, arith}
use Rattle.std.proofs.lemmas.List.{length-append, length-set, length-drop, length-take-le, take_more, take_all, set_at, drop-append-le}
use Rattle.fault.specs.Limits.{columns}
use Rattle.store.specs.Meaning.{Row, Table, no_table, last_table, has, cells_left, repeats}
use Rattle.store.specs.Sound.{sound_table, sound_tables}
use Rattle.store.proofs.Cases.{grown}
use Rattle.directory.specs.Run.{chunk, extent_of, extent, table_of, decode, laid}
use Rattle.directory.specs.declared.entry.Entry.{Entry}
use Rattle.directory.proofs.Decoding.{decode_append, decode_front, extent_append, length_decode, chunk_more, table_at, used_decode}
use Rattle.store.proofs.Soundness.{good, sound_at, sound_set, sound_grown}
use Rattle.directory.proofs.Keeping.{Held}

-- an entry of a sound directory has a good width
pub entry_good : (es : List Entry) (cs : List ℤ) (t : ℕ) (e : Entry) → sound_tables (decode es cs) ≡ true → t < length es → e ≡ get_or es t e → (1 ≤ e.width) × (e.width ≤ columns)
entry_good es cs t e h l is =
    let g = good (get_or (decode es cs) t no_table) (sound_at (decode es cs) t (omega (arith, length_decode es cs)) h) in
    let w : e.width ≡ (get_or (decode es cs) t no_table).width = ap (λ x. x.width) (table_at es cs t e l is) in
    (omega (arith, w, g.low), omega (arith, w, g.high))

module _ (es : List Entry) (e : Entry) (some : 0 < length es) (is : e ≡ get_or es (length es - 1) e) where
  -- the directory is its front and its last entry
  pub last_split : es ≡ take (length es - 1) es ++ e ∷ []
  last_split =
      let n : ℕ = length es - 1 in
      let up : n + 1 ≡ length es = omega arith in
      let all : take (n + 1) es ≡ es = take_all (n + 1) es (omega arith) in
      sym all ∙ take_more es n e (omega arith) ∙ ap (λ x. take n es ++ x ∷ []) (sym is)

  -- so are its cells
  pub last_extent : extent es ≡ extent (take (length es - 1) es) + extent_of e
  last_extent =
      ap extent last_split ∙ extent_append (take (length es - 1) es) (e ∷ []) ∙ ap (λ n. extent (take (length es - 1) es) + n) (add-zero (extent_of e))

  module _ (cs : List ℤ) (full : extent es ≡ length cs) where
    -- where the last table begins
    pub last_from : length cs - extent_of e ≡ extent (take (length es - 1) es)
    last_from = omega (arith, last_extent)

    -- what the last entry and the cells from there on stand for
    pub last_is : (c : ℕ) → table_of e (drop (length cs - extent_of e) cs) ≡ last_table (laid c es cs)
    last_is c =
        let n : length (decode es cs) - 1 ≡ length es - 1 = omega (arith, length_decode es cs) in
        ap (λ k. table_of e (drop k cs)) last_from ∙ table_at es cs (length es - 1) e (omega arith) is ∙ ap (λ k. get_or (decode es cs) k no_table) (sym n)

    -- the run ends with it
    pub last_length : length (drop (length cs - extent_of e) cs) ≡ e.count * e.width
    last_length = omega (arith, last_extent, length-drop (length cs - extent_of e) cs)

    -- its width
    pub last_width : (c : ℕ) → e.width ≡ (last_table (laid c es cs)).width
    last_width c = ap (λ t. t.width) (last_is c)

    pub left_cells : (c : ℕ) → cells_left (laid c es cs) ≡ c - length cs
    left_cells c = ap (λ n. c - n) (used_decode es cs ∙ full)

    -- what the search over the last table's cells found, with its arguments as the code has them
    pub found : (c : ℕ) (row : Row) (ds : List ℤ) (from : ℕ) (r : Bool) → e.width ≤ length row → ds ≡ cs → from ≡ extent (take (length es - 1) es) → r ≡ has (chunk e.count (length (take e.width row)) (drop from ds)) (take e.width row) → (has (chunk e.count e.width (drop (length cs - extent_of e) cs)) (take e.width row) ≡ r) × (repeats (laid c es cs) row ≡ r)
    found c row ds from r w is-ds is-from h =
        let here : has (chunk e.count e.width (drop (length cs - extent_of e) cs)) (take e.width row) ≡ r =
        sym (h ∙ ap (λ m. has (chunk e.count m (drop from ds)) (take e.width row)) (length-take-le e.width row w) ∙ ap₂ (λ m x. has (chunk e.count e.width (drop m x)) (take e.width row)) (is-from ∙ sym last_from) is-ds) in
        (here, sym (ap (λ t. has t.rows (take t.width row)) (last_is c)) ∙ here)

    module _ (row : Row) (wide_row : length row ≡ e.width) where
      -- the entry with a row more; it may have moved
      abbrev pub after : ℕ → Entry
      after f = record { first = f; width = e.width; count = e.count + 1 }

      -- with the row at the end of the run it stands for the table with a row more
      pub decode_add : (f : ℕ) → decode (set es (length es - 1) (after f)) (cs ++ row) ≡ set (decode es cs) (length (decode es cs) - 1) (grown (table_of e (drop (length cs - extent_of e) cs)) row)
      decode_add f =
          let front : List Entry = take (length es - 1) es in
          let from : ℕ = length cs - extent_of e in
          let n : length front ≡ length es - 1 = length-take-le (length es - 1) es (omega arith) in
          let m : length (decode front cs) ≡ length (decode es cs) - 1 = omega (arith, length_decode front cs, length_decode es cs) in
          let here : set es (length es - 1) (after f) ≡ front ++ after f ∷ [] = ap (λ x. set x (length es - 1) (after f)) last_split ∙ set_at front e [] (after f) (length es - 1) n in
          let low : extent front ≤ length cs = omega (arith, last_extent) in
          let rest : drop (extent front) (cs ++ row) ≡ drop from cs ++ row = drop-append-le (extent front) cs row low ∙ ap (λ k. drop k cs ++ row) (sym last_from) in
          let rows : chunk (e.count + 1) e.width (drop from cs ++ row) ≡ chunk e.count e.width (drop from cs) ++ row ∷ [] = ap (λ k. chunk k e.width (drop from cs ++ row)) (add-one e.count) ∙ chunk_more e.count e.width (drop from cs) row last_length wide_row in
          let new : decode (front ++ after f ∷ []) (cs ++ row) ≡ decode front cs ++ grown (table_of e (drop from cs)) row ∷ [] =
          decode_append front (after f ∷ []) (cs ++ row) ∙ ap₂ ◌++◌ (decode_front front cs row low) (ap (λ x. table_of (after f) x ∷ []) rest ∙ ap (λ x. record { width = e.width; rows = x } ∷ []) rows) in
          let old : decode es cs ≡ decode front cs ++ table_of e (drop from cs) ∷ [] =
          ap (λ x. decode x cs) last_split ∙ decode_append front (e ∷ []) cs ∙ ap (λ k. decode front cs ++ table_of e (drop k cs) ∷ []) (sym last_from) in
          ap (λ x. decode x (cs ++ row)) here ∙ new ∙ sym (ap (λ x. set x (length (decode es cs) - 1) (grown (table_of e (drop from cs)) row)) old ∙ set_at (decode front cs) (table_of e (drop from cs)) [] (grown (table_of e (drop from cs)) row) (length (decode es cs) - 1) m)

      -- and the run is as long as the entries say
      pub extent_add : (f : ℕ) → extent (set es (length es - 1) (after f)) ≡ length (cs ++ row)
      extent_add f =
          let front : List Entry = take (length es - 1) es in
          let n : length front ≡ length es - 1 = length-take-le (length es - 1) es (omega arith) in
          let here : set es (length es - 1) (after f) ≡ front ++ after f ∷ [] = ap (λ x. set x (length es - 1) (after f)) last_split ∙ set_at front e [] (after f) (length es - 1) n in
          omega (arith, ap extent here, extent_append front (after f ∷ []), last_extent, length-append cs row, add-mul e.count 1 e.width, one-mul e.width)

pub held_add : {c : ℕ} {es : List Entry} {cs : List ℤ} (e : Entry) (f : ℕ) (row : Row) (fs : List Entry) (ds : List ℤ) → Held c es cs → 0 < length es → e ≡ get_or es (length es - 1) e → length row ≡ e.width → has (chunk e.count e.width (drop (length cs - extent_of e) cs)) row ≡ false → length cs + e.width ≤ c → fs ≡ set es (length es - 1) (record { first = f; width = e.width; count = e.count + 1 }) → ds ≡ cs ++ row → Held c fs ds
held_add {c} {es} {cs} e f row fs ds h some is wr new fit fis dis =
    let t : Table = table_of e (drop (length cs - extent_of e) cs) in
    let last = last_is es e some is cs h.full c in
    let sound-last = ap sound_table last ∙ sound_at (decode es cs) (length (decode es cs) - 1) (omega (arith, length_decode es cs)) h.sound in
    record {
      sound = ap₂ (λ x y. sound_tables (decode x y)) fis dis ∙ ap sound_tables (decode_add es e some is cs h.full row wr f) ∙ sound_set (decode es cs) (length (decode es cs) - 1) (grown t row) (sound_grown t row sound-last wr new) h.sound;
      full = ap extent fis ∙ extent_add es e some is cs h.full row wr f ∙ ap length (sym dis);
      within = omega (arith, ap length dis, length-append cs row);
      small = h.small;
      few = omega (arith, ap length fis, length-set es (length es - 1) (record { first = f; width = e.width; count = e.count + 1 }), h.few);
    }
