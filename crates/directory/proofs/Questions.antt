-- The questions, answered from an entry, and the soundness of what a directory stands for.
use Rattle.std.proofs.Common.{◌≡◌, ℕ, ◌+◌, ◌-◌, ◌*◌, ◌<◌, ◌≤◌, ◌⊎◌, List, [], length, get_or, take, drop, ℤ, pos, Ok, Err, sym, ap, ◌∙◌, inl, inr, ⊎_elim, arith}
use Rattle.fault.specs.declared.rules.Rule.TheVariants.{NoSuchPlace}
use Rattle.store.specs.Meaning.{cells_left, table_count, refused_by, width_reply, rows_reply, cell_reply}
use Rattle.store.specs.Sound.{Sound}
use Rattle.store.proofs.Cases.{width_absent, width_told, rows_absent, rows_told, cell_absent, cell_told}
use Rattle.directory.specs.Run.{extent, decode, laid}
use Rattle.directory.specs.declared.entry.Entry.{Entry}
use Rattle.directory.proofs.Decoding.{length_decode, used_decode, length_chunk, table_at, cell_of}
use Rattle.directory.proofs.Keeping.{Held}

module _ (c : ℕ) (es : List Entry) (cs : List ℤ) where
  pub count_told : length es ≡ table_count (laid c es cs)
  count_told = sym (length_decode es cs)

  -- what the entries do not use is left
  pub left_told : (u : ℕ) → u ≡ extent es → c - u ≡ cells_left (laid c es cs)
  left_told u is = ap (λ n. c - n) (is ∙ sym (used_decode es cs))

  pub laid_sound : Held c es cs → Sound (laid c es cs)
  laid_sound h =
      record {
        small = h.small;
        within = omega (arith, used_decode es cs, h.full, h.within);
        few = omega (arith, length_decode es cs, h.few);
        right = h.sound;
      }

  module _ (t : ℕ) where
    -- no entry has this number
    pub width_refused : length es ≤ t → Err (refused_by NoSuchPlace) ≡ width_reply (laid c es cs) t
    width_refused l = width_absent (laid c es cs) t (omega (arith, length_decode es cs))

    pub rows_refused : length es ≤ t → Err (refused_by NoSuchPlace) ≡ rows_reply (laid c es cs) t
    rows_refused l = rows_absent (laid c es cs) t (omega (arith, length_decode es cs))

    pub cell_refused : (r k : ℕ) → length es ≤ t → Err (refused_by NoSuchPlace) ≡ cell_reply (laid c es cs) t r k
    cell_refused r k l = cell_absent (laid c es cs) t r k (inl (omega (arith, length_decode es cs)))

    -- the entry of the table
    module _ (e : Entry) (here : t < length es) (is : e ≡ get_or es t e) where
      pub width_answered : Ok e.width ≡ width_reply (laid c es cs) t
      width_answered = ap (λ x. Ok x.width) (table_at es cs t e here is) ∙ width_told (laid c es cs) t (omega (arith, length_decode es cs))

      -- as many rows as the entry says
      rows_long : e.count ≡ length (get_or (decode es cs) t (record { width = 0; rows = [] })).rows
      rows_long = sym (length_chunk e.count e.width (drop (extent (take t es)) cs)) ∙ ap (λ x. length x.rows) (table_at es cs t e here is)

      pub rows_answered : Ok e.count ≡ rows_reply (laid c es cs) t
      rows_answered = ap Ok rows_long ∙ rows_told (laid c es cs) t (omega (arith, length_decode es cs))

      -- a row or a column that the entry does not have
      pub cell_outside : (r k : ℕ) → (e.count ≤ r) ⊎ (e.width ≤ k) → Err (refused_by NoSuchPlace) ≡ cell_reply (laid c es cs) t r k
      cell_outside r k h =
          cell_absent (laid c es cs) t r k (inr (⊎_elim (λ p. inl (omega (arith, rows_long))) (λ p. inr (omega (arith, ap (λ x. x.width) (table_at es cs t e here is)))) h))

      -- the cell at its place in the run
      pub cell_answered : (r k : ℕ) (x : ℤ) → r < e.count → k < e.width → x ≡ get_or cs (extent (take t es) + r * e.width + k) (pos 0) → Ok x ≡ cell_reply (laid c es cs) t r k
      cell_answered r k x l m read =
          ap Ok (read ∙ cell_of e cs (extent (take t es)) r k (pos 0) l m ∙ ap (λ y. get_or (get_or y.rows r []) k (pos 0)) (table_at es cs t e here is)) ∙ cell_told (laid c es cs) t r k (omega (arith, length_decode es cs)) (omega (arith, rows_long)) (omega (arith, ap (λ y. y.width) (table_at es cs t e here is)))
