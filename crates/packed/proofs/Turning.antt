-- How settling moves cells: two rotations and a cut.
use Rattle.std.proofs.Common.{◌≡◌, ℕ, ◌+◌, ◌-◌, ◌<◌, ◌≤◌, true, List, [], ◌++◌, length, get_or, take, drop, set, ℤ, sym, ap, ◌∙◌, ap₂, arith}
use Rattle.std.specs.List.{swap_remove}
use borrow.Rule.Slice.PartMut.{put_mid}
use Rattle.std.proofs.lemmas.List.{append-nil, length-append, length-drop, take_at, drop_at, take_all, drop_all}
use Rattle.fault.specs.Limits.{cells}
use Rattle.store.specs.Meaning.{last_table, last_place}
use Rattle.store.specs.Sound.{sound_tables}
use Rattle.directory.specs.Run.{extent_of, extent, decode, laid}
use Rattle.directory.specs.declared.entry.Entry.{Entry}
use Rattle.directory.proofs.Keeping.{Held}
use Rattle.directory.proofs.Settling.{Split, split, cells_after, cut_after, decode_settle, held_settle, settled_entries}
use Rattle.directory.specs.Starts.{starts, restarted}
use Rattle.directory.proofs.Restarting.{decode_restarted, extent_restarted, length_restarted, starts_restarted}
use Rattle.packed.proofs.Beginnings.{begins_at}

-- a rotation of what stands from `from` on
pub swapped : (cs ys front a b : List ℤ) (from k : ℕ) → cs ≡ front ++ (a ++ b) → length front ≡ from → length a ≡ k → ys ≡ drop k (take (length cs - from) (drop from cs)) ++ take k (take (length cs - from) (drop from cs)) → put_mid from (length cs - from) cs ys ≡ front ++ (b ++ a)
swapped cs ys front a b from k is f l h =
    let rest : drop from cs ≡ a ++ b = ap (drop from) is ∙ drop_at front (a ++ b) from f in
    let long : length (a ++ b) ≡ length cs - from = omega (arith, ap length rest, length-drop from cs) in
    let part : take (length cs - from) (drop from cs) ≡ a ++ b = ap (take (length cs - from)) rest ∙ take_all (length cs - from) (a ++ b) (omega arith) in
    let new : ys ≡ b ++ a = h ∙ ap (λ x. drop k x ++ take k x) part ∙ ap₂ ◌++◌ (drop_at a b k l) (take_at a b k l) in
    let low : take from cs ≡ front = ap (take from) is ∙ take_at front (a ++ b) from f in
    let none_cells_left : drop (length cs - from) (drop from cs) ≡ [] = drop_all (length cs - from) (drop from cs) (omega (arith, length-drop from cs)) in
    ap₂ ◌++◌ low (ap₂ ◌++◌ new none_cells_left ∙ append-nil (b ++ a))

-- What the code of `settle` has in hand, as plain facts: the cells as a slice, `ws` what the two rotations left there.
module _ (es : List Entry) (cs : List ℤ) (n g l : ℕ) (old last : Entry) (slice ws : List ℤ)
    (lt : n + 1 < length es) (old_is : old ≡ get_or es n old) (last_is : last ≡ get_or es (length es - 1) last)
    (full : extent es ≡ length cs) (begun : starts 0 es ≡ true) (slice_is : slice ≡ cs)
    (g_is : g ≡ extent_of old) (l_is : l ≡ extent_of last) where
  the_split : Split es cs n old last
  the_split = split es cs n old last lt old_is last_is full

  the_lengths : (p : Split es cs n old last) → length cs ≡ length p.front + (length p.gone + (length p.middle + length p.moved))
  the_lengths p =
      ap length p.cells ∙ length-append p.front (p.gone ++ (p.middle ++ p.moved)) ∙ ap (λ i. length p.front + i) (length-append p.gone (p.middle ++ p.moved) ∙ ap (λ i. length p.gone + i) (length-append p.middle p.moved))

  the_from : (p : Split es cs n old last) → old.first ≡ length p.front
  the_from p = begins_at es n old begun (omega arith) old_is ∙ ap extent (sym p.begins) ∙ p.fits_front

  -- the cells that go are among those there
  pub settle_kept : g ≤ length cs
  settle_kept = go the_split
    where
      go : Split es cs n old last → g ≤ length cs
      go p = omega (arith, the_lengths p, p.fits_gone)

  -- both tables lie within the slice
  pub settle_fits : old.first + g + l ≤ length slice
  settle_fits = go the_split
    where
      go : Split es cs n old last → old.first + g + l ≤ length slice
      go p = omega (arith, the_lengths p, the_from p, p.fits_gone, p.fits_moved, ap length slice_is)

  module _ (turn : (front gone middle moved : List ℤ) → slice ≡ front ++ (gone ++ (middle ++ moved)) → length front ≡ old.first → length gone ≡ g → length moved ≡ l → ws ≡ front ++ (moved ++ (middle ++ gone)))
      (fs : List Entry) (ds : List ℤ) (k v : ℕ) (k_is : k ≡ length cs - g) (v_is : v ≡ length cs)
      (fs_is : fs ≡ swap_remove es n old) (ds_is : ds ≡ take k (take v (ws ++ drop (length ws) cs))) where
    the_turn : (p : Split es cs n old last) → ws ≡ p.front ++ (p.moved ++ (p.middle ++ p.gone))
    the_turn p = turn p.front p.gone p.middle p.moved (slice_is ∙ p.cells) (sym (the_from p)) (sym (g_is ∙ p.fits_gone)) (sym (l_is ∙ p.fits_moved))

    the_cells : (p : Split es cs n old last) → ds ≡ cells_after p
    the_cells p =
        let long : length ws ≡ v = ap length (the_turn p) ∙ omega (arith, the_lengths p, length-append p.front (p.moved ++ (p.middle ++ p.gone)), length-append p.moved (p.middle ++ p.gone), length-append p.middle p.gone) in
        ds_is ∙ ap (take k) (take_at ws (drop (length ws) cs) v long) ∙ cut_after p ws k (the_turn p) (k_is ∙ ap (λ i. length cs - i) g_is)

    the_entries : fs ≡ set (take (length es - 1) es) n last
    the_entries = fs_is ∙ settled_entries es n old last lt last_is

    the_held : {c : ℕ} → Held c es cs → Held c fs ds
    the_held {c} h = go the_split
      where
        go : Split es cs n old last → Held c fs ds
        go p = held_settle p fs ds h (omega arith) the_entries (the_cells p)

    pub settle_small : {c : ℕ} → Held c es cs → extent fs ≤ cells
    settle_small h = let h₂ = the_held h in omega (arith, h₂.full, h₂.within, h₂.small)

    -- then the directory learns where its tables begin: `now` is what that left of it
    module _ (now : List Entry) (now_is : now ≡ restarted 0 fs) where
      pub settle_decodes : (c : ℕ) → decode now ds ≡ set (take (last_place (laid c es cs)) (decode es cs)) n (last_table (laid c es cs))
      settle_decodes c = go the_split
        where
          go : Split es cs n old last → decode now ds ≡ set (take (last_place (laid c es cs)) (decode es cs)) n (last_table (laid c es cs))
          go p = ap (λ x. decode x ds) now_is ∙ decode_restarted 0 fs ds ∙ ap₂ decode the_entries (the_cells p) ∙ decode_settle p c

      pub settle_held : {c : ℕ} → Held c es cs → Held c now ds
      settle_held h =
          let h₂ = the_held h in
          record {
            sound = ap (λ x. sound_tables (decode x ds)) now_is ∙ ap sound_tables (decode_restarted 0 fs ds) ∙ h₂.sound;
            full = ap extent now_is ∙ extent_restarted 0 fs ∙ h₂.full;
            within = h₂.within;
            small = h₂.small;
            few = omega (arith, ap length now_is, length_restarted 0 fs, h₂.few);
          }

      pub settle_begun : starts 0 now ≡ true
      settle_begun = ap (starts 0) now_is ∙ starts_restarted 0 fs
