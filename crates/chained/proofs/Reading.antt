-- A cell of a table, by its place on the table's own chain.
use Rattle.std.proofs.Common.{◌≡◌, ℕ, ◌+◌, ◌-◌, ◌*◌, ◌<◌, true, List, ◌∷◌, ◌++◌, length, get_or, take, drop, ℤ, pos, sym, ap, ◌∙◌, subst, ap₂, mul_comm, arith}
use Rattle.std.proofs.lemmas.Nat.{mul-add-lt}
use Rattle.std.proofs.lemmas.List.{take-append-drop, drop_more, get_or-append-add, get_or_append_left, get_or-map}
use Rattle.directory.specs.Run.{extent, extent_of}
use Rattle.directory.specs.declared.entry.Entry.{Entry}
use Rattle.chained.specs.Chains.{walk, step, places, gather, run, under}
use Rattle.chained.proofs.Walks.{length_walk, length_gather, gather_append, get_d_walk, step_under}
use Rattle.chained.proofs.Writing.{under_append}
use Rattle.chained.proofs.Joining.{places_append, length_places, under_front}
use Rattle.chained.proofs.Keeping.{Kept}

-- e is entry t
module _ {c u f : ℕ} {es : List Entry} {cs : List ℤ} {ns : List ℕ} (k : Kept c u f es cs ns) (t : ℕ) (e : Entry) (here : t < length es) (is : e ≡ get_or es t e) where
  abbrev X : List ℕ
  X = places ns (take t es)

  abbrev E : List ℕ
  E = walk ns (extent_of e) e.first

  abbrev Y : List ℕ
  Y = places ns (drop (t + 1) es)

  cells_are : places ns es ≡ X ++ (E ++ Y)
  cells_are =
      ap (places ns) (sym (take-append-drop t es) ∙ ap (λ x. take t es ++ x) (drop_more es t e here ∙ ap (λ x. x ∷ drop (t + 1) es) (sym is))) ∙ places_append ns (take t es) (e ∷ drop (t + 1) es)

  chain_inside : under c E ≡ true
  chain_inside = (under_append c E Y (under_append c X (E ++ Y) (ap (under c) (sym cells_are) ∙ (under_append c (places ns es) (walk ns (c - u) f) k.inside).0)).1).0

  module _ (r j : ℕ) (row : r < e.count) (column : j < e.width) where
    pub cell_place : r * e.width + j < extent_of e
    cell_place = omega (arith, mul-add-lt r e.width j e.count row column, mul_comm e.width e.count)

    -- the walk to it stays within the cells
    pub cell_walk : (ms : List ℕ) → ms ≡ ns → under (length ms) (walk ms (r * e.width + j) e.first) ≡ true
    cell_walk ms ms_is =
        ap (λ x. under (length x) (walk x (r * e.width + j) e.first)) ms_is ∙ ap (λ n. under n (walk ns (r * e.width + j) e.first)) k.linked ∙ under_front c ns (r * e.width + j) (extent_of e) e.first (omega (arith, cell_place)) chain_inside

    -- and ends at one
    pub cell_low : (ms : List ℕ) (at : ℕ) → ms ≡ ns → at ≡ step ms (r * e.width + j) e.first → at < length cs
    cell_low ms at ms_is at_is =
        subst (λ x. x < length cs) (sym (at_is ∙ ap (λ x. step x (r * e.width + j) e.first) ms_is)) (subst (λ n. step ns (r * e.width + j) e.first < n) (sym k.room) (step_under c ns (extent_of e) (r * e.width + j) e.first cell_place chain_inside))

    -- which holds what the run has there
    pub cell_read : (ms : List ℕ) (at : ℕ) → ms ≡ ns → at ≡ step ms (r * e.width + j) e.first → get_or cs at (pos 0) ≡ get_or (run es cs ns) (extent (take t es) + r * e.width + j) (pos 0)
    cell_read ms at ms_is at_is =
        let p : ℕ = r * e.width + j in
        let front : length (gather cs X) ≡ extent (take t es) = length_gather cs X ∙ length_places ns (take t es) in
        let long : length (gather cs E) ≡ extent_of e = length_gather cs E ∙ length_walk ns (extent_of e) e.first in
        let all : run es cs ns ≡ gather cs X ++ (gather cs E ++ gather cs Y) = ap (gather cs) cells_are ∙ gather_append cs X (E ++ Y) ∙ ap (λ x. gather cs X ++ x) (gather_append cs E Y) in
        let place : extent (take t es) + r * e.width + j ≡ length (gather cs X) + p = omega (arith, front) in
        let one : get_or (gather cs E) p (pos 0) ≡ get_or cs (step ns p e.first) (pos 0) = get_or-map (λ i. get_or cs i (pos 0)) E p 0 (pos 0) (omega (arith, length_walk ns (extent_of e) e.first, cell_place)) ∙ ap (λ i. get_or cs i (pos 0)) (get_d_walk ns (extent_of e) p e.first 0 cell_place) in
        ap (λ i. get_or cs i (pos 0)) (at_is ∙ ap (λ x. step x p e.first) ms_is) ∙ sym (ap₂ (λ x n. get_or x n (pos 0)) all place ∙ get_or-append-add (gather cs X) (gather cs E ++ gather cs Y) p (pos 0) ∙ get_or_append_left (gather cs E) (gather cs Y) (pos 0) p (omega (arith, long, cell_place)) ∙ one)
