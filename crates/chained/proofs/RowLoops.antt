-- Loops along a chain: comparing a row, searching for one, writing one. And what a search answers.
use Rattle.std.proofs.Common.{◌≡◌, ℕ, suc, ◌+◌, ◌-◌, ◌*◌, ◌<◌, ◌≤◌, Bool, true, false, ◌&&◌, ◌||◌, Some, None, List, [], ◌∷◌, ◌++◌, length, get_or, take, drop, set, ℤ, pos, sym, refl, ap, ◌∙◌, ap₂, add-mul, one-mul, arith}
use Rattle.std.proofs.lemmas.List.{drop_more, drop_all, take_more, take_at, drop_at, length-take-le}
use Rattle.store.specs.Meaning.{same_cell, same_row, has}
use Rattle.directory.specs.Run.{chunk}
use Rattle.chained.specs.Chains.{walk, step, gather, under, put, searched}
use Rattle.chained.proofs.Walks.{walk_next, walk_add, step_add, length_walk, length_gather, gather_append}
use Rattle.chained.proofs.Writing.{under_append, put_more}
use Rattle.store.proofs.Rows.{same_cell_refl, same_cell_true}

by_same : (b : Bool) → (b ≡ true → ⊥) → b ≡ false
by_same true h = absurd (h refl)
by_same false h = refl

reads_step : (cs row : List ℤ) (ns : List ℕ) (i at : ℕ) → i < length row → same_row (gather cs (walk ns (length row - i) at)) (drop i row) ≡ (same_cell (get_or cs at (pos 0)) (get_or row i (pos 0)) && same_row (gather cs (walk ns (length row - (i + 1)) (get_or ns at 0))) (drop (i + 1) row))
reads_step cs row ns i at l = ap₂ (λ is xs. same_row (gather cs is) xs) (walk_next ns (length row) i at l) (drop_more row i (pos 0) l)

-- a cell that differs: the rows do
pub reads_other : (cs row : List ℤ) (ns : List ℕ) (i at : ℕ) → i < length row → (get_or cs at (pos 0) ≡ get_or row i (pos 0) → ⊥) → same_row (gather cs (walk ns (length row - i) at)) (drop i row) ≡ false
reads_other cs row ns i at l ne =
    reads_step cs row ns i at l ∙ ap (λ b. b && same_row (gather cs (walk ns (length row - (i + 1)) (get_or ns at 0))) (drop (i + 1) row)) (by_same (same_cell (get_or cs at (pos 0)) (get_or row i (pos 0))) (λ e. ne (same_cell_true _ _ e)))

-- a cell that is the same: the rest decides
pub reads_same : (cs row : List ℤ) (ns : List ℕ) (i at : ℕ) → i < length row → get_or cs at (pos 0) ≡ get_or row i (pos 0) → same_row (gather cs (walk ns (length row - i) at)) (drop i row) ≡ same_row (gather cs (walk ns (length row - (i + 1)) (get_or ns at 0))) (drop (i + 1) row)
reads_same cs row ns i at l eq =
    let same : same_cell (get_or cs at (pos 0)) (get_or row i (pos 0)) ≡ true = ap (λ x. same_cell x (get_or row i (pos 0))) eq ∙ same_cell_refl (get_or row i (pos 0)) in
    reads_step cs row ns i at l ∙ ap (λ b. b && same_row (gather cs (walk ns (length row - (i + 1)) (get_or ns at 0))) (drop (i + 1) row)) same

-- no cell is left to differ
pub reads_end : (cs row : List ℤ) (ns : List ℕ) (i at : ℕ) → length row ≤ i → same_row (gather cs (walk ns (length row - i) at)) (drop i row) ≡ true
reads_end cs row ns i at l =
    let z : length row - i ≡ 0 = omega arith in
    ap₂ (λ n xs. same_row (gather cs (walk ns n at)) xs) z (drop_all i row l)

-- a row of the search
rows_next : (ns : List ℕ) (count k w at : ℕ) → k < count → walk ns ((count - k) * w) at ≡ walk ns w at ++ walk ns ((count - (k + 1)) * w) (step ns w at)
rows_next ns count k w at l =
    let m : ℕ = count - (k + 1) in
    let e : count - k ≡ m + 1 = omega arith in
    let n : (count - k) * w ≡ w + m * w = ap (λ x. x * w) e ∙ add-mul m 1 w ∙ omega (arith, one-mul w) in
    ap (λ x. walk ns x at) n ∙ walk_add ns w (m * w) at

-- the rows from number k on: row k, or one of those after it
pub holds_step : (cs row : List ℤ) (ns : List ℕ) (count k w at : ℕ) → k < count → has (chunk (count - k) w (gather cs (walk ns ((count - k) * w) at))) row ≡ (same_row (gather cs (walk ns w at)) row || has (chunk (count - (k + 1)) w (gather cs (walk ns ((count - (k + 1)) * w) (step ns w at)))) row)
holds_step cs row ns count k w at l =
    let m : ℕ = count - (k + 1) in
    let e : count - k ≡ suc m = omega arith in
    let X : List ℤ = gather cs (walk ns w at) in
    let Y : List ℤ = gather cs (walk ns (m * w) (step ns w at)) in
    let cut : gather cs (walk ns ((count - k) * w) at) ≡ X ++ Y = ap (gather cs) (rows_next ns count k w at l) ∙ gather_append cs (walk ns w at) (walk ns (m * w) (step ns w at)) in
    let long : length X ≡ w = length_gather cs (walk ns w at) ∙ length_walk ns w at in
    ap₂ (λ n xs. has (chunk n w xs) row) e cut ∙ ap₂ (λ x y. same_row x row || has (chunk m w y) row) (take_at X Y w long) (drop_at X Y w long)

-- row k and the rows after it are within the cells
pub holds_under : (u : ℕ) (ns : List ℕ) (count k w at : ℕ) → k < count → under u (walk ns ((count - k) * w) at) ≡ true → (under u (walk ns w at) ≡ true) × (under u (walk ns ((count - (k + 1)) * w) (step ns w at)) ≡ true)
holds_under u ns count k w at l h =
    under_append u (walk ns w at) (walk ns ((count - (k + 1)) * w) (step ns w at)) (ap (under u) (sym (rows_next ns count k w at l)) ∙ h)

-- a cell of the row that is written
pub write_step : (cs ds row : List ℤ) (ns : List ℕ) (i at from : ℕ) (x : ℤ) → i < length row → at ≡ step ns i from → ds ≡ put cs (walk ns i from) (take i row) → x ≡ get_or row i (pos 0) → (get_or ns at 0 ≡ step ns (i + 1) from) × (set ds at x ≡ put cs (walk ns (i + 1) from) (take (i + 1) row))
write_step cs ds row ns i at from x l is ds_is x-is =
    let more : walk ns (i + 1) from ≡ walk ns i from ++ at ∷ [] = walk_add ns i 1 from ∙ ap (λ p. walk ns i from ++ p ∷ []) (sym is) in
    let longer : take (i + 1) row ≡ take i row ++ x ∷ [] = take_more row i (pos 0) l ∙ ap (λ y. take i row ++ y ∷ []) (sym x-is) in
    (ap (λ p. get_or ns p 0) is ∙ sym (step_add ns i 1 from), ap (λ y. set y at x) ds_is ∙ sym (put_more cs (walk ns i from) (take i row) at x (length-take-le i row (omega arith) ∙ sym (length_walk ns i from))) ∙ ap₂ (put cs) (sym more) (sym longer))

-- one of two is enough
pub by_or : (b d : Bool) → b ≡ true → (b || d) ≡ true
by_or b d h = ap (λ x. x || d) h

-- one turn of the search that found nothing, with at' the place after the row
pub holds_again : (cs row : List ℤ) (ns : List ℕ) (count k w at at' u : ℕ) (r whole : Bool) → k < count → r ≡ same_row (gather cs (walk ns w at)) row → r ≡ false → at' ≡ step ns w at → has (chunk (count - k) w (gather cs (walk ns ((count - k) * w) at))) row ≡ whole → under u (walk ns ((count - k) * w) at) ≡ true → (has (chunk (count - (k + 1)) w (gather cs (walk ns ((count - (k + 1)) * w) at'))) row ≡ whole) × (under u (walk ns ((count - (k + 1)) * w) at') ≡ true)
holds_again cs row ns count k w at at' u r whole l is miss next inv un =
    let m : ℕ = count - (k + 1) in
    (ap (λ p. has (chunk m w (gather cs (walk ns (m * w) p))) row) next ∙ sym (holds_step cs row ns count k w at l ∙ ap (λ b. b || has (chunk m w (gather cs (walk ns (m * w) (step ns w at)))) row) (sym is ∙ miss)) ∙ inv, ap (λ p. under u (walk ns (m * w) p)) next ∙ (holds_under u ns count k w at l un).1)

-- no row is left to be equal
pub holds_end : (cs row : List ℤ) (ns : List ℕ) (count k w at : ℕ) → count ≤ k → has (chunk (count - k) w (gather cs (walk ns ((count - k) * w) at))) row ≡ false
holds_end cs row ns count k w at l =
    let z : count - k ≡ 0 = omega arith in
    ap (λ n. has (chunk n w (gather cs (walk ns (n * w) at))) row) z

-- the last cell of row k, and where the chain goes on after it
pub row_end : (ns : List ℕ) (k w at last from : ℕ) → 1 ≤ w → at ≡ step ns (k * w) from → last ≡ step ns (w - 1) at → (last ≡ step ns ((k + 1) * w - 1) from) × (get_or ns last 0 ≡ step ns w at) × (get_or ns last 0 ≡ step ns ((k + 1) * w) from)
row_end ns k w at last from wide at_is last_is =
    let whole : (k + 1) * w ≡ k * w + w = add-mul k 1 w ∙ ap (λ n. k * w + n) (one-mul w) in
    let short : (k + 1) * w - 1 ≡ k * w + (w - 1) = omega (arith, whole, wide) in
    let more : w ≡ (w - 1) + 1 = omega (arith, wide) in
    let next : get_or ns last 0 ≡ step ns w at = ap (λ i. get_or ns i 0) last_is ∙ sym (ap (λ n. step ns n at) more ∙ step_add ns (w - 1) 1 at) in
    (last_is ∙ ap (step ns (w - 1)) at_is ∙ sym (ap (λ n. step ns n from) short ∙ step_add ns (k * w) (w - 1) from), next, next ∙ ap (step ns w) at_is ∙ sym (ap (λ n. step ns n from) whole ∙ step_add ns (k * w) w from))

-- What a search answers.

-- the row stood there
pub search_found : (b : Bool) (last : ℕ) → b ≡ true → None ≡ searched b last
search_found b last is = ap (λ x. searched x last) (sym is)

-- it did not
pub search_missed : (b : Bool) (last at : ℕ) → b ≡ false → at ≡ last → Some at ≡ searched b last
search_missed b last at is at_is = ap Some at_is ∙ ap (λ x. searched x last) (sym is)

-- nothing answered: the row stands there
pub found_by : (b : Bool) (last : ℕ) → None ≡ searched b last → true ≡ b
found_by true last is = refl
found_by false last is = absurd (clash is)
  where
    clash : None ≡ Some last → ⊥
    clash e = cc

-- a cell answered: it does not, and this is the last cell
pub missed_by : (b : Bool) (last at : ℕ) → Some at ≡ searched b last → (false ≡ b) × (at ≡ last)
missed_by true last at is = absurd (clash is)
  where
    clash : Some at ≡ None → ⊥
    clash e = cc
missed_by false last at is = (refl, same is)
  where
    same : Some at ≡ Some last → at ≡ last
    same e = cc
