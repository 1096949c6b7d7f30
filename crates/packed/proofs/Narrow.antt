-- Rows that are compared by their first cell, and narrow rows that are compared as arrays.
use Rattle.std.proofs.Common.{◌≡◌, ℕ, zero, suc, ◌+◌, ◌-◌, ◌*◌, ◌/◌, ◌<◌, Bool, true, false, ◌&&◌, ◌||◌, int_eq, List, [], ◌∷◌, length, take, drop, ℤ, pos, slice_index_or, drop-cons, refl, sym, ap, ap₂, ◌∙◌, arith}
use Rattle.std.specs.Cmp.Lexicographic.{pointwise}
use Rattle.std.proofs.Math.Nat.{mul-div_cancel}
use Rattle.std.specs.List.{list_any}
use Rattle.std.specs.Simd.{first_chunks}
use Rattle.std.proofs.lemmas.List.{take_all}
use Rattle.std.proofs.lemmas.Slice.Eq.{slice_eq-Decides}
use Rattle.std.proofs.lemmas.Bool.Decides.{same_from_decides, Decides-int_eq}
use Rattle.store.specs.Meaning.{Row, same_cell, same_row, has}
use Rattle.directory.specs.Run.{chunk}
use Rattle.store.proofs.Rows.{same_cell_refl, same_cell_true, same_row_decides}

-- a comparison of slices is the test of the meaning
pub same_slices : (a b : Row) (r : Bool) → r ≡ pointwise int_eq a b → r ≡ same_row a b
same_slices a b r h = same_from_decides _ _ (slice_eq-Decides Decides-int_eq a b r h) (same_row_decides a b)

-- rows whose first cells are equal are equal where the others are
pub same_by_first : (a b : Row) (r : Bool) → 0 < length a → 0 < length b → slice_index_or a 0 (pos 0) ≡ slice_index_or b 0 (pos 0) → r ≡ pointwise int_eq (take (length a - 1) (drop 1 a)) (take (length b - 1) (drop 1 b)) → r ≡ same_row a b
same_by_first [] b r la lb e h = absurd (omega (arith, la))
same_by_first (x ∷ xs) [] r la lb e h = absurd (omega (arith, lb))
same_by_first (x ∷ xs) (y ∷ ys) r la lb e h =
    let others : take (length (x ∷ xs) - 1) (drop 1 (x ∷ xs)) ≡ xs = take_all (length (x ∷ xs) - 1) xs (omega arith) in
    let wanted : take (length (y ∷ ys) - 1) (drop 1 (y ∷ ys)) ≡ ys = take_all (length (y ∷ ys) - 1) ys (omega arith) in
    same_slices xs ys r (h ∙ ap₂ (pointwise int_eq) others wanted) ∙ ap (λ t. t && same_row xs ys) (sym (same_cell_refl x) ∙ ap (same_cell x) e)

-- a cell is among the cells where the row that it makes is among the rows of one cell
pub has_single : (cs : List ℤ) (x : ℤ) (count : ℕ) → length cs ≡ count → list_any (λ y. same_cell y x) cs ≡ has (chunk count 1 cs) (x ∷ [])
has_single [] x zero e = refl
has_single [] x (suc n) e = absurd (omega (arith, e))
has_single (y ∷ ys) x zero e = absurd (omega (arith, e))
has_single (y ∷ ys) x (suc n) e = ap₂ ◌||◌ (single (same_cell y x)) (has_single ys x n (omega (arith, e)))
  where
    single : (b : Bool) → b ≡ (b && true)
    single true = refl
    single false = refl

-- the same of a row that has one cell
pub has_only : (row : Row) (cs : List ℤ) (count : ℕ) → length row ≡ 1 → length cs ≡ count → list_any (λ y. same_cell y (slice_index_or row 0 (pos 0))) cs ≡ has (chunk count (length row) cs) row
has_only [] cs count w e = absurd (omega (arith, w))
has_only (x ∷ []) cs count w e = has_single cs x count e
has_only (x ∷ y ∷ r) cs count w e = absurd (omega (arith, w))

-- the search from cell i on: that cell, or one of those after it
cell_step : (cs : List ℤ) (x : ℤ) (i : ℕ) → i < length cs → list_any (λ y. same_cell y x) (drop i cs) ≡ (same_cell (slice_index_or cs i (pos 0)) x || list_any (λ y. same_cell y x) (drop (i + 1) cs))
cell_step cs x i l =
    let next : suc i ≡ i + 1 = omega arith in
    ap (list_any (λ y. same_cell y x)) (drop-cons cs i (pos 0) l) ∙ ap (λ n. same_cell (slice_index_or cs i (pos 0)) x || list_any (λ y. same_cell y x) (drop n cs)) next

-- the cell that is sought, found at i
pub cell_found : (cs : List ℤ) (x : ℤ) (i : ℕ) → i < length cs → slice_index_or cs i (pos 0) ≡ x → list_any (λ y. same_cell y x) (drop i cs) ≡ true
cell_found cs x i l e = cell_step cs x i l ∙ ap (λ b. b || list_any (λ y. same_cell y x) (drop (i + 1) cs)) (ap (λ y. same_cell y x) e ∙ same_cell_refl x)

-- it is not the cell at i
pub cell_missed : (cs : List ℤ) (x : ℤ) (i : ℕ) → i < length cs → (slice_index_or cs i (pos 0) ≡ x → ⊥) → list_any (λ y. same_cell y x) (drop (i + 1) cs) ≡ list_any (λ y. same_cell y x) (drop i cs)
cell_missed cs x i l other = sym (cell_step cs x i l ∙ ap (λ b. b || list_any (λ y. same_cell y x) (drop (i + 1) cs)) (off (same_cell (slice_index_or cs i (pos 0)) x) refl))
  where
    off : (b : Bool) → same_cell (slice_index_or cs i (pos 0)) x ≡ b → same_cell (slice_index_or cs i (pos 0)) x ≡ false
    off true h = absurd (other (same_cell_true (slice_index_or cs i (pos 0)) x h))
    off false h = h

-- the same of a comparison of whole rows
pub has_any : (rows : List Row) (row : Row) → list_any (λ y. pointwise int_eq y row) rows ≡ has rows row
has_any [] row = refl
has_any (r ∷ rs) row = ap₂ ◌||◌ (same_slices r row _ refl) (has_any rs row)

-- arrays of so many cells are the rows of that width
pub first_rows : (w n : ℕ) (cs : List ℤ) → first_chunks w n cs ≡ chunk n w cs
first_rows w zero cs = refl
first_rows w (suc n) cs = ap (λ l. take w cs ∷ l) (first_rows w n (drop w cs))

-- what a search for `wanted` among the arrays that the cells make says
pub has_array : (cs : List ℤ) (row wanted : Row) (w count k : ℕ) (arrays : List Row) (r : Bool) → 0 < w → length cs ≡ count * w → k ≡ length cs / w → arrays ≡ first_chunks w k cs → wanted ≡ row → r ≡ list_any (λ y. pointwise int_eq y wanted) arrays → r ≡ has (chunk count w cs) row
has_array cs row wanted w count k arrays r wide long many is same h =
    let full : k ≡ count = many ∙ ap (λ n. n / w) long ∙ mul-div_cancel count wide in
    h ∙ ap₂ (λ x xs. list_any (λ y. pointwise int_eq y x) xs) same (is ∙ ap (λ n. first_chunks w n cs) full ∙ first_rows w count cs) ∙ has_any (chunk count w cs) row

-- what the code reads of a narrow row is the row
pub two_cells : (row : Row) → length row ≡ 2 → slice_index_or row 0 (pos 0) ∷ slice_index_or row 1 (pos 0) ∷ [] ≡ row
two_cells [] e = absurd (omega (arith, e))
two_cells (x ∷ []) e = absurd (omega (arith, e))
two_cells (x ∷ y ∷ []) e = refl
two_cells (x ∷ y ∷ z ∷ r) e = absurd (omega (arith, e))

pub three_cells : (row : Row) → length row ≡ 3 → slice_index_or row 0 (pos 0) ∷ slice_index_or row 1 (pos 0) ∷ slice_index_or row 2 (pos 0) ∷ [] ≡ row
three_cells [] e = absurd (omega (arith, e))
three_cells (x ∷ []) e = absurd (omega (arith, e))
three_cells (x ∷ y ∷ []) e = absurd (omega (arith, e))
three_cells (x ∷ y ∷ z ∷ []) e = refl
three_cells (x ∷ y ∷ z ∷ u ∷ r) e = absurd (omega (arith, e))
