-- The search for an equal row over a run of cells comes to `has`, row by row from the first on.
use Rattle.std.proofs.Common.{◌≡◌, ℕ, suc, ◌+◌, ◌-◌, ◌*◌, ◌<◌, ◌≤◌, ◌||◌, List, take, drop, ℤ, ap, ◌∙◌, add-mul, one-mul, arith}
use Rattle.std.proofs.lemmas.List.{drop-drop}
use Rattle.std.proofs.lemmas.Nat.{mul-le}
use Rattle.store.specs.Meaning.{Row, same_row, has}
use Rattle.directory.specs.Run.{chunk}

-- the rows from number k on: row k, or one of those after it
pub has_step : (cs : List ℤ) (row : Row) (from k count w : ℕ) → k < count → has (chunk (count - k) w (drop (from + k * w) cs)) row ≡ (same_row (take w (drop (from + k * w) cs)) row || has (chunk (count - (k + 1)) w (drop (from + (k + 1) * w) cs)) row)
has_step cs row from k count w h =
    let more : count - k ≡ suc (count - (k + 1)) = omega arith in
    let next : from + k * w + w ≡ from + (k + 1) * w = omega (arith, add-mul k 1 w, one-mul w) in
    ap (λ n. has (chunk n w (drop (from + k * w) cs)) row) more ∙ ap (λ ds. same_row (take w (drop (from + k * w) cs)) row || has (chunk (count - (k + 1)) w ds) row) (drop-drop w (from + k * w) cs ∙ ap (λ n. drop n cs) next)

-- row k lies within the run
pub row_inside : (from k count w n : ℕ) → k < count → from + count * w ≤ n → from + k * w + w ≤ n
row_inside from k count w n h l = omega (arith, add-mul k 1 w, one-mul w, mul-le (k + 1) w count w (omega arith) (omega arith))
