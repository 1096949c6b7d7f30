use Rattle.std.proofs.Common.{◌≡◌, ℕ, ◌+◌, ◌-◌, ◌*◌, ◌/◌, ◌<◌, false, List, [], ◌∷◌, ℤ, pos, slice_index_or, length, take, drop, refl, sym, ap, ap₂, ◌∙◌, subst, w64, SFits, arith, rules}
use Rattle.std.proofs.lemmas.Int.{to_z-of_z}
use Rattle.std.proofs.lemmas.List.{length-drop, length-take-le, take-append-drop}
use Rattle.std.specs.Iterator.Runs.{IsChunksExactRun}
use Rattle.std.specs.Slice.Iter.{chunks_exact_size, chunks_exact_rest}
use Rattle.store.specs.Meaning.{same_row, has}
use Rattle.store.proofs.Rows.{same_row_true, same_row_decides}
use Rattle.std.proofs.lemmas.Bool.{false≢true}
use Rattle.directory.specs.Run.{chunk}
use Rattle.directory.proofs.Decoding.{chunk_front}
use Rattle.packed.proofs.Narrow.{has_only, has_array, two_cells, three_cells}
use Rattle.packed.proofs.Chunks.{any_verdict}
use Rattle.packed.proofs.searches.has_row.Goals as goal

pub returns-in-len1 : goal.returns-in-len1
returns-in-len1 c =
    let row = c.args.row.now in
    let w : ℕ = length row in
    let n : ℕ = c.args.from + c.args.count * w - c.args.from in
    let whole : List ℤ = drop c.args.from c.args.cells.now in
    let rows : List ℤ = take n whole in
    let one : w ≡ 1 = search (rules, arith) in
    let sized : n ≡ c.args.count * w = omega arith in
    let long : length rows ≡ c.args.count * w = length-take-le n whole (omega (arith, c.requires, length-drop c.args.from c.args.cells.now)) ∙ sized in
    let front : has (chunk c.args.count w rows) row ≡ has (chunk c.args.count w whole) row = ap (λ x. has x row) (sym (chunk_front c.args.count w rows (drop n whole) (omega (arith, long)))) ∙ ap (λ x. has (chunk c.args.count w x) row) (take-append-drop n whole) in
    c.has_cell.ensures ∙ has_only row rows c.args.count one (long ∙ ap (λ k. c.args.count * k) one ∙ omega arith) ∙ front

pub returns-in-len2 : goal.returns-in-len2
returns-in-len2 c =
    let row = c.args.row.now in
    let w : ℕ = length row in
    let n : ℕ = c.args.from + c.args.count * w - c.args.from in
    let whole : List ℤ = drop c.args.from c.args.cells.now in
    let rows : List ℤ = take n whole in
    let wide : w ≡ 2 = omega (arith, c.in-len2.len_at_least, c.in-len2.len_below) in
    let sized : n ≡ c.args.count * w = omega arith in
    let long : length rows ≡ c.args.count * w = length-take-le n whole (omega (arith, c.requires, length-drop c.args.from c.args.cells.now)) ∙ sized in
    let front : has (chunk c.args.count w rows) row ≡ has (chunk c.args.count w whole) row = ap (λ x. has x row) (sym (chunk_front c.args.count w rows (drop n whole) (omega (arith, long)))) ∙ ap (λ x. has (chunk c.args.count w x) row) (take-append-drop n whole) in
    let x : ℤ = slice_index_or row 0 (pos 0) in
    let fx : SFits w64 x = search rules in
    let y : ℤ = slice_index_or row 1 (pos 0) in
    let fy : SFits w64 y = search rules in
    let same = ap₂ ◌∷◌ (to_z-of_z w64 x fx) (ap (λ a. a ∷ []) (to_z-of_z w64 y fy)) ∙ two_cells row wide in
    has_array rows row _ 2 c.args.count (length rows / 2) _ c.contains.result (omega arith) (long ∙ ap (λ k. c.args.count * k) wide) refl c.as_chunks.ensures.front same c.contains.ensures.value ∙ ap (λ k. has (chunk c.args.count k rows) row) (sym wide) ∙ front

pub returns-in-len3 : goal.returns-in-len3
returns-in-len3 c =
    let row = c.args.row.now in
    let w : ℕ = length row in
    let n : ℕ = c.args.from + c.args.count * w - c.args.from in
    let whole : List ℤ = drop c.args.from c.args.cells.now in
    let rows : List ℤ = take n whole in
    let wide : w ≡ 3 = omega (arith, c.in-len3.len_at_least, c.in-len3.len_below) in
    let sized : n ≡ c.args.count * w = omega arith in
    let long : length rows ≡ c.args.count * w = length-take-le n whole (omega (arith, c.requires, length-drop c.args.from c.args.cells.now)) ∙ sized in
    let front : has (chunk c.args.count w rows) row ≡ has (chunk c.args.count w whole) row = ap (λ x. has x row) (sym (chunk_front c.args.count w rows (drop n whole) (omega (arith, long)))) ∙ ap (λ x. has (chunk c.args.count w x) row) (take-append-drop n whole) in
    let x : ℤ = slice_index_or row 0 (pos 0) in
    let fx : SFits w64 x = search rules in
    let y : ℤ = slice_index_or row 1 (pos 0) in
    let fy : SFits w64 y = search rules in
    let z : ℤ = slice_index_or row 2 (pos 0) in
    let fz : SFits w64 z = search rules in
    let same = ap₂ ◌∷◌ (to_z-of_z w64 x fx) (ap₂ (λ a b. a ∷ b ∷ []) (to_z-of_z w64 y fy) (to_z-of_z w64 z fz)) ∙ three_cells row wide in
    has_array rows row _ 3 c.args.count (length rows / 3) _ c.contains-in-len3.result (omega arith) (long ∙ ap (λ k. c.args.count * k) wide) refl c.as_chunks-in-len3.ensures.front same c.contains-in-len3.ensures.value ∙ ap (λ k. has (chunk c.args.count k rows) row) (sym wide) ∙ front

pub returns : goal.returns
returns c =
    let row = c.args.row.now in
    let w : ℕ = length row in
    let n : ℕ = c.args.from + c.args.count * w - c.args.from in
    let whole : List ℤ = drop c.args.from c.args.cells.now in
    let rows : List ℤ = take n whole in
    let sized : n ≡ c.args.count * w = omega arith in
    let long : length rows ≡ c.args.count * w = length-take-le n whole (omega (arith, c.requires, length-drop c.args.from c.args.cells.now)) ∙ sized in
    let r = c.any.ensures.runs in
    let size_is : chunks_exact_size r.0.from ≡ w = ap chunks_exact_size r.1 ∙ c.chunks_exact.ensures.size in
    let rest_is : chunks_exact_rest r.0.from ≡ rows = ap chunks_exact_rest r.1 ∙ c.chunks_exact.ensures.rest in
    let wide : 0 < w = omega arith in
    let chunks = subst (λ xs. IsChunksExactRun r.0 w xs) rest_is (subst (λ k. IsChunksExactRun r.0 k (chunks_exact_rest r.0.from)) size_is (c.chunks_exact.ensures.runs r.0 r.0.seen (omega (arith, size_is)))) in
    let front : has (chunk c.args.count w rows) row ≡ has (chunk c.args.count w whole) row = ap (λ x. has x row) (sym (chunk_front c.args.count w rows (drop n whole) (omega (arith, long)))) ∙ ap (λ x. has (chunk c.args.count w x) row) (take-append-drop n whole) in
    any_verdict r.0 w c.args.count rows row _ _ _ c.any.result r.2 (λ a b f' h. search (rules, h)) chunks long wide (λ x h. same_row_true x.now row (search (rules, h))) (λ x h e. let no : same_row x.now row ≡ false = search (rules, h) in false≢true (sym no ∙ (same_row_decides x.now row).1 e)) ∙ front
