-- How many lines and cells a ledger uses.
use Rattle.std.proofs.Common.{◌≡◌, ℕ, zero, suc, ◌+◌, ◌*◌, ◌<◌, ◌≤◌, Bool, true, false, cond, eqb, ltb, ◌⊎◌, List, [], ◌∷◌, length, get_or, take, Some, None, Result, Ok, Err, sym, ap, ◌∙◌, inl, inr, ⊎_elim, suc-mul, arith}
use Rattle.std.proofs.lemmas.List.{length-map}
use Rattle.std.proofs.lemmas.Bool.{and_parts, ltb-true, cases_order}
use Rattle.std.specs.List.{slice_get}
use Rattle.std.specs.Option.{ok_or}
use Rattle.std.proofs.lemmas.Option.{slice_get_cases}
use Rattle.fault.specs.declared.rules.Fault.{Fault}
use Rattle.store.specs.Meaning.{Table, no_table, size, used}
use Rattle.store.specs.Sound.{sound_tables}
use Rattle.store.proofs.Cells.{used_take}
use Rattle.ledger.specs.Lines.{lines_of, rows_of, numbered, tables_of, below}
use Rattle.ledger.specs.declared.line.Line.{Line}
use Rattle.ledger.proofs.Numbering.{table_of, table_is, length_numbered, lines_own, table_good}

-- a table has no more lines than there are
pub lines_few : (t : ℕ) (ls : List Line) → length (lines_of t ls) ≤ length ls
lines_few t [] = omega arith
lines_few t (l ∷ ls) = by (eqb l.table t) (lines_few t ls)
  where
    by : (b : Bool) → length (lines_of t ls) ≤ length ls → length (cond b (l ∷ lines_of t ls) (lines_of t ls)) ≤ suc (length ls)
    by true h = omega arith
    by false h = omega arith

-- the cells of a table
pub size_is : (ws : List ℕ) (ls : List Line) (k : ℕ) → size (table_of ws ls k) ≡ length (lines_of k ls) * get_or ws k 0
size_is ws ls k = ap (λ n. n * get_or ws k 0) (length-map (lines_of k ls) (λ l. take (get_or ws k 0) l.cells))

-- are among those in use
pub size_within : (ws : List ℕ) (ls : List Line) (k : ℕ) → k < length ws → length (lines_of k ls) * get_or ws k 0 ≤ used (tables_of ws ls)
size_within ws ls k l =
    omega (arith, used_take (tables_of ws ls) k (omega (arith, length_numbered 0 ws ls)), ap size (table_is ws ls k no_table l), size_is ws ls k)

-- all tables but the last, and the last
pub used_cut : (ts : List Table) (n : ℕ) → suc n ≡ length ts → used (take n ts) + size (get_or ts n no_table) ≡ used ts
used_cut [] n l = absurd (omega arith)
used_cut (t ∷ []) zero l = omega arith
used_cut (t ∷ u ∷ ts) zero l = absurd (omega arith)
used_cut (t ∷ ts) (suc n) l = omega (arith, used_cut ts n (omega arith))

-- A line uses a cell at least, if every table is a cell wide.

size_cons : (w t : ℕ) (l : Line) (ls : List Line) → length (rows_of w (lines_of t ls)) * w ≤ length (rows_of w (lines_of t (l ∷ ls))) * w
size_cons w t l ls = by (eqb l.table t)
  where
    by : (b : Bool) → length (rows_of w (lines_of t ls)) * w ≤ length (rows_of w (cond b (l ∷ lines_of t ls) (lines_of t ls))) * w
    by true = omega (arith, suc-mul (length (rows_of w (lines_of t ls))) w)
    by false = omega arith

used_more : (t : ℕ) (ws : List ℕ) (l : Line) (ls : List Line) → used (numbered t ws ls) ≤ used (numbered t ws (l ∷ ls))
used_more t [] l ls = omega arith
used_more t (w ∷ ws) l ls = omega (arith, size_cons w t l ls, used_more (t + 1) ws l ls)

one_more : (t : ℕ) (ws : List ℕ) (l : Line) (ls : List Line) → t ≤ l.table → l.table < t + length ws → ((k : ℕ) → k < length ws → 1 ≤ get_or ws k 0) → used (numbered t ws ls) + 1 ≤ used (numbered t ws (l ∷ ls))
one_more t [] l ls low high wide = absurd (omega arith)
one_more t (w ∷ ws) l ls low high wide =
    go (λ h. one_more (t + 1) ws l ls h (omega arith) (λ k m. wide (suc k) (omega arith))) (cases_order t l.table)
  where
    go : (t + 1 ≤ l.table → used (numbered (t + 1) ws ls) + 1 ≤ used (numbered (t + 1) ws (l ∷ ls))) → (t ≡ l.table) ⊎ ((t < l.table) ⊎ (l.table < t)) → used (numbered t (w ∷ ws) ls) + 1 ≤ used (numbered t (w ∷ ws) (l ∷ ls))
    go later (inl e) =
        let here : length (rows_of w (lines_of t (l ∷ ls))) * w ≡ suc (length (rows_of w (lines_of t ls))) * w = ap (λ x. length (rows_of w x) * w) (lines_own t l ls (sym e)) in
        omega (arith, here, suc-mul (length (rows_of w (lines_of t ls))) w, used_more (t + 1) ws l ls, wide 0 (omega arith))
    go later (inr (inl e)) = omega (arith, size_cons w t l ls, later (omega arith))
    go later (inr (inr e)) = absurd (omega arith)

lines_in_use : (ws : List ℕ) (ls : List Line) → below (length ws) ls ≡ true → ((k : ℕ) → k < length ws → 1 ≤ get_or ws k 0) → length ls ≤ used (tables_of ws ls)
lines_in_use ws [] h wide = omega arith
lines_in_use ws (l ∷ ls) h wide =
    let p = and_parts (ltb l.table (length ws)) (below (length ws) ls) h in
    omega (arith, one_more 0 ws l ls (omega arith) (omega (arith, ltb-true l.table (length ws) p.0)) wide, lines_in_use ws ls p.1 wide)

-- as every table of a sound ledger is
pub lines_used : (ws : List ℕ) (ls : List Line) → below (length ws) ls ≡ true → sound_tables (tables_of ws ls) ≡ true → length ls ≤ used (tables_of ws ls)
lines_used ws ls h s = lines_in_use ws ls h (λ k l. (table_good ws ls k l s).0)

-- the lines of a table are as many as its rows, and no more than the cells in use
pub rows_counted : (ws : List ℕ) (ls : List Line) (t : ℕ) → t < length ws → length (lines_of t ls) ≡ length (get_or (tables_of ws ls) t no_table).rows
rows_counted ws ls t l =
    sym (ap (λ x. length x.rows) (table_is ws ls t no_table l) ∙ length-map (lines_of t ls) (λ y. take (get_or ws t 0) y.cells))

pub few_lines : (ws : List ℕ) (ls : List Line) (t : ℕ) → below (length ws) ls ≡ true → sound_tables (tables_of ws ls) ≡ true → length (lines_of t ls) ≤ used (tables_of ws ls)
few_lines ws ls t h s = omega (arith, lines_few t ls, lines_used ws ls h s)

-- a row that is not there
pub row_missing : (ls : List Line) (r : ℕ) (x f : Fault) → Err x ≡ ok_or (slice_get ls r) f → (length ls ≤ r) × (x ≡ f)
row_missing ls r x f e = ⊎_elim there gone (slice_get_cases ls r).1
  where
    there : (y : Line) × (r < length ls) × (slice_get ls r ≡ Some y) × (get_or ls r y ≡ y) → (length ls ≤ r) × (x ≡ f)
    there (y, low, found, is) = absurd (clash (e ∙ ap (λ o. ok_or o f) found))
      where
        clash : ◌≡◌ {A = Result Line Fault} (Err x) (Ok y) → ⊥
        clash h = cc

    gone : (length ls ≤ r) × (slice_get ls r ≡ None) → (length ls ≤ r) × (x ≡ f)
    gone (past, none) = (past, same (e ∙ ap (λ o. ok_or o f) none))
      where
        same : ◌≡◌ {A = Result Line Fault} (Err x) (Err f) → x ≡ f
        same h = cc
