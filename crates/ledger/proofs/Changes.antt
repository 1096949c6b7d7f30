-- What each call does to a ledger, as plain facts of widths and lines, against the meaning.
use Rattle.std.proofs.Common.{◌≡◌, ℕ, suc, ◌+◌, ◌-◌, ◌*◌, ◌<◌, ◌≤◌, Bool, true, List, [], ◌∷◌, ◌++◌, length, get_or, take, drop, set, ℤ, pos, ◌⊎◌, Result, Ok, Err, sym, refl, ap, ◌∙◌, subst, ap₂, ⊎_elim, zero-mul, arith}
use Rattle.std.proofs.lemmas.Bool.{cases_eq}
use Rattle.std.proofs.lemmas.List.{same_lists, length-append, length-set, length-take-le, get_or-set_same, get_or-set_other, get_or-take, get_or_at, get_or-map, length-map, take_at, append-nil, map-append, get_or_read}
use Rattle.fault.specs.declared.rules.Fault.{Fault}
use Rattle.fault.specs.declared.rules.Rule.TheVariants.{TooManyTables, WidthOutside}
use Rattle.fault.specs.Limits.{columns, tables}
use Rattle.directory.specs.Tables.{Found, Opened}
use Rattle.ledger.proofs.Passes.{has_any}
use Rattle.store.specs.Meaning.{Row, Table, Store, no_table, size, used, table_count, last_place, last_table, with_tables, opened, dropped, settled, row_for, repeats, has, width_reply, cell_reply, refused_by, open_reply, open_after}
use Rattle.store.specs.Sound.{Sound}
use Rattle.store.proofs.Cases.{grown, width_absent, width_told, cell_told, open_many, open_outside, open_accepted}
use Rattle.store.proofs.Cells.{used_append, used_set, size_grown}
use Rattle.ledger.specs.Lines.{lines_of, rows_of, numbered, tables_of, written, below, without, renumbered, has_line}
use Rattle.ledger.specs.declared.line.Line.{Line}
use Rattle.ledger.proofs.Numbering.{table_of, table_is, length_numbered, numbered_append, numbered_same, lines_append, lines_own, lines_other, lines_none, lines_without, lines_renumbered, rows_moved, below_open}
use Rattle.ledger.proofs.Counting.{size_is, used_cut}

-- soundness goes along an equation
pub sound_as : (old new : Store) → new ≡ old → Sound old → Sound new
sound_as old new e s = subst Sound (sym e) s

-- what a slice leaves of the list that it was lent from
pub whole_slice : {X : Type 0} (v : ℕ) (new old : List X) → length new ≡ v → take v (new ++ drop (length new) old) ≡ new
whole_slice v new old l = take_at new (drop (length new) old) v l

-- the lines when a table's are renumbered, as the code has them
pub handed_on : (ls slice new : List Line) (from to v : ℕ) → slice ≡ ls → new ≡ renumbered from to slice → length new ≡ length slice → v ≡ length ls → take v (new ++ drop (length new) ls) ≡ renumbered from to ls
handed_on ls slice new from to v slice_is new_is long v_is = whole_slice v new ls (long ∙ ap length slice_is ∙ sym v_is) ∙ new_is ∙ ap (renumbered from to) slice_is

-- The width of a table, as its directory tells it.
pub width_found : (c : ℕ) (ws : List ℕ) (ls : List Line) (t : ℕ) (r : Result ℕ Fault) → Found ws t r → r ≡ width_reply (written c ws ls) t
width_found c ws ls t (Ok w) f =
    ap Ok (get_or_read ws t w f.0 f.1 0 ∙ ap (λ x. x.width) (sym (table_is ws ls t no_table f.0))) ∙ width_told (written c ws ls) t (omega (arith, f.0, length_numbered 0 ws ls))
width_found c ws ls t (Err x) f = ap Err f.1 ∙ width_absent (written c ws ls) t (omega (arith, f.0, length_numbered 0 ws ls))

-- The cell of a row, by the line that holds it.
pub cell_is : (c : ℕ) (ws : List ℕ) (ls : List Line) (t r k : ℕ) (l : Line) (x : ℤ) → t < length ws → r < length (lines_of t ls) → k < get_or ws t 0 → l ≡ get_or (lines_of t ls) r l → x ≡ get_or l.cells k (pos 0) → Ok x ≡ cell_reply (written c ws ls) t r k
cell_is c ws ls t r k l x here low col is read =
    let table : get_or (tables_of ws ls) t no_table ≡ table_of ws ls t = table_is ws ls t no_table here in
    let rows : get_or (rows_of (get_or ws t 0) (lines_of t ls)) r [] ≡ take (get_or ws t 0) l.cells = get_or-map (λ y. take (get_or ws t 0) y.cells) (lines_of t ls) r l [] low ∙ ap (λ y. take (get_or ws t 0) y.cells) (sym is) in
    ap Ok (read ∙ sym (ap (λ y. get_or (get_or y.rows r []) k (pos 0)) table ∙ ap (λ y. get_or y k (pos 0)) rows ∙ get_or-take (get_or ws t 0) l.cells k (pos 0) col)) ∙ cell_told (written c ws ls) t r k (omega (arith, length_numbered 0 ws ls)) (omega (arith, ap (λ y. length y.rows) table, length-map (lines_of t ls) (λ y. take (get_or ws t 0) y.cells))) (omega (arith, ap (λ y. y.width) table))

-- Open.
module _ (c : ℕ) (ws : List ℕ) (ls : List Line) (w : ℕ) (vs : List ℕ) (owned : below (length ws) ls ≡ true) (vs_is : vs ≡ ws ++ w ∷ []) where
  tables_open : tables_of vs ls ≡ tables_of ws ls ++ record { width = w; rows = [] } ∷ []
  tables_open =
      let none : lines_of (0 + length ws) ls ≡ [] = lines_none (length ws) (0 + length ws) ls owned (omega arith) in
      ap (λ x. tables_of x ls) vs_is ∙ numbered_append 0 ws (w ∷ []) ls ∙ ap (λ x. tables_of ws ls ++ record { width = w; rows = rows_of w x } ∷ []) none

  pub open_done : written c vs ls ≡ opened (written c ws ls) w
  open_done = ap (λ x. record { capacity = c; tables = x }) tables_open

  pub used_open : used (tables_of vs ls) ≡ used (tables_of ws ls)
  used_open = ap used tables_open ∙ used_append (tables_of ws ls) (record { width = w; rows = [] } ∷ []) ∙ omega (arith, zero-mul w)

-- the same, from what opening a table in the directory comes to
module _ (c : ℕ) (ws : List ℕ) (ls : List Line) (w : ℕ) (owned : below (length ws) ls ≡ true) where
  pub opened_done : (r : Result (Unit {0}) Fault) (vs : List ℕ) → Opened ws w w r vs → (r ≡ open_reply (written c ws ls) w) × (written c vs ls ≡ open_after (written c ws ls) w)
  opened_done (Ok u) vs o =
      let r = open_accepted (written c ws ls) w (omega (arith, o.0, length_numbered 0 ws ls)) o.1.0 o.1.1.0 in
      (r.0, open_done c ws ls w vs owned o.1.1.1 ∙ r.1)
  opened_done (Err x) vs o = ⊎_elim many outside o.1
    where
      many : (tables ≤ length ws) × (x ≡ refused_by TooManyTables) → (Err x ≡ open_reply (written c ws ls) w) × (written c vs ls ≡ open_after (written c ws ls) w)
      many p =
          let r = open_many (written c ws ls) w (omega (arith, p.0, length_numbered 0 ws ls)) in
          (ap Err p.1 ∙ r.0, ap (λ x. written c x ls) o.0 ∙ r.1)

      outside : (length ws < tables) × (((w < 1) ⊎ (columns < w)) × (x ≡ refused_by WidthOutside)) → (Err x ≡ open_reply (written c ws ls) w) × (written c vs ls ≡ open_after (written c ws ls) w)
      outside p =
          let r = open_outside (written c ws ls) w (omega (arith, p.0, length_numbered 0 ws ls)) p.1.0 in
          (ap Err p.1.1 ∙ r.0, ap (λ x. written c x ls) o.0 ∙ r.1)

  pub used_opened : (r : Result (Unit {0}) Fault) (vs : List ℕ) → Opened ws w w r vs → used (tables_of vs ls) ≡ used (tables_of ws ls)
  used_opened (Ok u) vs o = used_open c ws ls w vs owned o.1.1.1
  used_opened (Err x) vs o = ap (λ x. used (tables_of x ls)) o.0

  pub below_opened : (r : Result (Unit {0}) Fault) (vs : List ℕ) → Opened ws w w r vs → below (length vs) ls ≡ true
  below_opened (Ok u) vs o = below_open ws vs w ls o.1.1.1 owned
  below_opened (Err x) vs o = ap (λ x. below (length x) ls) o.0 ∙ owned

-- Add: m is the last table, w its width.
module _ (c : ℕ) (ws : List ℕ) (ls : List Line) (m w : ℕ) (row : Row) (some : 0 < length ws) (m_is : m ≡ length ws - 1) (w_is : w ≡ get_or ws m 0) where
  last_place_lem : last_place (written c ws ls) ≡ m
  last_place_lem = omega (arith, length_numbered 0 ws ls)

  pub last_is : last_table (written c ws ls) ≡ table_of ws ls m
  last_is = ap (λ k. get_or (tables_of ws ls) k no_table) last_place_lem ∙ table_is ws ls m no_table (omega arith)

  pub last_wide : (last_table (written c ws ls)).width ≡ w
  last_wide = ap (λ t. t.width) last_is ∙ sym w_is

  -- r is what the search found
  pub add_found : (slice : List Line) (r : Bool) → w ≤ length row → slice ≡ ls → r ≡ has_line m (take w row) slice → repeats (written c ws ls) row ≡ r
  add_found slice r long slice_is r_is =
      ap (λ t. has t.rows (take t.width row)) last_is ∙ ap (λ n. has (rows_of n (lines_of m ls)) (take n row)) (sym w_is) ∙ sym (r_is ∙ has_any slice (take w row) (length (take w row)) m ∙ ap₂ (λ n x. has (rows_of n (lines_of m x)) (take w row)) (length-take-le w row long) slice_is)

  module _ (ms : List Line) (ms_is : ms ≡ ls ++ record { table = m; cells = row } ∷ []) where
    abbrev new : Line
    new = record { table = m; cells = row }

    rows_new : rows_of (get_or ws m 0) (lines_of m ms) ≡ rows_of (get_or ws m 0) (lines_of m ls) ++ take (get_or ws m 0) row ∷ []
    rows_new =
        ap (λ x. rows_of (get_or ws m 0) (lines_of m x)) ms_is ∙ ap (rows_of (get_or ws m 0)) (lines_append m ls (new ∷ []) ∙ ap (λ x. lines_of m ls ++ x) (lines_own m new [] refl)) ∙ map-append (λ l. take (get_or ws m 0) l.cells) (lines_of m ls) (new ∷ [])

    rows_old : (k : ℕ) → (k ≡ m → ⊥) → lines_of k ms ≡ lines_of k ls
    rows_old k ne =
        ap (lines_of k) ms_is ∙ lines_append k ls (new ∷ []) ∙ ap (λ x. lines_of k ls ++ x) (lines_other k new [] (λ e. ne (sym e))) ∙ append-nil (lines_of k ls)

    abbrev after : Table
    after = grown (last_table (written c ws ls)) (row_for (written c ws ls) row)

    tables_add : tables_of ws ms ≡ set (tables_of ws ls) (last_place (written c ws ls)) after
    tables_add =
        same_lists (tables_of ws ms) (set (tables_of ws ls) (last_place (written c ws ls)) after)
        (omega (arith, length_numbered 0 ws ms, length_numbered 0 ws ls, length-set (tables_of ws ls) (last_place (written c ws ls)) after))
        (λ k d l. at k d (omega (arith, l, length_numbered 0 ws ms)))
      where
        here : (d : Table) → get_or (tables_of ws ms) m d ≡ get_or (set (tables_of ws ls) (last_place (written c ws ls)) after) m d
        here d =
            table_is ws ms m d (omega arith) ∙ ap (λ x. record { width = get_or ws m 0; rows = x }) rows_new ∙ sym (ap (λ n. get_or (set (tables_of ws ls) n after) m d) last_place_lem ∙ get_or-set_same (tables_of ws ls) m after d (omega (arith, length_numbered 0 ws ls)) ∙ ap (λ t. grown t (take t.width row)) last_is)

        there : (k : ℕ) (d : Table) → k < length ws → (k ≡ m → ⊥) → get_or (tables_of ws ms) k d ≡ get_or (set (tables_of ws ls) (last_place (written c ws ls)) after) k d
        there k d l ne =
            table_is ws ms k d l ∙ ap (λ x. record { width = get_or ws k 0; rows = rows_of (get_or ws k 0) x }) (rows_old k ne) ∙ sym (get_or-set_other (tables_of ws ls) (last_place (written c ws ls)) k after d (λ e. ne (e ∙ last_place_lem)) ∙ table_is ws ls k d l)

        at : (k : ℕ) (d : Table) → k < length ws → get_or (tables_of ws ms) k d ≡ get_or (set (tables_of ws ls) (last_place (written c ws ls)) after) k d
        at k d l = ⊎_elim (λ e. subst (λ n. get_or (tables_of ws ms) n d ≡ get_or (set (tables_of ws ls) (last_place (written c ws ls)) after) n d) (sym e) (here d)) (there k d l) (cases_eq k m)

    pub add_done : written c ws ms ≡ with_tables (written c ws ls) (set (tables_of ws ls) (last_place (written c ws ls)) after)
    add_done = ap (λ x. record { capacity = c; tables = x }) tables_add

    pub used_add : used (tables_of ws ms) ≡ used (tables_of ws ls) + w
    used_add =
        omega (arith, ap used tables_add, used_set (tables_of ws ls) (last_place (written c ws ls)) after (omega (arith, length_numbered 0 ws ls)), size_grown (last_table (written c ws ls)) (row_for (written c ws ls) row), last_wide)

-- Drop.
module _ (c : ℕ) (ws vs : List ℕ) (w : ℕ) (ls ms : List Line) (ws_is : ws ≡ vs ++ w ∷ []) (ms_is : ms ≡ without (length vs) ls) where
  long : length ws ≡ suc (length vs)
  long = ap length ws_is ∙ length-append vs (w ∷ []) ∙ omega arith

  -- the width of the last table
  pub drop_width : get_or ws (length vs) 0 ≡ w
  drop_width = ap (λ x. get_or x (length vs) 0) ws_is ∙ get_or_at vs w [] 0 (length vs) refl

  tables_drop : tables_of vs ms ≡ take (length (tables_of ws ls) - 1) (tables_of ws ls)
  tables_drop =
      let m : ℕ = length (tables_of ws ls) - 1 in
      let same : tables_of vs ms ≡ tables_of vs ls = ap (tables_of vs) ms_is ∙ numbered_same 0 vs (without (length vs) ls) ls (λ k l. lines_without k (length vs) ls (λ e. omega arith)) in
      same ∙ sym (ap (take m) (ap (λ x. tables_of x ls) ws_is ∙ numbered_append 0 vs (w ∷ []) ls) ∙ take_at (tables_of vs ls) (numbered (0 + length vs) (w ∷ []) ls) m (omega (arith, length_numbered 0 ws ls, length_numbered 0 vs ls, long)))

  pub drop_done : written c vs ms ≡ dropped (written c ws ls)
  drop_done = ap (λ x. record { capacity = c; tables = x }) tables_drop

  pub used_drop : used (tables_of vs ms) + length (lines_of (length vs) ls) * w ≡ used (tables_of ws ls)
  used_drop =
      let m : length (tables_of ws ls) - 1 ≡ length vs = omega (arith, length_numbered 0 ws ls, long) in
      let last : size (get_or (tables_of ws ls) (length (tables_of ws ls) - 1) no_table) ≡ length (lines_of (length vs) ls) * w =
      ap size (ap (λ n. get_or (tables_of ws ls) n no_table) m ∙ table_is ws ls (length vs) no_table (omega (arith, long))) ∙ size_is ws ls (length vs) ∙ ap (λ n. length (lines_of (length vs) ls) * n) drop_width in
      omega (arith, ap used tables_drop, used_cut (tables_of ws ls) (length (tables_of ws ls) - 1) (omega (arith, length_numbered 0 ws ls, long)), last)

-- there was a table to drop
pub drop_some : (c : ℕ) (ws vs : List ℕ) (w : ℕ) (ls : List Line) → ws ≡ vs ++ w ∷ [] → 0 < table_count (written c ws ls)
drop_some c ws vs w ls is = omega (arith, length_numbered 0 ws ls, ap length is, length-append vs (w ∷ []))

-- Settle: m is the last table, n the one that goes.
module _ (c : ℕ) (ws vs : List ℕ) (ls ms : List Line) (m n w : ℕ) (lt : n < m) (m_is : suc m ≡ length ws) (w_is : w ≡ get_or ws m 0)
    (vs_is : vs ≡ set (take m ws) n w) (ms_is : ms ≡ renumbered m n (without n ls)) where
  pub vs_long : length vs ≡ m
  vs_long = ap length vs_is ∙ length-set (take m ws) n w ∙ length-take-le m ws (omega arith)

  place : last_place (written c ws ls) ≡ m
  place = omega (arith, length_numbered 0 ws ls)

  last : last_table (written c ws ls) ≡ table_of ws ls m
  last = ap (λ k. get_or (tables_of ws ls) k no_table) place ∙ table_is ws ls m no_table (omega arith)

  front_long : length (take (last_place (written c ws ls)) (tables_of ws ls)) ≡ m
  front_long = length-take-le (last_place (written c ws ls)) (tables_of ws ls) (omega (arith, length_numbered 0 ws ls)) ∙ place

  width_new : get_or vs n 0 ≡ w
  width_new = ap (λ x. get_or x n 0) vs_is ∙ get_or-set_same (take m ws) n w 0 (omega (arith, length-take-le m ws (omega arith)))

  width_old : (k : ℕ) → k < m → (k ≡ n → ⊥) → get_or vs k 0 ≡ get_or ws k 0
  width_old k l ne = ap (λ x. get_or x k 0) vs_is ∙ get_or-set_other (take m ws) n k w 0 ne ∙ get_or-take m ws k 0 l

  here : (d : Table) → get_or (tables_of vs ms) n d ≡ get_or (set (take (last_place (written c ws ls)) (tables_of ws ls)) n (last_table (written c ws ls))) n d
  here d =
      table_is vs ms n d (omega (arith, vs_long)) ∙ ap₂ (λ x y. record { width = x; rows = rows_of x (lines_of n y) }) width_new ms_is ∙ ap (λ x. record { width = w; rows = x }) (rows_moved m n w ls (λ e. omega arith)) ∙ ap (λ x. record { width = x; rows = rows_of x (lines_of m ls) }) w_is ∙ sym (get_or-set_same (take (last_place (written c ws ls)) (tables_of ws ls)) n (last_table (written c ws ls)) d (omega (arith, front_long)) ∙ last)

  there : (k : ℕ) (d : Table) → k < m → (k ≡ n → ⊥) → get_or (tables_of vs ms) k d ≡ get_or (set (take (last_place (written c ws ls)) (tables_of ws ls)) n (last_table (written c ws ls))) k d
  there k d l ne =
      let kept : lines_of k ms ≡ lines_of k ls = ap (lines_of k) ms_is ∙ lines_renumbered k m n (without n ls) (λ e. omega arith) ne ∙ lines_without k n ls ne in
      table_is vs ms k d (omega (arith, vs_long)) ∙ ap₂ (λ x y. record { width = x; rows = rows_of x y }) (width_old k l ne) kept ∙ sym (get_or-set_other (take (last_place (written c ws ls)) (tables_of ws ls)) n k (last_table (written c ws ls)) d ne ∙ get_or-take (last_place (written c ws ls)) (tables_of ws ls) k d (omega (arith, place)) ∙ table_is ws ls k d (omega arith))

  tables_settle : tables_of vs ms ≡ set (take (last_place (written c ws ls)) (tables_of ws ls)) n (last_table (written c ws ls))
  tables_settle =
      same_lists (tables_of vs ms) (set (take (last_place (written c ws ls)) (tables_of ws ls)) n (last_table (written c ws ls)))
      (omega (arith, length_numbered 0 vs ms, vs_long, front_long, length-set (take (last_place (written c ws ls)) (tables_of ws ls)) n (last_table (written c ws ls))))
      (λ k d l. ⊎_elim (λ e. subst (λ i. get_or (tables_of vs ms) i d ≡ get_or (set (take (last_place (written c ws ls)) (tables_of ws ls)) n (last_table (written c ws ls))) i d) (sym e) (here d)) (there k d (omega (arith, l, length_numbered 0 vs ms, vs_long))) (cases_eq k n))

  pub settle_done : written c vs ms ≡ settled (written c ws ls) n
  settle_done = ap (λ x. record { capacity = c; tables = x }) tables_settle

  pub used_settle : used (tables_of vs ms) + length (lines_of n ls) * get_or ws n 0 ≡ used (tables_of ws ls)
  used_settle =
      let front : List Table = take (last_place (written c ws ls)) (tables_of ws ls) in
      let old : size (get_or front n no_table) ≡ length (lines_of n ls) * get_or ws n 0 = ap size (get_or-take (last_place (written c ws ls)) (tables_of ws ls) n no_table (omega (arith, place)) ∙ table_is ws ls n no_table (omega arith)) ∙ size_is ws ls n in
      omega (arith, ap used tables_settle, used_set front n (last_table (written c ws ls)) (omega (arith, front_long)), used_cut (tables_of ws ls) (last_place (written c ws ls)) (omega (arith, length_numbered 0 ws ls)), old)
