-- Which lines belong to which table, and the tables that they make.
use Rattle.std.proofs.Common.{◌≡◌, ℕ, zero, suc, ◌+◌, ◌<◌, ◌≤◌, Bool, true, false, not, cond, eqb, ltb, List, [], ◌∷◌, ◌++◌, length, get_or, take, sym, refl, ap, ◌∙◌, ap₂, ⊎_elim, add-zero, arith}
use Rattle.std.proofs.lemmas.Bool.{and_parts, and_from, eq-eqb, ne_eqb, ltb-true, lt-ltb, cases_eq, cases_order}
use Rattle.std.proofs.lemmas.List.{length-append}
use Rattle.fault.specs.Limits.{columns}
use Rattle.store.specs.Meaning.{Table, no_table}
use Rattle.store.specs.Sound.{sound_tables}
use Rattle.store.proofs.Soundness.{good, sound_at}
use Rattle.ledger.specs.Lines.{lines_of, rows_of, numbered, tables_of, below, without, renumbered}
use Rattle.ledger.specs.declared.line.Line.{Line}
pub use Rattle.ledger.specs.WrittenSound.{length_numbered}

-- Lines.

pub lines_append : (t : ℕ) (ls ms : List Line) → lines_of t (ls ++ ms) ≡ lines_of t ls ++ lines_of t ms
lines_append t [] ms = refl
lines_append t (l ∷ ls) ms = by (eqb l.table t) (lines_append t ls ms)
  where
    by : (b : Bool) → lines_of t (ls ++ ms) ≡ lines_of t ls ++ lines_of t ms → cond b (l ∷ lines_of t (ls ++ ms)) (lines_of t (ls ++ ms)) ≡ cond b (l ∷ lines_of t ls) (lines_of t ls) ++ lines_of t ms
    by true e = ap (λ x. l ∷ x) e
    by false e = e

-- a line of the table, and a line of another
pub lines_own : (t : ℕ) (l : Line) (ls : List Line) → l.table ≡ t → lines_of t (l ∷ ls) ≡ l ∷ lines_of t ls
lines_own t l ls h = ap (λ b. cond b (l ∷ lines_of t ls) (lines_of t ls)) (eq-eqb l.table t h)

pub lines_other : (t : ℕ) (l : Line) (ls : List Line) → (l.table ≡ t → ⊥) → lines_of t (l ∷ ls) ≡ lines_of t ls
lines_other t l ls h = ap (λ b. cond b (l ∷ lines_of t ls) (lines_of t ls)) (ne_eqb l.table t h)

-- past the tables there are no lines
pub lines_none : (n t : ℕ) (ls : List Line) → below n ls ≡ true → n ≤ t → lines_of t ls ≡ []
lines_none n t [] h k = refl
lines_none n t (l ∷ ls) h k =
    let p = and_parts (ltb l.table n) (below n ls) h in
    let low : l.table < n = ltb-true l.table n p.0 in
    lines_other t l ls (λ e. omega arith) ∙ lines_none n t ls p.1 k

-- Removing and renumbering, a line at a time: `rest` is what it comes to for the lines after it.

without_cons : (t g : ℕ) (l : Line) (ls : List Line) → (t ≡ g → ⊥) → lines_of t (without g ls) ≡ lines_of t ls → lines_of t (without g (l ∷ ls)) ≡ lines_of t (l ∷ ls)
without_cons t g l ls ne rest =
    ⊎_elim
    (λ h. ap (λ b. lines_of t (cond (not b) (l ∷ without g ls) (without g ls))) (eq-eqb l.table g h) ∙ rest ∙ sym (lines_other t l ls (λ k. ne (sym k ∙ h))))
    (λ h. ap (λ b. lines_of t (cond (not b) (l ∷ without g ls) (without g ls))) (ne_eqb l.table g h) ∙ ap (λ x. cond (eqb l.table t) (l ∷ x) x) rest)
    (cases_eq l.table g)

-- without a table's lines, those of the others are as before
pub lines_without : (t g : ℕ) (ls : List Line) → (t ≡ g → ⊥) → lines_of t (without g ls) ≡ lines_of t ls
lines_without t g [] ne = refl
lines_without t g (l ∷ ls) ne = without_cons t g l ls ne (lines_without t g ls ne)

renumbered_cons : (t f n : ℕ) (l : Line) (ls : List Line) → (t ≡ f → ⊥) → (t ≡ n → ⊥) → lines_of t (renumbered f n ls) ≡ lines_of t ls → lines_of t (renumbered f n (l ∷ ls)) ≡ lines_of t (l ∷ ls)
renumbered_cons t f n l ls nf nn rest =
    ⊎_elim
    (λ h. ap (λ b. lines_of t (cond b (record { table = n; cells = l.cells }) l ∷ renumbered f n ls)) (eq-eqb l.table f h) ∙ lines_other t (record { table = n; cells = l.cells }) (renumbered f n ls) (λ k. nn (sym k)) ∙ rest ∙ sym (lines_other t l ls (λ k. nf (sym k ∙ h))))
    (λ h. ap (λ b. lines_of t (cond b (record { table = n; cells = l.cells }) l ∷ renumbered f n ls)) (ne_eqb l.table f h) ∙ ap (λ x. cond (eqb l.table t) (l ∷ x) x) rest)
    (cases_eq l.table f)

-- renumbering concerns two tables only
pub lines_renumbered : (t f n : ℕ) (ls : List Line) → (t ≡ f → ⊥) → (t ≡ n → ⊥) → lines_of t (renumbered f n ls) ≡ lines_of t ls
lines_renumbered t f n [] nf nn = refl
lines_renumbered t f n (l ∷ ls) nf nn = renumbered_cons t f n l ls nf nn (lines_renumbered t f n ls nf nn)

-- the rows of one table, given to a table that has none
moved_cons : (f n w : ℕ) (l : Line) (ls : List Line) → (f ≡ n → ⊥) → rows_of w (lines_of n (renumbered f n (without n ls))) ≡ rows_of w (lines_of f ls) → rows_of w (lines_of n (renumbered f n (without n (l ∷ ls)))) ≡ rows_of w (lines_of f (l ∷ ls))
moved_cons f n w l ls ne rest =
    ⊎_elim
    (λ h. ap (λ b. rows_of w (lines_of n (renumbered f n (cond (not b) (l ∷ without n ls) (without n ls))))) (eq-eqb l.table n h) ∙ rest ∙ ap (rows_of w) (sym (lines_other f l ls (λ k. ne (sym k ∙ h)))))
    (λ h. ap (λ b. rows_of w (lines_of n (renumbered f n (cond (not b) (l ∷ without n ls) (without n ls))))) (ne_eqb l.table n h) ∙ kept h)
    (cases_eq l.table n)
  where
    others : List Line
    others = renumbered f n (without n ls)

    kept : (l.table ≡ n → ⊥) → rows_of w (lines_of n (renumbered f n (l ∷ without n ls))) ≡ rows_of w (lines_of f (l ∷ ls))
    kept h =
        ⊎_elim
        (λ k. ap (λ b. rows_of w (lines_of n (cond b (record { table = n; cells = l.cells }) l ∷ renumbered f n (without n ls)))) (eq-eqb l.table f k) ∙ ap (rows_of w) (lines_own n (record { table = n; cells = l.cells }) (renumbered f n (without n ls)) refl) ∙ ap (λ x. take w l.cells ∷ x) rest ∙ ap (rows_of w) (sym (lines_own f l ls k)))
        (λ k. ap (λ b. rows_of w (lines_of n (cond b (record { table = n; cells = l.cells }) l ∷ renumbered f n (without n ls)))) (ne_eqb l.table f k) ∙ ap (rows_of w) (lines_other n l (renumbered f n (without n ls)) h) ∙ rest ∙ ap (rows_of w) (sym (lines_other f l ls k)))
        (cases_eq l.table f)

pub rows_moved : (f n w : ℕ) (ls : List Line) → (f ≡ n → ⊥) → rows_of w (lines_of n (renumbered f n (without n ls))) ≡ rows_of w (lines_of f ls)
rows_moved f n w [] ne = refl
rows_moved f n w (l ∷ ls) ne = moved_cons f n w l ls ne (rows_moved f n w ls ne)

-- Lines stay owned.

pub below_append : (n m : ℕ) (ls : List Line) (l : Line) → n ≤ m → below n ls ≡ true → l.table < m → below m (ls ++ l ∷ []) ≡ true
below_append n m [] l h k low = and_from (ltb l.table m) true (lt-ltb l.table m low) refl
below_append n m (x ∷ ls) l h k low =
    let p = and_parts (ltb x.table n) (below n ls) k in
    let here : x.table < n = ltb-true x.table n p.0 in
    and_from (ltb x.table m) (below m (ls ++ l ∷ [])) (lt-ltb x.table m (omega arith)) (below_append n m ls l h p.1 low)

pub below_more : (n m : ℕ) (ls : List Line) → n ≤ m → below n ls ≡ true → below m ls ≡ true
below_more n m [] h k = refl
below_more n m (x ∷ ls) h k =
    let p = and_parts (ltb x.table n) (below n ls) k in
    let here : x.table < n = ltb-true x.table n p.0 in
    and_from (ltb x.table m) (below m ls) (lt-ltb x.table m (omega arith)) (below_more n m ls h p.1)

-- without the lines of the last table
pub below_without : (n : ℕ) (ls : List Line) → below (suc n) ls ≡ true → below n (without n ls) ≡ true
below_without n [] k = refl
below_without n (l ∷ ls) k = cons (and_parts (ltb l.table (suc n)) (below (suc n) ls) k).0 (below_without n ls (and_parts (ltb l.table (suc n)) (below (suc n) ls) k).1)
  where
    cons : ltb l.table (suc n) ≡ true → below n (without n ls) ≡ true → below n (without n (l ∷ ls)) ≡ true
    cons low rest =
        let here : l.table < suc n = ltb-true l.table (suc n) low in
        ⊎_elim
        (λ h. ap (λ b. below n (cond (not b) (l ∷ without n ls) (without n ls))) (eq-eqb l.table n h) ∙ rest)
        (λ h. ap (λ b. below n (cond (not b) (l ∷ without n ls) (without n ls))) (ne_eqb l.table n h) ∙ and_from (ltb l.table n) (below n (without n ls)) (lt-ltb l.table n (less here h)) rest)
        (cases_eq l.table n)
      where
        less : l.table < suc n → (l.table ≡ n → ⊥) → l.table < n
        less a b = ⊎_elim (λ e. absurd (b e)) (λ e. ⊎_elim (λ x. x) (λ x. absurd (omega arith)) e) (cases_order l.table n)

-- a part of owned lines is owned
pub below_part : (n g : ℕ) (ls : List Line) → below n ls ≡ true → below n (without g ls) ≡ true
below_part n g [] k = refl
below_part n g (l ∷ ls) k =
    let p = and_parts (ltb l.table n) (below n ls) k in
    by (eqb l.table g) p.0 (below_part n g ls p.1)
  where
    by : (b : Bool) → ltb l.table n ≡ true → below n (without g ls) ≡ true → below n (cond (not b) (l ∷ without g ls) (without g ls)) ≡ true
    by true low rest = rest
    by false low rest = and_from (ltb l.table n) (below n (without g ls)) low rest

-- the last table's lines given to an earlier one
pub below_renumbered : (n to : ℕ) (ls : List Line) → to < n → below (suc n) ls ≡ true → below n (renumbered n to ls) ≡ true
below_renumbered n to [] h k = refl
below_renumbered n to (l ∷ ls) h k = cons (and_parts (ltb l.table (suc n)) (below (suc n) ls) k).0 (below_renumbered n to ls h (and_parts (ltb l.table (suc n)) (below (suc n) ls) k).1)
  where
    cons : ltb l.table (suc n) ≡ true → below n (renumbered n to ls) ≡ true → below n (renumbered n to (l ∷ ls)) ≡ true
    cons low rest =
        let here : l.table < suc n = ltb-true l.table (suc n) low in
        ⊎_elim
        (λ e. ap (λ b. below n (cond b (record { table = to; cells = l.cells }) l ∷ renumbered n to ls)) (eq-eqb l.table n e) ∙ and_from (ltb to n) (below n (renumbered n to ls)) (lt-ltb to n h) rest)
        (λ e. ap (λ b. below n (cond b (record { table = to; cells = l.cells }) l ∷ renumbered n to ls)) (ne_eqb l.table n e) ∙ and_from (ltb l.table n) (below n (renumbered n to ls)) (lt-ltb l.table n (less here e)) rest)
        (cases_eq l.table n)
      where
        less : l.table < suc n → (l.table ≡ n → ⊥) → l.table < n
        less a b = ⊎_elim (λ e. absurd (b e)) (λ e. ⊎_elim (λ x. x) (λ x. absurd (omega arith)) e) (cases_order l.table n)

-- Tables.

-- the table of this number
abbrev pub table_of : List ℕ → List Line → ℕ → Table
table_of ws ls k = record { width = get_or ws k 0; rows = rows_of (get_or ws k 0) (lines_of k ls) }

numbered_at : (t : ℕ) (ws : List ℕ) (ls : List Line) (k : ℕ) (d : Table) → k < length ws → get_or (numbered t ws ls) k d ≡ record { width = get_or ws k 0; rows = rows_of (get_or ws k 0) (lines_of (t + k) ls) }
numbered_at t [] ls k d l = absurd (omega arith)
numbered_at t (w ∷ ws) ls zero d l = ap (λ n. record { width = w; rows = rows_of w (lines_of n ls) }) (sym (add-zero t))
numbered_at t (w ∷ ws) ls (suc k) d l =
    let up : t + 1 + k ≡ t + suc k = omega arith in
    numbered_at (t + 1) ws ls k d (omega arith) ∙ ap (λ n. record { width = get_or ws k 0; rows = rows_of (get_or ws k 0) (lines_of n ls) }) up

pub table_is : (ws : List ℕ) (ls : List Line) (k : ℕ) (d : Table) → k < length ws → get_or (tables_of ws ls) k d ≡ table_of ws ls k
table_is ws ls k d l =
    let up : 0 + k ≡ k = omega arith in
    numbered_at 0 ws ls k d l ∙ ap (λ n. record { width = get_or ws k 0; rows = rows_of (get_or ws k 0) (lines_of n ls) }) up

-- tables side by side
pub numbered_append : (t : ℕ) (ws vs : List ℕ) (ls : List Line) → numbered t (ws ++ vs) ls ≡ numbered t ws ls ++ numbered (t + length ws) vs ls
numbered_append t [] vs ls = ap (λ n. numbered n vs ls) (sym (add-zero t))
numbered_append t (w ∷ ws) vs ls =
    let up : t + 1 + length ws ≡ t + suc (length ws) = omega arith in
    ap (λ x. record { width = w; rows = rows_of w (lines_of t ls) } ∷ x) (numbered_append (t + 1) ws vs ls ∙ ap (λ n. numbered (t + 1) ws ls ++ numbered n vs ls) up)

-- other lines that hold the same of these tables
pub numbered_same : (t : ℕ) (ws : List ℕ) (ls ms : List Line) → ((k : ℕ) → k < t + length ws → lines_of k ls ≡ lines_of k ms) → numbered t ws ls ≡ numbered t ws ms
numbered_same t [] ls ms h = refl
numbered_same t (w ∷ ws) ls ms h =
    ap₂ (λ x y. record { width = w; rows = rows_of w x } ∷ y) (h t (omega arith)) (numbered_same (t + 1) ws ls ms (λ k l. h k (omega arith)))

-- the width of a table of a sound ledger
pub table_good : (ws : List ℕ) (ls : List Line) (k : ℕ) → k < length ws → sound_tables (tables_of ws ls) ≡ true → (1 ≤ get_or ws k 0) × (get_or ws k 0 ≤ columns)
table_good ws ls k l s =
    let g = good (get_or (tables_of ws ls) k no_table) (sound_at (tables_of ws ls) k (omega (arith, length_numbered 0 ws ls)) s) in
    let w = ap (λ x. x.width) (table_is ws ls k no_table l) in
    (omega (arith, w, g.low), omega (arith, w, g.high))

-- Lines stay owned, as the widths change.

pub below_open : (ws vs : List ℕ) (w : ℕ) (ls : List Line) → vs ≡ ws ++ w ∷ [] → below (length ws) ls ≡ true → below (length vs) ls ≡ true
below_open ws vs w ls is h = below_more (length ws) (length vs) ls (omega (arith, ap length is, length-append ws (w ∷ []))) h

pub below_drop : (ws vs : List ℕ) (w : ℕ) (ls ms : List Line) → ws ≡ vs ++ w ∷ [] → ms ≡ without (length vs) ls → below (length ws) ls ≡ true → below (length vs) ms ≡ true
below_drop ws vs w ls ms is ms_is h =
    let up : length ws ≡ suc (length vs) = ap length is ∙ length-append vs (w ∷ []) ∙ omega arith in
    ap (below (length vs)) ms_is ∙ below_without (length vs) ls (ap (λ n. below n ls) (sym up) ∙ h)

pub below_settle : (ws vs : List ℕ) (m n : ℕ) (ls ms : List Line) → n < m → suc m ≡ length ws → length vs ≡ m → ms ≡ renumbered m n (without n ls) → below (length ws) ls ≡ true → below (length vs) ms ≡ true
below_settle ws vs m n ls ms lt m_is long is h =
    ap₂ below long is ∙ below_renumbered m n (without n ls) lt (below_part (suc m) n ls (ap (λ k. below k ls) m_is ∙ h))
