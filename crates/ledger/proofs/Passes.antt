-- Passes over the lines of a ledger, a line at a time.
use Rattle.std.proofs.Common.{◌≡◌, ℕ, suc, ◌+◌, ◌<◌, ◌≤◌, Bool, true, false, cond, ◌&&◌, ◌||◌, eqb, List, [], ◌∷◌, ◌++◌, length, get_or, take, drop, set, sym, refl, ap, ◌∙◌, ap₂, arith}
use Rattle.std.proofs.lemmas.Bool.{eq-eqb, ne_eqb}
use Rattle.std.proofs.lemmas.List.{drop_more, drop_all, take_more, take_all, append-nil, append_assoc, get_or_at, set_at, length-take-le, length-append, take-append-drop}
use Rattle.std.specs.List.{list_any}
use Rattle.store.specs.Meaning.{Row, has, same_row}
use Rattle.ledger.specs.Lines.{lines_of, rows_of, renumbered}
use Rattle.ledger.specs.declared.line.Line.{Line}

-- Reading: what the lines from number i on hold of a table.

-- line i is one of the table's
pub lines_hit : (ls : List Line) (t i : ℕ) (d : Line) → i < length ls → (get_or ls i d).table ≡ t → lines_of t (drop i ls) ≡ get_or ls i d ∷ lines_of t (drop (i + 1) ls)
lines_hit ls t i d l h =
    ap (lines_of t) (drop_more ls i d l) ∙ ap (λ b. cond b (get_or ls i d ∷ lines_of t (drop (i + 1) ls)) (lines_of t (drop (i + 1) ls))) (eq-eqb (get_or ls i d).table t h)

-- or it is not
pub lines_miss : (ls : List Line) (t i : ℕ) (d : Line) → i < length ls → ((get_or ls i d).table ≡ t → ⊥) → lines_of t (drop i ls) ≡ lines_of t (drop (i + 1) ls)
lines_miss ls t i d l h =
    ap (lines_of t) (drop_more ls i d l) ∙ ap (λ b. cond b (get_or ls i d ∷ lines_of t (drop (i + 1) ls)) (lines_of t (drop (i + 1) ls))) (ne_eqb (get_or ls i d).table t h)

-- no line is left
pub lines_end : (ls : List Line) (t i : ℕ) → length ls ≤ i → lines_of t (drop i ls) ≡ []
lines_end ls t i l = ap (lines_of t) (drop_all i ls l)

-- a table's rows have the row if some line of the table begins with it
pub has_any : (ls : List Line) (row : Row) (w t : ℕ) → list_any (λ l. eqb l.table t && same_row (take w l.cells) row) ls ≡ has (rows_of w (lines_of t ls)) row
has_any [] row w t = refl
has_any (l ∷ ls) row w t = by (eqb l.table t) (has_any ls row w t)
  where
    here : Bool
    here = same_row (take w l.cells) row

    by : (b : Bool) → list_any (λ l. eqb l.table t && same_row (take w l.cells) row) ls ≡ has (rows_of w (lines_of t ls)) row → ((b && here) || list_any (λ l. eqb l.table t && same_row (take w l.cells) row) ls) ≡ has (rows_of w (cond b (l ∷ lines_of t ls) (lines_of t ls))) row
    by true e = ap (λ b. here || b) e
    by false e = e

-- Renumbering: `now` has the first i lines renumbered.

length_renumbered : (from to : ℕ) (ls : List Line) → length (renumbered from to ls) ≡ length ls
length_renumbered from to [] = refl
length_renumbered from to (l ∷ ls) = ap suc (length_renumbered from to ls)

renumbered_append : (from to : ℕ) (ls ms : List Line) → renumbered from to (ls ++ ms) ≡ renumbered from to ls ++ renumbered from to ms
renumbered_append from to [] ms = refl
renumbered_append from to (l ∷ ls) ms = ap (λ x. cond (eqb l.table from) (record { table = to; cells = l.cells }) l ∷ x) (renumbered_append from to ls ms)

module _ (ls now : List Line) (from to i : ℕ) (d : Line) (l : i < length ls) (inv : now ≡ renumbered from to (take i ls) ++ drop i ls) where
  here : length (renumbered from to (take i ls)) ≡ i
  here = length_renumbered from to (take i ls) ∙ length-take-le i ls (omega arith)

  cut : now ≡ renumbered from to (take i ls) ++ get_or ls i d ∷ drop (i + 1) ls
  cut = inv ∙ ap (λ x. renumbered from to (take i ls) ++ x) (drop_more ls i d l)

  reads : get_or now i d ≡ get_or ls i d
  reads = ap (λ x. get_or x i d) cut ∙ get_or_at (renumbered from to (take i ls)) (get_or ls i d) (drop (i + 1) ls) d i here

  more : (x : Line) → cond (eqb (get_or ls i d).table from) (record { table = to; cells = (get_or ls i d).cells }) (get_or ls i d) ≡ x → renumbered from to (take (i + 1) ls) ++ drop (i + 1) ls ≡ renumbered from to (take i ls) ++ x ∷ drop (i + 1) ls
  more x h =
      ap (λ y. y ++ drop (i + 1) ls) (ap (renumbered from to) (take_more ls i d l) ∙ renumbered_append from to (take i ls) (get_or ls i d ∷ []) ∙ ap (λ y. renumbered from to (take i ls) ++ y ∷ []) h) ∙ append_assoc (renumbered from to (take i ls)) (x ∷ []) (drop (i + 1) ls)

  pub renumber_hit : (get_or now i d).table ≡ from → set now i (record { table = to; cells = (get_or now i d).cells }) ≡ renumbered from to (take (i + 1) ls) ++ drop (i + 1) ls
  renumber_hit h =
      let x : Line = record { table = to; cells = (get_or ls i d).cells } in
      let is : eqb (get_or ls i d).table from ≡ true = eq-eqb (get_or ls i d).table from (ap (λ y. y.table) (sym reads) ∙ h) in
      ap₂ (λ y (z : Line). set y i (record { table = to; cells = z.cells })) cut reads ∙ set_at (renumbered from to (take i ls)) (get_or ls i d) (drop (i + 1) ls) x i here ∙ sym (more x (ap (λ b. cond b x (get_or ls i d)) is))

  pub renumber_miss : ((get_or now i d).table ≡ from → ⊥) → now ≡ renumbered from to (take (i + 1) ls) ++ drop (i + 1) ls
  renumber_miss h =
      let is : eqb (get_or ls i d).table from ≡ false = ne_eqb (get_or ls i d).table from (λ e. h (ap (λ y. y.table) reads ∙ e)) in
      cut ∙ sym (more (get_or ls i d) (ap (λ b. cond b (record { table = to; cells = (get_or ls i d).cells }) (get_or ls i d)) is))

pub renumber_all : (ls now : List Line) (from to i : ℕ) → length ls ≤ i → now ≡ renumbered from to (take i ls) ++ drop i ls → now ≡ renumbered from to ls
renumber_all ls now from to i l inv = inv ∙ ap₂ (λ x y. renumbered from to x ++ y) (take_all i ls l) (drop_all i ls l) ∙ append-nil (renumbered from to ls)

-- no line comes or goes
pub renumber_long : (ls now : List Line) (from to i : ℕ) → now ≡ renumbered from to (take i ls) ++ drop i ls → length now ≡ length ls
renumber_long ls now from to i inv =
    ap length inv ∙ length-append (renumbered from to (take i ls)) (drop i ls) ∙ ap (λ n. n + length (drop i ls)) (length_renumbered from to (take i ls)) ∙ sym (length-append (take i ls) (drop i ls)) ∙ ap length (take-append-drop i ls)
