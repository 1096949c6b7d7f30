-- What is inserted row by row has no row twice.
use Rattle.std.proofs.Common.{◌≡◌, ℕ, Bool, true, false, cond, List, [], ◌∷◌, ◌++◌, refl, subst, arith}
use Rattle.meaning.specs.Evaluation.{gathered, replacing, evaluate, rows_in}
use Rattle.meaning.specs.Laws.{Distinct, Distinct.no_rows, Distinct.another, UpdatesHaveNoRepeats}
use Rattle.meaning.specs.Values.{Row, Datum, Datum.table, has, insert, Computed, Computed.computed, Computed.fails, bind}

-- one row more
pub insert_distinct : (rows : List Row) (r : Row) → Distinct rows → Distinct (insert rows r)
insert_distinct rows r d = go (has rows r) refl
  where
    go : (b : Bool) → has rows r ≡ b → Distinct (cond b rows (rows ++ (r ∷ [])))
    go true e = d
    go false e = another rows r d e

-- what holds of a computed table
abbrev Holds : Computed (List Row) → Type 0
Holds (computed rows) = Distinct rows
Holds (fails r p) = Unit {0}

-- rows in turn, where each step keeps it
gathered_distinct : (f : Row → Computed Datum) (add : List Row → Row → Datum → List Row) →
    ((rows : List Row) (r : Row) (d : Datum) → Distinct rows → Distinct (add rows r d)) →
    (result rows : List Row) → Distinct result → Holds (gathered f add result rows)
gathered_distinct f add keeps result [] h = h
gathered_distinct f add keeps result (r ∷ rows) h = go (f r) (λ d. gathered_distinct f add keeps (add result r d) rows (keeps result r d h))
  where
    go : (x : Computed Datum) → ((d : Datum) → Holds (gathered f add (add result r d) rows)) → Holds (bind x (λ d. gathered f add (add result r d) rows))
    go (computed d) ih = ih d
    go (fails q p) ih = tt

pub updates_have_no_repeats : UpdatesHaveNoRepeats
unfolding evaluate
updates_have_no_repeats columns k d p value operand vars around rows h = outer (evaluate operand vars around) h
  where
    inner : (x : Computed (List Row)) → Holds x → bind x (λ rs. computed (table rs)) ≡ computed (table rows) → Distinct rows
    inner (computed rs) held e = let same : rs ≡ rows = cc in subst Distinct same held
    inner (fails q r) held e = let z : ◌≡◌ {A = ℕ} 0 1 = cc in absurd (omega arith)

    outer : (x : Computed Datum) →
        bind x (λ t. bind (gathered (λ r. evaluate value vars (r ∷ around)) (replacing k) [] (rows_in t)) (λ rs. computed (table rs))) ≡ computed (table rows) → Distinct rows
    outer (computed t) e =
        inner _ (gathered_distinct (λ r. evaluate value vars (r ∷ around)) (replacing k) (λ rs r v held. insert_distinct rs _ held) [] (rows_in t) no_rows) e
    outer (fails q r) e = let z : ◌≡◌ {A = ℕ} 0 1 = cc in absurd (omega arith)
