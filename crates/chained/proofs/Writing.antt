-- Writing along a chain: what is written, and that nothing else changes.
use Rattle.std.proofs.Common.{◌≡◌, ℕ, Bool, true, not, ◌&&◌, eqb, ltb, List, [], ◌∷◌, ◌++◌, length, get_or, set, ℤ, pos, sym, refl, ap, ◌∙◌, ap₂, arith}
use Rattle.std.proofs.lemmas.Bool.{and_from, and_parts, not-true, not_from_false, eqb-false, ne_eqb, ltb-true}
use Rattle.std.proofs.lemmas.List.{length-set, get_or-set_same, get_or-set_other}
use Rattle.chained.specs.Chains.{gather, absent, distinct, under, put}

-- no place of the first list is in the second
abbrev pub cross : List ℕ → List ℕ → Bool
cross [] js = true
cross (i ∷ is) js = absent i js && cross is js

-- a place that is in neither part
pub absent_append : (x : ℕ) (js is : List ℕ) → absent x (js ++ is) ≡ true → (absent x js ≡ true) × (absent x is ≡ true)
absent_append x [] is h = (refl, h)
absent_append x (j ∷ js) is h =
    let p = and_parts (not (eqb x j)) (absent x (js ++ is)) h in
    let r = absent_append x js is p.1 in
    (and_from (not (eqb x j)) (absent x js) p.0 r.0, r.1)

cross_cons : (j : ℕ) (is js : List ℕ) → absent j is ≡ true → cross is js ≡ true → cross is (j ∷ js) ≡ true
cross_cons j [] js h k = refl
cross_cons j (i ∷ is) js h k =
    let p = and_parts (not (eqb j i)) (absent j is) h in
    let q = and_parts (absent i js) (cross is js) k in
    let ne : i ≡ j → ⊥ = λ e. eqb-false j i (not-true (eqb j i) p.0) (sym e) in
    and_from (not (eqb i j) && absent i js) (cross is (j ∷ js)) (and_from (not (eqb i j)) (absent i js) (not_from_false (eqb i j) (ne_eqb i j ne)) q.0) (cross_cons j is js p.1 q.1)

cross_nil : (is : List ℕ) → cross is [] ≡ true
cross_nil [] = refl
cross_nil (i ∷ is) = cross_nil is

-- the second part of a list without repeats has none, and shares no place with the first
pub distinct_append : (js is : List ℕ) → distinct (js ++ is) ≡ true → (distinct is ≡ true) × (cross is js ≡ true)
distinct_append [] is h = (h, cross_nil is)
distinct_append (j ∷ js) is h =
    let p = and_parts (absent j (js ++ is)) (distinct (js ++ is)) h in
    let r = distinct_append js is p.1 in
    (r.0, cross_cons j is js (absent_append j js is p.0).1 r.1)

-- nor has the first part any
pub distinct_front : (js is : List ℕ) → distinct (js ++ is) ≡ true → distinct js ≡ true
distinct_front [] is h = refl
distinct_front (j ∷ js) is h =
    let p = and_parts (absent j (js ++ is)) (distinct (js ++ is)) h in
    and_from (absent j js) (distinct js) (absent_append j js is p.0).0 (distinct_front js is p.1)

-- both parts of a list within the cells are within them
pub under_append : (n : ℕ) (js is : List ℕ) → under n (js ++ is) ≡ true → (under n js ≡ true) × (under n is ≡ true)
under_append n [] is h = (refl, h)
under_append n (j ∷ js) is h =
    let p = and_parts (ltb j n) (under n (js ++ is)) h in
    let r = under_append n js is p.1 in
    (and_from (ltb j n) (under n js) p.0 r.0, r.1)

-- writing adds no cell
pub length_put : (cs : List ℤ) (is : List ℕ) (xs : List ℤ) → length (put cs is xs) ≡ length cs
length_put cs [] xs = refl
length_put cs (i ∷ is) [] = refl
length_put cs (i ∷ is) (x ∷ xs) = length_put (set cs i x) is xs ∙ length-set cs i x

get_d_put_absent : (cs : List ℤ) (is : List ℕ) (xs : List ℤ) (j : ℕ) (d : ℤ) → absent j is ≡ true → get_or (put cs is xs) j d ≡ get_or cs j d
get_d_put_absent cs [] xs j d h = refl
get_d_put_absent cs (i ∷ is) [] j d h = refl
get_d_put_absent cs (i ∷ is) (x ∷ xs) j d h =
    let p = and_parts (not (eqb j i)) (absent j is) h in
    get_d_put_absent (set cs i x) is xs j d p.1 ∙ get_or-set_other cs i j x d (eqb-false j i (not-true (eqb j i) p.0))

gather_set : (cs : List ℤ) (i : ℕ) (x : ℤ) (js : List ℕ) → absent i js ≡ true → gather (set cs i x) js ≡ gather cs js
gather_set cs i x [] h = refl
gather_set cs i x (j ∷ js) h =
    let p = and_parts (not (eqb i j)) (absent i js) h in
    ap₂ ◌∷◌ (get_or-set_other cs i j x (pos 0) (λ e. eqb-false i j (not-true (eqb i j) p.0) (sym e))) (gather_set cs i x js p.1)

gather_cross : (cs : List ℤ) (is : List ℕ) (xs : List ℤ) (js : List ℕ) → cross is js ≡ true → gather (put cs is xs) js ≡ gather cs js
gather_cross cs [] xs js h = refl
gather_cross cs (i ∷ is) [] js h = refl
gather_cross cs (i ∷ is) (x ∷ xs) js h =
    let p = and_parts (absent i js) (cross is js) h in
    gather_cross (set cs i x) is xs js p.1 ∙ gather_set cs i x js p.0

gather_put : (cs : List ℤ) (is : List ℕ) (xs : List ℤ) → distinct is ≡ true → under (length cs) is ≡ true → length xs ≡ length is → gather (put cs is xs) is ≡ xs
gather_put cs [] [] d u l = refl
gather_put cs [] (x ∷ xs) d u l = absurd (omega arith)
gather_put cs (i ∷ is) [] d u l = absurd (omega arith)
gather_put cs (i ∷ is) (x ∷ xs) d u l =
    let p = and_parts (absent i is) (distinct is) d in
    let q = and_parts (ltb i (length cs)) (under (length cs) is) u in
    let more : under (length (set cs i x)) is ≡ true = ap (λ n. under n is) (length-set cs i x) ∙ q.1 in
    ap₂ ◌∷◌ (get_d_put_absent (set cs i x) is xs i (pos 0) p.0 ∙ get_or-set_same cs i x (pos 0) (ltb-true i (length cs) q.0)) (gather_put (set cs i x) is xs p.1 more (omega arith))

-- what stood before stays, and the row follows it
pub gather_added : (cs : List ℤ) (js is rest : List ℕ) (xs : List ℤ) → distinct ((js ++ is) ++ rest) ≡ true → under (length cs) ((js ++ is) ++ rest) ≡ true → length xs ≡ length is → (gather (put cs is xs) js ≡ gather cs js) × (gather (put cs is xs) is ≡ xs)
gather_added cs js is rest xs d u l =
    let front = distinct_front (js ++ is) rest d in
    let p = distinct_append js is front in
    let v = under_append (length cs) js is (under_append (length cs) (js ++ is) rest u).0 in
    (gather_cross cs is xs js p.1, gather_put cs is xs p.0 v.1 l)

-- one cell more is written
pub put_more : (cs : List ℤ) (is : List ℕ) (xs : List ℤ) (i : ℕ) (x : ℤ) → length xs ≡ length is → put cs (is ++ i ∷ []) (xs ++ x ∷ []) ≡ set (put cs is xs) i x
put_more cs [] [] i x l = refl
put_more cs [] (y ∷ xs) i x l = absurd (omega arith)
put_more cs (j ∷ is) [] i x l = absurd (omega arith)
put_more cs (j ∷ is) (y ∷ xs) i x l = put_more (set cs j y) is xs i x (omega arith)
