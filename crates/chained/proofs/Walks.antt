-- Chains: walks, steps, and the chain that a new store has.
use Rattle.std.proofs.Common.{◌≡◌, ℕ, zero, suc, ◌+◌, ◌-◌, ◌<◌, ◌≤◌, true, not, eqb, ltb, List, [], ◌∷◌, ◌++◌, length, get_or, ℤ, pos, sym, refl, ap, ◌∙◌, subst, suc-add, zero-add, arith}
use Rattle.std.specs.List.{range_with_len}
use Rattle.std.proofs.lemmas.List.FromFn.{get_or-range_with_len}
use Rattle.std.proofs.lemmas.Bool.{and_from, and_parts, not_from_false, ne_eqb, lt-ltb, ltb-true}
use Rattle.std.proofs.lemmas.List.{map-append, length-map}
use Rattle.chained.specs.Chains.{walk, step, gather, absent, distinct, under}

-- in a new store each cell is linked to the one after it
pub walk_counting : (n k h : ℕ) → h + k ≤ n → walk (range_with_len 1 n) k h ≡ range_with_len h k
walk_counting n zero h l = refl
walk_counting n (suc k) h l =
    let e : get_or (range_with_len 1 n) h 0 ≡ h + 1 = get_or-range_with_len 1 n h 0 (omega arith) ∙ omega arith in
    ap (λ xs. h ∷ xs) (ap (walk (range_with_len 1 n) k) e ∙ walk_counting n k (h + 1) (omega arith))

absent_counting : (x b n : ℕ) → x < b → absent x (range_with_len b n) ≡ true
absent_counting x b zero l = refl
absent_counting x b (suc n) l =
    and_from (not (eqb x b)) (absent x (range_with_len (b + 1) n)) (not_from_false (eqb x b) (ne_eqb x b (λ e. omega arith))) (absent_counting x (b + 1) n (omega arith))

-- so no cell comes twice
pub distinct_counting : (a n : ℕ) → distinct (range_with_len a n) ≡ true
distinct_counting a zero = refl
distinct_counting a (suc n) =
    and_from (absent a (range_with_len (a + 1) n)) (distinct (range_with_len (a + 1) n)) (absent_counting a (a + 1) n (omega arith)) (distinct_counting (a + 1) n)

-- and all are within the store
pub under_counting : (m a n : ℕ) → a + n ≤ m → under m (range_with_len a n) ≡ true
under_counting m a zero l = refl
under_counting m a (suc n) l =
    and_from (ltb a m) (under m (range_with_len (a + 1) n)) (lt-ltb a m (omega arith)) (under_counting m (a + 1) n (omega arith))

-- a walk has the length that was asked for
pub length_walk : (ns : List ℕ) (n h : ℕ) → length (walk ns n h) ≡ n
length_walk ns zero h = refl
length_walk ns (suc n) h = ap suc (length_walk ns n (get_or ns h 0))

-- a walk in two parts
pub walk_add : (ns : List ℕ) (m n h : ℕ) → walk ns (m + n) h ≡ walk ns m h ++ walk ns n (step ns m h)
walk_add ns zero n h = ap (λ k. walk ns k h) (zero-add n)
walk_add ns (suc m) n h = ap (λ k. walk ns k h) (suc-add m n) ∙ ap (λ xs. h ∷ xs) (walk_add ns m n (get_or ns h 0))

-- links followed in two parts
pub step_add : (ns : List ℕ) (m n h : ℕ) → step ns (m + n) h ≡ step ns n (step ns m h)
step_add ns zero n h = ap (λ k. step ns k h) (zero-add n)
step_add ns (suc m) n h = ap (λ k. step ns k h) (suc-add m n) ∙ step_add ns m n (get_or ns h 0)

-- the cell of this number on a walk
pub get_d_walk : (ns : List ℕ) (n i h d : ℕ) → i < n → get_or (walk ns n h) i d ≡ step ns i h
get_d_walk ns zero i h d l = absurd (omega arith)
get_d_walk ns (suc n) zero h d l = refl
get_d_walk ns (suc n) (suc i) h d l = get_d_walk ns n i (get_or ns h 0) d (omega arith)

-- each place of a list within the cells is within them
pub under_get_d : (m : ℕ) (is : List ℕ) (i d : ℕ) → under m is ≡ true → i < length is → get_or is i d < m
under_get_d m [] i d h l = absurd (omega arith)
under_get_d m (x ∷ is) zero d h l = ltb-true x m (and_parts (ltb x m) (under m is) h).0
under_get_d m (x ∷ is) (suc i) d h l = under_get_d m is i d (and_parts (ltb x m) (under m is) h).1 (omega arith)

-- a cell for each place
pub length_gather : (cs : List ℤ) (is : List ℕ) → length (gather cs is) ≡ length is
length_gather cs is = length-map is (λ i. get_or cs i (pos 0))

-- cells at two lists of places
pub gather_append : (cs : List ℤ) (is js : List ℕ) → gather cs (is ++ js) ≡ gather cs is ++ gather cs js
gather_append cs is js = map-append (λ i. get_or cs i (pos 0)) is js

-- one turn of a loop along the chain
pub step_next : (ns : List ℕ) (n i at : ℕ) → i < n → step ns (n - i) at ≡ step ns (n - (i + 1)) (get_or ns at 0)
step_next ns n i at l =
    let e : n - i ≡ suc (n - (i + 1)) = omega arith in
    ap (λ k. step ns k at) e

-- the same of the cells walked over
pub walk_next : (ns : List ℕ) (n i at : ℕ) → i < n → walk ns (n - i) at ≡ at ∷ walk ns (n - (i + 1)) (get_or ns at 0)
walk_next ns n i at l =
    let e : n - i ≡ suc (n - (i + 1)) = omega arith in
    ap (λ k. walk ns k at) e

-- and of their being within the cells
pub under_next : (m : ℕ) (ns : List ℕ) (n i at : ℕ) → i < n → under m (walk ns (n - i) at) ≡ true → (at < m) × (under m (walk ns (n - (i + 1)) (get_or ns at 0)) ≡ true)
under_next m ns n i at l u =
    let p = and_parts (ltb at m) (under m (walk ns (n - (i + 1)) (get_or ns at 0))) (ap (under m) (sym (walk_next ns n i at l)) ∙ u) in
    (ltb-true at m p.0, p.1)

-- the same at place i of a walk of n
pub step_under : (m : ℕ) (ns : List ℕ) (n i h : ℕ) → i < n → under m (walk ns n h) ≡ true → step ns i h < m
step_under m ns n i h l u =
    subst (λ x. x < m) (get_d_walk ns n i h 0 l) (under_get_d m (walk ns n h) i 0 u (omega (arith, length_walk ns n h)))
