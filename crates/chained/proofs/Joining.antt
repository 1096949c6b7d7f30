-- Two chains joined: what is on the joined chain, and that all other chains stay as they are.
use Rattle.std.proofs.Common.{◌≡◌, ℕ, zero, suc, ◌+◌, ◌-◌, ◌<◌, ◌≤◌, true, not, eqb, ltb, List, [], ◌∷◌, ◌++◌, length, set, sym, refl, ap, ◌∙◌, ap₂, zero-add, arith}
use Rattle.std.proofs.lemmas.Bool.{and_from, and_parts}
use Rattle.std.proofs.lemmas.List.{append_assoc, length-set, length-append}
use Rattle.directory.specs.Run.{extent_of, extent}
use Rattle.directory.specs.declared.entry.Entry.{Entry}
use Rattle.chained.specs.Chains.{walk, step, places, absent, distinct, under, head_of, joined}
use Rattle.chained.proofs.Walks.{walk_add, length_walk, step_under}
use Rattle.chained.proofs.Writing.{cross, under_append}
use Rattle.chained.proofs.Stretches.{Seg, seg_of, seg_join, seg_frame, seg_relink, walk_frame, cross_last, cross_append, four}

-- What the code of `join` does.

-- an empty chain: the other one is the whole
pub join_none : (ns : List ℕ) (size first next : ℕ) → size ≡ 0 → (next ≡ head_of size first next) × (ns ≡ joined ns size first next)
join_none ns zero first next z = (refl, refl)
join_none ns (suc k) first next z = absurd (omega arith)

-- else the last cell gets a new link
pub join_some : (ns : List ℕ) (size first next last : ℕ) → 0 < size → last ≡ step ns (size - 1) first → (first ≡ head_of size first next) × (set ns last next ≡ joined ns size first next)
join_some ns zero first next last p e = absurd (omega arith)
join_some ns (suc k) first next last p e =
    let down : suc k - 1 ≡ k = omega arith in
    (refl, ap (λ x. set ns x next) (e ∙ ap (λ n. step ns n first) down))

-- a beginning of a chain within the cells is within them
pub under_front : (m : ℕ) (ns : List ℕ) (n k i : ℕ) → n ≤ k → under m (walk ns k i) ≡ true → under m (walk ns n i) ≡ true
under_front m ns n k i l u =
    let e : k ≡ n + (k - n) = omega arith in
    (under_append m (walk ns n i) (walk ns (k - n) (step ns n i)) (ap (under m) (sym (walk_add ns n (k - n) i)) ∙ ap (λ j. under m (walk ns j i)) (sym e) ∙ u)).0

-- Places.

-- no link comes or goes
pub length_joined : (ns : List ℕ) (size first next : ℕ) → length (joined ns size first next) ≡ length ns
length_joined ns zero first next = refl
length_joined ns (suc k) first next = length-set ns (step ns k first) next

-- the cells of two directories side by side
pub places_append : (ns : List ℕ) (es fs : List Entry) → places ns (es ++ fs) ≡ places ns es ++ places ns fs
places_append ns [] fs = refl
places_append ns (e ∷ es) fs = ap (λ x. walk ns (extent_of e) e.first ++ x) (places_append ns es fs) ∙ sym (append_assoc (walk ns (extent_of e) e.first) (places ns es) (places ns fs))

-- as many as the entries say
pub length_places : (ns : List ℕ) (es : List Entry) → length (places ns es) ≡ extent es
length_places ns [] = refl
length_places ns (e ∷ es) = length-append (walk ns (extent_of e) e.first) (places ns es) ∙ ap₂ ◌+◌ (length_walk ns (extent_of e) e.first) (length_places ns es)

-- Lists without repeats, put together.

-- a place that neither part has is not in the whole
pub absent_join : (x : ℕ) (ys zs : List ℕ) → absent x ys ≡ true → absent x zs ≡ true → absent x (ys ++ zs) ≡ true
absent_join x [] zs h k = k
absent_join x (y ∷ ys) zs h k =
    let p = and_parts (not (eqb x y)) (absent x ys) h in
    and_from (not (eqb x y)) (absent x (ys ++ zs)) p.0 (absent_join x ys zs p.1 k)

cross_join : (xs ys zs : List ℕ) → cross xs ys ≡ true → cross xs zs ≡ true → cross xs (ys ++ zs) ≡ true
cross_join [] ys zs h k = refl
cross_join (x ∷ xs) ys zs h k =
    let p = and_parts (absent x ys) (cross xs ys) h in
    let q = and_parts (absent x zs) (cross xs zs) k in
    and_from (absent x (ys ++ zs)) (cross xs (ys ++ zs)) (absent_join x ys zs p.0 q.0) (cross_join xs ys zs p.1 q.1)

-- two parts without repeats that share nothing
pub distinct_join : (xs ys : List ℕ) → distinct xs ≡ true → distinct ys ≡ true → cross xs ys ≡ true → distinct (xs ++ ys) ≡ true
distinct_join [] ys h k x = k
distinct_join (x ∷ xs) ys h k c =
    let p = and_parts (absent x xs) (distinct xs) h in
    let q = and_parts (absent x ys) (cross xs ys) c in
    and_from (absent x (xs ++ ys)) (distinct (xs ++ ys)) (absent_join x xs ys p.0 q.0) (distinct_join xs ys p.1 k q.1)

under_join : (n : ℕ) (xs ys : List ℕ) → under n xs ≡ true → under n ys ≡ true → under n (xs ++ ys) ≡ true
under_join n [] ys h k = k
under_join n (x ∷ xs) ys h k =
    let p = and_parts (ltb x n) (under n xs) h in
    and_from (ltb x n) (under n (xs ++ ys)) p.0 (under_join n xs ys p.1 k)

-- two neighbours exchanged
pub swap_distinct : (P X Y R : List ℕ) → distinct (P ++ (X ++ (Y ++ R))) ≡ true → distinct (P ++ (Y ++ (X ++ R))) ≡ true
swap_distinct P X Y R h =
    let f = four P X Y R h in
    distinct_join P (Y ++ (X ++ R)) f.d_p (distinct_join Y (X ++ R) f.d_y (distinct_join X R f.d_x f.d_r f.XR) (cross_join Y X R f.YX f.YR)) (cross_join P Y (X ++ R) f.PY (cross_join P X R f.PX f.PR))

-- and they stay within the cells
pub swap_under : (n : ℕ) (P X Y R : List ℕ) → under n (P ++ (X ++ (Y ++ R))) ≡ true → under n (P ++ (Y ++ (X ++ R))) ≡ true
swap_under n P X Y R h =
    let a = under_append n P (X ++ (Y ++ R)) h in
    let b = under_append n X (Y ++ R) a.1 in
    let c = under_append n Y R b.1 in
    under_join n P (Y ++ (X ++ R)) a.0 (under_join n Y (X ++ R) c.0 (under_join n X R b.0 c.1))

-- The chain of `size` cells from `first` on, joined to the m cells from `next` on.

-- the joined chain
pub join_chain : (ns : List ℕ) (size first m next : ℕ) → distinct (walk ns size first) ≡ true → cross (walk ns size first) (walk ns m next) ≡ true → under (length ns) (walk ns size first) ≡ true → walk (joined ns size first next) (size + m) (head_of size first next) ≡ walk ns size first ++ walk ns m next
join_chain ns zero first m next d x u = ap (λ n. walk ns n next) (zero-add m)
join_chain ns (suc k) first m next d x u =
    let last : ℕ = step ns k first in
    let low : last < length ns = step_under (length ns) ns (suc k) k first (omega arith) u in
    let one : Seg (set ns last next) (suc k) first (walk ns (suc k) first) next = seg_relink last next (seg_of ns (suc k) first) d refl low in
    let two = seg_frame last next (seg_of ns m next) (cross_last ns k first (walk ns (suc k) first) (walk ns m next) refl x) in
    (seg_join one two).places

-- a chain that shares no cell with the first stays
pub join_walk : (ns : List ℕ) (size first next n i : ℕ) → cross (walk ns size first) (walk ns n i) ≡ true → (walk (joined ns size first next) n i ≡ walk ns n i) × (step (joined ns size first next) n i ≡ step ns n i)
join_walk ns zero first next n i x = (refl, refl)
join_walk ns (suc k) first next n i x = walk_frame ns (step ns k first) next n i (cross_last ns k first (walk ns (suc k) first) (walk ns n i) refl x)

-- and so do those of tables
pub join_places : (ns : List ℕ) (size first next : ℕ) (es : List Entry) → cross (walk ns size first) (places ns es) ≡ true → places (joined ns size first next) es ≡ places ns es
join_places ns size first next [] x = refl
join_places ns size first next (e ∷ es) x =
    let p = cross_append (walk ns size first) (walk ns (extent_of e) e.first) (places ns es) x in
    ap₂ ◌++◌ (join_walk ns size first next (extent_of e) e.first p.0).0 (join_places ns size first next es p.1)
