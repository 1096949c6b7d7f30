-- Stretches of a chain: what a new link changes, and two neighbours exchanged.
use Rattle.std.proofs.Common.{◌≡◌, ℕ, zero, suc, ◌+◌, ◌<◌, true, not, eqb, List, [], ◌∷◌, ◌++◌, length, get_or, set, sym, refl, ap, ◌∙◌, subst, ap₂, arith}
use Rattle.std.proofs.lemmas.Bool.{and_from, and_parts, not-true, eqb-false}
use Rattle.std.proofs.lemmas.List.{get_or-set_same, get_or-set_other}
use Rattle.chained.specs.Chains.{walk, step, absent, distinct}
use Rattle.chained.proofs.Walks.{walk_add, step_add}
use Rattle.chained.proofs.Writing.{cross, absent_append, distinct_append, distinct_front}

-- n places from i are the list is, and the chain goes on at j
pub record Seg (ns : List ℕ) (n i : ℕ) (is : List ℕ) (j : ℕ) : Type 0 where
  pub places : walk ns n i ≡ is
  pub goes : step ns n i ≡ j

-- every walk is one
pub seg_of : (ns : List ℕ) (n i : ℕ) → Seg ns n i (walk ns n i) (step ns n i)
seg_of ns n i = record { places = refl; goes = refl }

-- two of them, the second where the first goes on
pub seg_join : {ns : List ℕ} {m n i j k : ℕ} {is js : List ℕ} → Seg ns m i is j → Seg ns n j js k → Seg ns (m + n) i (is ++ js) k
seg_join {ns} {m} {n} {i} {j} a b =
    record {
      places = walk_add ns m n i ∙ ap₂ ◌++◌ a.places (ap (walk ns n) a.goes ∙ b.places);
      goes = step_add ns m n i ∙ ap (step ns n) a.goes ∙ b.goes;
    }

-- a link elsewhere changes nothing
pub walk_frame : (ns : List ℕ) (a b n i : ℕ) → absent a (walk ns n i) ≡ true → (walk (set ns a b) n i ≡ walk ns n i) × (step (set ns a b) n i ≡ step ns n i)
walk_frame ns a b zero i h = (refl, refl)
walk_frame ns a b (suc n) i h =
    let p = and_parts (not (eqb a i)) (absent a (walk ns n (get_or ns i 0))) h in
    let same : get_or (set ns a b) i 0 ≡ get_or ns i 0 = get_or-set_other ns a i b 0 (λ e. eqb-false a i (not-true (eqb a i) p.0) (sym e)) in
    let r = walk_frame ns a b n (get_or ns i 0) p.1 in
    (ap (λ xs. i ∷ xs) (ap (walk (set ns a b) n) same ∙ r.0), ap (step (set ns a b) n) same ∙ r.1)

-- a stretch that the changed link is not on stays
pub seg_frame : {ns : List ℕ} {n i j : ℕ} {is : List ℕ} (a b : ℕ) → Seg ns n i is j → absent a is ≡ true → Seg (set ns a b) n i is j
seg_frame {ns} {n} {i} a b s h =
    let r = walk_frame ns a b n i (ap (absent a) s.places ∙ h) in
    record { places = r.0 ∙ s.places; goes = r.1 ∙ s.goes }

-- a new link at the last of the places
walk_relink : (ns : List ℕ) (b n i : ℕ) → distinct (walk ns (suc n) i) ≡ true → step ns n i < length ns → (walk (set ns (step ns n i) b) (suc n) i ≡ walk ns (suc n) i) × (step (set ns (step ns n i) b) (suc n) i ≡ b)
walk_relink ns b n i d l =
    let two : walk ns (suc n) i ≡ walk ns n i ++ step ns n i ∷ [] = ap (λ k. walk ns k i) (sym up) ∙ walk_add ns n 1 i in
    let away : absent (step ns n i) (walk ns n i) ≡ true = (and_parts (absent (step ns n i) (walk ns n i)) true (distinct_append (walk ns n i) (step ns n i ∷ []) (ap distinct (sym two) ∙ d)).1).0 in
    let r = walk_frame ns (step ns n i) b n i away in
    let ms : List ℕ = set ns (step ns n i) b in
    let last : get_or ms (step ns n i) 0 ≡ b = get_or-set_same ns (step ns n i) b 0 l in
    (ap (λ k. walk ms k i) (sym up) ∙ walk_add ms n 1 i ∙ ap₂ (λ xs p. xs ++ p ∷ []) r.0 r.1 ∙ sym two, ap (λ k. step ms k i) (sym up) ∙ step_add ms n 1 i ∙ ap (λ p. get_or ms p 0) r.1 ∙ last)
  where
    up : n + 1 ≡ suc n
    up = omega arith

-- a new link at the end of a stretch only changes where it goes on
pub seg_relink : {ns : List ℕ} {n i j : ℕ} {is : List ℕ} (last b : ℕ) → Seg ns (suc n) i is j → distinct is ≡ true → last ≡ step ns n i → last < length ns → Seg (set ns last b) (suc n) i is b
seg_relink {ns} {n} {i} last b s d e l =
    let r = walk_relink ns b n i (ap distinct s.places ∙ d) (subst (λ x. x < length ns) e l) in
    record { places = ap (λ x. walk (set ns x b) (suc n) i) e ∙ r.0 ∙ s.places; goes = ap (λ x. step (set ns x b) (suc n) i) e ∙ r.1 }

-- the last of some places is away from whatever they are away from
pub cross_last : (ns : List ℕ) (n i : ℕ) (is js : List ℕ) → walk ns (suc n) i ≡ is → cross is js ≡ true → absent (step ns n i) js ≡ true
cross_last ns zero i is js e h = (and_parts (absent i js) true (ap (λ x. cross x js) e ∙ h)).0
cross_last ns (suc n) i is js e h =
    cross_last ns n (get_or ns i 0) (walk ns (suc n) (get_or ns i 0)) js refl (and_parts (absent i js) (cross (walk ns (suc n) (get_or ns i 0)) js) (ap (λ x. cross x js) e ∙ h)).1

-- parts of a list without repeats share no place
pub cross_front : (xs ys : List ℕ) → distinct (xs ++ ys) ≡ true → cross xs ys ≡ true
cross_front [] ys h = refl
cross_front (x ∷ xs) ys h =
    let p = and_parts (absent x (xs ++ ys)) (distinct (xs ++ ys)) h in
    and_from (absent x ys) (cross xs ys) (absent_append x xs ys p.0).1 (cross_front xs ys p.1)

-- sharing no place with a list is sharing none with its parts
pub cross_append : (xs ys zs : List ℕ) → cross xs (ys ++ zs) ≡ true → (cross xs ys ≡ true) × (cross xs zs ≡ true)
cross_append [] ys zs h = (refl, refl)
cross_append (x ∷ xs) ys zs h =
    let p = and_parts (absent x (ys ++ zs)) (cross xs (ys ++ zs)) h in
    let a = absent_append x ys zs p.0 in
    let r = cross_append xs ys zs p.1 in
    (and_from (absent x ys) (cross xs ys) a.0 r.0, and_from (absent x zs) (cross xs zs) a.1 r.1)

-- four stretches, pairwise apart
pub record Four (P X Y R : List ℕ) : Type 0 where
  pub d_p : distinct P ≡ true
  pub d_x : distinct X ≡ true
  pub d_y : distinct Y ≡ true
  pub d_r : distinct R ≡ true
  pub PX : cross P X ≡ true
  pub PY : cross P Y ≡ true
  pub PR : cross P R ≡ true
  pub XP : cross X P ≡ true
  pub XY : cross X Y ≡ true
  pub XR : cross X R ≡ true
  pub YP : cross Y P ≡ true
  pub YX : cross Y X ≡ true
  pub YR : cross Y R ≡ true

distinct_mid : (xs ys zs : List ℕ) → distinct (xs ++ (ys ++ zs)) ≡ true → (cross ys xs ≡ true)
distinct_mid xs [] zs h = refl
distinct_mid xs (y ∷ ys) zs h =
    let c = (distinct_append xs ((y ∷ ys) ++ zs) h).1 in
    go (y ∷ ys) c
  where
    go : (ys : List ℕ) → cross (ys ++ zs) xs ≡ true → cross ys xs ≡ true
    go [] c = refl
    go (y ∷ ys) c =
        let p = and_parts (absent y xs) (cross (ys ++ zs) xs) c in
        and_from (absent y xs) (cross ys xs) p.0 (go ys p.1)

-- as four parts of a list without repeats are
pub four : (P X Y R : List ℕ) → distinct (P ++ (X ++ (Y ++ R))) ≡ true → Four P X Y R
four P X Y R h =
    let h1 = (distinct_append P (X ++ (Y ++ R)) h).0 in
    let h2 = (distinct_append X (Y ++ R) h1).0 in
    let pc = cross_front P (X ++ (Y ++ R)) h in
    let pa = cross_append P X (Y ++ R) pc in
    let pb = cross_append P Y R pa.1 in
    let xc = cross_append X Y R (cross_front X (Y ++ R) h1) in
    record {
      d_p = distinct_front P (X ++ (Y ++ R)) h;
      d_x = distinct_front X (Y ++ R) h1;
      d_y = distinct_front Y R h2;
      d_r = (distinct_append Y R h2).0;
      PX = pa.0;
      PY = pb.0;
      PR = pb.1;
      XP = distinct_mid P X (Y ++ R) h;
      XY = xc.0;
      XR = xc.1;
      YP = flip_tail P X Y R h;
      YX = distinct_mid X Y R h1;
      YR = cross_front Y R h2;
    }
  where
    skip : (xs ys zs : List ℕ) → cross (xs ++ ys) zs ≡ true → cross ys zs ≡ true
    skip [] ys zs c = c
    skip (x ∷ xs) ys zs c = skip xs ys zs (and_parts (absent x zs) (cross (xs ++ ys) zs) c).1

    keep : (ys zs ws : List ℕ) → cross (ys ++ zs) ws ≡ true → cross ys ws ≡ true
    keep [] zs ws c = refl
    keep (y ∷ ys) zs ws c =
        let p = and_parts (absent y ws) (cross (ys ++ zs) ws) c in
        and_from (absent y ws) (cross ys ws) p.0 (keep ys zs ws p.1)

    flip_tail : (P X Y R : List ℕ) → distinct (P ++ (X ++ (Y ++ R))) ≡ true → cross Y P ≡ true
    flip_tail P X Y R d = keep Y R P (skip X (Y ++ R) P (distinct_append P (X ++ (Y ++ R)) d).1)
