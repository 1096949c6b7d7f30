-- The newest entry, from the end of a list.
use Rattle.std.proofs.Common.{◌≡◌, ℕ, suc, ◌<◌, Bool, true, false, List, [], ◌∷◌, length, get_or, Some, None, Option, sym, refl, ap, ◌∙◌, arith}
use Prim.Native.Nat.{zero}
use Rattle.std.specs.Option.{MatchOption}
use Rattle.scope.specs.Chains.{Newest, position_of, newest_of, newest_or}

module _ {E : Type 0} (is : E → Bool) where
  -- where a search from the end stops: at no entry, or at the last that is it
  abbrev pub Stops : List E → Option ℕ → Type 0
  Stops es r = MatchOption r ((k : ℕ) (d : E) → k < length es → is (get_or es k d) ≡ false) (λ i. (i < length es) × ((d : E) → is (get_or es i d) ≡ true) × ((k : ℕ) (d : E) → i < k → k < length es → is (get_or es k d) ≡ false))

  seen_behind : (e : E) (es : List E) {r : Option ℕ} (b : Bool) → is e ≡ b → r ≡ position_of (newest_of is es) → (i : ℕ) → r ≡ Some i → Some (suc i) ≡ position_of (newest_of is (e ∷ es))
  seen_behind e es b h p i s = by (newest_of is es) (sym s ∙ p)
    where
      by : (o : Option (Newest E)) → Some i ≡ position_of o → Some (suc i) ≡ position_of (newest_or is o (is e) e)
      by (Some n) q = let same : i ≡ n.position = cc in ap (λ m. Some (suc m)) same
      by None q = let z : ◌≡◌ {A = ℕ} 0 1 = cc in absurd (omega arith)

  seen_first : (e : E) (es : List E) (b : Bool) → is e ≡ b → None ≡ position_of (newest_of is es) → position_of (newest_or is None b e) ≡ position_of (newest_of is (e ∷ es))
  seen_first e es b h p = by (newest_of is es) p ∙ ap (λ c. position_of (newest_or is (newest_of is es) c e)) (sym h)
    where
      by : (o : Option (Newest E)) → None ≡ position_of o → position_of (newest_or is None b e) ≡ position_of (newest_or is o b e)
      by (Some n) q = let z : ◌≡◌ {A = ℕ} 0 1 = cc in absurd (omega arith)
      by None q = refl

  -- A search from the end stops at the newest.
  pub stops_newest : (es : List E) (r : Option ℕ) → Stops es r → r ≡ position_of (newest_of is es)
  stops_newest [] None h = refl
  stops_newest [] (Some i) h = absurd (omega (arith, h.0))
  stops_newest (e ∷ es) None h = seen_first e es false (h 0 e (omega arith)) (stops_newest es None (λ k d l. h (suc k) d (omega arith)))
  stops_newest (e ∷ es) (Some zero) h = seen_first e es true (h.1 e) (stops_newest es None (λ k d l. h.2 (suc k) d (omega arith) (omega arith)))
  stops_newest (e ∷ es) (Some (suc i)) h =
      seen_behind e es (is e) refl (stops_newest es (Some i) (omega (arith, h.0), h.1, λ k d m l. h.2 (suc k) d (omega arith) (omega arith))) i refl
