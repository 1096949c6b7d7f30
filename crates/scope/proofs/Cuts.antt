-- The search over lists that lie one behind the other, from the innermost start outward.
use Rattle.std.proofs.Common.{◌≡◌, ℕ, suc, ◌+◌, ◌-◌, Bool, true, false, min, ltb, List, [], ◌∷◌, ◌++◌, reverse, length, take, drop, Some, None, Option, sym, refl, ap, ◌∙◌, arith}
use Rattle.std.proofs.lemmas.Bool.Decides.{nat_tests}
use Rattle.std.proofs.lemmas.List.{take_rest, reverse-append, length-take-le, take_all, drop_all}
use Rattle.scope.specs.declared.places.Place.{Place}
use Rattle.scope.specs.Chains.{Newest, Found, position_of, newest_of, find, find_or, cut, size, place_of}
use Rattle.scope.proofs.Numbers.{size_cut}

-- A start behind the entries cuts them where their end does.
take_within : {E : Type 0} (start : ℕ) (es : List E) → take (min start (length es)) es ≡ take start es
take_within start es = by (ltb start (length es)) refl
  where
    by : (b : Bool) → ltb start (length es) ≡ b → take (min start (length es)) es ≡ take start es
    by true h = let inside : min start (length es) ≡ start = grind (arith, nat_tests) in ap (λ n. take n es) inside
    by false h = let behind : min start (length es) ≡ length es = grind (arith, nat_tests) in ap (λ n. take n es) behind ∙ take_all (length es) es (omega arith) ∙ sym (take_all start es (grind (arith, nat_tests)))

drop_within : {E : Type 0} (start : ℕ) (es : List E) → drop (min start (length es)) es ≡ drop start es
drop_within start es = by (ltb start (length es)) refl
  where
    by : (b : Bool) → ltb start (length es) ≡ b → drop (min start (length es)) es ≡ drop start es
    by true h = let inside : min start (length es) ≡ start = grind (arith, nat_tests) in ap (λ n. drop n es) inside
    by false h = let behind : min start (length es) ≡ length es = grind (arith, nat_tests) in ap (λ n. drop n es) behind ∙ drop_all (length es) es (omega arith) ∙ sym (drop_all start es (grind (arith, nat_tests)))

-- A place, seen from n lists further in.
abbrev pub from_inside : ℕ → Option Place → Option Place
from_inside n None = None
from_inside n (Some p) = Some (record { distance = n + p.distance; position = p.position; number = p.number })

module _ {E : Type 0} (is : E → Bool) where
  -- Where the innermost list has one, it is found there; else further out.
  abbrev chosen : Option ℕ → ℕ → Option Place → Option Place
  chosen (Some k) before rest = Some (record { distance = 0; position = k; number = before + k })
  chosen None before rest = from_inside 1 rest

  chosen_is : (o : Option (Newest E)) (before : ℕ) (rest : Option (Found E)) → place_of (find_or is o before rest) ≡ chosen (position_of o) before (place_of rest)
  chosen_is (Some n) before rest = refl
  chosen_is None before None = refl
  chosen_is None before (Some f) = ap (λ m. Some (record { distance = m; position = f.position; number = f.number })) (let z : suc f.distance ≡ 1 + f.distance = omega arith in z)

  -- One list outward.
  find_step : (outer : List ℕ) (start from : ℕ) (es : List E) → from ≡ min start (length es) →
      place_of (find is (cut (reverse (outer ++ (start ∷ []))) es)) ≡ chosen (position_of (newest_of is (take (length es - from) (drop from es)))) from (place_of (find is (cut (reverse outer) (take from es))))
  find_step outer start from es w =
      ap (λ l. place_of (find is (cut l es))) (reverse-append outer (start ∷ []))
      ∙ chosen_is (newest_of is (drop start es)) (size (cut (reverse outer) (take start es))) (find is (cut (reverse outer) (take start es)))
      ∙ ap (λ l. chosen (position_of (newest_of is (drop start es))) (size (cut (reverse outer) l)) (place_of (find is (cut (reverse outer) l)))) (sym front)
      ∙ ap (λ l. chosen (position_of (newest_of is l)) (size (cut (reverse outer) (take from es))) (place_of (find is (cut (reverse outer) (take from es))))) (sym back)
      ∙ ap (λ n. chosen (position_of (newest_of is (drop from es))) n (place_of (find is (cut (reverse outer) (take from es))))) (size_cut (reverse outer) (take from es) ∙ length-take-le from es (omega arith))
      ∙ ap (λ l. chosen (position_of (newest_of is l)) from (place_of (find is (cut (reverse outer) (take from es))))) (sym (take_rest es from))
    where
      front : take from es ≡ take start es
      front = ap (λ n. take n es) w ∙ take_within start es

      back : drop from es ≡ drop start es
      back = ap (λ n. drop n es) w ∙ drop_within start es

  -- The innermost list has one.
  pub find_here : (begun outer : List ℕ) (start from k n : ℕ) (es : List E) → begun ≡ outer ++ (start ∷ []) → from ≡ min start (length es) → Some k ≡ position_of (newest_of is (take (length es - from) (drop from es))) →
      Some (record { distance = n; position = k; number = from + k }) ≡ from_inside n (place_of (find is (cut (reverse begun) es)))
  find_here begun outer start from k n es b w e =
      ap (λ m. Some (record { distance = m; position = k; number = from + k })) (let z : n ≡ n + 0 = omega arith in z)
      ∙ sym (ap (λ l. from_inside n (place_of (find is (cut (reverse l) es)))) b ∙ ap (from_inside n) (find_step outer start from es w ∙ ap (λ o. chosen o from (place_of (find is (cut (reverse outer) (take from es))))) (sym e)))

  from_further : (n : ℕ) (o : Option Place) → from_inside n (from_inside 1 o) ≡ from_inside (n + 1) o
  from_further n None = refl
  from_further n (Some p) = ap (λ m. Some (record { distance = m; position = p.position; number = p.number })) (let z : n + (1 + p.distance) ≡ n + 1 + p.distance = omega arith in z)

  -- The innermost list has none.
  pub find_further : (begun outer : List ℕ) (start from n : ℕ) (es : List E) → begun ≡ outer ++ (start ∷ []) → from ≡ min start (length es) → None ≡ position_of (newest_of is (take (length es - from) (drop from es))) →
      from_inside (n + 1) (place_of (find is (cut (reverse outer) (take from es)))) ≡ from_inside n (place_of (find is (cut (reverse begun) es)))
  find_further begun outer start from n es b w e =
      sym (from_further n (place_of (find is (cut (reverse outer) (take from es)))))
      ∙ sym (ap (λ l. from_inside n (place_of (find is (cut (reverse l) es)))) b ∙ ap (from_inside n) (find_step outer start from es w ∙ ap (λ o. chosen o from (place_of (find is (cut (reverse outer) (take from es))))) (sym e)))

  find_one : (begun : List ℕ) (es : List E) (n : ℕ) → begun ≡ [] → from_inside n (place_of (find is (cut (reverse begun) es))) ≡ from_inside n (chosen (position_of (newest_of is es)) 0 None)
  find_one begun es n h = ap (λ l. from_inside n (place_of (find is (cut (reverse l) es)))) h ∙ ap (from_inside n) (chosen_is (newest_of is es) 0 None)

  -- Only the outermost list is left, and has one.
  pub find_outermost : (begun : List ℕ) (es : List E) (k n : ℕ) → begun ≡ [] → Some k ≡ position_of (newest_of is es) →
      Some (record { distance = n; position = k; number = k }) ≡ from_inside n (place_of (find is (cut (reverse begun) es)))
  find_outermost begun es k n h e =
      ap (λ m. Some (record { distance = m; position = k; number = k })) (let z : n ≡ n + 0 = omega arith in z)
      ∙ ap (λ m. Some (record { distance = n + 0; position = k; number = m })) (let z : k ≡ 0 + k = omega arith in z)
      ∙ sym (find_one begun es n h ∙ ap (λ o. from_inside n (chosen o 0 None)) (sym e))

  -- Only the outermost list is left, and has none.
  pub find_nowhere : (begun : List ℕ) (es : List E) (n : ℕ) → begun ≡ [] → None ≡ position_of (newest_of is es) →
      None ≡ from_inside n (place_of (find is (cut (reverse begun) es)))
  find_nowhere begun es n h e = sym (find_one begun es n h ∙ ap (λ o. from_inside n (chosen o 0 None)) (sym e))

-- Seen from where one stands.
pub from_here : (o : Option Place) → from_inside 0 o ≡ o
from_here None = refl
from_here (Some p) = ap (λ m. Some (record { distance = m; position = p.position; number = p.number })) (let z : 0 + p.distance ≡ p.distance = omega arith in z)
