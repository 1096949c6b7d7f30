-- Learning, one string and one cell at a time.
use Rattle.std.proofs.Common.{◌≡◌, ℕ, zero, suc, ◌+◌, ◌<◌, ◌≤◌, List, ◌∷◌, map, length, get_or, drop, sym, ap, ◌∙◌, subst, ap₂, arith}
use Rattle.std.proofs.lemmas.List.{drop_more, drop_all}
use Rattle.std.specs.Fn.{Called}
use Rattle.std.specs.Array.{MapsFrom, IsMapOf}
use denote.Param.Members.{Mut}
use Rattle.listing.specs.declared.cell.Cell.{Cell}
use Rattle.listing.specs.Seen.{value_in}
use Rattle.pool.specs.Learning.{Learned, learn_value, learn_row}

-- a turn over the cells of a row
pub row_turn : (known : List (List ℕ)) (text : List ℕ) (cells : List Cell) (i : ℕ) (d : Cell) (before start : Learned) → i < length cells → (after : Learned) →
    after ≡ learn_value known before (value_in text (get_or cells i d)) → learn_row known before (map (value_in text) (drop i cells)) ≡ learn_row known start (map (value_in text) cells) →
    learn_row known after (map (value_in text) (drop (i + 1) cells)) ≡ learn_row known start (map (value_in text) cells)
row_turn known text cells i d before start here after e whole =
    ap (λ l. learn_row known l (map (value_in text) (drop (i + 1) cells))) e ∙ (ap (λ z. learn_row known before (map (value_in text) z)) (sym (drop_more cells i d here)) ∙ whole)

pub row_end : (known : List (List ℕ)) (text : List ℕ) (cells : List Cell) (i : ℕ) (before start : Learned) → length cells ≤ i →
    learn_row known before (map (value_in text) (drop i cells)) ≡ learn_row known start (map (value_in text) cells) → before ≡ learn_row known start (map (value_in text) cells)
row_end known text cells i before start past whole = ap (λ z. learn_row known before (map (value_in text) z)) (sym (drop_all i cells past)) ∙ whole

-- what a map over an array gives, by a closure that is the same at each call
module _ {F A B : Type 0} (g : Mut F (A × Unit {0}) B) (f : F) (h : A → B) (each : (x : A) (y : B) (q : F) → Called g f (x, tt {0}) y q → (q ≡ f) × (y ≡ h x)) where
  mapped : (n i : ℕ) (xs : List A) (ys : List B) → length xs ≡ i + n → length ys ≡ i + n → MapsFrom g f xs ys i n → drop i ys ≡ map h (drop i xs)
  mapped zero i xs ys a b m = drop_all i ys (omega (arith, b)) ∙ sym (ap (map h) (drop_all i xs (omega (arith, a))))
  mapped (suc n) i xs ys a b (q, x, y, here, there, call, more) =
      let e = each x y q call in
      let rest = mapped n (i + 1) xs ys (omega (arith, a)) (omega (arith, b)) (subst (λ z. MapsFrom g z xs ys (i + 1) n) e.0 more) in
      let from : drop i xs ≡ x ∷ drop (i + 1) xs = drop_more xs i x (omega (arith, a)) ∙ ap (λ z. z ∷ drop (i + 1) xs) here.0 in
      let to : drop i ys ≡ y ∷ drop (i + 1) ys = drop_more ys i y (omega (arith, b)) ∙ ap (λ z. z ∷ drop (i + 1) ys) there.0 in
      to ∙ (ap₂ (λ z zs. z ∷ zs) e.1 rest ∙ sym (ap (map h) from))

  pub map_is : (n : ℕ) (xs : List A) (ys : List B) → length xs ≡ n → IsMapOf g f xs ys n → ys ≡ map h xs
  map_is n xs ys a m = mapped n 0 xs ys (omega (arith, a)) (omega (arith, m.long)) m.each
