-- The loop of a level by one turn, with no bound on the turns: what the code's loop is proved by.
use mathlib.Core.Path.{◌≡◌, refl, subst}
use native.Mathlib.Omega.{arith}
use native.Mathlib.Nat.{le_refl}
use Prim.Native.Nat.{ℕ, zero, suc, ◌≤◌}
use mathlib.Core.List.{List, [], ◌∷◌}
use lib.ListN.{length}
use Rattle.words.specs.Tokens.{Token}
use Rattle.grammar.specs.Parts.{Leaf, Level.product_level, Level.sum_level, Level.comparison_level, Part, Level, Turn, turn_at, level_after, place_of, combine, join_parts, Turn.stop, Turn.take_join, Turn.take_operator}
use Rattle.grammar.specs.Promise.{any_token}
use Rattle.grammar.specs.Readers.{Outcome, Outcome.found, Outcome.refused_at, Reader, and_then, take_turn, take_turns, read_level, rest, Shorter}
use Rattle.grammar.specs.Readers.{read_leaf, read_attribute, read_tuple, factors_at, brackets_at, expressions_at, statements_at}
use Rattle.grammar.proofs.Table.{TableSymbol, Reads}
use Rattle.grammar.proofs.Complete.{shrinks}
use Rattle.grammar.proofs.Sound.{Holds, Holds.good, Holds.fault, holds_ok, Sound, atom_sound, attr_sound, tuple_sound, chain_sound}
use Rattle.grammar.proofs.Sound.{factors_sound, brackets_sound, exprs_sound, stats_sound}

abbrev Shortens : Reader → Type 0
Shortens f = (s : List Token) → Holds (λ t r. length r ≤ length s) (f s)

shortens : (f : Reader) → Shorter f → Shortens f
shortens f h s = go (f s) (h s)
  where
    go : (x : Outcome) → ((t : Part) (r : List Token) → x ≡ found t r → length r ≤ length s) → Holds (λ t r. length r ≤ length s) x
    go (found t r) k = good (k t r refl)
    go (refused_at c r) k = fault

same : {P : Part → List Token → Type 0} (x : Outcome) (g h : Part → List Token → Outcome) → Holds P x → ((t : Part) (r : List Token) → P t r → g t r ≡ h t r) → and_then x g ≡ and_then x h
same (found t r) g h (good p) e = e t r p
same (refused_at c r) g h fault e = refl

turns_fuel : (f b : Reader) → Shortens f → Shortens b → (m n : ℕ) (l : Level) (t : Part) (s : List Token) → length s ≤ m → length s ≤ n → take_turns f b m l t s ≡ take_turns f b n l t s
unfolding take_turns
turns_fuel f b hf hb zero zero l t s p q = refl
turns_fuel f b hf hb zero (suc n) l t [] p q = refl
turns_fuel f b hf hb (suc m) zero l t [] p q = refl
turns_fuel f b hf hb (suc m) (suc n) l t [] p q = refl
turns_fuel f b hf hb zero (suc n) l t (k ∷ s) p q = absurd (let z : ⊥ = omega arith in z)
turns_fuel f b hf hb (suc m) zero l t (k ∷ s) p q = absurd (let z : ⊥ = omega arith in z)
turns_fuel f b hf hb (suc m) (suc n) l t (k ∷ s) pm qn = go (turns_fuel f b hf hb m n) (turn_at l k)
  where
    go : ((l : Level) (t : Part) (s : List Token) → length s ≤ m → length s ≤ n → take_turns f b m l t s ≡ take_turns f b n l t s) → (x : Turn) → take_turn (take_turns f b m) f b x l t k s ≡ take_turn (take_turns f b n) f b x l t k s
    go ih stop = refl
    go ih (take_operator o) = same (f s) _ _ (hf s) (λ u r h. ih (level_after l) (combine o (place_of k) t u) r (omega arith) (omega arith))
    go ih take_join = same (b s) _ _ (hb s) (λ x r h. same (f r) _ _ (hf r) (λ u q j. ih (level_after l) (join_parts (place_of k) t x u) q (omega arith) (omega arith)))

pub rest_nil : (f b : Reader) (l : Level) (t : Part) → rest f b l t [] ≡ found t []
unfolding rest take_turns
rest_nil f b l t = refl

pub rest_cons : (f b : Reader) → Shorter f → Shorter b → (l : Level) (t : Part) (k : Token) (s : List Token) → rest f b l t (k ∷ s) ≡ take_turn (λ l t s. rest f b l t s) f b (turn_at l k) l t k s
unfolding rest take_turns
rest_cons f b sf sb l t k s = go (turn_at l k)
  where
    hf : Shortens f
    hf = shortens f sf

    hb : Shortens b
    hb = shortens b sb

    go : (x : Turn) → take_turn (take_turns f b (length s)) f b x l t k s ≡ take_turn (λ l t s. rest f b l t s) f b x l t k s
    go stop = refl
    go (take_operator o) = same (f s) _ _ (hf s) (λ u r h. turns_fuel f b hf hb _ _ (level_after l) (combine o (place_of k) t u) r (omega arith) (le_refl _))
    go take_join = same (b s) _ _ (hb s) (λ x r h. same (f r) _ _ (hf r) (λ u q j. turns_fuel f b hf hb _ _ (level_after l) (join_parts (place_of k) t x u) q (omega arith) (le_refl _)))

-- a level is its first item and what is read behind it
pub level_is : (f b : Reader) (l : Level) (s : List Token) → read_level f b l s ≡ and_then (f s) (λ t r. rest f b l t r)
unfolding read_level rest
level_is f b l s = refl

-- no reader leaves more tokens than it was given
by_sound : {S : TableSymbol} {n : ℕ} (f : Reader) → Sound any_token S n f → Shorter f
by_sound {S} {n} f h s t r e = shrinks any_token (holds_ok (subst (Holds (λ t r. Reads any_token S n s r t)) e (h s)))

pub leaf_shorter : (f : Leaf) → Shorter (read_leaf f)
leaf_shorter f = by_sound {n = 0} (read_leaf f) (atom_sound any_token f 0)

pub attribute_shorter : Shorter read_attribute
attribute_shorter = by_sound {n = 0} read_attribute (attr_sound any_token 0)

pub factor_shorter : (n : ℕ) → Shorter (factors_at any_token n)
factor_shorter n = by_sound {n = n} (factors_at any_token n) (factors_sound any_token n)

pub bracket_shorter : (n : ℕ) → Shorter (brackets_at any_token n)
bracket_shorter n = by_sound {n = n} (brackets_at any_token n) (brackets_sound any_token n)

pub expression_shorter : (n : ℕ) → Shorter (expressions_at any_token n)
expression_shorter n = by_sound {n = n} (expressions_at any_token n) (exprs_sound any_token n)

pub statement_shorter : (n : ℕ) → Shorter (statements_at any_token n)
statement_shorter n = by_sound {n = n} (statements_at any_token n) (stats_sound any_token n)

-- the items of the operators' levels
pub product_shorter : (n : ℕ) → Shorter (read_level (factors_at any_token n) (brackets_at any_token n) product_level)
product_shorter n = by_sound {n = n} _ (chain_sound any_token n _ _ product_level (factors_sound any_token n) (brackets_sound any_token n))

pub sum_shorter : (n : ℕ) → Shorter (read_level (read_level (factors_at any_token n) (brackets_at any_token n) product_level) (brackets_at any_token n) sum_level)
sum_shorter n = by_sound {n = n} _ (chain_sound any_token n _ _ sum_level (chain_sound any_token n _ _ product_level (factors_sound any_token n) (brackets_sound any_token n)) (brackets_sound any_token n))

pub comparison_shorter : (n : ℕ) → Shorter (read_level (read_level (read_level (factors_at any_token n) (brackets_at any_token n) product_level) (brackets_at any_token n) sum_level) (brackets_at any_token n) comparison_level)
comparison_shorter n = by_sound {n = n} _ (chain_sound any_token n _ _ comparison_level (chain_sound any_token n _ _ sum_level (chain_sound any_token n _ _ product_level (factors_sound any_token n) (brackets_sound any_token n)) (brackets_sound any_token n)) (brackets_sound any_token n))

pub tuple_shorter : (n : ℕ) → Shorter (read_tuple (brackets_at any_token n))
tuple_shorter n = by_sound {n = n} _ (tuple_sound any_token n (brackets_at any_token n) (brackets_sound any_token n))
