-- A list of nodes, one link after the other.
use Rattle.std.proofs.Common.{◌≡◌, ℕ, suc, ◌+◌, ◌<◌, ◌≤◌, Bool, true, false, cond, ◌&&◌, ltb, List, [], ◌∷◌, length, Some, None, Option, sym, refl, ap, subst, ◌∙◌, arith}
use Prim.Native.Nat.{zero}
use Rattle.std.proofs.lemmas.Bool.Decides.{nat_tests}
use Rattle.std.specs.List.{AllZip}
use Rattle.std.proofs.lemmas.List.{nil_from_length}
use mathlib.Core.Logic.{◌⊎◌, inl, inr}
use Rattle.tree.specs.declared.nodes.Node.{Node}
use Rattle.tree.specs.Holds.{node_at, Said, said}
use Rattle.lists.specs.Links.{onward, next_of, Linked}
use Rattle.lists.specs.Walks.{walk, walked}

-- A link that leads on leads onward and within.
onward_is : (i most : ℕ) (o : Option ℕ) (j : ℕ) → onward i most o ≡ Some j → (i < j) × (j < most)
onward_is i most None j h = let z : ◌≡◌ {A = ℕ} 0 1 = cc in absurd (omega arith)
onward_is i most (Some n) j h = by (ltb i n) (ltb n most) refl refl h
  where
    some_in : {x y : ℕ} → ◌≡◌ {A = Option ℕ} (Some x) (Some y) → x ≡ y
    some_in h = cc

    by : (a b : Bool) → ltb i n ≡ a → ltb n most ≡ b → cond (a && b) (Some n) None ≡ Some j → (i < j) × (j < most)
    by true true p q e = let same : n ≡ j = some_in e in (grind (arith, nat_tests), grind (arith, nat_tests))
    by true false p q e = let z : ◌≡◌ {A = ℕ} 0 1 = cc in absurd (omega arith)
    by false b p q e = let z : ◌≡◌ {A = ℕ} 0 1 = cc in absurd (omega arith)

-- Behind entry i no list has more nodes than there are entries there.
enough : (k : ℕ) (ns : List Node) (i : ℕ) → length ns ≤ k + i → walk k ns (next_of ns i) ≡ walk (suc k) ns (next_of ns i)
enough zero ns i h = by (next_of ns i) refl
  where
    by : (o : Option ℕ) → next_of ns i ≡ o → walk zero ns o ≡ walk (suc zero) ns o
    by None e = refl
    by (Some j) e = let p = onward_is i (length ns) (node_at ns i).next j e in absurd (omega (arith, p.0, p.1))
enough (suc k) ns i h = by (next_of ns i) refl (λ j. enough k ns j)
  where
    by : (o : Option ℕ) → next_of ns i ≡ o → ((j : ℕ) → length ns ≤ k + j → walk k ns (next_of ns j) ≡ walk (suc k) ns (next_of ns j)) → walk (suc k) ns o ≡ walk (suc (suc k)) ns o
    by None e later = refl
    by (Some j) e later = let p = onward_is i (length ns) (node_at ns i).next j e in ap (λ l. node_at ns j ∷ l) (later j (omega (arith, p.0, p.1)))

-- The first node, and the others.
pub walked_on : (ns : List Node) (i : ℕ) → walked ns (Some i) ≡ node_at ns i ∷ walked ns (next_of ns i)
unfolding walked
walked_on ns i = ap (λ l. node_at ns i ∷ l) (enough (length ns) ns i (omega arith))

-- Nothing stands behind the end.
pub walked_none : (ns : List Node) → walked ns None ≡ []
unfolding walked
walked_none ns = refl

-- The nodes of a list say its elements.
pub linked_walked : {A : Type 0} (Is : Said → A → Type 0) (ns : List Node) (i : ℕ) (l : List A) → Linked Is ns i l → AllZip (λ n x. Is (said n) x) (walked ns (Some i)) l
linked_walked Is ns i [] h = absurd h
linked_walked Is ns i (x ∷ []) (is, ended) = subst (λ (l : List Node). AllZip (λ n x. Is (said n) x) l (x ∷ [])) (sym (walked_on ns i ∙ ap (λ o. node_at ns i ∷ walked ns o) ended ∙ ap (λ l. node_at ns i ∷ l) (walked_none ns))) (is, tt)
linked_walked Is ns i (x ∷ y ∷ ys) (is, next, link, rest) =
    subst (λ (l : List Node). AllZip (λ n x. Is (said n) x) l (x ∷ y ∷ ys)) (sym (walked_on ns i ∙ ap (λ o. node_at ns i ∷ walked ns o) link)) (is, linked_walked Is ns next (y ∷ ys) rest)

-- No list has more nodes than entries and one.
pub walked_short : (ns : List Node) (o : Option ℕ) → length (walked ns o) ≤ length ns + 1
unfolding walked
walked_short ns o = let few : length (walk (suc (length ns)) ns o) ≤ suc (length ns) = short (suc (length ns)) ns o in omega arith
  where
    short : (k : ℕ) (ns : List Node) (o : Option ℕ) → length (walk k ns o) ≤ k
    short zero ns o = omega arith
    short (suc k) ns None = omega arith
    short (suc k) ns (Some i) = omega (arith, short k ns (next_of ns i))

-- Two lists that are equally long end together.
pub end_together : {A B : Type 0} (xs : List A) (ys : List B) → (xs ≡ []) ⊎ (length ys ≡ 0) → length xs ≡ length ys → (xs ≡ []) × (ys ≡ [])
end_together xs ys (inl none) long = (none, nil_from_length ys (omega (arith, ap length none)))
end_together xs ys (inr none) long = (nil_from_length xs (omega arith), nil_from_length ys none)

-- Two answers to one question.
pub same_some : {A : Type 0} {o : Option A} {a b : A} → o ≡ Some a → Some b ≡ o → b ≡ a
same_some h g = cc
