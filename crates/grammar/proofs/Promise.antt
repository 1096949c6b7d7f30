-- The promises, carried from the table grammar to the reader's.
use Prim.Native.Nat.{ℕ}
use native.Mathlib.Omega.{arith}
use mathlib.Core.List.{List, [], ◌∷◌, ◌++◌}
use mathlib.Core.Path.{◌≡◌, refl, sym, ap, ◌∙◌}
use mathlib.Core.Logic.{◌⊎◌, inl, inr}
use lib.ListN.{length}
use Rattle.fault.specs.declared.rules.Rule.{Rule}
use Rattle.words.specs.Tokens.{Token}
use Rattle.grammar.specs.Tree.{Block, Block.closed_at}
use Rattle.grammar.specs.Parts.{Part}
use Rattle.grammar.specs.Readers.{Cause, Cause.cannot_follow, Cause.too_deep, Outcome, Outcome.found, Outcome.refused_at, program_at, wholly, told}
use Rattle.grammar.specs.Promise.{any_token, only_last, Program, Begins, BeginsWithin, Breaks, Placed, Decided, OneTree, OneFault, NeverBoth}
use Rattle.grammar.specs.Reading.{Tells, ReadersExact}
use Rattle.grammar.proofs.TablePromise.{Begins as TableBegins, Within as TableWithin, Fault as TableFault, Placed as TablePlaced, check}
use Rattle.grammar.proofs.Place.{accepts_right, one_tree}
use Rattle.grammar.proofs.Exact.{faults_exact}
use Rattle.grammar.proofs.Same.{forth, back}

within_forth : (n : ℕ) (p : List Token) → BeginsWithin n p → TableWithin n p
within_forth n p (e, w, b, h) = let (t, d, i) = forth (only_last e (length w)) h in (e, w, t, d)

within_back : (n : ℕ) (p : List Token) → TableWithin n p → BeginsWithin n p
within_back n p (e, w, t, d) = (e, w, _, back (only_last e (length w)) d)

begins_forth : (p : List Token) → Begins p → TableBegins p
begins_forth p (n, w, b, h) = let (t, d, i) = forth any_token h in (n, w, t, d)

begins_back : (p : List Token) → TableBegins p → Begins p
begins_back p (n, w, t, d) = (n, w, _, back any_token d)

-- a broken rule has a cause
caused : (n : ℕ) (c : Rule) (p r : List Token) → Breaks n c p r → (x : Cause) × TableFault n x p r × (c ≡ told x r)
caused n c p [] (e, h) = (cannot_follow, (refl, λ m t d. h m _ (back any_token d)), e)
caused n c p (k ∷ r) (inl (e, h)) = (cannot_follow, inl (refl, λ b. h (begins_back (p ++ (k ∷ [])) b)), e)
caused n c p (k ∷ r) (inr (e, b, h)) = (too_deep, inr (refl, begins_forth (p ++ (k ∷ [])) b, λ w. h (within_back n (p ++ (k ∷ [])) w)), e)

-- a cause breaks the rule that it tells
breaks : (n : ℕ) (x : Cause) (p r : List Token) → TableFault n x p r → Breaks n (told x r) p r
breaks n x p [] (e, h) = (ap (λ i. told i []) e, λ m b d. let (t, f, i) = forth any_token d in h m t f)
breaks n x p (k ∷ r) (inl (e, h)) = inl (ap (λ i. told i (k ∷ r)) e, λ b. h (begins_forth (p ++ (k ∷ [])) b))
breaks n x p (k ∷ r) (inr (e, b, h)) = inr (ap (λ i. told i (k ∷ r)) e, begins_back (p ++ (k ∷ [])) b, λ w. h (within_forth n (p ++ (k ∷ [])) w))

placed_cause : (n : ℕ) (s : List Token) (c : Rule) (r : List Token) → Placed n s c r → (x : Cause) × TablePlaced n s x r × (c ≡ told x r)
placed_cause n s c r (p, e, w, f) = let (x, g, i) = caused n c p r f in (x, (p, e, within_forth n p w, g), i)

-- where the readers refuse a text, its fault stands
pub placed_by : (n : ℕ) (s : List Token) (x : Cause) (r : List Token) → wholly (program_at any_token n s) ≡ refused_at x r → Placed n s (told x r) r
unfolding check
placed_by n s x r e = let (p, h, w, f) = (faults_exact n s x r).0 e in (p, h, within_back n p w, breaks n x p r f)

-- what the readers find in a text is its tree
pub program_by : (n : ℕ) (s : List Token) (t : Part) → wholly (program_at any_token n s) ≡ found t [] → Program n s (closed_at t.statements t.place)
unfolding check
program_by n s t e = back any_token ((accepts_right n s t).0 e)

pub one : OneTree
one n m s a b x y =
    let (t, d, e) = forth any_token x in let (u, f, g) = forth any_token y in
    sym e ∙ ap (λ i. closed_at i.statements i.place) (one_tree n m s t u d f) ∙ g

cause : Outcome → Cause
cause (found t r) = cannot_follow
cause (refused_at c r) = c

left : Outcome → List Token
left (found t r) = []
left (refused_at c r) = r

accepted : Outcome → ℕ
accepted (found t r) = 1
accepted (refused_at c r) = 0

same_rule : (x y : Cause) (r q : List Token) → x ≡ y → r ≡ q → told x r ≡ told y q
same_rule x y r q e f = ap (λ i. told i r) e ∙ ap (told y) f

pub one_fault : OneFault
unfolding cause left
one_fault n s c d r q a b =
    let (x, f, i) = placed_cause n s c r a in let (y, g, j) = placed_cause n s d q b in
    let e = sym ((faults_exact n s x r).1 f) ∙ (faults_exact n s y q).1 g in
    (i ∙ same_rule x y r q (ap cause e) (ap left e) ∙ sym j, ap left e)

pub never_both : NeverBoth
unfolding accepted
never_both n s b c r a h =
    let (t, d, i) = forth any_token a in let (x, f, j) = placed_cause n s c r h in
    let g : ◌≡◌ {A = ℕ} 1 0 = ap accepted (sym ((accepts_right n s t).1 d) ∙ (faults_exact n s x r).1 f) in omega (arith, g)

pub decided : Decided
decided n s = go (program_at any_token n s) refl
  where
    go : (x : Outcome) → program_at any_token n s ≡ x → ((b : Block) × Program n s b) ⊎ ((c : Rule) × (r : List Token) × Placed n s c r)
    go (found t []) e = inl (_, program_by n s t (ap wholly e))
    go (found t (k ∷ r)) e = inr (_, k ∷ r, placed_by n s cannot_follow (k ∷ r) (ap wholly e))
    go (refused_at c r) e = inr (_, r, placed_by n s c r (ap wholly e))

pub readers_exact : ReadersExact
readers_exact n s = go (program_at any_token n s) refl
  where
    go : (x : Outcome) → program_at any_token n s ≡ x → Tells n s (wholly x)
    go (found t []) e = (refl, program_by n s t (ap wholly e))
    go (found t (k ∷ r)) e = placed_by n s cannot_follow (k ∷ r) (ap wholly e)
    go (refused_at c r) e = placed_by n s c r (ap wholly e)
