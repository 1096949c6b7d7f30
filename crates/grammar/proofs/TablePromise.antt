-- What the parser promises, in the words of the grammar.
-- the tokens of a program, with n depths below its statements
use Prim.Native.Nat.{ℕ}
use mathlib.Core.List.{List, [], ◌∷◌, ◌++◌}
use mathlib.Core.Path.{◌≡◌}
use mathlib.Core.Logic.{◌⊎◌, ◌↔◌}
use lib.ListN.{length}
use Rattle.words.specs.Tokens.{Token}
use Rattle.grammar.specs.Parts.{Part}
use Rattle.grammar.proofs.Table.{TableSymbol.prog, Reads}
use Rattle.grammar.specs.Readers.{wholly, Outcome, Outcome.found, Outcome.refused_at, program_at, Cause, Cause.cannot_follow, Cause.too_deep}
use Rattle.grammar.specs.Promise.{any_token, only_last, raise}

abbrev pub Program : ℕ → List Token → Part → Type 0
Program n s t = Reads any_token prog n s [] t

-- the beginning of some program's tokens
abbrev pub Begins : List Token → Type 0
Begins p = (n : ℕ) × (w : List Token) × (t : Part) × Program n (p ++ w) t

-- the same, and no token of p opens more than n depths
abbrev pub Within : ℕ → List Token → Type 0
Within n p = (e : ℕ) × (w : List Token) × (t : Part) × Reads (only_last e (length w)) prog (raise e n) (p ++ w) [] t

unfoldable pub check : ℕ → List Token → Outcome
check n s = wholly (program_at any_token n s)

-- why c is the fault where the tokens before are p and the tokens from there are r
abbrev pub Fault : ℕ → Cause → List Token → List Token → Type 0
Fault n c p [] = (c ≡ cannot_follow) × ((m : ℕ) (t : Part) → ¬ (Program m p t))
Fault n c p (k ∷ r) =
    ((c ≡ cannot_follow) × (¬ (Begins (p ++ (k ∷ []))))) ⊎ ((c ≡ too_deep) × Begins (p ++ (k ∷ [])) × (¬ (Within n (p ++ (k ∷ [])))))

abbrev pub Placed : ℕ → List Token → Cause → List Token → Type 0
Placed n s c r = (p : List Token) × (s ≡ p ++ r) × Within n p × Fault n c p r

abbrev pub AcceptsRight : Type 0
AcceptsRight = (n : ℕ) (s : List Token) (t : Part) → (check n s ≡ found t []) ↔ (Program n s t)

abbrev pub FaultsRight : Type 0
FaultsRight = (n : ℕ) (s : List Token) (c : Cause) (r : List Token) → check n s ≡ refused_at c r → Placed n s c r

abbrev pub OneTree : Type 0
OneTree = (n m : ℕ) (s : List Token) (t u : Part) → Program n s t → Program m s u → t ≡ u

-- the description of a fault fits one place and one number
abbrev pub FaultsExact : Type 0
FaultsExact = (n : ℕ) (s : List Token) (c : Cause) (r : List Token) → (check n s ≡ refused_at c r) ↔ Placed n s c r
