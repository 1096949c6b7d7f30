-- Fronts of a text: how far bytes of one class go, and two fronts of the same text.
use Rattle.std.proofs.Common.{◌≡◌, ℕ, ◌+◌, ◌≤◌, Bool, true, false, ◌&&◌, [], ◌∷◌, ◌++◌, length, take, drop, sym, refl, ap, ◌∙◌, ap₂, add-one, arith}
use mathlib.Core.List.{head-eq_of_cons-eq, tail-eq_of_cons-eq}
use Rattle.words.specs.Letters.{run, every}
use Rattle.words.specs.Tokens.{Bytes}

-- a run lies in the text
pub run_within : (p : ℕ → Bool) (s : Bytes) → run p s ≤ length s
run_within p [] = omega arith
run_within p (b ∷ s) = go (p b) (run_within p s)
  where
    go : (x : Bool) → run p s ≤ length s → elim x [ true ↦ run p s + 1 | false ↦ 0 ] ≤ length (b ∷ s)
    go true h = omega arith
    go false h = omega arith

-- every byte of a run belongs
pub run_belongs : (p : ℕ → Bool) (s : Bytes) → every p (take (run p s) s) ≡ true
run_belongs p [] = refl
run_belongs p (b ∷ s) = go (p b) refl (run_belongs p s)
  where
    go : (x : Bool) → p b ≡ x → every p (take (run p s) s) ≡ true → every p (take (elim x [ true ↦ run p s + 1 | false ↦ 0 ]) (b ∷ s)) ≡ true
    go true e h = rw (add-one) (ap₂ (λ x y. x && y) e h)
    go false e h = refl

-- the byte behind a run does not belong
pub run_stops : (p : ℕ → Bool) (s : Bytes) (c : ℕ) (rest : Bytes) → drop (run p s) s ≡ c ∷ rest → p c ≡ false
run_stops p [] c rest h = let z : ◌≡◌ {A = ℕ} 0 1 = cc in absurd (omega arith)
run_stops p (b ∷ s) c rest h = go (p b) refl (run_stops p s c rest) h
  where
    go : (x : Bool) → p b ≡ x → (drop (run p s) s ≡ c ∷ rest → p c ≡ false) → drop (elim x [ true ↦ run p s + 1 | false ↦ 0 ]) (b ∷ s) ≡ c ∷ rest → p c ≡ false
    go true e ih h = ih (rw (add-one) at h)
    go false e ih h = ap p (sym (head-eq_of_cons-eq h)) ∙ e

-- bytes that belong, in front of one that does not, are the run
pub run_at : (p : ℕ → Bool) (s : Bytes) (c : ℕ) (rest : Bytes) → every p s ≡ true → p c ≡ false → run p (s ++ c ∷ rest) ≡ length s
run_at p [] c rest h k = ap (λ (x : Bool). elim x [ true ↦ run p rest + 1 | false ↦ 0 ]) k
run_at p (b ∷ s) c rest h k = go (p b) refl h (λ e. run_at p s c rest e k)
  where
    go : (x : Bool) → p b ≡ x → (x && every p s) ≡ true → (every p s ≡ true → run p (s ++ c ∷ rest) ≡ length s) → elim x [ true ↦ run p (s ++ c ∷ rest) + 1 | false ↦ 0 ] ≡ length (b ∷ s)
    go true e h ih = let i = ih h in omega arith
    go false e h ih = let z : ◌≡◌ {A = ℕ} 0 1 = cc in absurd (omega arith)

-- one byte that does not belong
pub not_every : (p : ℕ → Bool) (s : Bytes) (c : ℕ) (rest : Bytes) → p c ≡ false → every p (s ++ c ∷ rest) ≡ false
not_every p [] c rest h = ap (λ x. x && every p rest) h
not_every p (b ∷ s) c rest h = go (p b) (not_every p s c rest h)
  where
    go : (x : Bool) → every p (s ++ c ∷ rest) ≡ false → (x && every p (s ++ c ∷ rest)) ≡ false
    go true i = i
    go false i = refl

-- of two fronts of one text, one goes on as the other
pub data Meet (f g r q : Bytes) : Type 0 where
  longer : (more : Bytes) → g ≡ f ++ more → r ≡ more ++ q → Meet f g r q
  shorter : (more : Bytes) → f ≡ g ++ more → q ≡ more ++ r → Meet f g r q

pub meet : (f g r q : Bytes) → f ++ r ≡ g ++ q → Meet f g r q
meet [] g r q e = longer g refl e
meet (b ∷ f) [] r q e = shorter (b ∷ f) refl (sym e)
meet (b ∷ f) (c ∷ g) r q e = go (meet f g r q (tail-eq_of_cons-eq e))
  where
    go : Meet f g r q → Meet (b ∷ f) (c ∷ g) r q
    go (longer m h k) = longer m (ap₂ (λ x z. x ∷ z) (sym (head-eq_of_cons-eq e)) h) k
    go (shorter m h k) = shorter m (ap₂ (λ x z. x ∷ z) (head-eq_of_cons-eq e) h) k
