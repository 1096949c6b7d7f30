-- How a slice pattern cuts a text: nothing, one byte and the rest, two bytes and the rest.
use Rattle.std.proofs.Common.{◌≡◌, ℕ, ◌-◌, ◌<◌, ◌≤◌, List, [], ◌∷◌, length, get_or, take, drop, sym, refl, ap, arith}
use Rattle.std.proofs.lemmas.List.{take_rest}

-- a text with no first byte is empty
pub cut_none : (s : List ℕ) → length s < 1 → s ≡ []
cut_none [] h = refl
cut_none (a ∷ s) h = absurd (omega arith)

-- a text is its first byte and the rest
pub cut_one : (s : List ℕ) → 1 ≤ length s → s ≡ get_or s 0 0 ∷ take (length s - 1) (drop 1 s)
cut_one [] h = absurd (omega arith)
cut_one (a ∷ s) h = ap (λ l. a ∷ l) (sym (take_rest (a ∷ s) 1))

-- a text is its first two bytes and the rest
pub cut_two : (s : List ℕ) → 2 ≤ length s → s ≡ get_or s 0 0 ∷ get_or s 1 0 ∷ take (length s - 2) (drop 2 s)
cut_two [] h = absurd (omega arith)
cut_two (a ∷ []) h = absurd (omega arith)
cut_two (a ∷ b ∷ s) h = ap (λ l. a ∷ b ∷ l) (sym (take_rest (a ∷ b ∷ s) 2))
