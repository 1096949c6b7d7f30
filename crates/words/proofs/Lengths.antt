-- Bytes can be spelt like words of their own length alone.
use Rattle.std.proofs.Common.{◌≡◌, ℕ, Bool, true, false, cond, eqb, List, [], ◌∷◌, length, Some, None, sym, refl, ap, ◌∙◌, arith}
use Rattle.std.proofs.lemmas.Slice.Eq.{bytes_eq-Decides}
use Rattle.std.proofs.lemmas.Bool.Decides.{nat_tests}
use Rattle.std.specs.Str.{bytes_eq}
use Rattle.words.specs.declared.keywords.Keyword.{Keyword}
use Rattle.words.specs.Spelling.{spellings, spelt_among, keyword_of}
use Rattle.words.specs.Tokens.{Bytes}

-- those of these words that are n bytes long
abbrev pub of_length : ℕ → List (Bytes × Keyword) → List (Bytes × Keyword)
of_length n [] = []
of_length n (w ∷ ws) = cond (eqb (length w.0) n) (w ∷ of_length n ws) (of_length n ws)

-- among them bytes of that length are found as among all
found_of_length : (n : ℕ) (ws : List (Bytes × Keyword)) (s : Bytes) → length s ≡ n → spelt_among (of_length n ws) s ≡ spelt_among ws s
found_of_length n [] s h = refl
found_of_length n (w ∷ ws) s h = by (eqb (length w.0) n) (bytes_eq s w.0) refl refl (found_of_length n ws s h)
  where
    by : (x y : Bool) → eqb (length w.0) n ≡ x → bytes_eq s w.0 ≡ y → spelt_among (of_length n ws) s ≡ spelt_among ws s →
        spelt_among (cond x (w ∷ of_length n ws) (of_length n ws)) s ≡ cond y (Some w.1) (spelt_among ws s)
    by true true e f rest = rw f refl
    by true false e f rest = rw f rest
    by false true e f rest = let same : length s ≡ length w.0 = ap length ((bytes_eq-Decides s w.0).0 f) in absurd (grind (arith, nat_tests, e, same, h))
    by false false e f rest = rest

-- so n bytes are a keyword where they are one of those of n bytes
pub keyword_of_length : (n : ℕ) (s : Bytes) → length s ≡ n → spelt_among (of_length n spellings) s ≡ keyword_of s
unfolding keyword_of
keyword_of_length n s h = found_of_length n spellings s h

-- another length, as the test above has it
apart : (m n : ℕ) → ¬ (n ≡ m) → eqb m n ≡ false
apart m n h = grind (arith, nat_tests, h)

-- no keyword is shorter than 2 bytes or longer than 7
pub keyword_of_no_length : (s : Bytes) → ¬ (length s ≡ 2) → ¬ (length s ≡ 3) → ¬ (length s ≡ 4) → ¬ (length s ≡ 5) → ¬ (length s ≡ 6) → ¬ (length s ≡ 7) → None ≡ keyword_of s
keyword_of_no_length s a b c d e f =
    let n = length s in
    let none : of_length (length s) spellings ≡ [] = rw (apart 2 n a, apart 3 n b, apart 4 n c, apart 5 n d, apart 6 n e, apart 7 n f) refl in
    sym (ap (λ ws. spelt_among ws s) none) ∙ keyword_of_length n s refl
