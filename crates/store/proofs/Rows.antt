-- Equal rows: the test of the meaning decides equality, and is symmetric.
use Rattle.std.proofs.Common.{◌≡◌, ℕ, true, ◌&&◌, eqb, [], ◌∷◌, ℤ, pos, negsuc, Decides, refl, ap, subst, ap₂, arith}
use Rattle.std.proofs.lemmas.Bool.{and_parts, and_from, eqb-true, eq-eqb, false≢true}
use Rattle.std.proofs.lemmas.Bool.Decides.{nat_tests}
use Rattle.store.specs.Meaning.{Row, same_cell, same_row}

-- a cell is equal to itself
pub same_cell_refl : (a : ℤ) → same_cell a a ≡ true
same_cell_refl (pos a) = eq-eqb a a refl
same_cell_refl (negsuc a) = eq-eqb a a refl

-- cells that the test calls equal are
pub same_cell_true : (a b : ℤ) → same_cell a b ≡ true → a ≡ b
same_cell_true (pos a) (pos b) h = ap pos (eqb-true a b h)
same_cell_true (pos a) (negsuc b) h = absurd (false≢true h)
same_cell_true (negsuc a) (pos b) h = absurd (false≢true h)
same_cell_true (negsuc a) (negsuc b) h = ap negsuc (eqb-true a b h)

-- a row is equal to itself
pub same_row_refl : (a : Row) → same_row a a ≡ true
same_row_refl [] = refl
same_row_refl (x ∷ xs) = and_from (same_cell x x) (same_row xs xs) (same_cell_refl x) (same_row_refl xs)

-- rows that the test calls equal are
pub same_row_true : (a b : Row) → same_row a b ≡ true → a ≡ b
same_row_true [] [] h = refl
same_row_true [] (y ∷ ys) h = absurd (false≢true h)
same_row_true (x ∷ xs) [] h = absurd (false≢true h)
same_row_true (x ∷ xs) (y ∷ ys) h =
    let p = and_parts (same_cell x y) (same_row xs ys) h in
    ap₂ ◌∷◌ (same_cell_true x y p.0) (same_row_true xs ys p.1)

-- the test and equality say the same, so a comparison in code may stand for either
pub same_row_decides : (a b : Row) → Decides (same_row a b) (a ≡ b)
same_row_decides a b = (same_row_true a b, λ e. subst (λ x. same_row a x ≡ true) e (same_row_refl a))

eqb_sym : (a b : ℕ) → eqb a b ≡ eqb b a
eqb_sym a b = grind (arith, nat_tests)

same_cell_sym : (a b : ℤ) → same_cell a b ≡ same_cell b a
same_cell_sym (pos a) (pos b) = eqb_sym a b
same_cell_sym (pos a) (negsuc b) = refl
same_cell_sym (negsuc a) (pos b) = refl
same_cell_sym (negsuc a) (negsuc b) = eqb_sym a b

-- which row comes first does not matter
pub same_row_sym : (a b : Row) → same_row a b ≡ same_row b a
same_row_sym [] [] = refl
same_row_sym [] (y ∷ ys) = refl
same_row_sym (x ∷ xs) [] = refl
same_row_sym (x ∷ xs) (y ∷ ys) = ap₂ ◌&&◌ (same_cell_sym x y) (same_row_sym xs ys)
