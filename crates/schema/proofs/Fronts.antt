-- Lists of columns, place by place.
use Rattle.std.proofs.Common.{◌≡◌, ◌≢◌, Bool, true, false, ◌&&◌, eqb, List, [], ◌∷◌, map, length, refl, ap, ◌∙◌, arith}
use Rattle.std.specs.List.{zip, list_all}
use Rattle.std.proofs.lemmas.Bool.Decides.{nat_tests}
use Rattle.schema.specs.Columns.{Column}
use Rattle.schema.specs.Sameness.{same_column, same_columns}

module _ {A B : Type 0} (f : A → Column) (g : B → Column) where
  -- A test of all pairs decides whether lists of one length are the same.
  pub pairs_tell : (xs : List A) (ys : List B) → length xs ≡ length ys → list_all (λ p. same_column (f p.0) (g p.1)) (zip xs ys) ≡ same_columns (map f xs) (map g ys)
  pairs_tell [] [] e = refl
  pairs_tell [] (y ∷ ys) e = absurd (omega arith)
  pairs_tell (x ∷ xs) [] e = absurd (omega arith)
  pairs_tell (x ∷ xs) (y ∷ ys) e = ap (λ b. same_column (f x) (g y) && b) (pairs_tell xs ys (omega arith))

  -- Lists of two lengths are not the same.
  differ : (xs : List A) (ys : List B) → length xs ≢ length ys → false ≡ same_columns (map f xs) (map g ys)
  differ [] [] e = absurd (e refl)
  differ [] (y ∷ ys) e = refl
  differ (x ∷ xs) [] e = refl
  differ (x ∷ xs) (y ∷ ys) e = never (same_column (f x) (g y)) ∙ ap (λ b. same_column (f x) (g y) && b) (differ xs ys (omega arith))
    where
      never : (b : Bool) → false ≡ (b && false)
      never true = refl
      never false = refl

  pub lengths_tell : (xs : List A) (ys : List B) → length xs ≢ length ys → eqb (length xs) (length ys) ≡ same_columns (map f xs) (map g ys)
  lengths_tell xs ys e = let unequal : eqb (length xs) (length ys) ≡ false = grind (arith, nat_tests) in unequal ∙ differ xs ys e
