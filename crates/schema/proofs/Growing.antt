-- Schemas and lists of attributes that grow.
use Rattle.std.proofs.Common.{◌≡◌, ℕ, ◌+◌, ◌<◌, ◌≤◌, Bool, true, false, cond, ltb, leb, List, [], ◌∷◌, ◌++◌, length, Some, None, Option, sym, refl, ap, ◌∙◌, arith}
use Rattle.std.proofs.lemmas.Bool.Decides.{nat_tests}
use Rattle.std.proofs.lemmas.List.{length-take-le, length-append, append_assoc, nil_from_length, append-nil}
use Rattle.fault.specs.Limits.{columns}
use Rattle.schema.specs.declared.attributes.Attribute.{Attribute}
use Rattle.schema.specs.declared.schemas.Schema.{Schema}
use Rattle.schema.specs.Columns.{held}
use Rattle.schema.specs.Building.{with_one, with_all}

-- A schema has not too many.
pub held_few : (s : Schema) → length (held s) ≤ columns
held_few s = omega (arith, length-take-le s.len s.attributes (omega (arith, s.room, s.few)), s.few)

-- With one more, the rest is still to be added.
pub grown : (before more after : List Attribute) (a : Attribute) → Some after ≡ with_one columns before a → with_all after more ≡ with_all before (a ∷ more)
grown before more after a h = by (ltb (length before) columns) refl h
  where
    some_in : {x y : List Attribute} → ◌≡◌ {A = Option (List Attribute)} (Some x) (Some y) → x ≡ y
    some_in h = cc

    by : (b : Bool) → ltb (length before) columns ≡ b → Some after ≡ cond b (Some (before ++ (a ∷ []))) None → with_all after more ≡ with_all before (a ∷ more)
    by true few e =
        ap (λ l. with_all l more) (some_in e)
        ∙ ap (λ n. cond (leb n columns) (Some ((before ++ (a ∷ [])) ++ more)) None) (let z : length (before ++ (a ∷ [])) + length more ≡ length before + length (a ∷ more) = omega (arith, length-append before (a ∷ [])) in z)
        ∙ ap (λ l. cond (leb (length before + length (a ∷ more)) columns) (Some l) None) (append_assoc before (a ∷ []) more)
    by false many e = let z : ◌≡◌ {A = ℕ} 0 1 = cc in absurd (omega arith)

-- With no room for one more, there is none for it and the rest.
pub full : (before more : List Attribute) (a : Attribute) → None ≡ with_one columns before a → None ≡ with_all before (a ∷ more)
full before more a h = by (ltb (length before) columns) refl h
  where
    by : (b : Bool) → ltb (length before) columns ≡ b → None ≡ cond b (Some (before ++ (a ∷ []))) None → None ≡ with_all before (a ∷ more)
    by true few e = let z : ◌≡◌ {A = ℕ} 0 1 = cc in absurd (omega arith)
    by false many e =
        let too_many : leb (length before + length (a ∷ more)) columns ≡ false = grind (arith, nat_tests) in
        sym (ap (λ b. cond b (Some (before ++ (a ∷ more))) None) too_many)

-- All were added.
pub added : (before left : List Attribute) → length left < 1 → length before ≤ columns → Some before ≡ with_all before left
added before left ended few =
    let fits : leb (length before + length left) columns ≡ true = grind (arith, nat_tests) in
    sym (ap (λ b. cond b (Some (before ++ left)) None) fits ∙ ap (λ l. Some (before ++ l)) (nil_from_length left (omega arith)) ∙ ap Some (append-nil before))

-- With one more, there are not too many.
pub one_length : (before after : List Attribute) (a : Attribute) → Some after ≡ with_one columns before a → length after ≤ columns
one_length before after a h = by (ltb (length before) columns) refl h
  where
    some_in : {x y : List Attribute} → ◌≡◌ {A = Option (List Attribute)} (Some x) (Some y) → x ≡ y
    some_in h = cc

    by : (b : Bool) → ltb (length before) columns ≡ b → Some after ≡ cond b (Some (before ++ (a ∷ []))) None → length after ≤ columns
    by true few e = grind (arith, nat_tests, ap length (some_in e), length-append before (a ∷ []))
    by false many e = let z : ◌≡◌ {A = ℕ} 0 1 = cc in absurd (omega arith)
