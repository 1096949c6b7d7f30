-- What a schema has after one attribute more was offered: the columns so far and that one, as far as there is room.
use Rattle.std.proofs.Common.{◌≡◌, ℕ, ◌+◌, ◌<◌, ◌≤◌, Bool, true, false, cond, ltb, List, [], ◌∷◌, ◌++◌, map, take, length, get_or, Some, None, Option, sym, ap, ◌∙◌, refl, length-append, arith}
use Rattle.std.specs.Prelude.{replicate}
use Rattle.std.specs.Option.{option_map, unwrap_or}
use Rattle.std.proofs.lemmas.Bool.Decides.{nat_tests}
use Rattle.std.proofs.lemmas.List.{append_assoc, map-append, length-map, length-take, take_all, take_more, take-append-le}
use Rattle.domain.specs.declared.Domain.TheVariants.{Integer}
use Rattle.fault.specs.Limits.{columns}
use Rattle.schema.specs.declared.attributes.Attribute.{Attribute}
use Rattle.schema.specs.declared.schemas.Schema.{Schema}
use Rattle.schema.specs.Columns.{Column, column_of, schema_of, held}
use Rattle.schema.specs.Building.{with_one}
use Rattle.schema.proofs.Growing.{held_few}
use Rattle.schema_trials.specs.Trials.{nameless, column_for, columns_for, with_room}

-- What fits of a list and one column more.
fitting : (ys : List Column) (c : Column) → with_room (take columns ys) c ≡ take columns (ys ++ (c ∷ []))
fitting ys c = by (ltb (length ys) columns) refl
  where
    by : (b : Bool) → ltb (length ys) columns ≡ b → take columns (take columns ys ++ (c ∷ [])) ≡ take columns (ys ++ (c ∷ []))
    by true h = ap (λ zs. take columns (zs ++ (c ∷ []))) (take_all columns ys (grind (arith, nat_tests)))
    by false h =
        let long : columns ≤ length ys = grind (arith, nat_tests) in
        let full : length (take columns ys) ≡ columns = omega (arith, length-take columns ys, long) in
        take-append-le columns (take columns ys) (c ∷ []) (omega (arith, full)) ∙ take_all columns (take columns ys) (omega (arith, full)) ∙ sym (take-append-le columns ys (c ∷ []) long)

-- The offer is taken exactly if there is room.
pub grown_has : (t : List ℕ) (s : Schema) (a : Attribute) (c : Column) (r : Option Schema) → column_of t a ≡ c → option_map held r ≡ with_one columns (held s) a → schema_of t (unwrap_or r s) ≡ with_room (schema_of t s) c
grown_has t s a c r is h = by r (ltb (length (held s)) columns) refl h
  where
    size : length (schema_of t s) ≡ length (held s)
    size = length-map (held s) (column_of t)

    by : (r : Option Schema) (b : Bool) → ltb (length (held s)) columns ≡ b → option_map held r ≡ cond b (Some (held s ++ (a ∷ []))) None → schema_of t (unwrap_or r s) ≡ with_room (schema_of t s) c
    by (Some l) true room e =
        let same : held l ≡ held s ++ (a ∷ []) = cc in
        let few : length (schema_of t s ++ (c ∷ [])) ≤ columns = grind (arith, nat_tests, size, length-append (schema_of t s) (c ∷ [])) in
        ap (map (column_of t)) same ∙ map-append (column_of t) (held s) (a ∷ []) ∙ ap (λ x. schema_of t s ++ (x ∷ [])) is ∙ sym (take_all columns (schema_of t s ++ (c ∷ [])) few)
    by (Some l) false full e = let z : ◌≡◌ {A = ℕ} 0 1 = cc in absurd (omega arith)
    by None true room e = let z : ◌≡◌ {A = ℕ} 0 1 = cc in absurd (omega arith)
    by None false full e =
        let none_left : columns ≤ length (schema_of t s) = grind (arith, nat_tests, size) in
        sym (take-append-le columns (schema_of t s) (c ∷ []) none_left ∙ take_all columns (schema_of t s) (omega (arith, size, held_few s)))

-- One letter more.
pub letters_more : (n i letter : ℕ) (letters : List ℕ) → i < length letters → letter ≡ get_or letters i letter → with_room (columns_for n (take i letters)) (column_for letter) ≡ columns_for n (take (i + 1) letters)
letters_more n i letter letters h at =
    let before = replicate n (nameless Integer) in
    let named : map column_for (take i letters) ++ (column_for letter ∷ []) ≡ map column_for (take (i + 1) letters) =
    ap (λ l. map column_for (take i letters) ++ (column_for l ∷ [])) at ∙ sym (map-append column_for (take i letters) (get_or letters i letter ∷ [])) ∙ ap (map column_for) (sym (take_more letters i letter h)) in
    fitting (before ++ map column_for (take i letters)) (column_for letter) ∙ ap (take columns) (append_assoc before (map column_for (take i letters)) (column_for letter ∷ []) ∙ ap (λ t. before ++ t) named)
