-- Plans keep types: one line for each rule of typing.
use Rattle.std.proofs.Common.{◌≡◌, List, [], ◌∷◌, ◌++◌, map, Some, Option, refl, ap, ◌∙◌, ap₂}
use Rattle.grammar.specs.Tree.{Expression}
use Rattle.schema.specs.Columns.{Column}
use Rattle.schema.specs.Kinds.{ValueType, ValueType.table}
use Rattle.scope.specs.Chains.{Found, find}
use Rattle.scope.proofs.Searches.{sees_find, absent_find}
use Rattle.typing.specs.Environments.{Environment, is_column, is_variable, resolve, resolve_or, referred, variable_named, Reference, Reference.to_attribute, Reference.to_variable, Refers, Refers.by_attribute, Refers.by_variable}
use Rattle.typing.specs.Tables.{bytes_in, kept, renaming, column_named}
use Rattle.typing.specs.Typing.{Typed, Typed.name_typed, Typed.literal_typed, Typed.tuples_typed, Typed.types_typed, Typed.logical_typed, Typed.compared_typed, Typed.summed_typed, Typed.multiplied_typed, Typed.joined_typed}
use Rattle.typing.specs.Typing.{Typed.negative_typed, Typed.negated_typed, Typed.projected_typed, Typed.renamed_typed, Typed.selected_typed, Typed.existing_typed, Typed.everywhere_typed, Typed.updated_typed, Typed.extended_typed}
use Rattle.words.specs.Tokens.{Bytes, Place}
use Rattle.plan.specs.Laws.{PlansKeepTypes}
use Rattle.plan.specs.Plan.{Term, type_of}
use Rattle.plan.specs.Planning.{columns_in, reference, updating, planned}

-- what a name refers to is what the search finds
refers_resolve : (env : Environment) (n : Bytes) (r : Reference) → Refers env n r → resolve env n ≡ Some r
refers_resolve env n r (by_attribute s) = ap (λ z. resolve_or z (variable_named env n)) (sees_find (is_column n) s)
refers_resolve env n r (by_variable a s) = ap₂ resolve_or (absent_find (is_column n) a) (sees_find (is_variable n) s)

reference_type : (r : Reference) (p : Place) → type_of (reference (Some r) p) ≡ referred r
reference_type (to_attribute c k d) p = refl
reference_type (to_variable i t) p = refl

updating_type : (o : Option (Found Column)) (f : Found Column) (p : Place) (cs : List Column) (x e : Term) → o ≡ Some f → type_of (updating o p cs x e) ≡ table cs
updating_type o f p cs x e h = ap (λ z. type_of (updating z p cs x e)) h

pub plan_types : {env : Environment} {e : Expression} {t : ValueType} → Typed env e t → type_of (planned env e) ≡ t
unfolding planned
plan_types {env} (name_typed {n = n} {p = p} {r = r} h) = ap (λ z. type_of (reference z p)) (refers_resolve env n r h) ∙ reference_type r p
plan_types literal_typed = refl
plan_types (tuples_typed few fit) = refl
plan_types (types_typed few) = refl
plan_types (logical_typed a b) = refl
plan_types (compared_typed a b c) = refl
plan_types (summed_typed a b) = refl
plan_types (multiplied_typed a b) = refl
plan_types (joined_typed a b few apart c) = ap₂ (λ x y. table (columns_in x ++ columns_in y)) (plan_types a) (plan_types b)
plan_types (negative_typed a) = refl
plan_types (negated_typed a) = refl
plan_types (projected_typed {names = names} a l) = ap (λ x. table (kept (map bytes_in names) (columns_in x))) (plan_types a)
plan_types (renamed_typed {names = names} a l d) = ap (λ x. table (renaming (map bytes_in names) (columns_in x))) (plan_types a)
plan_types (selected_typed a c) = ap (λ x. table (columns_in x)) (plan_types a)
plan_types (existing_typed a c) = refl
plan_types (everywhere_typed a c) = refl
plan_types {env} (updated_typed {p = p} {n = n} {x = x} {e = e} {cs = cs} {f = f} a s v) =
    let same = ap columns_in (plan_types a) in
    updating_type _ f p _ _ _ (ap (λ z. find (is_column n) (z ∷ [])) same ∙ sees_find (is_column n) s) ∙ ap table same
plan_types (extended_typed {d = d} {n = n} a few new v) = ap (λ x. table (columns_in x ++ (column_named n d ∷ []))) (plan_types a)

pub plans_keep_types : PlansKeepTypes
plans_keep_types env e t h = plan_types h
