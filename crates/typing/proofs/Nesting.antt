-- The widths of tables, and the room that nested brackets take.
use Rattle.std.proofs.Common.{◌≡◌, ℕ, zero, suc, ◌+◌, ◌*◌, ◌≤◌, Bool, true, false, cond, List, [], ◌∷◌, ◌++◌, map, length, refl, ap, subst, arith}
use Rattle.std.proofs.lemmas.List.{length-append}
use Rattle.domain.specs.declared.Domain.{Domain}
use Rattle.fault.specs.Limits.{columns, depth}
use Rattle.words.specs.Tokens.{Bytes}
use Rattle.grammar.specs.Tree.{Expression}
use Rattle.schema.specs.Columns.{Column}
use Rattle.schema.specs.Kinds.{ValueType.table}
use Rattle.scope.specs.Chains.{Found, size, Sees, Sees.here, Sees.outward}
use Rattle.typing.specs.Environments.{Variable, Environment, inside, Refers.by_attribute, Refers.by_variable}
use Rattle.typing.specs.Tables.{bytes_in, domain_in, first_domains, nameless, column_named, chosen, kept, renaming}
use Rattle.typing.specs.Typing.{Typed.name_typed, Typed.literal_typed, Typed.tuples_typed, Typed.types_typed, Typed.logical_typed, Typed.compared_typed, Typed.summed_typed, Typed.multiplied_typed, Typed.joined_typed, Typed.negative_typed, Typed.negated_typed}
use Rattle.typing.specs.Typing.{Typed.projected_typed, Typed.renamed_typed, Typed.selected_typed, Typed.existing_typed, Typed.everywhere_typed, Typed.updated_typed, Typed.extended_typed}
use Rattle.typing.specs.Nesting.{Inside, Nests, Fits, Fits.atom_fits, Fits.table_fits, AllFit, EveryFits, Few, Part, Parts, Parts.itself, Parts.deeper, WidthsFit, NeverFull}
use Rattle.typing.specs.Nesting.{Part.logical_left, Part.logical_right, Part.compared_left, Part.compared_right, Part.summed_left, Part.summed_right, Part.multiplied_left, Part.multiplied_right, Part.joined_left, Part.joined_right, Part.joined_inner}
use Rattle.typing.specs.Nesting.{Part.negative_operand, Part.negated_operand, Part.projected_operand, Part.renamed_operand, Part.selected_operand, Part.selected_inner, Part.existing_operand, Part.existing_inner, Part.everywhere_operand, Part.everywhere_inner}
use Rattle.typing.specs.Nesting.{Part.updated_operand, Part.updated_inner, Part.extended_operand, Part.extended_inner}

-- A variable that is found fits.
all_at : (older : List Variable) (v : Variable) (newer : List Variable) → AllFit (older ++ (v ∷ newer)) → Fits v.type
all_at [] v newer (f, rest) = f
all_at (x ∷ older) v newer (f, rest) = all_at older v newer rest

found_fits : {is : Variable → Bool} {lists : List (List Variable)} {f : Found Variable} → Sees is lists f → EveryFits lists → Fits f.entry.type
found_fits (here older v newer parts it lacks) (own, outer) = all_at older v newer (subst AllFit parts own)
found_fits (outward lacks sees) (own, outer) = found_fits sees outer

length_kept : (names : List Bytes) (cs : List Column) → length (kept names cs) ≤ length cs
length_kept names [] = omega arith
length_kept names (c ∷ cs) = by (chosen names c.name) (length_kept names cs)
  where
    by : (b : Bool) → length (kept names cs) ≤ length cs → length (cond b (c ∷ kept names cs) (kept names cs)) ≤ suc (length cs)
    by true h = omega arith
    by false h = omega arith

length_renaming : (names : List Bytes) (cs : List Column) → length (renaming names cs) ≤ length cs
length_renaming [] cs = omega arith
length_renaming (n ∷ names) [] = omega arith
length_renaming (n ∷ names) (c ∷ cs) = omega (arith, length_renaming names cs)

length_nameless : (ds : List Domain) → length (nameless ds) ≡ length ds
length_nameless [] = refl
length_nameless (d ∷ ds) = ap suc (length_nameless ds)

width : {cs : List Column} → Fits (table cs) → length cs ≤ columns
width (table_fits few) = few

pub widths_fit : WidthsFit
widths_fit env e t few (name_typed (by_attribute s)) = atom_fits
widths_fit env e t few (name_typed (by_variable a s)) = found_fits s few
widths_fit env e t few literal_typed = atom_fits
widths_fit env e t few (tuples_typed {tuples = tuples} fits l) = table_fits (omega (arith, length_nameless (first_domains tuples)))
widths_fit env e t few (types_typed {types = types} fits) = table_fits (omega (arith, length_nameless (map domain_in types)))
widths_fit env e t few (logical_typed a b) = atom_fits
widths_fit env e t few (compared_typed a b c) = atom_fits
widths_fit env e t few (summed_typed a b) = atom_fits
widths_fit env e t few (multiplied_typed a b) = atom_fits
widths_fit env e t few (joined_typed {cs = cs} {ds = ds} a b fits apart c) = table_fits (omega (arith, length-append cs ds))
widths_fit env e t few (negative_typed a) = atom_fits
widths_fit env e t few (negated_typed a) = atom_fits
widths_fit env e t few (projected_typed {names = names} {e = o} {cs = cs} a l) = table_fits (omega (arith, length_kept (map bytes_in names) cs, width (widths_fit env o (table cs) few a)))
widths_fit env e t few (renamed_typed {names = names} {e = o} {cs = cs} a many l) = table_fits (omega (arith, length_renaming (map bytes_in names) cs, width (widths_fit env o (table cs) few a)))
widths_fit env e t few (selected_typed {e = o} {cs = cs} a c) = widths_fit env o (table cs) few a
widths_fit env e t few (existing_typed a c) = atom_fits
widths_fit env e t few (everywhere_typed a c) = atom_fits
widths_fit env e t few (updated_typed {e = o} {cs = cs} a s x) = widths_fit env o (table cs) few a
widths_fit env e t few (extended_typed {d = d} {n = n} {cs = cs} a fits new x) = table_fits (omega (arith, length-append cs (column_named n d ∷ [])))

-- How much scope a part takes, against what is left for it.
record Room (env : Environment) (e : Expression) (wide deep : ℕ) : Type 0 where
  left : ℕ
  nests : Nests e left
  attributes_left : size env.contexts + columns * left ≤ wide
  depths_left : length env.contexts + left ≤ deep
  tables : Few env

-- Within a bracket there is one depth less, and at most `columns` attributes more.
step_in : (env : Environment) (c : Expression) (cs : List Column) (wide deep n : ℕ) → size env.contexts + columns * n ≤ wide → length env.contexts + n ≤ deep → Few env → length cs ≤ columns → Inside (Nests c) n → Room (inside cs env) c wide deep
step_in env c cs wide deep zero w d few fits i = absurd i
step_in env c cs wide deep (suc n) w d few fits i = record { left = n; nests = i; attributes_left = omega (arith, w, fits); depths_left = omega (arith, d); tables = few }

stay : (env : Environment) (e : Expression) (wide deep n : ℕ) → size env.contexts + columns * n ≤ wide → length env.contexts + n ≤ deep → Few env → Nests e n → Room env e wide deep
stay env e wide deep n w d few i = record { left = n; nests = i; attributes_left = w; depths_left = d; tables = few }

step : {env inner : Environment} {e part : Expression} (wide deep n : ℕ) → Part env e inner part → size env.contexts + columns * n ≤ wide → length env.contexts + n ≤ deep → Few env → Nests e n → Room inner part wide deep
step wide deep n (logical_left {env} {o} {p} {a} {b}) w d few (i, j) = stay env a wide deep n w d few i
step wide deep n (logical_right {env} {o} {p} {a} {b}) w d few (i, j) = stay env b wide deep n w d few j
step wide deep n (compared_left {env} {o} {p} {a} {b}) w d few (i, j) = stay env a wide deep n w d few i
step wide deep n (compared_right {env} {o} {p} {a} {b}) w d few (i, j) = stay env b wide deep n w d few j
step wide deep n (summed_left {env} {o} {p} {a} {b}) w d few (i, j) = stay env a wide deep n w d few i
step wide deep n (summed_right {env} {o} {p} {a} {b}) w d few (i, j) = stay env b wide deep n w d few j
step wide deep n (multiplied_left {env} {o} {p} {a} {b}) w d few (i, j) = stay env a wide deep n w d few i
step wide deep n (multiplied_right {env} {o} {p} {a} {b}) w d few (i, j) = stay env b wide deep n w d few j
step wide deep n (joined_left {env} {p} {a} {c} {b}) w d few (i, j, k) = stay env a wide deep n w d few i
step wide deep n (joined_right {env} {p} {a} {c} {b}) w d few (i, j, k) = stay env b wide deep n w d few j
step wide deep n (joined_inner {env} {p} {a} {c} {b} {cs} {ds} ta tb fits) w d few (i, j, k) = step_in env c (cs ++ ds) wide deep n w d few (omega (arith, length-append cs ds)) k
step wide deep n (negative_operand {env} {p} {a}) w d few i = stay env a wide deep n w d few i
step wide deep n (negated_operand {env} {p} {a}) w d few i = stay env a wide deep n w d few i
step wide deep n (projected_operand {env} {p} {xs} {e}) w d few i = stay env e wide deep n w d few i
step wide deep n (renamed_operand {env} {p} {xs} {e}) w d few i = stay env e wide deep n w d few i
step wide deep n (selected_operand {env} {p} {c} {e}) w d few (i, k) = stay env e wide deep n w d few i
step wide deep n (selected_inner {env} {p} {c} {e} {cs} t) w d few (i, k) = step_in env c cs wide deep n w d few (width (widths_fit env e (table cs) few t)) k
step wide deep n (existing_operand {env} {p} {c} {e}) w d few (i, k) = stay env e wide deep n w d few i
step wide deep n (existing_inner {env} {p} {c} {e} {cs} t) w d few (i, k) = step_in env c cs wide deep n w d few (width (widths_fit env e (table cs) few t)) k
step wide deep n (everywhere_operand {env} {p} {c} {e}) w d few (i, k) = stay env e wide deep n w d few i
step wide deep n (everywhere_inner {env} {p} {c} {e} {cs} t) w d few (i, k) = step_in env c cs wide deep n w d few (width (widths_fit env e (table cs) few t)) k
step wide deep n (updated_operand {env} {p} {x} {v} {e}) w d few (i, k) = stay env e wide deep n w d few i
step wide deep n (updated_inner {env} {p} {x} {v} {e} {cs} t) w d few (i, k) = step_in env v cs wide deep n w d few (width (widths_fit env e (table cs) few t)) k
step wide deep n (extended_operand {env} {p} {y} {x} {v} {e}) w d few (i, k) = stay env e wide deep n w d few i
step wide deep n (extended_inner {env} {p} {y} {x} {v} {e} {cs} t) w d few (i, k) = step_in env v cs wide deep n w d few (width (widths_fit env e (table cs) few t)) k

reaches : {env last : Environment} {e end : Expression} (wide deep : ℕ) → Parts env e last end → Room env e wide deep → (size last.contexts ≤ wide) × (length last.contexts ≤ deep)
reaches wide deep itself r = (omega (arith, r.attributes_left), omega (arith, r.depths_left))
reaches wide deep (deeper part more) r = reaches wide deep more (step wide deep r.left part r.attributes_left r.depths_left r.tables r.nests)

pub never_full : NeverFull
never_full env last e end outside few nests parts =
    let none_yet : size env.contexts ≡ 0 = ap size outside in
    let no_list : length env.contexts ≡ 0 = ap length outside in
    let r = reaches (columns * depth) depth parts (record { left = depth; nests = nests; attributes_left = omega (arith, none_yet); depths_left = omega (arith, no_list); tables = few }) in
    (omega (arith, r.0), r.1)
