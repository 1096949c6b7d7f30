-- What is typed, or fails, is answered so.
use Rattle.std.proofs.Common.{◌≡◌, eqb, List, map, length, Some, None, Ok, Err, refl, ap, ◌∙◌}
use mathlib.Core.Option.{Option as Maybe}
use Rattle.domain.specs.declared.Domain.{Domain}
use Rattle.domain.specs.declared.Domain.TheVariants.{Integer, String, Boolean}
use Rattle.fault.specs.declared.rules.Fault.{Fault}
use Rattle.words.specs.Tokens.{Bytes, Place}
use Rattle.grammar.specs.Tree.{Name, Tuple, Attribute, VariableType}
use Rattle.grammar.specs.Tree.{Expression}
use Rattle.grammar.specs.Tree.{Statement, Statements, Block}
use Rattle.schema.specs.Columns.{Column}
use Rattle.schema.specs.Kinds.{ValueType}
use Rattle.schema.specs.Sameness.{same_type}
use Rattle.schema.proofs.Sames.{domain_same, type_is, is_type}
use Rattle.scope.proofs.Searches.{sees_find, absent_find}
use Rattle.typing.specs.Environments.{Environment, is_column, is_variable, Reference, variable_named, resolve, resolve_or, Refers, Refers.by_attribute, Refers.by_variable, Unknown, Unknown.nowhere}
use Rattle.typing.specs.Tables.{domain_of, is_atom, both_atoms, comparable, same_domains}
use Rattle.typing.specs.Typing.{Listed, Listed.listed_none, Listed.listed_more, Distinct, Distinct.distinct_none, Distinct.distinct_more, Fitting, Fitting.fitting_none, Fitting.fitting_more}
use Rattle.typing.specs.Typing.{Typed, Typed.name_typed, Typed.literal_typed, Typed.tuples_typed, Typed.types_typed, Typed.logical_typed, Typed.compared_typed, Typed.summed_typed, Typed.multiplied_typed, Typed.joined_typed, Typed.negative_typed, Typed.negated_typed}
use Rattle.typing.specs.Typing.{Typed.projected_typed, Typed.renamed_typed, Typed.selected_typed, Typed.existing_typed, Typed.everywhere_typed, Typed.updated_typed, Typed.extended_typed}
use Rattle.typing.specs.Typing.{Declared, Declared.declared_none, Declared.declared_more, Declares, Declares.declares_atom, Declares.declares_table, Defined, Defined.defined_none, Defined.defined_more, Specified, Specified.not_specified, Specified.specified}
use Rattle.typing.specs.Typing.{Valid, Valid.define_valid, Valid.assign_valid, Valid.if_then_valid, Valid.if_then_else_valid, Valid.while_do_valid, Valid.read_into_valid, Valid.write_out_valid, ValidAll, ValidAll.none_valid, ValidAll.more_valid, ValidBlock, ValidBlock.block_valid, Right, Right.program_right}
use Rattle.typing.specs.Failing.{Mislisted, Mislisted.listed_absent, Mislisted.listed_twice, Mislisted.listed_later, Repeats, Repeats.repeats_here, Repeats.repeats_later, Misfitting, Misfitting.misfits_here, Misfitting.misfits_later}
use Rattle.typing.specs.Failing.{Fails, Fails.name_unknown, Fails.tuples_count, Fails.tuples_misfit, Fails.types_count, Fails.logical_left, Fails.logical_right, Fails.logical_types, Fails.compared_left, Fails.compared_right, Fails.compared_types}
use Rattle.typing.specs.Failing.{Fails.summed_left, Fails.summed_right, Fails.summed_types, Fails.multiplied_left, Fails.multiplied_right, Fails.multiplied_types, Fails.joined_left, Fails.joined_right, Fails.joined_left_atom, Fails.joined_right_atom, Fails.joined_count, Fails.joined_names, Fails.joined_inner, Fails.joined_type}
use Rattle.typing.specs.Failing.{Fails.negative_operand, Fails.negative_type, Fails.negated_operand, Fails.negated_type, Fails.projected_operand, Fails.projected_atom, Fails.projected_names, Fails.renamed_operand, Fails.renamed_atom, Fails.renamed_count, Fails.renamed_names}
use Rattle.typing.specs.Failing.{Fails.selected_operand, Fails.selected_atom, Fails.selected_inner, Fails.selected_type, Fails.existing_operand, Fails.existing_atom, Fails.existing_inner, Fails.existing_type, Fails.everywhere_operand, Fails.everywhere_atom, Fails.everywhere_inner, Fails.everywhere_type}
use Rattle.typing.specs.Failing.{Fails.updated_operand, Fails.updated_atom, Fails.updated_name, Fails.updated_inner, Fails.updated_type, Fails.extended_operand, Fails.extended_atom, Fails.extended_count, Fails.extended_name, Fails.extended_inner, Fails.extended_type}
use Rattle.typing.specs.Failing.{Misdeclared, Misdeclared.declared_twice, Misdeclared.declared_crowded, Misdeclared.declared_later, Misdefined, Misdefined.defined_twice, Misdefined.defined_crowded, Misdefined.defined_later, Misspecified, Misspecified.specifier_fails, Misspecified.specifier_type}
use Rattle.typing.specs.Failing.{Invalid, Invalid.define_type, Invalid.define_names, Invalid.assign_name, Invalid.assign_expression, Invalid.assign_type, Invalid.if_then_test, Invalid.if_then_type, Invalid.if_then_block, Invalid.if_then_else_test, Invalid.if_then_else_type, Invalid.if_then_else_block, Invalid.if_then_else_other}
use Rattle.typing.specs.Failing.{Invalid.while_do_test, Invalid.while_do_type, Invalid.while_do_block, Invalid.read_into_specifier, Invalid.read_into_name, Invalid.write_out_specifier, Invalid.write_out_expression, InvalidAll, InvalidAll.first_invalid, InvalidAll.later_invalid, InvalidBlock, InvalidBlock.block_invalid, Wrong, Wrong.program_wrong}
use Rattle.typing.specs.Checker.{bind, ask, or_absent, columns_of, listed, distinct, fitting, together, with_column, projection, renamings, check, attributes_from, declare, define_all, specify, test, check_statement, check_statements, check_block, check_program}
use Rattle.typing.proofs.Tests.{refuted, leb_true, leb_false, ltb_true, ltb_false, eqb_is, is_eqb, atom_is, atoms_are, comparable_is, is_comparable, domains_are, are_domains}

-- What a name stands for is what the search answers.
refers_resolve : {env : Environment} {n : Bytes} {r : Reference} → Refers env n r → resolve env n ≡ Some r
refers_resolve {env} {n} (by_attribute s) = ap (λ o. resolve_or o (variable_named env n)) (sees_find (is_column n) s)
refers_resolve {env} {n} (by_variable {f = f} a s) = ap (λ o. resolve_or o (variable_named env n)) (absent_find (is_column n) a) ∙ ap (resolve_or None) (sees_find (is_variable n) s)

unknown_resolve : {env : Environment} {n : Bytes} → Unknown env n → resolve env n ≡ None
unknown_resolve {env} {n} (nowhere a b) = ap (λ o. resolve_or o (variable_named env n)) (absent_find (is_column n) a) ∙ ap (resolve_or None) (absent_find (is_variable n) b)

-- Lists of names and of constants.

listed_answer : {cs : List Column} {before : List Bytes} {names : List Name} → Listed cs before names → listed cs before names ≡ Ok tt
unfolding listed ask
listed_answer listed_none = refl
listed_answer (listed_more h new l) = rw (h, new) (listed_answer l)

mislisted_answer : {cs : List Column} {before : List Bytes} {names : List Name} {f : Fault} → Mislisted cs before names f → listed cs before names ≡ Err f
unfolding listed ask
mislisted_answer (listed_absent h) = rw h refl
mislisted_answer (listed_twice h again) = rw (h, again) refl
mislisted_answer (listed_later h new m) = rw (h, new) (mislisted_answer m)

distinct_answer : {before : List Bytes} {names : List Name} → Distinct before names → distinct before names ≡ Ok tt
unfolding distinct ask
distinct_answer distinct_none = refl
distinct_answer (distinct_more new l) = rw new (distinct_answer l)

repeats_answer : {before : List Bytes} {names : List Name} {f : Fault} → Repeats before names f → distinct before names ≡ Err f
unfolding distinct ask
repeats_answer (repeats_here again) = rw again refl
repeats_answer (repeats_later new m) = rw new (repeats_answer m)

fitting_answer : {ds : List Domain} {tuples : List Tuple} → Fitting ds tuples → fitting ds tuples ≡ Ok tt
unfolding fitting ask
fitting_answer fitting_none = refl
fitting_answer (fitting_more h l) = rw (are_domains h) (fitting_answer l)

misfitting_answer : {ds : List Domain} {tuples : List Tuple} {f : Fault} → Misfitting ds tuples f → fitting ds tuples ≡ Err f
unfolding fitting ask
misfitting_answer {ds} (misfits_here {cs = cs} no-so) = rw (refuted (same_domains (map domain_of cs) ds) (domains_are _ _) no-so) refl
misfitting_answer (misfits_later h m) = rw (are_domains h) (misfitting_answer m)

-- Expressions.
pub typed_answer : {env : Environment} {e : Expression} {t : ValueType} → Typed env e t → check env e ≡ Ok t
unfolding check bind ask columns_of or_absent together with_column projection renamings
typed_answer (name_typed h) = rw (refers_resolve h) refl
typed_answer literal_typed = refl
typed_answer (tuples_typed few fits) = rw (leb_true _ _ few, fitting_answer fits) refl
typed_answer (types_typed few) = rw (leb_true _ _ few) refl
typed_answer (logical_typed a b) = rw (typed_answer a, typed_answer b) refl
typed_answer (compared_typed a b c) = rw (typed_answer a, typed_answer b, is_comparable c) refl
typed_answer (summed_typed a b) = rw (typed_answer a, typed_answer b) refl
typed_answer (multiplied_typed a b) = rw (typed_answer a, typed_answer b) refl
typed_answer (joined_typed a b few apart c) = rw (typed_answer a, typed_answer b, leb_true _ _ few, apart, typed_answer c) refl
typed_answer (negative_typed a) = rw (typed_answer a) refl
typed_answer (negated_typed a) = rw (typed_answer a) refl
typed_answer (projected_typed e l) = rw (typed_answer e, listed_answer l) refl
typed_answer (renamed_typed e many l) = rw (typed_answer e, is_eqb _ _ many, distinct_answer l) refl
typed_answer (selected_typed e c) = rw (typed_answer e, typed_answer c) refl
typed_answer (existing_typed e c) = rw (typed_answer e, typed_answer c) refl
typed_answer (everywhere_typed e c) = rw (typed_answer e, typed_answer c) refl
typed_answer (updated_typed {n = n} {f = f} e s x) = rw (typed_answer e, sees_find (is_column n) s, typed_answer x, domain_same f.entry.domain) refl
typed_answer (extended_typed {d = d} e few new x) = rw (typed_answer e, ltb_true _ _ few, new, typed_answer x, domain_same d) refl

pub fails_answer : {env : Environment} {e : Expression} {f : Fault} → Fails env e f → check env e ≡ Err f
unfolding check bind ask columns_of or_absent together with_column projection renamings
fails_answer (name_unknown h) = rw (unknown_resolve h) refl
fails_answer (tuples_count many) = rw (leb_false _ _ many) refl
fails_answer (tuples_misfit few m) = rw (leb_true _ _ few, misfitting_answer m) refl
fails_answer (types_count many) = rw (leb_false _ _ many) refl
fails_answer (logical_left x) = rw (fails_answer x) refl
fails_answer (logical_right a x) = rw (typed_answer a, fails_answer x) refl
fails_answer (logical_types {t = t} {u = u} a b no-so) = rw (typed_answer a, typed_answer b, refuted (both_atoms Boolean t u) (atoms_are Boolean t u) no-so) refl
fails_answer (summed_left x) = rw (fails_answer x) refl
fails_answer (summed_right a x) = rw (typed_answer a, fails_answer x) refl
fails_answer (summed_types {t = t} {u = u} a b no-so) = rw (typed_answer a, typed_answer b, refuted (both_atoms Integer t u) (atoms_are Integer t u) no-so) refl
fails_answer (multiplied_left x) = rw (fails_answer x) refl
fails_answer (multiplied_right a x) = rw (typed_answer a, fails_answer x) refl
fails_answer (multiplied_types {t = t} {u = u} a b no-so) = rw (typed_answer a, typed_answer b, refuted (both_atoms Integer t u) (atoms_are Integer t u) no-so) refl
fails_answer (compared_left x) = rw (fails_answer x) refl
fails_answer (compared_right a x) = rw (typed_answer a, fails_answer x) refl
fails_answer (compared_types {o = o} {t = t} {u = u} a b no-so) = rw (typed_answer a, typed_answer b, refuted (comparable o t u) (comparable_is o t u) no-so) refl
fails_answer (joined_left x) = rw (fails_answer x) refl
fails_answer (joined_right a x) = rw (typed_answer a, fails_answer x) refl
fails_answer (joined_left_atom a b) = rw (typed_answer a, typed_answer b) refl
fails_answer (joined_right_atom a b) = rw (typed_answer a, typed_answer b) refl
fails_answer (joined_count a b many) = rw (typed_answer a, typed_answer b, leb_false _ _ many) refl
fails_answer (joined_names a b few both) = rw (typed_answer a, typed_answer b, leb_true _ _ few, both) refl
fails_answer (joined_inner a b few apart x) = rw (typed_answer a, typed_answer b, leb_true _ _ few, apart, fails_answer x) refl
fails_answer (joined_type {t = t} a b few apart c no-so) = rw (typed_answer a, typed_answer b, leb_true _ _ few, apart, typed_answer c, refuted (is_atom Boolean t) (atom_is Boolean t) no-so) refl
fails_answer (negative_operand x) = rw (fails_answer x) refl
fails_answer (negative_type {t = t} a no-so) = rw (typed_answer a, refuted (is_atom Integer t) (atom_is Integer t) no-so) refl
fails_answer (negated_operand x) = rw (fails_answer x) refl
fails_answer (negated_type {t = t} a no-so) = rw (typed_answer a, refuted (is_atom Boolean t) (atom_is Boolean t) no-so) refl
fails_answer (projected_operand x) = rw (fails_answer x) refl
fails_answer (projected_atom e) = rw (typed_answer e) refl
fails_answer (projected_names e m) = rw (typed_answer e, mislisted_answer m) refl
fails_answer (renamed_operand x) = rw (fails_answer x) refl
fails_answer (renamed_atom e) = rw (typed_answer e) refl
fails_answer (renamed_count {names = names} {cs = cs} e no-so) = rw (typed_answer e, refuted (eqb (length names) (length cs)) (eqb_is _ _) no-so) refl
fails_answer (renamed_names e many m) = rw (typed_answer e, is_eqb _ _ many, repeats_answer m) refl
fails_answer (selected_operand x) = rw (fails_answer x) refl
fails_answer (selected_atom e) = rw (typed_answer e) refl
fails_answer (selected_inner e x) = rw (typed_answer e, fails_answer x) refl
fails_answer (selected_type {t = t} e c no-so) = rw (typed_answer e, typed_answer c, refuted (is_atom Boolean t) (atom_is Boolean t) no-so) refl
fails_answer (existing_operand x) = rw (fails_answer x) refl
fails_answer (existing_atom e) = rw (typed_answer e) refl
fails_answer (existing_inner e x) = rw (typed_answer e, fails_answer x) refl
fails_answer (existing_type {t = t} e c no-so) = rw (typed_answer e, typed_answer c, refuted (is_atom Boolean t) (atom_is Boolean t) no-so) refl
fails_answer (everywhere_operand x) = rw (fails_answer x) refl
fails_answer (everywhere_atom e) = rw (typed_answer e) refl
fails_answer (everywhere_inner e x) = rw (typed_answer e, fails_answer x) refl
fails_answer (everywhere_type {t = t} e c no-so) = rw (typed_answer e, typed_answer c, refuted (is_atom Boolean t) (atom_is Boolean t) no-so) refl
fails_answer (updated_operand x) = rw (fails_answer x) refl
fails_answer (updated_atom e) = rw (typed_answer e) refl
fails_answer (updated_name {n = n} e absent) = rw (typed_answer e, absent_find (is_column n) absent) refl
fails_answer (updated_inner {n = n} e s x) = rw (typed_answer e, sees_find (is_column n) s, fails_answer x) refl
fails_answer (updated_type {n = n} {c = c} {t = t} e s x no-so) = rw (typed_answer e, sees_find (is_column n) s, typed_answer x, refuted (is_atom c.entry.domain t) (atom_is c.entry.domain t) no-so) refl
fails_answer (extended_operand x) = rw (fails_answer x) refl
fails_answer (extended_atom e) = rw (typed_answer e) refl
fails_answer (extended_count e many) = rw (typed_answer e, ltb_false _ _ many) refl
fails_answer (extended_name e few old) = rw (typed_answer e, ltb_true _ _ few, old) refl
fails_answer (extended_inner e few new x) = rw (typed_answer e, ltb_true _ _ few, new, fails_answer x) refl
fails_answer (extended_type {d = d} {t = t} e few new x no-so) = rw (typed_answer e, ltb_true _ _ few, new, typed_answer x, refuted (is_atom d t) (atom_is d t) no-so) refl

-- Definitions.

declared_answer : {before cs : List Column} {attributes : List Attribute} → Declared before attributes cs → attributes_from before attributes ≡ Ok cs
unfolding attributes_from ask
declared_answer declared_none = refl
declared_answer (declared_more new few l) = rw (new, ltb_true _ _ few) (declared_answer l)

misdeclared_answer : {before : List Column} {attributes : List Attribute} {f : Fault} → Misdeclared before attributes f → attributes_from before attributes ≡ Err f
unfolding attributes_from ask
misdeclared_answer (declared_twice again) = rw again refl
misdeclared_answer (declared_crowded new many) = rw (new, ltb_false _ _ many) refl
misdeclared_answer (declared_later new few m) = rw (new, ltb_true _ _ few) (misdeclared_answer m)

declares_answer : {type : VariableType} {t : ValueType} → Declares type t → declare type ≡ Ok t
unfolding declare bind
declares_answer declares_atom = refl
declares_answer (declares_table l) = rw (declared_answer l) refl

defined_answer : {t : ValueType} {env next : Environment} {names : List Name} → Defined t env names next → define_all t env names ≡ Ok next
unfolding define_all ask
defined_answer defined_none = refl
defined_answer (defined_more new few l) = rw (new, ltb_true _ _ few) (defined_answer l)

misdefined_answer : {t : ValueType} {env : Environment} {names : List Name} {f : Fault} → Misdefined t env names f → define_all t env names ≡ Err f
unfolding define_all ask
misdefined_answer (defined_twice again) = rw again refl
misdefined_answer (defined_crowded new many) = rw (new, ltb_false _ _ many) refl
misdefined_answer (defined_later new few m) = rw (new, ltb_true _ _ few) (misdefined_answer m)

-- Statements.

specified_answer : {env : Environment} (p : Place) {s : Maybe Expression} → Specified env s → specify env p s ≡ Ok tt
unfolding specify bind ask
specified_answer p not_specified = refl
specified_answer p (specified e) = rw (typed_answer e) refl

misspecified_answer : {env : Environment} {p : Place} {s : Maybe Expression} {f : Fault} → Misspecified env p s f → specify env p s ≡ Err f
unfolding specify bind ask
misspecified_answer (specifier_fails x) = rw (fails_answer x) refl
misspecified_answer (specifier_type {t = t} e no-so) = rw (typed_answer e, refuted (is_atom String t) (atom_is String t) no-so) refl

mutual
  unfolding check_statement check_statements check_block bind ask or_absent test

  pub valid_answer : {env next : Environment} {s : Statement} → Valid env s next → check_statement env s ≡ Ok next
  valid_answer (define_valid d l) = rw (declares_answer d) (defined_answer l)
  valid_answer (assign_valid {n = n} s e same) = rw (sees_find (is_variable n) s, typed_answer e, is_type same) refl
  valid_answer (if_then_valid e b) = rw (typed_answer e, block_answer b) refl
  valid_answer (if_then_else_valid e b c) = rw (typed_answer e, block_answer b, block_answer c) refl
  valid_answer (while_do_valid e b) = rw (typed_answer e, block_answer b) refl
  valid_answer (read_into_valid {p = p} {n = n} x s) = rw (specified_answer p x, sees_find (is_variable n) s) refl
  valid_answer (write_out_valid {p = p} x e) = rw (specified_answer p x, typed_answer e) refl

  pub all_answer : {env end : Environment} {ss : Statements} → ValidAll env ss end → check_statements env ss ≡ Ok end
  all_answer none_valid = refl
  all_answer (more_valid s l) = rw (valid_answer s) (all_answer l)

  pub block_answer : {env : Environment} {b : Block} → ValidBlock env b → check_block env b ≡ Ok tt
  block_answer (block_valid l) = rw (all_answer l) refl

mutual
  unfolding check_statement check_statements check_block bind ask or_absent test declare

  pub invalid_answer : {env : Environment} {s : Statement} {f : Fault} → Invalid env s f → check_statement env s ≡ Err f
  invalid_answer (define_type m) = rw (misdeclared_answer m) refl
  invalid_answer (define_names d m) = rw (declares_answer d) (misdefined_answer m)
  invalid_answer (assign_name {n = n} a) = rw (absent_find (is_variable n) a) refl
  invalid_answer (assign_expression {n = n} s x) = rw (sees_find (is_variable n) s, fails_answer x) refl
  invalid_answer (assign_type {n = n} {v = v} {u = u} s e no-so) = rw (sees_find (is_variable n) s, typed_answer e, refuted (same_type v.entry.type u) (type_is v.entry.type u) no-so) refl
  invalid_answer (if_then_test x) = rw (fails_answer x) refl
  invalid_answer (if_then_type {t = t} e no-so) = rw (typed_answer e, refuted (is_atom Boolean t) (atom_is Boolean t) no-so) refl
  invalid_answer (if_then_block e x) = rw (typed_answer e, invalid_block x) refl
  invalid_answer (if_then_else_test x) = rw (fails_answer x) refl
  invalid_answer (if_then_else_type {t = t} e no-so) = rw (typed_answer e, refuted (is_atom Boolean t) (atom_is Boolean t) no-so) refl
  invalid_answer (if_then_else_block e x) = rw (typed_answer e, invalid_block x) refl
  invalid_answer (if_then_else_other e b x) = rw (typed_answer e, block_answer b, invalid_block x) refl
  invalid_answer (while_do_test x) = rw (fails_answer x) refl
  invalid_answer (while_do_type {t = t} e no-so) = rw (typed_answer e, refuted (is_atom Boolean t) (atom_is Boolean t) no-so) refl
  invalid_answer (while_do_block e x) = rw (typed_answer e, invalid_block x) refl
  invalid_answer (read_into_specifier x) = rw (misspecified_answer x) refl
  invalid_answer (read_into_name {p = p} {n = n} x a) = rw (specified_answer p x, absent_find (is_variable n) a) refl
  invalid_answer (write_out_specifier x) = rw (misspecified_answer x) refl
  invalid_answer (write_out_expression {p = p} x e) = rw (specified_answer p x, fails_answer e) refl

  pub invalid_all : {env : Environment} {ss : Statements} {f : Fault} → InvalidAll env ss f → check_statements env ss ≡ Err f
  invalid_all (first_invalid x) = rw (invalid_answer x) refl
  invalid_all (later_invalid s x) = rw (valid_answer s) (invalid_all x)

  pub invalid_block : {env : Environment} {b : Block} {f : Fault} → InvalidBlock env b f → check_block env b ≡ Err f
  invalid_block (block_invalid x) = rw (invalid_all x) refl

pub right_answer : {b : Block} → Right b → check_program b ≡ Ok tt
unfolding check_program bind
right_answer (program_right l) = rw (all_answer l) refl

pub wrong_answer : {b : Block} {f : Fault} → Wrong b f → check_program b ≡ Err f
unfolding check_program bind
wrong_answer (program_wrong x) = rw (invalid_all x) refl
