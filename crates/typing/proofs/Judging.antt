-- What the checker answers is so: it accepts only what is typed, and refuses only with the first check that fails.
-- Each proof is the checker's own text again, with the constructor of the failing check at each stop.
use Rattle.std.proofs.Common.{◌≡◌, ◌+◌, ◌<◌, ◌≤◌, Bool, true, false, not, eqb, ltb, leb, List, [], ◌∷◌, ◌++◌, map, length, Some, None, Ok, Err, Option, refl, subst}
use mathlib.Core.Option.{Option as Maybe, none, some}
use Rattle.domain.specs.declared.Domain.{Domain}
use Rattle.domain.specs.declared.Domain.TheVariants.{Integer, String, Boolean}
use Rattle.fault.specs.Limits.{columns, variables}
use Rattle.fault.specs.declared.rules.Fault.{Fault}
use Rattle.fault.specs.declared.rules.Rule.TheVariants.{RepeatedName, NameNotFound, OperandMismatch, StatementMismatch, TooMany}
use Rattle.words.specs.Tokens.{Bytes, Place}
use Rattle.grammar.specs.Tree.{Name, Name.named, Tuple, Tuple.tuple_of, AtomicType.typed, Attribute, Attribute.attribute, VariableType, VariableType.of_domain, VariableType.of_table}
use Rattle.grammar.specs.Tree.{Expression, Expression.variable, Expression.literal, Expression.table_of_tuples, Expression.table_of_types, Expression.logical, Expression.compared, Expression.summed, Expression.multiplied, Expression.joined}
use Rattle.grammar.specs.Tree.{Expression.negative, Expression.negated, Expression.projected, Expression.renamed, Expression.selected, Expression.existing, Expression.everywhere, Expression.updated, Expression.extended}
use Rattle.grammar.specs.Tree.{Statement, Statement.define, Statement.assign, Statement.if_then, Statement.if_then_else, Statement.while_do, Statement.read_into, Statement.write_out, Statements, Statements.no_statement, Statements.◌followed_by◌, Block, Block.closed_at}
use Rattle.schema.specs.Columns.{Column}
use Rattle.schema.specs.Kinds.{ValueType, ValueType.atom, ValueType.table}
use Rattle.schema.specs.Sameness.{same_type}
use Rattle.schema.proofs.Sames.{type_is, is_type}
use Rattle.scope.specs.Chains.{Found, find, Search, Sees, Absent}
use Rattle.scope.proofs.Searches.{search_is}
use Rattle.typing.specs.Environments.{fault, Variable, Environment, blocks, count, start, inside, opened, defining, is_column, is_variable, variable_named, resolve, resolve_or, Refers, Refers.by_attribute, Refers.by_variable, Unknown, Unknown.nowhere}
use Rattle.typing.specs.Tables.{bytes_in, domain_in, domain_of, first_domains, column_named, has, among, defines, meet, kept, renaming, is_atom, both_atoms, comparable, same_domains}
use Rattle.typing.specs.Typing.{Listed, Listed.listed_none, Listed.listed_more, Distinct, Distinct.distinct_none, Distinct.distinct_more, Fitting, Fitting.fitting_none, Fitting.fitting_more}
use Rattle.typing.specs.Typing.{Typed, Typed.name_typed, Typed.literal_typed, Typed.tuples_typed, Typed.types_typed, Typed.logical_typed, Typed.compared_typed, Typed.summed_typed, Typed.multiplied_typed, Typed.joined_typed, Typed.negative_typed, Typed.negated_typed}
use Rattle.typing.specs.Typing.{Typed.projected_typed, Typed.renamed_typed, Typed.selected_typed, Typed.existing_typed, Typed.everywhere_typed, Typed.updated_typed, Typed.extended_typed}
use Rattle.typing.specs.Typing.{Declared, Declared.declared_none, Declared.declared_more, Declares.declares_atom, Declares.declares_table, Defined, Defined.defined_none, Defined.defined_more, Specified, Specified.not_specified, Specified.specified}
use Rattle.typing.specs.Typing.{Valid, Valid.define_valid, Valid.assign_valid, Valid.if_then_valid, Valid.if_then_else_valid, Valid.while_do_valid, Valid.read_into_valid, Valid.write_out_valid, ValidAll, ValidAll.none_valid, ValidAll.more_valid, ValidBlock, ValidBlock.block_valid, Right, Right.program_right}
use Rattle.typing.specs.Failing.{Not, Mislisted, Mislisted.listed_absent, Mislisted.listed_twice, Mislisted.listed_later, Repeats, Repeats.repeats_here, Repeats.repeats_later, Misfitting, Misfitting.misfits_here, Misfitting.misfits_later}
use Rattle.typing.specs.Failing.{Fails, Fails.name_unknown, Fails.tuples_count, Fails.tuples_misfit, Fails.types_count, Fails.logical_left, Fails.logical_right, Fails.logical_types, Fails.compared_left, Fails.compared_right, Fails.compared_types}
use Rattle.typing.specs.Failing.{Fails.summed_left, Fails.summed_right, Fails.summed_types, Fails.multiplied_left, Fails.multiplied_right, Fails.multiplied_types, Fails.joined_left, Fails.joined_right, Fails.joined_left_atom, Fails.joined_right_atom, Fails.joined_count, Fails.joined_names, Fails.joined_inner, Fails.joined_type}
use Rattle.typing.specs.Failing.{Fails.negative_operand, Fails.negative_type, Fails.negated_operand, Fails.negated_type, Fails.projected_operand, Fails.projected_atom, Fails.projected_names, Fails.renamed_operand, Fails.renamed_atom, Fails.renamed_count, Fails.renamed_names}
use Rattle.typing.specs.Failing.{Fails.selected_operand, Fails.selected_atom, Fails.selected_inner, Fails.selected_type, Fails.existing_operand, Fails.existing_atom, Fails.existing_inner, Fails.existing_type, Fails.everywhere_operand, Fails.everywhere_atom, Fails.everywhere_inner, Fails.everywhere_type}
use Rattle.typing.specs.Failing.{Fails.updated_operand, Fails.updated_atom, Fails.updated_name, Fails.updated_inner, Fails.updated_type, Fails.extended_operand, Fails.extended_atom, Fails.extended_count, Fails.extended_name, Fails.extended_inner, Fails.extended_type}
use Rattle.typing.specs.Failing.{Misdeclared, Misdeclared.declared_twice, Misdeclared.declared_crowded, Misdeclared.declared_later, Misdefined, Misdefined.defined_twice, Misdefined.defined_crowded, Misdefined.defined_later, Misspecified, Misspecified.specifier_fails, Misspecified.specifier_type}
use Rattle.typing.specs.Failing.{Invalid, Invalid.define_type, Invalid.define_names, Invalid.assign_name, Invalid.assign_expression, Invalid.assign_type, Invalid.if_then_test, Invalid.if_then_type, Invalid.if_then_block, Invalid.if_then_else_test, Invalid.if_then_else_type, Invalid.if_then_else_block, Invalid.if_then_else_other}
use Rattle.typing.specs.Failing.{Invalid.while_do_test, Invalid.while_do_type, Invalid.while_do_block, Invalid.read_into_specifier, Invalid.read_into_name, Invalid.write_out_specifier, Invalid.write_out_expression, InvalidAll, InvalidAll.first_invalid, InvalidAll.later_invalid, InvalidBlock, InvalidBlock.block_invalid, Wrong, Wrong.program_wrong}
use Rattle.typing.specs.Checker.{Answer, bind, ask, or_absent, columns_of, listed, distinct, fitting, together, with_column, projection, renamings, check, attributes_from, declare, define_all, specify, test, check_statement, check_statements, check_block, check_program}
use Rattle.typing.proofs.Tests.{not_true, not_false, refutes, leb_le, leb_lt, ltb_lt, ltb_le, eqb_is, is_eqb, atom_is, is_atom_lem, atoms_are, are_atoms, comparable_is, is_comparable, domains_are, are_domains}

-- An answer that is right: its value is good, or its fault is the one to report.
pub data Judged {A : Type 0} (Good : A → Type 0) (Bad : Fault → Type 0) : Answer A → Type 0 where
  judged_good : {a : A} → Good a → Judged Good Bad (Ok a)
  judged_bad : {f : Fault} → Bad f → Judged Good Bad (Err f)

after : {A B : Type 0} {Good : A → Type 0} {Bad : Fault → Type 0} {Fine : B → Type 0} {Poor : Fault → Type 0} {x : Answer A} {then : A → Answer B} →
    Judged Good Bad x → ((f : Fault) → Bad f → Poor f) → ((a : A) → Good a → Judged Fine Poor (then a)) → Judged Fine Poor (bind x then)
unfolding bind
after (judged_good g) hand go = go _ g
after (judged_bad b) hand go = judged_bad (hand _ b)

asked : {A : Type 0} {Good : A → Type 0} {Bad : Fault → Type 0} (b : Bool) (f : Fault) {then : Answer A} →
    (b ≡ false → Bad f) → (b ≡ true → Judged Good Bad then) → Judged Good Bad (ask b f then)
unfolding ask
asked true f stop go = go refl
asked false f stop go = judged_bad (stop refl)

-- A table, or the fault that it is none.
data NoTable (P : ValueType → Type 0) (p : Place) : Fault → Type 0 where
  no_table : {d : Domain} → P (atom d) → NoTable P p (fault OperandMismatch p)

a_table : (P : ValueType → Type 0) (t : ValueType) (p : Place) → P t → Judged (λ cs. P (table cs)) (NoTable P p) (columns_of t p)
unfolding columns_of
a_table P (atom d) p h = judged_bad (no_table h)
a_table P (table cs) p h = judged_good h

-- What a search finds, or the fault that nothing is found.
data NotFound {E : Type 0} (is : E → Bool) (lists : List (List E)) (p : Place) : Fault → Type 0 where
  not_found : Absent is lists → NotFound is lists p (fault NameNotFound p)

sought : {E : Type 0} (is : E → Bool) (lists : List (List E)) (p : Place) → Judged (Sees is lists) (NotFound is lists p) (or_absent (find is lists) p)
sought is lists p = by (find is lists) (search_is is lists)
  where
    by : (o : Option (Found _)) → Search is lists o → Judged (Sees is lists) (NotFound is lists p) (or_absent o p)
    by None h = unfold or_absent in judged_bad (not_found h)
    by (Some f) h = unfold or_absent in judged_good h

data NotReferred (env : Environment) (n : Bytes) (p : Place) : Fault → Type 0 where
  not_referred : Unknown env n → NotReferred env n p (fault NameNotFound p)

resolved : (env : Environment) (n : Bytes) (p : Place) → Judged (Refers env n) (NotReferred env n p) (or_absent (resolve env n) p)
resolved env n p = by (find (is_column n) env.contexts) (variable_named env n) (search_is (is_column n) env.contexts) (search_is (is_variable n) (blocks env))
  where
    by : (o : Option (Found Column)) (v : Option (Found Variable)) → Search (is_column n) env.contexts o → Search (is_variable n) (blocks env) v →
        Judged (Refers env n) (NotReferred env n p) (or_absent (resolve_or o v) p)
    by (Some f) v h g = unfold or_absent in judged_good (by_attribute h)
    by None (Some f) h g = unfold or_absent in judged_good (by_variable h g)
    by None None h g = unfold or_absent in judged_bad (not_referred (nowhere h g))

-- Lists of names and of constants.

-- What is judged of the rest is judged of the whole.
passed : {A : Type 0} {Good Fine : A → Type 0} {Bad Poor : Fault → Type 0} {x : Answer A} →
    Judged Good Bad x → ((a : A) → Good a → Fine a) → ((f : Fault) → Bad f → Poor f) → Judged Fine Poor x
passed (judged_good g) fine poor = judged_good (fine _ g)
passed (judged_bad b) fine poor = judged_bad (poor _ b)

judge_listed : (cs : List Column) (before : List Bytes) (names : List Name) → Judged (λ _. Listed cs before names) (Mislisted cs before names) (listed cs before names)
unfolding listed
judge_listed cs before [] = judged_good listed_none
judge_listed cs before (named n p ∷ rest) =
    asked (has cs n) _ (λ no-has. listed_absent no-has) λ is-has.
    asked (not (among before n)) _ (λ again. listed_twice is-has (not_false _ again)) λ new.
    passed (judge_listed cs (n ∷ before) rest) (λ _ l. listed_more is-has (not_true _ new) l) (λ f m. listed_later is-has (not_true _ new) m)

judge_distinct : (before : List Bytes) (names : List Name) → Judged (λ _. Distinct before names) (Repeats before names) (distinct before names)
unfolding distinct
judge_distinct before [] = judged_good distinct_none
judge_distinct before (named n p ∷ rest) =
    asked (not (among before n)) _ (λ again. repeats_here (not_false _ again)) λ new.
    passed (judge_distinct (n ∷ before) rest) (λ _ l. distinct_more (not_true _ new) l) (λ f m. repeats_later (not_true _ new) m)

judge_fitting : (ds : List Domain) (tuples : List Tuple) → Judged (λ _. Fitting ds tuples) (Misfitting ds tuples) (fitting ds tuples)
unfolding fitting
judge_fitting ds [] = judged_good fitting_none
judge_fitting ds (tuple_of cs p ∷ rest) =
    asked (same_domains (map domain_of cs) ds) _ (λ h. misfits_here (refutes are_domains h)) λ h.
    passed (judge_fitting ds rest) (λ _ l. fitting_more (domains_are _ _ h) l) (λ f m. misfits_later (domains_are _ _ h) m)

-- What an operator makes of columns.

data Together (cs ds : List Column) : List Column → Type 0 where
  in_one : length cs + length ds ≤ columns → meet cs ds ≡ false → Together cs ds (cs ++ ds)

data Apart (cs ds : List Column) (p : Place) : Fault → Type 0 where
  crowded : columns < length cs + length ds → Apart cs ds p (fault TooMany p)
  common : length cs + length ds ≤ columns → meet cs ds ≡ true → Apart cs ds p (fault RepeatedName p)

judge_together : (cs ds : List Column) (p : Place) → Judged (Together cs ds) (Apart cs ds p) (together cs ds p)
unfolding together
judge_together cs ds p =
    asked (leb (length cs + length ds) columns) _ (λ h. crowded (leb_lt _ _ h)) λ few.
    asked (not (meet cs ds)) _ (λ h. common (leb_le _ _ few) (not_false _ h)) λ apart.
    judged_good (in_one (leb_le _ _ few) (not_true _ apart))

data Longer (cs : List Column) (n : Bytes) (d : Domain) : List Column → Type 0 where
  at_the_end : length cs < columns → has cs n ≡ false → Longer cs n d (cs ++ (column_named n d ∷ []))

data NoLonger (cs : List Column) (n : Bytes) (p q : Place) : Fault → Type 0 where
  no_room : columns ≤ length cs → NoLonger cs n p q (fault TooMany p)
  old_name : length cs < columns → has cs n ≡ true → NoLonger cs n p q (fault RepeatedName q)

judge_column : (cs : List Column) (n : Bytes) (d : Domain) (p q : Place) → Judged (Longer cs n d) (NoLonger cs n p q) (with_column cs n d p q)
unfolding with_column
judge_column cs n d p q =
    asked (ltb (length cs) columns) _ (λ h. no_room (ltb_le _ _ h)) λ few.
    asked (not (has cs n)) _ (λ h. old_name (ltb_lt _ _ few) (not_false _ h)) λ new.
    judged_good (at_the_end (ltb_lt _ _ few) (not_true _ new))

data Projection (cs : List Column) (names : List Name) : List Column → Type 0 where
  projection_of : Listed cs [] names → Projection cs names (kept (map bytes_in names) cs)

judge_projection : (cs : List Column) (names : List Name) → Judged (Projection cs names) (Mislisted cs [] names) (projection cs names)
unfolding projection
judge_projection cs names = after (judge_listed cs [] names) (λ f m. m) λ _ l. judged_good (projection_of l)

data Renaming (cs : List Column) (names : List Name) : List Column → Type 0 where
  renaming_of : length names ≡ length cs → Distinct [] names → Renaming cs names (renaming (map bytes_in names) cs)

data NoRenaming (cs : List Column) (names : List Name) (p : Place) : Fault → Type 0 where
  other_count : Not (length names ≡ length cs) → NoRenaming cs names p (fault OperandMismatch p)
  other_names : {f : Fault} → length names ≡ length cs → Repeats [] names f → NoRenaming cs names p f

judge_renaming : (cs : List Column) (names : List Name) (p : Place) → Judged (Renaming cs names) (NoRenaming cs names p) (renamings cs names p)
unfolding renamings
judge_renaming cs names p =
    asked (eqb (length names) (length cs)) _ (λ h. other_count (refutes (is_eqb _ _) h)) λ h.
    after (judge_distinct [] names) (λ f m. other_names (eqb_is _ _ h) m) λ _ l.
    judged_good (renaming_of (eqb_is _ _ h) l)

-- Expressions.
pub judge : (env : Environment) (e : Expression) → Judged (Typed env e) (Fails env e) (check env e)
unfolding check
judge env (variable (named n p)) =
    after (resolved env n p) (unknown env n p) λ r h. judged_good (name_typed h)
  where
    unknown : (env : Environment) (n : Bytes) (p : Place) (f : Fault) → NotReferred env n p f → Fails env (variable (named n p)) f
    unknown env n p f (not_referred h) = name_unknown h
judge env (literal c) = judged_good literal_typed
judge env (table_of_tuples tuples p) =
    asked (leb (length (first_domains tuples)) columns) _ (λ h. tuples_count (leb_lt _ _ h)) λ h.
    after (judge_fitting (first_domains tuples) tuples) (λ f m. tuples_misfit (leb_le _ _ h) m) λ _ fits.
    judged_good (tuples_typed (leb_le _ _ h) fits)
judge env (table_of_types types p) =
    asked (leb (length (map domain_in types)) columns) _ (λ h. types_count (leb_lt _ _ h)) λ h.
    judged_good (types_typed (leb_le _ _ h))
judge env (logical o p a b) =
    after (judge env a) (λ f x. logical_left x) λ t ta.
    after (judge env b) (λ f x. logical_right ta x) λ u tb.
    asked (both_atoms Boolean t u) _ (λ h. logical_types ta tb (refutes (are_atoms Boolean) h)) λ h.
    let q = atoms_are Boolean t u h in
    judged_good (logical_typed (subst (Typed env a) q.0 ta) (subst (Typed env b) q.1 tb))
judge env (summed o p a b) =
    after (judge env a) (λ f x. summed_left x) λ t ta.
    after (judge env b) (λ f x. summed_right ta x) λ u tb.
    asked (both_atoms Integer t u) _ (λ h. summed_types ta tb (refutes (are_atoms Integer) h)) λ h.
    let q = atoms_are Integer t u h in
    judged_good (summed_typed (subst (Typed env a) q.0 ta) (subst (Typed env b) q.1 tb))
judge env (multiplied o p a b) =
    after (judge env a) (λ f x. multiplied_left x) λ t ta.
    after (judge env b) (λ f x. multiplied_right ta x) λ u tb.
    asked (both_atoms Integer t u) _ (λ h. multiplied_types ta tb (refutes (are_atoms Integer) h)) λ h.
    let q = atoms_are Integer t u h in
    judged_good (multiplied_typed (subst (Typed env a) q.0 ta) (subst (Typed env b) q.1 tb))
judge env (compared o p a b) =
    after (judge env a) (λ f x. compared_left x) λ t ta.
    after (judge env b) (λ f x. compared_right ta x) λ u tb.
    asked (comparable o t u) _ (λ h. compared_types ta tb (refutes is_comparable h)) λ h.
    judged_good (compared_typed ta tb (comparable_is o t u h))
judge env (joined p a c b) =
    after (judge env a) (λ f x. joined_left x) λ t ta.
    after (judge env b) (λ f x. joined_right ta x) λ u tb.
    after (a_table (Typed env a) t p ta) (λ f x. left_atom u tb f x) λ cs tc.
    after (a_table (Typed env b) u p tb) (λ f x. right_atom cs tc f x) λ ds td.
    after (judge_together cs ds p) (apart cs ds tc td) λ all whole.
    after (judge (inside all env) c) (λ f x. inner_fails cs ds tc td whole x) λ v tv.
    asked (is_atom Boolean v) _ (λ h. inner_type cs ds tc td whole tv (refutes (is_atom_lem Boolean) h)) λ h.
    inner_typed cs ds tc td whole (subst (Typed (inside all env) c) (atom_is Boolean v h) tv)
  where
    apart : (cs ds : List Column) → Typed env a (table cs) → Typed env b (table ds) → (f : Fault) → Apart cs ds p f → Fails env (joined p a c b) f
    apart cs ds tc td f (crowded many) = joined_count tc td many
    apart cs ds tc td f (common few both) = joined_names tc td few both

    inner_fails : (cs ds : List Column) → Typed env a (table cs) → Typed env b (table ds) → {all : List Column} → Together cs ds all → {f : Fault} → Fails (inside all env) c f → Fails env (joined p a c b) f
    inner_fails cs ds tc td (in_one few apart) x = joined_inner tc td few apart x

    inner_type : (cs ds : List Column) → Typed env a (table cs) → Typed env b (table ds) → {all : List Column} → Together cs ds all → {t : ValueType} → Typed (inside all env) c t → Not (t ≡ atom Boolean) → Fails env (joined p a c b) (fault OperandMismatch p)
    inner_type cs ds tc td (in_one few apart) x no-so = joined_type tc td few apart x no-so

    inner_typed : (cs ds : List Column) → Typed env a (table cs) → Typed env b (table ds) → {all : List Column} → Together cs ds all → Typed (inside all env) c (atom Boolean) → Judged (Typed env (joined p a c b)) (Fails env (joined p a c b)) (Ok (table all))
    inner_typed cs ds tc td (in_one few apart) x = judged_good (joined_typed tc td few apart x)

    left_atom : (u : ValueType) → Typed env b u → (f : Fault) → NoTable (Typed env a) p f → Fails env (joined p a c b) f
    left_atom u tb f (no_table h) = joined_left_atom h tb

    right_atom : (cs : List Column) → Typed env a (table cs) → (f : Fault) → NoTable (Typed env b) p f → Fails env (joined p a c b) f
    right_atom cs tc f (no_table h) = joined_right_atom tc h
judge env (negative p a) =
    after (judge env a) (λ f x. negative_operand x) λ t ta.
    asked (is_atom Integer t) _ (λ h. negative_type ta (refutes (is_atom_lem Integer) h)) λ h.
    judged_good (negative_typed (subst (Typed env a) (atom_is Integer t h) ta))
judge env (negated p a) =
    after (judge env a) (λ f x. negated_operand x) λ t ta.
    asked (is_atom Boolean t) _ (λ h. negated_type ta (refutes (is_atom_lem Boolean) h)) λ h.
    judged_good (negated_typed (subst (Typed env a) (atom_is Boolean t h) ta))
judge env (projected p names e) =
    after (judge env e) (λ f x. projected_operand x) λ t te.
    after (a_table (Typed env e) t p te) no_atom λ cs tc.
    after (judge_projection cs names) (λ f m. projected_names tc m) λ left l. of_listed cs tc l
  where
    of_listed : (cs : List Column) → Typed env e (table cs) → {left : List Column} → Projection cs names left → Judged (Typed env (projected p names e)) (Fails env (projected p names e)) (Ok (table left))
    of_listed cs tc (projection_of l) = judged_good (projected_typed tc l)

    no_atom : (f : Fault) → NoTable (Typed env e) p f → Fails env (projected p names e) f
    no_atom f (no_table h) = projected_atom h
judge env (renamed p names e) =
    after (judge env e) (λ f x. renamed_operand x) λ t te.
    after (a_table (Typed env e) t p te) no_atom λ cs tc.
    after (judge_renaming cs names p) (not_renamed cs tc) λ fresh l. of_renamed cs tc l
  where
    of_renamed : (cs : List Column) → Typed env e (table cs) → {fresh : List Column} → Renaming cs names fresh → Judged (Typed env (renamed p names e)) (Fails env (renamed p names e)) (Ok (table fresh))
    of_renamed cs tc (renaming_of many l) = judged_good (renamed_typed tc many l)

    not_renamed : (cs : List Column) → Typed env e (table cs) → (f : Fault) → NoRenaming cs names p f → Fails env (renamed p names e) f
    not_renamed cs tc f (other_count no-so) = renamed_count tc no-so
    not_renamed cs tc f (other_names many m) = renamed_names tc many m

    no_atom : (f : Fault) → NoTable (Typed env e) p f → Fails env (renamed p names e) f
    no_atom f (no_table h) = renamed_atom h
judge env (selected p c e) =
    after (judge env e) (λ f x. selected_operand x) λ t te.
    after (a_table (Typed env e) t p te) no_atom λ cs tc.
    after (judge (inside cs env) c) (λ f x. selected_inner tc x) λ u tu.
    asked (is_atom Boolean u) _ (λ h. selected_type tc tu (refutes (is_atom_lem Boolean) h)) λ h.
    judged_good (selected_typed tc (subst (Typed (inside cs env) c) (atom_is Boolean u h) tu))
  where
    no_atom : (f : Fault) → NoTable (Typed env e) p f → Fails env (selected p c e) f
    no_atom f (no_table h) = selected_atom h
judge env (existing p c e) =
    after (judge env e) (λ f x. existing_operand x) λ t te.
    after (a_table (Typed env e) t p te) no_atom λ cs tc.
    after (judge (inside cs env) c) (λ f x. existing_inner tc x) λ u tu.
    asked (is_atom Boolean u) _ (λ h. existing_type tc tu (refutes (is_atom_lem Boolean) h)) λ h.
    judged_good (existing_typed tc (subst (Typed (inside cs env) c) (atom_is Boolean u h) tu))
  where
    no_atom : (f : Fault) → NoTable (Typed env e) p f → Fails env (existing p c e) f
    no_atom f (no_table h) = existing_atom h
judge env (everywhere p c e) =
    after (judge env e) (λ f x. everywhere_operand x) λ t te.
    after (a_table (Typed env e) t p te) no_atom λ cs tc.
    after (judge (inside cs env) c) (λ f x. everywhere_inner tc x) λ u tu.
    asked (is_atom Boolean u) _ (λ h. everywhere_type tc tu (refutes (is_atom_lem Boolean) h)) λ h.
    judged_good (everywhere_typed tc (subst (Typed (inside cs env) c) (atom_is Boolean u h) tu))
  where
    no_atom : (f : Fault) → NoTable (Typed env e) p f → Fails env (everywhere p c e) f
    no_atom f (no_table h) = everywhere_atom h
judge env (updated p (named n q) x e) =
    after (judge env e) (λ f y. updated_operand y) λ t te.
    after (a_table (Typed env e) t p te) no_atom λ cs tc.
    after (sought (is_column n) (cs ∷ []) q) (no_column cs tc) λ c sees.
    after (judge (inside cs env) x) (λ f y. updated_inner tc sees y) λ u tu.
    asked (is_atom c.entry.domain u) _ (λ h. updated_type tc sees tu (refutes (is_atom_lem c.entry.domain) h)) λ h.
    judged_good (updated_typed tc sees (subst (Typed (inside cs env) x) (atom_is c.entry.domain u h) tu))
  where
    no_atom : (f : Fault) → NoTable (Typed env e) p f → Fails env (updated p (named n q) x e) f
    no_atom f (no_table h) = updated_atom h

    no_column : (cs : List Column) → Typed env e (table cs) → (f : Fault) → NotFound (is_column n) (cs ∷ []) q f → Fails env (updated p (named n q) x e) f
    no_column cs tc f (not_found h) = updated_name tc h
judge env (extended p (typed d r) (named n q) x e) =
    after (judge env e) (λ f y. extended_operand y) λ t te.
    after (a_table (Typed env e) t p te) no_atom λ cs tc.
    after (judge_column cs n d p q) (no_longer cs tc) λ more longer.
    after (judge (inside cs env) x) (λ f y. inner_fails cs tc longer y) λ u tu.
    asked (is_atom d u) _ (λ h. inner_type cs tc longer tu (refutes (is_atom_lem d) h)) λ h.
    inner_typed cs tc longer (subst (Typed (inside cs env) x) (atom_is d u h) tu)
  where
    no_longer : (cs : List Column) → Typed env e (table cs) → (f : Fault) → NoLonger cs n p q f → Fails env (extended p (typed d r) (named n q) x e) f
    no_longer cs tc f (no_room many) = extended_count tc many
    no_longer cs tc f (old_name few old) = extended_name tc few old

    inner_fails : (cs : List Column) → Typed env e (table cs) → {more : List Column} → Longer cs n d more → {f : Fault} → Fails (inside cs env) x f → Fails env (extended p (typed d r) (named n q) x e) f
    inner_fails cs tc (at_the_end few new) y = extended_inner tc few new y

    inner_type : (cs : List Column) → Typed env e (table cs) → {more : List Column} → Longer cs n d more → {t : ValueType} → Typed (inside cs env) x t → Not (t ≡ atom d) → Fails env (extended p (typed d r) (named n q) x e) (fault OperandMismatch p)
    inner_type cs tc (at_the_end few new) y no-so = extended_type tc few new y no-so

    inner_typed : (cs : List Column) → Typed env e (table cs) → {more : List Column} → Longer cs n d more → Typed (inside cs env) x (atom d) → Judged (Typed env (extended p (typed d r) (named n q) x e)) (Fails env (extended p (typed d r) (named n q) x e)) (Ok (table more))
    inner_typed cs tc (at_the_end few new) y = judged_good (extended_typed tc few new y)

    no_atom : (f : Fault) → NoTable (Typed env e) p f → Fails env (extended p (typed d r) (named n q) x e) f
    no_atom f (no_table h) = extended_atom h

-- Definitions.

judge_attributes : (before : List Column) (attributes : List Attribute) → Judged (Declared before attributes) (Misdeclared before attributes) (attributes_from before attributes)
unfolding attributes_from
judge_attributes before [] = judged_good declared_none
judge_attributes before (attribute (typed d q) (named n p) ∷ rest) =
    asked (not (has before n)) _ (λ h. declared_twice (not_false _ h)) λ new.
    asked (ltb (length before) columns) _ (λ h. declared_crowded (not_true _ new) (ltb_le _ _ h)) λ few.
    passed (judge_attributes (before ++ (column_named n d ∷ [])) rest) (λ cs l. declared_more (not_true _ new) (ltb_lt _ _ few) l) (λ f m. declared_later (not_true _ new) (ltb_lt _ _ few) m)

judge_defined : (t : ValueType) (env : Environment) (names : List Name) → Judged (Defined t env names) (Misdefined t env names) (define_all t env names)
unfolding define_all
judge_defined t env [] = judged_good defined_none
judge_defined t env (named n p ∷ rest) =
    asked (not (defines env.own n)) _ (λ h. defined_twice (not_false _ h)) λ new.
    asked (ltb (count env) variables) _ (λ h. defined_crowded (not_true _ new) (ltb_le _ _ h)) λ few.
    passed (judge_defined t (defining n t env) rest) (λ next l. defined_more (not_true _ new) (ltb_lt _ _ few) l) (λ f m. defined_later (not_true _ new) (ltb_lt _ _ few) m)

-- Statements.

judge_specifier : (env : Environment) (p : Place) (s : Maybe Expression) → Judged (λ _. Specified env s) (Misspecified env p s) (specify env p s)
unfolding specify
judge_specifier env p none = judged_good not_specified
judge_specifier env p (some e) =
    after (judge env e) (λ f x. specifier_fails x) λ t te.
    asked (is_atom String t) _ (λ h. specifier_type te (refutes (is_atom_lem String) h)) λ h.
    judged_good (specified (subst (Typed env e) (atom_is String t h) te))

-- a test that is no boolean
data Untested (env : Environment) (p : Place) (e : Expression) : Fault → Type 0 where
  test_fails : {f : Fault} → Fails env e f → Untested env p e f
  test_type : {t : ValueType} → Typed env e t → Not (t ≡ atom Boolean) → Untested env p e (fault StatementMismatch p)

judge_test : (env : Environment) (p : Place) (e : Expression) → Judged (λ _. Typed env e (atom Boolean)) (Untested env p e) (test env p e)
unfolding test
judge_test env p e =
    after (judge env e) (λ f x. test_fails x) λ t te.
    asked (is_atom Boolean t) _ (λ h. test_type te (refutes (is_atom_lem Boolean) h)) λ h.
    judged_good (subst (Typed env e) (atom_is Boolean t h) te)

judge_define : (env : Environment) (type : VariableType) (names : List Name) → Judged (Valid env (define type names)) (Invalid env (define type names)) (bind (declare type) λ t. define_all t env names)
unfolding declare
judge_define env (of_domain (typed d p)) names = unfold bind in passed (judge_defined (atom d) env names) (λ next l. define_valid declares_atom l) (λ f m. define_names declares_atom m)
judge_define env (of_table attributes p) names = by (judge_attributes [] attributes)
  where
    by : {x : Answer (List Column)} → Judged (Declared [] attributes) (Misdeclared [] attributes) x →
        Judged (Valid env (define (of_table attributes p) names)) (Invalid env (define (of_table attributes p) names)) (bind (bind x λ cs. Ok (table cs)) λ t. define_all t env names)
    by (judged_good {a = cs} g) = unfold bind in passed (judge_defined (table cs) env names) (λ next l. define_valid (declares_table g) l) (λ f m. define_names (declares_table g) m)
    by (judged_bad b) = unfold bind in judged_bad (define_type b)

no_variable : (env : Environment) (n : Bytes) (p : Place) (e : Expression) (f : Fault) → NotFound (is_variable n) (blocks env) p f → Invalid env (assign (named n p) e) f
no_variable env n p e f (not_found h) = assign_name h

no_target : (env : Environment) (p : Place) (s : Maybe Expression) (n : Bytes) (q : Place) → Specified env s → (f : Fault) → NotFound (is_variable n) (blocks env) q f → Invalid env (read_into p s (named n q)) f
no_target env p s n q ts f (not_found h) = read_into_name ts h

untested_then : (env : Environment) (p : Place) (e : Expression) (b : Block) {f : Fault} → Untested env p e f → Invalid env (if_then p e b) f
untested_then env p e b (test_fails x) = if_then_test x
untested_then env p e b (test_type t no-so) = if_then_type t no-so

untested_else : (env : Environment) (p : Place) (e : Expression) (b c : Block) {f : Fault} → Untested env p e f → Invalid env (if_then_else p e b c) f
untested_else env p e b c (test_fails x) = if_then_else_test x
untested_else env p e b c (test_type t no-so) = if_then_else_type t no-so

untested_while : (env : Environment) (p : Place) (e : Expression) (b : Block) {f : Fault} → Untested env p e f → Invalid env (while_do p e b) f
untested_while env p e b (test_fails x) = while_do_test x
untested_while env p e b (test_type t no-so) = while_do_type t no-so

mutual
  unfolding check_statement check_statements check_block

  pub judge_statement : (env : Environment) (s : Statement) → Judged (Valid env s) (Invalid env s) (check_statement env s)
  judge_statement env (define type names) = judge_define env type names
  judge_statement env (assign (named n p) e) =
      after (sought (is_variable n) (blocks env) p) (no_variable env n p e) λ v sees.
      after (judge env e) (λ f x. assign_expression sees x) λ u tu.
      asked (same_type v.entry.type u) _ (λ h. assign_type sees tu (refutes is_type h)) λ h.
      judged_good (assign_valid sees tu (type_is v.entry.type u h))
  judge_statement env (if_then p e b) =
      after (judge_test env p e) (λ f x. untested_then env p e b x) λ _ te.
      after (judge_block env b) (λ f x. if_then_block te x) λ _ tb.
      judged_good (if_then_valid te tb)
  judge_statement env (if_then_else p e b c) =
      after (judge_test env p e) (λ f x. untested_else env p e b c x) λ _ te.
      after (judge_block env b) (λ f x. if_then_else_block te x) λ _ tb.
      after (judge_block env c) (λ f x. if_then_else_other te tb x) λ _ tc.
      judged_good (if_then_else_valid te tb tc)
  judge_statement env (while_do p e b) =
      after (judge_test env p e) (λ f x. untested_while env p e b x) λ _ te.
      after (judge_block env b) (λ f x. while_do_block te x) λ _ tb.
      judged_good (while_do_valid te tb)
  judge_statement env (read_into p s (named n q)) =
      after (judge_specifier env p s) (λ f x. read_into_specifier x) λ _ ts.
      after (sought (is_variable n) (blocks env) q) (no_target env p s n q ts) λ v sees.
      judged_good (read_into_valid ts sees)
  judge_statement env (write_out p s e) =
      after (judge_specifier env p s) (λ f x. write_out_specifier x) λ _ ts.
      after (judge env e) (λ f x. write_out_expression ts x) λ t te.
      judged_good (write_out_valid ts te)

  pub judge_statements : (env : Environment) (ss : Statements) → Judged (ValidAll env ss) (InvalidAll env ss) (check_statements env ss)
  judge_statements env no_statement = judged_good none_valid
  judge_statements env (s followed_by rest) =
      after (judge_statement env s) (λ f x. first_invalid x) λ next v.
      passed (judge_statements next rest) (λ end l. more_valid v l) (λ f m. later_invalid v m)

  pub judge_block : (env : Environment) (b : Block) → Judged (λ _. ValidBlock env b) (InvalidBlock env b) (check_block env b)
  judge_block env (closed_at ss p) =
      after (judge_statements (opened env) ss) (λ f x. block_invalid x) λ end l.
      judged_good (block_valid l)

pub judge_program : (b : Block) → Judged (λ _. Right b) (Wrong b) (check_program b)
unfolding check_program
judge_program (closed_at ss p) = after (judge_statements start ss) (λ f x. program_wrong x) λ end l. judged_good (program_right l)
