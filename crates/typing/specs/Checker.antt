-- The checker: the type of an expression, or the fault of the first check that fails; the environment behind a statement, or that fault.
use Rattle.std.specs.Prelude.{◌+◌, Bool, true, false, not, List, [], ◌∷◌, ◌++◌, map, length, Some, None, Ok, Err, Option, Result, ◌==◌, nat_le, nat_lt}
use Rattle.std.proofs.Math.Option.{Option as Maybe, none, some}
use Rattle.domain.specs.declared.Domain.{Domain}
use Rattle.domain.specs.declared.Domain.TheVariants.{Integer, String, Boolean}
use Rattle.fault.specs.Limits.{columns, variables}
use Rattle.fault.specs.declared.rules.Fault.{Fault}
use Rattle.fault.specs.declared.rules.Rule.TheVariants.{RepeatedName, NameNotFound, OperandMismatch, StatementMismatch, TooMany}
use Rattle.words.specs.Tokens.{Bytes, Place}
use Rattle.grammar.specs.Tree.{Name, Name.named, Tuple, Tuple.tuple_of, AtomicType.typed, Attribute, Attribute.attribute, VariableType, VariableType.of_domain, VariableType.of_table}
use Rattle.grammar.specs.Tree.{Expression, Expression.variable, Expression.literal, Expression.table_of_tuples, Expression.table_of_types, Expression.logical, Expression.compared, Expression.summed, Expression.multiplied, Expression.joined}
use Rattle.grammar.specs.Tree.{Expression.negative, Expression.negated, Expression.projected, Expression.renamed, Expression.selected, Expression.existing, Expression.everywhere, Expression.updated, Expression.extended}
use Rattle.grammar.specs.Tree.{Statement, Statement.define, Statement.assign, Statement.if_then, Statement.if_then_else, Statement.while_do, Statement.read_into, Statement.write_out, Statements, Statements.no_statement, Statements.◌followed_by◌, Block, Block.closed_at}
use Rattle.schema.specs.Columns.{Column}
use Rattle.schema.specs.Kinds.{ValueType, ValueType.atom, ValueType.table}
use Rattle.schema.specs.Sameness.{same_type}
use Rattle.scope.specs.Chains.{find}
use Rattle.typing.specs.Environments.{fault, Environment, count, start, inside, opened, defining, is_column, referred, variable_named, resolve}
use Rattle.typing.specs.Tables.{bytes_in, domain_in, domain_of, first_domains, nameless, column_named, has, among, defines, meet, kept, renaming, is_atom, both_atoms, comparable, same_domains}

abbrev pub Answer : Type 0 → Type 0
Answer A = Result A Fault

-- go on with what was answered, or hand the fault on
unfoldable pub bind : {A B : Type 0} → Answer A → (A → Answer B) → Answer B
bind (Ok a) then = then a
bind (Err f) then = Err f

-- go on if it is so
unfoldable pub ask : {A : Type 0} → Bool → Fault → Answer A → Answer A
ask true f then = then
ask false f then = Err f

-- what was found, or the name's place
unfoldable pub or_absent : {A : Type 0} → Option A → Place → Answer A
or_absent None p = Err (fault NameNotFound p)
or_absent (Some a) p = Ok a

-- the columns, if it is a table
unfoldable pub columns_of : ValueType → Place → Answer (List Column)
columns_of (atom d) p = Err (fault OperandMismatch p)
columns_of (table cs) p = Ok cs

-- Lists of names and of constants.

unfoldable pub listed : List Column → List Bytes → List Name → Answer (Unit {0})
listed cs before [] = Ok tt
listed cs before (named n p ∷ rest) =
    ask (has cs n) (fault NameNotFound p) (ask (not (among before n)) (fault RepeatedName p) (listed cs (n ∷ before) rest))

unfoldable pub distinct : List Bytes → List Name → Answer (Unit {0})
distinct before [] = Ok tt
distinct before (named n p ∷ rest) = ask (not (among before n)) (fault RepeatedName p) (distinct (n ∷ before) rest)

unfoldable pub fitting : List Domain → List Tuple → Answer (Unit {0})
fitting ds [] = Ok tt
fitting ds (tuple_of cs p ∷ rest) = ask (same_domains (map domain_of cs) ds) (fault OperandMismatch p) (fitting ds rest)

-- What an operator makes of columns.

-- join: the left columns, then the right
unfoldable pub together : List Column → List Column → Place → Answer (List Column)
together cs ds p = ask (nat_le (length cs + length ds) columns) (fault TooMany p) (ask (not (meet cs ds)) (fault RepeatedName p) (Ok (cs ++ ds)))

-- extend: one column more at the end; p is the operator's place, q the name's
unfoldable pub with_column : List Column → Bytes → Domain → Place → Place → Answer (List Column)
with_column cs n d p q = ask (nat_lt (length cs) columns) (fault TooMany p) (ask (not (has cs n)) (fault RepeatedName q) (Ok (cs ++ (column_named n d ∷ []))))

-- project: the listed columns, in the table's order
unfoldable pub projection : List Column → List Name → Answer (List Column)
projection cs names = bind (listed cs [] names) λ all. Ok (kept (map bytes_in names) cs)

-- rename: the same columns under other names
unfoldable pub renamings : List Column → List Name → Place → Answer (List Column)
renamings cs names p =
    ask (length names == length cs) (fault OperandMismatch p) (bind (distinct [] names) λ all. Ok (renaming (map bytes_in names) cs))

-- Expressions.

unfoldable pub check : Environment → Expression → Answer ValueType
check env (variable (named n p)) = bind (or_absent (resolve env n) p) λ r. Ok (referred r)
check env (literal c) = Ok (atom (domain_of c))
check env (table_of_tuples tuples p) =
    ask (nat_le (length (first_domains tuples)) columns) (fault TooMany p) (bind (fitting (first_domains tuples) tuples) λ fits.
    Ok (table (nameless (first_domains tuples))))
check env (table_of_types types p) =
    ask (nat_le (length (map domain_in types)) columns) (fault TooMany p) (Ok (table (nameless (map domain_in types))))
check env (logical o p a b) =
    bind (check env a) λ t. bind (check env b) λ u. ask (both_atoms Boolean t u) (fault OperandMismatch p) (Ok (atom Boolean))
check env (compared o p a b) =
    bind (check env a) λ t. bind (check env b) λ u. ask (comparable o t u) (fault OperandMismatch p) (Ok (atom Boolean))
check env (summed o p a b) =
    bind (check env a) λ t. bind (check env b) λ u. ask (both_atoms Integer t u) (fault OperandMismatch p) (Ok (atom Integer))
check env (multiplied o p a b) =
    bind (check env a) λ t. bind (check env b) λ u. ask (both_atoms Integer t u) (fault OperandMismatch p) (Ok (atom Integer))
check env (joined p a c b) =
    bind (check env a) λ t. bind (check env b) λ u. bind (columns_of t p) λ cs. bind (columns_of u p) λ ds.
    bind (together cs ds p) λ all. bind (check (inside all env) c) λ v.
    ask (is_atom Boolean v) (fault OperandMismatch p) (Ok (table all))
check env (negative p a) = bind (check env a) λ t. ask (is_atom Integer t) (fault OperandMismatch p) (Ok (atom Integer))
check env (negated p a) = bind (check env a) λ t. ask (is_atom Boolean t) (fault OperandMismatch p) (Ok (atom Boolean))
check env (projected p names e) =
    bind (check env e) λ t. bind (columns_of t p) λ cs. bind (projection cs names) λ left. Ok (table left)
check env (renamed p names e) =
    bind (check env e) λ t. bind (columns_of t p) λ cs. bind (renamings cs names p) λ fresh. Ok (table fresh)
check env (selected p c e) =
    bind (check env e) λ t. bind (columns_of t p) λ cs. bind (check (inside cs env) c) λ u.
    ask (is_atom Boolean u) (fault OperandMismatch p) (Ok (table cs))
check env (existing p c e) =
    bind (check env e) λ t. bind (columns_of t p) λ cs. bind (check (inside cs env) c) λ u.
    ask (is_atom Boolean u) (fault OperandMismatch p) (Ok (atom Boolean))
check env (everywhere p c e) =
    bind (check env e) λ t. bind (columns_of t p) λ cs. bind (check (inside cs env) c) λ u.
    ask (is_atom Boolean u) (fault OperandMismatch p) (Ok (atom Boolean))
check env (updated p (named n q) x e) =
    bind (check env e) λ t. bind (columns_of t p) λ cs. bind (or_absent (find (is_column n) (cs ∷ [])) q) λ f.
    bind (check (inside cs env) x) λ u. ask (is_atom f.entry.domain u) (fault OperandMismatch p) (Ok (table cs))
check env (extended p (typed d r) (named n q) x e) =
    bind (check env e) λ t. bind (columns_of t p) λ cs. bind (with_column cs n d p q) λ more.
    bind (check (inside cs env) x) λ u. ask (is_atom d u) (fault OperandMismatch p) (Ok (table more))

-- Definitions.

unfoldable pub attributes_from : List Column → List Attribute → Answer (List Column)
attributes_from before [] = Ok before
attributes_from before (attribute (typed d q) (named n p) ∷ rest) =
    ask (not (has before n)) (fault RepeatedName p) (ask (nat_lt (length before) columns) (fault TooMany p)
    (attributes_from (before ++ (column_named n d ∷ [])) rest))

unfoldable pub declare : VariableType → Answer ValueType
declare (of_domain (typed d p)) = Ok (atom d)
declare (of_table attributes p) = bind (attributes_from [] attributes) λ cs. Ok (table cs)

unfoldable pub define_all : ValueType → Environment → List Name → Answer Environment
define_all t env [] = Ok env
define_all t env (named n p ∷ rest) =
    ask (not (defines env.own n)) (fault RepeatedName p) (ask (nat_lt (count env) variables) (fault TooMany p)
    (define_all t (defining n t env) rest))

-- Statements.

unfoldable pub specify : Environment → Place → Maybe Expression → Answer (Unit {0})
specify env p none = Ok tt
specify env p (some e) = bind (check env e) λ t. ask (is_atom String t) (fault StatementMismatch p) (Ok tt)

-- the test of an `if` or `while`
unfoldable pub test : Environment → Place → Expression → Answer (Unit {0})
test env p e = bind (check env e) λ t. ask (is_atom Boolean t) (fault StatementMismatch p) (Ok tt)

unfoldable mutual
  pub check_statement : Environment → Statement → Answer Environment
  check_statement env (define type names) = bind (declare type) λ t. define_all t env names
  check_statement env (assign (named n p) e) =
      bind (or_absent (variable_named env n) p) λ v. bind (check env e) λ u.
      ask (same_type v.entry.type u) (fault StatementMismatch p) (Ok env)
  check_statement env (if_then p e b) = bind (test env p e) λ so. bind (check_block env b) λ done. Ok env
  check_statement env (if_then_else p e b c) = bind (test env p e) λ so. bind (check_block env b) λ done. bind (check_block env c) λ too. Ok env
  check_statement env (while_do p e b) = bind (test env p e) λ so. bind (check_block env b) λ done. Ok env
  check_statement env (read_into p s (named n q)) = bind (specify env p s) λ so. bind (or_absent (variable_named env n) q) λ v. Ok env
  check_statement env (write_out p s e) = bind (specify env p s) λ so. bind (check env e) λ t. Ok env

  pub check_statements : Environment → Statements → Answer Environment
  check_statements env no_statement = Ok env
  check_statements env (s followed_by rest) = bind (check_statement env s) λ next. check_statements next rest

  pub check_block : Environment → Block → Answer (Unit {0})
  check_block env (closed_at ss p) = bind (check_statements (opened env) ss) λ end. Ok tt

-- a program is right if its statements are, with nothing in scope before them
unfoldable pub check_program : Block → Answer (Unit {0})
check_program (closed_at ss p) = bind (check_statements start ss) λ end. Ok tt
