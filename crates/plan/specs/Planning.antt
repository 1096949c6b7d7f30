-- The plan of a tree. It is right for typed trees alone; of others it makes something that nobody runs.
use Rattle.std.specs.Prelude.{ℕ, suc, ◌+◌, cond, List, [], ◌∷◌, ◌++◌, map, length, pos, Some, None, Option}
use Rattle.std.proofs.Math.Option.{Option as Maybe, none, some}
use Rattle.grammar.specs.Tree.{Name, Name.named, Constant.integer_constant, AtomicType.typed, Attribute, Attribute.attribute, VariableType, VariableType.of_domain, VariableType.of_table}
use Rattle.grammar.specs.Tree.{Expression, Expression.variable, Expression.literal, Expression.table_of_tuples, Expression.table_of_types, Expression.logical, Expression.compared, Expression.summed, Expression.multiplied, Expression.joined}
use Rattle.grammar.specs.Tree.{Expression.negative, Expression.negated, Expression.projected, Expression.renamed, Expression.selected, Expression.existing, Expression.everywhere, Expression.updated, Expression.extended}
use Rattle.grammar.specs.Tree.{Statement, Statement.define, Statement.assign, Statement.if_then, Statement.if_then_else, Statement.while_do, Statement.read_into, Statement.write_out, Statements, Statements.no_statement, Statements.◌followed_by◌, Block, Block.closed_at}
use Rattle.schema.specs.Columns.{Column}
use Rattle.schema.specs.Kinds.{ValueType, ValueType.atom, ValueType.table}
use Rattle.scope.specs.Chains.{Found, find}
use Rattle.typing.specs.Environments.{Variable, Environment, start, inside, opened, defining, is_column, resolve, variable_named, Reference, Reference.to_attribute, Reference.to_variable}
use Rattle.scope.specs.Names.{called}
use Rattle.typing.specs.Tables.{bytes_in, domain_in, first_domains, nameless, column_named, kept, renaming}
use Rattle.words.specs.Tokens.{Bytes, Place}
use Rattle.plan.specs.Plan as plan
use Rattle.plan.specs.Plan.{Term, Action, Actions, Actions.◌then◌, Body, Kept, type_of}

abbrev pub columns_in : ValueType → List Column
columns_in (atom d) = []
columns_in (table cs) = cs

-- what stands where nothing right can stand
abbrev pub void : Place → Term
void p = plan.constant (integer_constant (pos 0) p)

-- what a name stands for
abbrev pub reference : Option Reference → Place → Term
reference (Some (to_attribute c k d)) p = plan.attribute d c k p
reference (Some (to_variable i t)) p = plan.variable t i p
reference None p = void p

-- the place of a column's name in a list of names, if it is there
abbrev pub place_in : Option Bytes → List Name → Maybe Place
place_in n [] = none
place_in n (named m p ∷ rest) = cond (called n m) (some p) (place_in n rest)

abbrev pub kept_by : Maybe Place → ℕ → List Kept → List Kept
kept_by none i rest = rest
kept_by (some p) i rest = record { column = i; place = p } ∷ rest

-- the columns that a list of names keeps, by number from i on
abbrev pub kept_from : List Name → ℕ → List Column → List Kept
kept_from names i [] = []
kept_from names i (c ∷ cs) = kept_by (place_in c.name names) i (kept_from names (suc i) cs)

-- the column that update names
abbrev pub updating : Option (Found Column) → Place → List Column → Term → Term → Term
updating (Some f) p cs x e = plan.updated cs f.position f.entry.domain p x e
updating None p cs x e = void p

unfoldable pub planned : Environment → Expression → Term
planned env (variable (named n p)) = reference (resolve env n) p
planned env (literal c) = plan.constant c
planned env (table_of_tuples ts p) = plan.tuples (nameless (first_domains ts)) ts p
planned env (table_of_types ts p) = plan.tuples (nameless (map domain_in ts)) [] p
planned env (logical o p a b) = plan.logical o p (planned env a) (planned env b)
planned env (compared o p a b) = let x = planned env a in plan.compared o (type_of x) p x (planned env b)
planned env (summed o p a b) = plan.summed o p (planned env a) (planned env b)
planned env (multiplied o p a b) = plan.multiplied o p (planned env a) (planned env b)
planned env (joined p a c b) =
    let l = planned env a in
    let r = planned env b in
    let cs = columns_in (type_of l) ++ columns_in (type_of r) in
    plan.joined cs p l (planned (inside cs env) c) r
planned env (negative p a) = plan.negative p (planned env a)
planned env (negated p a) = plan.negated p (planned env a)
planned env (projected p names e) =
    let t = planned env e in
    let cs = columns_in (type_of t) in
    plan.projected (kept (map bytes_in names) cs) (kept_from names 0 cs) p t
planned env (renamed p names e) = let t = planned env e in plan.renamed (renaming (map bytes_in names) (columns_in (type_of t))) t
planned env (selected p c e) = let t = planned env e in let cs = columns_in (type_of t) in plan.selected cs p (planned (inside cs env) c) t
planned env (existing p c e) = let t = planned env e in let cs = columns_in (type_of t) in plan.existing cs p (planned (inside cs env) c) t
planned env (everywhere p c e) = let t = planned env e in let cs = columns_in (type_of t) in plan.everywhere cs p (planned (inside cs env) c) t
planned env (updated p (named n q) x e) =
    let t = planned env e in
    let cs = columns_in (type_of t) in
    updating (find (is_column n) (cs ∷ [])) p cs (planned (inside cs env) x) t
planned env (extended p (typed d r) (named n q) x e) =
    let t = planned env e in
    let cs = columns_in (type_of t) in
    plan.extended (cs ++ (column_named n d ∷ [])) d p (planned (inside cs env) x) t

-- Statements.

abbrev pub declared_column : Attribute → Column
declared_column (attribute (typed d q) (named n p)) = column_named n d

abbrev pub declared : VariableType → ValueType
declared (of_domain (typed d p)) = atom d
declared (of_table attributes p) = table (map declared_column attributes)

abbrev pub place_of : Name → Place
place_of (named n p) = p

-- the environment behind a definition
abbrev pub defined : ValueType → Environment → List Name → Environment
defined t env [] = env
defined t env (named n p ∷ names) = defined t (defining n t env) names

abbrev pub after_statement : Environment → Statement → Environment
after_statement env (define type names) = defined (declared type) env names
after_statement env (assign x e) = env
after_statement env (if_then p e b) = env
after_statement env (if_then_else p e b c) = env
after_statement env (while_do p e b) = env
after_statement env (read_into p s x) = env
after_statement env (write_out p s e) = env

abbrev pub specified : Environment → Maybe Expression → Maybe Term
specified env none = none
specified env (some e) = some (planned env e)

abbrev pub assigning : Option (Found Variable) → Place → Term → Action
assigning (Some f) p t = plan.assign f.entry.type f.number p t
assigning None p t = plan.write_out p none (void p)

abbrev pub reading : Option (Found Variable) → Maybe Term → Place → Action
reading (Some f) s p = plan.read_into s f.entry.type f.number p
reading None s p = plan.write_out p none (void p)

-- how many variables a statement defines itself
abbrev pub defined_by : Statement → ℕ
defined_by (define type names) = length names
defined_by (assign x e) = 0
defined_by (if_then p e b) = 0
defined_by (if_then_else p e b c) = 0
defined_by (while_do p e b) = 0
defined_by (read_into p s x) = 0
defined_by (write_out p s e) = 0

abbrev pub definitions : Statements → ℕ
definitions no_statement = 0
definitions (s followed_by rest) = defined_by s + definitions rest

unfoldable mutual
  pub planned_statement : Environment → Statement → Action
  planned_statement env (define type names) = plan.define (declared type) (map place_of names)
  planned_statement env (assign (named n p) e) = assigning (variable_named env n) p (planned env e)
  planned_statement env (if_then p e b) = plan.if_then p (planned env e) (planned_block env b)
  planned_statement env (if_then_else p e b c) = plan.if_then_else p (planned env e) (planned_block env b) (planned_block env c)
  planned_statement env (while_do p e b) = plan.while_do p (planned env e) (planned_block env b)
  planned_statement env (read_into p s (named n q)) = reading (variable_named env n) (specified env s) q
  planned_statement env (write_out p s e) = plan.write_out p (specified env s) (planned env e)

  pub planned_statements : Environment → Statements → Actions
  planned_statements env no_statement = plan.nothing
  planned_statements env (s followed_by rest) = planned_statement env s then planned_statements (after_statement env s) rest

  pub planned_block : Environment → Block → Body
  planned_block env (closed_at ss p) = plan.body (planned_statements (opened env) ss) (definitions ss) p

-- the plan of a program: its statements, with nothing in scope before them
unfoldable pub planned_program : Block → Body
planned_program (closed_at ss p) = plan.body (planned_statements start ss) (definitions ss) p
