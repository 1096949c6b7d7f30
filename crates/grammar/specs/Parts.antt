-- What each part of the grammar stands for, and what each token can begin or join: the tables that the readers go by.
use Rattle.std.specs.Prelude.{ℕ, List, [], ◌∷◌, ◌++◌, Bool, true, false, eqb, pos}
use Rattle.std.proofs.Math.Option.{Option, none, some}
use Rattle.words.specs.Numbers.{value_of}
use Rattle.words.specs.Tokens.{Place, Terminal, Token, Token.◌at◌, Terminal.word, Terminal.sign, Terminal.domain, Terminal.logic, Terminal.comparison}
use Rattle.words.specs.Tokens.{Terminal.sum, Terminal.product, Terminal.truth, Terminal.integer, Terminal.string, Terminal.name, Terminal.broken}
use Rattle.domain.specs.declared.Domain.TheVariants.{Integer}
use Rattle.words.specs.declared.tokens.Logic.{Logic}
use Rattle.words.specs.declared.tokens.Comparison.{Comparison}
use Rattle.words.specs.declared.tokens.Sum.{Sum}
use Rattle.words.specs.declared.tokens.Sum.TheVariants.{Plus, Minus}
use Rattle.words.specs.declared.tokens.Product.{Product}
use Rattle.words.specs.declared.tokens.Word.TheVariants.{Program, End, Table, If, Then, Else, While, Do, Read, Write, Join, Not, Project, Select, Exists}
use Rattle.words.specs.declared.tokens.Word.TheVariants.{All, Update, Extend, Rename}
use Rattle.words.specs.declared.tokens.Sign.TheVariants.{LeftParenthesis, RightParenthesis, LeftBracket, RightBracket, LeftBrace, RightBrace, Semicolon}
use Rattle.words.specs.declared.tokens.Sign.TheVariants.{Comma, Assign}
use Rattle.grammar.specs.Tree.{Name, Constant, Tuple, AtomicType, Attribute, VariableType, Expression, Statement, Statements, Name.named}
use Rattle.grammar.specs.Tree.{Constant.integer_constant, Constant.string_constant, Constant.truth_constant, Tuple.tuple_of, AtomicType.typed}
use Rattle.grammar.specs.Tree.{Attribute.attribute, Expression.variable, Expression.literal, Expression.table_of_tuples, Expression.table_of_types}
use Rattle.grammar.specs.Tree.{Expression.logical, Expression.compared, Expression.summed, Expression.multiplied, Expression.joined, Expression.negative}
use Rattle.grammar.specs.Tree.{Expression.negated, Expression.projected, Expression.renamed, Expression.selected, Expression.existing, Expression.everywhere}
use Rattle.grammar.specs.Tree.{Expression.updated, Expression.extended, Statement.define, Statement.assign, Statement.if_then, Statement.if_then_else}
use Rattle.grammar.specs.Tree.{Statement.while_do, Statement.read_into, Statement.write_out, Statements.no_statement, Statements.◌followed_by◌, Block.closed_at}

abbrev pub terminal_of : Token → Terminal
terminal_of (l at p) = l

abbrev pub place_of : Token → Place
place_of (l at p) = p

abbrev pub origin : Place
origin = record { line = 0; byte = 0 }

abbrev pub program_token : Token
program_token = word Program at origin

abbrev pub end_token : Token
end_token = word End at origin

abbrev pub then_token : Token
then_token = word Then at origin

abbrev pub else_token : Token
else_token = word Else at origin

abbrev pub do_token : Token
do_token = word Do at origin

abbrev pub read_token : Token
read_token = word Read at origin

abbrev pub write_token : Token
write_token = word Write at origin

abbrev pub integer_token : Token
integer_token = domain Integer at origin

abbrev pub left_parenthesis : Token
left_parenthesis = sign LeftParenthesis at origin

abbrev pub right_parenthesis : Token
right_parenthesis = sign RightParenthesis at origin

abbrev pub left_bracket : Token
left_bracket = sign LeftBracket at origin

abbrev pub right_bracket : Token
right_bracket = sign RightBracket at origin

abbrev pub right_brace : Token
right_brace = sign RightBrace at origin

abbrev pub assign_token : Token
assign_token = sign Assign at origin

abbrev pub some_name : Token
some_name = name [] at origin

abbrev pub some_integer : Token
some_integer = integer [] at origin

pub data Operator : Type 0 where
  semicolons commas : Operator
  logic_operator : Logic → Operator
  comparison_operator : Comparison → Operator
  sum_operator : Sum → Operator
  product_operator : Product → Operator

pub data Unary : Type 0 where
  unary_minus unary_not unary_project unary_rename unary_select unary_exists unary_all unary_update unary_extend : Unary

-- what any part of the grammar stands for, in one type: each part fills its own field
pub record Part : Type 0 where
  pub expression : Expression
  pub names : List Name
  pub types : List AtomicType
  pub constants : List Constant
  pub attributes : List Attribute
  pub tuples : List Tuple
  pub statements : Statements
  pub place : Place

abbrev pub no_name : Name
no_name = named [] origin

abbrev pub no_type : AtomicType
no_type = typed Integer origin

abbrev pub no_expression : Expression
no_expression = variable no_name

abbrev pub first_name : List Name → Name
first_name [] = no_name
first_name (x ∷ xs) = x

abbrev pub first_type : List AtomicType → AtomicType
first_type [] = no_type
first_type (x ∷ xs) = x

abbrev pub nothing : Part
nothing = record { expression = no_expression; names = []; types = []; constants = []; attributes = []; tuples = []; statements = no_statement; place = origin }

abbrev pub place_part : Place → Part
place_part p = record { expression = no_expression; names = []; types = []; constants = []; attributes = []; tuples = []; statements = no_statement; place = p }

abbrev pub expression_part : Expression → Part
expression_part e = record { expression = e; names = []; types = []; constants = []; attributes = []; tuples = []; statements = no_statement; place = origin }

abbrev pub name_part : Name → Part
name_part x = record { expression = no_expression; names = x ∷ []; types = []; constants = []; attributes = []; tuples = []; statements = no_statement; place = origin }

abbrev pub type_part : AtomicType → Part
type_part x = record { expression = no_expression; names = []; types = x ∷ []; constants = []; attributes = []; tuples = []; statements = no_statement; place = origin }

abbrev pub constant_part : Constant → Part
constant_part x = record { expression = no_expression; names = []; types = []; constants = x ∷ []; attributes = []; tuples = []; statements = no_statement; place = origin }

abbrev pub attribute_part : Attribute → Part
attribute_part x = record { expression = no_expression; names = []; types = []; constants = []; attributes = x ∷ []; tuples = []; statements = no_statement; place = origin }

abbrev pub tuple_part : Tuple → Part
tuple_part x = record { expression = no_expression; names = []; types = []; constants = []; attributes = []; tuples = x ∷ []; statements = no_statement; place = origin }

abbrev pub statement_part : Statement → Part
statement_part x = record { expression = no_expression; names = []; types = []; constants = []; attributes = []; tuples = []; statements = x followed_by no_statement; place = origin }

-- an expression at a place
abbrev pub at_token : Token → Part → Part
at_token k t = record { expression = t.expression; names = []; types = []; constants = []; attributes = []; tuples = []; statements = no_statement; place = place_of k }

-- statements closed at a place
abbrev pub close_part : Part → Part → Part
close_part t z = record { expression = no_expression; names = []; types = []; constants = []; attributes = []; tuples = []; statements = t.statements; place = z.place }

abbrev pub name_and_expression : Part → Part → Part
name_and_expression x t = record { expression = t.expression; names = x.names; types = []; constants = []; attributes = []; tuples = []; statements = no_statement; place = origin }

abbrev pub type_name_and_expression : Part → Part → Part → Part
type_name_and_expression y x t = record { expression = t.expression; names = x.names; types = y.types; constants = []; attributes = []; tuples = []; statements = no_statement; place = origin }

abbrev pub append_statements : Statements → Statements → Statements
append_statements no_statement b = b
append_statements (a followed_by c) b = a followed_by append_statements c b

-- lists grow at their end
abbrev pub append_parts : Part → Part → Part
append_parts t u = record { expression = no_expression; names = t.names ++ u.names; types = t.types ++ u.types; constants = t.constants ++ u.constants; attributes = t.attributes ++ u.attributes; tuples = t.tuples ++ u.tuples; statements = append_statements t.statements u.statements; place = origin }

abbrev pub combine : Operator → Place → Part → Part → Part
combine semicolons p t u = append_parts t u
combine commas p t u = append_parts t u
combine (logic_operator o) p t u = expression_part (logical o p t.expression u.expression)
combine (comparison_operator o) p t u = expression_part (compared o p t.expression u.expression)
combine (sum_operator o) p t u = expression_part (summed o p t.expression u.expression)
combine (product_operator o) p t u = expression_part (multiplied o p t.expression u.expression)

abbrev pub join_parts : Place → Part → Part → Part → Part
join_parts p t x u = expression_part (joined p t.expression x.expression u.expression)

abbrev pub apply : Unary → Place → Part → Part → Part
apply unary_minus p x t = expression_part (negative p t.expression)
apply unary_not p x t = expression_part (negated p t.expression)
apply unary_project p x t = expression_part (projected p x.names t.expression)
apply unary_rename p x t = expression_part (renamed p x.names t.expression)
apply unary_select p x t = expression_part (selected p x.expression t.expression)
apply unary_exists p x t = expression_part (existing p x.expression t.expression)
apply unary_all p x t = expression_part (everywhere p x.expression t.expression)
apply unary_update p x t = expression_part (updated p (first_name x.names) x.expression t.expression)
apply unary_extend p x t = expression_part (extended p (first_type x.types) (first_name x.names) x.expression t.expression)

abbrev pub table_expression : List Tuple → List AtomicType → Place → Expression
table_expression [] ys p = table_of_types ys p
table_expression (x ∷ xs) ys p = table_of_tuples (x ∷ xs) p

abbrev pub table_constant : Place → Part → Part
table_constant p t = expression_part (table_expression t.tuples t.types p)

abbrev pub tuple_constant : Part → Part → Part
tuple_constant z t = tuple_part (tuple_of t.constants z.place)

abbrev pub attribute_declaration : Part → Part → Part
attribute_declaration t u = attribute_part (attribute (first_type t.types) (first_name u.names))

abbrev pub assignment : Name → Part → Part
assignment x t = statement_part (assign x t.expression)

abbrev pub definition : VariableType → Part → Part
definition y t = statement_part (define y t.names)

abbrev pub while_statement : Part → Part → Part → Part
while_statement t u z = statement_part (while_do t.place t.expression (closed_at u.statements z.place))

abbrev pub if_statement : Part → Part → Part → Part
if_statement t u z = statement_part (if_then t.place t.expression (closed_at u.statements z.place))

abbrev pub if_else_statement : Part → Part → Part → Part → Part → Part
if_else_statement t u z v y = statement_part (if_then_else t.place t.expression (closed_at u.statements z.place) (closed_at v.statements y.place))

abbrev pub given : Option Part → Option Expression
given none = none
given (some t) = some t.expression

abbrev pub input_statement : Place → Option Part → Part → Part
input_statement p x t = statement_part (read_into p (given x) (first_name t.names))

abbrev pub output_statement : Place → Option Part → Part → Part
output_statement p x t = statement_part (write_out p (given x) t.expression)

-- the levels that are an item, then operators (or commas, or semicolons) with more items
pub data Level : Type 0 where
  statement_level name_level type_level constant_level attribute_level tuple_level logic_level comparison_level sum_level product_level compared_level : Level

-- what a token is as an operator between items
pub data Between : Type 0 where
  no_operator join_operator : Between
  operator_of_rank : ℕ → Operator → Between

abbrev pub between_in : Terminal → Place → Between
between_in (word Program) p = no_operator
between_in (word End) p = no_operator
between_in (word Table) p = no_operator
between_in (word If) p = no_operator
between_in (word Then) p = no_operator
between_in (word Else) p = no_operator
between_in (word While) p = no_operator
between_in (word Do) p = no_operator
between_in (word Read) p = no_operator
between_in (word Write) p = no_operator
between_in (word Join) p = join_operator
between_in (word Not) p = no_operator
between_in (word Project) p = no_operator
between_in (word Select) p = no_operator
between_in (word Exists) p = no_operator
between_in (word All) p = no_operator
between_in (word Update) p = no_operator
between_in (word Extend) p = no_operator
between_in (word Rename) p = no_operator
between_in (sign LeftParenthesis) p = no_operator
between_in (sign RightParenthesis) p = no_operator
between_in (sign LeftBracket) p = no_operator
between_in (sign RightBracket) p = no_operator
between_in (sign LeftBrace) p = no_operator
between_in (sign RightBrace) p = no_operator
between_in (sign Semicolon) p = operator_of_rank 0 semicolons
between_in (sign Comma) p = operator_of_rank 1 commas
between_in (sign Assign) p = no_operator
between_in (domain d) p = no_operator
between_in (logic o) p = operator_of_rank 2 (logic_operator o)
between_in (comparison o) p = operator_of_rank 3 (comparison_operator o)
between_in (sum o) p = operator_of_rank 4 (sum_operator o)
between_in (product o) p = operator_of_rank 5 (product_operator o)
between_in (truth b) p = no_operator
between_in (integer x) p = no_operator
between_in (string x) p = no_operator
between_in (name x) p = no_operator
between_in (broken c) p = no_operator

abbrev pub between_of : Token → Between
between_of k = between_in (terminal_of k) (place_of k)

-- from the loosest to the tightest
abbrev pub rank : Level → ℕ
rank statement_level = 0
rank name_level = 1
rank type_level = 1
rank constant_level = 1
rank attribute_level = 1
rank tuple_level = 1
rank logic_level = 2
rank comparison_level = 3
rank sum_level = 4
rank product_level = 5
rank compared_level = 3

-- what a level does at a token: stop, take an operator, take a join
pub data Turn : Type 0 where
  stop take_join : Turn
  take_operator : Operator → Turn

abbrev pub take_if : Bool → Operator → Turn
take_if true o = take_operator o
take_if false o = stop

abbrev pub join_if : Bool → Turn
join_if true = take_join
join_if false = stop

abbrev pub turn_if : ℕ → Between → Turn
turn_if c no_operator = stop
turn_if c join_operator = join_if (eqb c 5)
turn_if c (operator_of_rank m o) = take_if (eqb c m) o

abbrev pub turn_in : Level → Between → Turn
turn_in statement_level v = turn_if 0 v
turn_in name_level v = turn_if 1 v
turn_in type_level v = turn_if 1 v
turn_in constant_level v = turn_if 1 v
turn_in attribute_level v = turn_if 1 v
turn_in tuple_level v = turn_if 1 v
turn_in logic_level v = turn_if 2 v
turn_in comparison_level v = turn_if 3 v
turn_in sum_level v = turn_if 4 v
turn_in product_level v = turn_if 5 v
turn_in compared_level v = stop

abbrev pub turn_at : Level → Token → Turn
turn_at l k = turn_in l (between_of k)

-- a comparison has one operator, the others any number
abbrev pub level_after : Level → Level
level_after statement_level = statement_level
level_after name_level = name_level
level_after type_level = type_level
level_after constant_level = constant_level
level_after attribute_level = attribute_level
level_after tuple_level = tuple_level
level_after logic_level = logic_level
level_after comparison_level = compared_level
level_after sum_level = sum_level
level_after product_level = product_level
level_after compared_level = compared_level

-- the tokens that are a part by themselves
pub data Leaf : Type 0 where
  name_leaf type_leaf constant_leaf : Leaf

abbrev pub name_in : Terminal → Place → Option Part
name_in (word w) p = none
name_in (sign g) p = none
name_in (domain d) p = none
name_in (logic o) p = none
name_in (comparison o) p = none
name_in (sum o) p = none
name_in (product o) p = none
name_in (truth b) p = none
name_in (integer x) p = none
name_in (string x) p = none
name_in (name x) p = some (name_part (named x p))
name_in (broken c) p = none

abbrev pub type_in : Terminal → Place → Option Part
type_in (word w) p = none
type_in (sign g) p = none
type_in (domain d) p = some (type_part (typed d p))
type_in (logic o) p = none
type_in (comparison o) p = none
type_in (sum o) p = none
type_in (product o) p = none
type_in (truth b) p = none
type_in (integer x) p = none
type_in (string x) p = none
type_in (name x) p = none
type_in (broken c) p = none

abbrev pub constant_in : Terminal → Place → Option Part
constant_in (word w) p = none
constant_in (sign g) p = none
constant_in (domain d) p = none
constant_in (logic o) p = none
constant_in (comparison o) p = none
constant_in (sum o) p = none
constant_in (product o) p = none
constant_in (truth b) p = some (constant_part (truth_constant b p))
constant_in (integer x) p = some (constant_part (integer_constant (pos (value_of x)) p))
constant_in (string x) p = some (constant_part (string_constant x p))
constant_in (name x) p = none
constant_in (broken c) p = none

abbrev pub name_of : Token → Option Part
name_of k = name_in (terminal_of k) (place_of k)

abbrev pub type_of : Token → Option Part
type_of k = type_in (terminal_of k) (place_of k)

abbrev pub constant_of : Token → Option Part
constant_of k = constant_in (terminal_of k) (place_of k)

abbrev pub leaf_of : Leaf → Token → Option Part
leaf_of name_leaf k = name_of k
leaf_of type_leaf k = type_of k
leaf_of constant_leaf k = constant_of k

-- what stands between a unary operator's word and its operand
pub data Argument : Type 0 where
  no_argument names_argument condition_argument update_argument extend_argument : Argument

abbrev pub argument_of : Unary → Argument
argument_of unary_minus = no_argument
argument_of unary_not = no_argument
argument_of unary_project = names_argument
argument_of unary_rename = names_argument
argument_of unary_select = condition_argument
argument_of unary_exists = condition_argument
argument_of unary_all = condition_argument
argument_of unary_update = update_argument
argument_of unary_extend = extend_argument

-- what a token is where a factor is due
pub data FactorStart : Type 0 where
  leaf : Part → FactorStart
  unary : Unary → FactorStart
  parenthesis brace no_factor : FactorStart

abbrev pub factor_start_in : Terminal → Place → FactorStart
factor_start_in (word Program) p = no_factor
factor_start_in (word End) p = no_factor
factor_start_in (word Table) p = no_factor
factor_start_in (word If) p = no_factor
factor_start_in (word Then) p = no_factor
factor_start_in (word Else) p = no_factor
factor_start_in (word While) p = no_factor
factor_start_in (word Do) p = no_factor
factor_start_in (word Read) p = no_factor
factor_start_in (word Write) p = no_factor
factor_start_in (word Join) p = no_factor
factor_start_in (word Not) p = unary unary_not
factor_start_in (word Project) p = unary unary_project
factor_start_in (word Select) p = unary unary_select
factor_start_in (word Exists) p = unary unary_exists
factor_start_in (word All) p = unary unary_all
factor_start_in (word Update) p = unary unary_update
factor_start_in (word Extend) p = unary unary_extend
factor_start_in (word Rename) p = unary unary_rename
factor_start_in (sign LeftParenthesis) p = parenthesis
factor_start_in (sign RightParenthesis) p = no_factor
factor_start_in (sign LeftBracket) p = no_factor
factor_start_in (sign RightBracket) p = no_factor
factor_start_in (sign LeftBrace) p = brace
factor_start_in (sign RightBrace) p = no_factor
factor_start_in (sign Semicolon) p = no_factor
factor_start_in (sign Comma) p = no_factor
factor_start_in (sign Assign) p = no_factor
factor_start_in (domain d) p = no_factor
factor_start_in (logic o) p = no_factor
factor_start_in (comparison o) p = no_factor
factor_start_in (sum Plus) p = no_factor
factor_start_in (sum Minus) p = unary unary_minus
factor_start_in (product o) p = no_factor
factor_start_in (truth b) p = leaf (expression_part (literal (truth_constant b p)))
factor_start_in (integer x) p = leaf (expression_part (literal (integer_constant (pos (value_of x)) p)))
factor_start_in (string x) p = leaf (expression_part (literal (string_constant x p)))
factor_start_in (name x) p = leaf (expression_part (variable (named x p)))
factor_start_in (broken c) p = no_factor

abbrev pub factor_start : Token → FactorStart
factor_start k = factor_start_in (terminal_of k) (place_of k)

pub data StatementStart : Type 0 where
  assigning : Name → StatementStart
  defining : AtomicType → StatementStart
  defining_table deciding looping reading writing no_statement_here : StatementStart

abbrev pub statement_start_in : Terminal → Place → StatementStart
statement_start_in (word Program) p = no_statement_here
statement_start_in (word End) p = no_statement_here
statement_start_in (word Table) p = defining_table
statement_start_in (word If) p = deciding
statement_start_in (word Then) p = no_statement_here
statement_start_in (word Else) p = no_statement_here
statement_start_in (word While) p = looping
statement_start_in (word Do) p = no_statement_here
statement_start_in (word Read) p = reading
statement_start_in (word Write) p = writing
statement_start_in (word Join) p = no_statement_here
statement_start_in (word Not) p = no_statement_here
statement_start_in (word Project) p = no_statement_here
statement_start_in (word Select) p = no_statement_here
statement_start_in (word Exists) p = no_statement_here
statement_start_in (word All) p = no_statement_here
statement_start_in (word Update) p = no_statement_here
statement_start_in (word Extend) p = no_statement_here
statement_start_in (word Rename) p = no_statement_here
statement_start_in (sign g) p = no_statement_here
statement_start_in (domain d) p = defining (typed d p)
statement_start_in (logic o) p = no_statement_here
statement_start_in (comparison o) p = no_statement_here
statement_start_in (sum o) p = no_statement_here
statement_start_in (product o) p = no_statement_here
statement_start_in (truth b) p = no_statement_here
statement_start_in (integer x) p = no_statement_here
statement_start_in (string x) p = no_statement_here
statement_start_in (name x) p = assigning (named x p)
statement_start_in (broken c) p = no_statement_here

abbrev pub statement_start : Token → StatementStart
statement_start k = statement_start_in (terminal_of k) (place_of k)

-- words and signs by number, all else past them
abbrev pub code_in : Terminal → ℕ
code_in (word Program) = 0
code_in (word End) = 1
code_in (word Table) = 2
code_in (word If) = 3
code_in (word Then) = 4
code_in (word Else) = 5
code_in (word While) = 6
code_in (word Do) = 7
code_in (word Read) = 8
code_in (word Write) = 9
code_in (word Join) = 10
code_in (word Not) = 11
code_in (word Project) = 12
code_in (word Select) = 13
code_in (word Exists) = 14
code_in (word All) = 15
code_in (word Update) = 16
code_in (word Extend) = 17
code_in (word Rename) = 18
code_in (sign LeftParenthesis) = 19
code_in (sign RightParenthesis) = 20
code_in (sign LeftBracket) = 21
code_in (sign RightBracket) = 22
code_in (sign LeftBrace) = 23
code_in (sign RightBrace) = 24
code_in (sign Semicolon) = 25
code_in (sign Comma) = 26
code_in (sign Assign) = 27
code_in (domain d) = 28
code_in (logic o) = 28
code_in (comparison o) = 28
code_in (sum o) = 28
code_in (product o) = 28
code_in (truth b) = 28
code_in (integer x) = 28
code_in (string x) = 28
code_in (name x) = 28
code_in (broken c) = 28

abbrev pub code_of : Token → ℕ
code_of k = code_in (terminal_of k)

abbrev pub same_as : Token → Token → Bool
same_as w k = eqb (code_of w) (code_of k)
