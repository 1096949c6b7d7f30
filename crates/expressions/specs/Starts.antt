-- What a token is where an expression goes on or a factor begins, as the code has it.
use Rattle.std.specs.Prelude.{ℕ, ◌+◌, Bool, true, false, Some, None, Option}
use Rattle.phrases.specs.declared.sorts.Listed.{Listed}
use Rattle.phrases.specs.declared.sorts.Listed.TheVariants as listed
use Rattle.words.specs.declared.tokens.Word.TheVariants.{Program, End, Table, If, Then, Else, While, Do, Read, Write, Join, Not, Project, Select, Exists}
use Rattle.words.specs.declared.tokens.Word.TheVariants.{All, Update, Extend, Rename}
use Rattle.words.specs.declared.tokens.Sum.TheVariants.{Plus, Minus}
use Rattle.words.specs.declared.tokens.Sign.TheVariants.{LeftParenthesis, RightParenthesis, LeftBracket, RightBracket, LeftBrace, RightBrace, Semicolon}
use Rattle.words.specs.declared.tokens.Sign.TheVariants.{Comma, Assign}
use Rattle.words.specs.Tokens.{Terminal, Terminal.word, Terminal.sign, Terminal.domain, Terminal.logic, Terminal.comparison}
use Rattle.words.specs.Tokens.{Terminal.sum, Terminal.product, Terminal.truth, Terminal.integer, Terminal.string, Terminal.name, Terminal.broken}
use Rattle.tree.specs.declared.nodes.What.{What}
use Rattle.tree.specs.declared.nodes.What.TheVariants as what
use Rattle.expressions.specs.declared.sorts.Level.{Level}
use Rattle.expressions.specs.declared.sorts.Level.TheVariants as level
use Rattle.expressions.specs.declared.sorts.Operator.{Operator}
use Rattle.expressions.specs.declared.sorts.Operator.TheVariants as operator
use Rattle.expressions.specs.declared.sorts.Turn.{Turn}
use Rattle.expressions.specs.declared.sorts.Turn.TheVariants as turn
use Rattle.expressions.specs.declared.sorts.Unary.{Unary}
use Rattle.expressions.specs.declared.sorts.Unary.TheVariants as unary
use Rattle.expressions.specs.declared.sorts.Bracketed.{Bracketed}
use Rattle.expressions.specs.declared.sorts.Bracketed.TheVariants as bracketed
use Rattle.expressions.specs.declared.sorts.Negation.{Negation}
use Rattle.expressions.specs.declared.sorts.Negation.TheVariants as negation
use Rattle.expressions.specs.declared.sorts.Instance.{Instance}
use Rattle.expressions.specs.declared.sorts.Instance.TheVariants as instance
use Rattle.expressions.specs.declared.sorts.Start.{Start}
use Rattle.expressions.specs.declared.sorts.Start.TheVariants as start

abbrev pub start_in : Option Terminal → Start
start_in None = start.Nothing
start_in (Some (word Program)) = start.Nothing
start_in (Some (word End)) = start.Nothing
start_in (Some (word Table)) = start.Nothing
start_in (Some (word If)) = start.Nothing
start_in (Some (word Then)) = start.Nothing
start_in (Some (word Else)) = start.Nothing
start_in (Some (word While)) = start.Nothing
start_in (Some (word Do)) = start.Nothing
start_in (Some (word Read)) = start.Nothing
start_in (Some (word Write)) = start.Nothing
start_in (Some (word Join)) = start.Nothing
start_in (Some (word Not)) = start.Negation negation.Not
start_in (Some (word Project)) = start.Unary unary.Project
start_in (Some (word Select)) = start.Unary unary.Select
start_in (Some (word Exists)) = start.Unary unary.Exists
start_in (Some (word All)) = start.Unary unary.All
start_in (Some (word Update)) = start.Unary unary.Update
start_in (Some (word Extend)) = start.Unary unary.Extend
start_in (Some (word Rename)) = start.Unary unary.Rename
start_in (Some (sign LeftParenthesis)) = start.Parenthesis
start_in (Some (sign RightParenthesis)) = start.Nothing
start_in (Some (sign LeftBracket)) = start.Nothing
start_in (Some (sign RightBracket)) = start.Nothing
start_in (Some (sign LeftBrace)) = start.Brace
start_in (Some (sign RightBrace)) = start.Nothing
start_in (Some (sign Semicolon)) = start.Nothing
start_in (Some (sign Comma)) = start.Nothing
start_in (Some (sign Assign)) = start.Nothing
start_in (Some (domain d)) = start.Nothing
start_in (Some (logic o)) = start.Nothing
start_in (Some (comparison o)) = start.Nothing
start_in (Some (product o)) = start.Nothing
start_in (Some (truth b)) = start.Constant
start_in (Some (integer x)) = start.Constant
start_in (Some (string x)) = start.Constant
start_in (Some (name x)) = start.Name
start_in (Some (broken r)) = start.Nothing
start_in (Some (sum Plus)) = start.Nothing
start_in (Some (sum Minus)) = start.Negation negation.Minus

abbrev pub logic_turn : Option Terminal → Turn
logic_turn None = turn.Stop
logic_turn (Some (word Program)) = turn.Stop
logic_turn (Some (word End)) = turn.Stop
logic_turn (Some (word Table)) = turn.Stop
logic_turn (Some (word If)) = turn.Stop
logic_turn (Some (word Then)) = turn.Stop
logic_turn (Some (word Else)) = turn.Stop
logic_turn (Some (word While)) = turn.Stop
logic_turn (Some (word Do)) = turn.Stop
logic_turn (Some (word Read)) = turn.Stop
logic_turn (Some (word Write)) = turn.Stop
logic_turn (Some (word Join)) = turn.Stop
logic_turn (Some (word Not)) = turn.Stop
logic_turn (Some (word Project)) = turn.Stop
logic_turn (Some (word Select)) = turn.Stop
logic_turn (Some (word Exists)) = turn.Stop
logic_turn (Some (word All)) = turn.Stop
logic_turn (Some (word Update)) = turn.Stop
logic_turn (Some (word Extend)) = turn.Stop
logic_turn (Some (word Rename)) = turn.Stop
logic_turn (Some (sign LeftParenthesis)) = turn.Stop
logic_turn (Some (sign RightParenthesis)) = turn.Stop
logic_turn (Some (sign LeftBracket)) = turn.Stop
logic_turn (Some (sign RightBracket)) = turn.Stop
logic_turn (Some (sign LeftBrace)) = turn.Stop
logic_turn (Some (sign RightBrace)) = turn.Stop
logic_turn (Some (sign Semicolon)) = turn.Stop
logic_turn (Some (sign Comma)) = turn.Stop
logic_turn (Some (sign Assign)) = turn.Stop
logic_turn (Some (domain d)) = turn.Stop
logic_turn (Some (logic o)) = turn.Take (operator.Logic o)
logic_turn (Some (comparison o)) = turn.Stop
logic_turn (Some (product o)) = turn.Stop
logic_turn (Some (truth b)) = turn.Stop
logic_turn (Some (integer x)) = turn.Stop
logic_turn (Some (string x)) = turn.Stop
logic_turn (Some (name x)) = turn.Stop
logic_turn (Some (broken r)) = turn.Stop
logic_turn (Some (sum Plus)) = turn.Stop
logic_turn (Some (sum Minus)) = turn.Stop

abbrev pub comparison_turn : Option Terminal → Turn
comparison_turn None = turn.Stop
comparison_turn (Some (word Program)) = turn.Stop
comparison_turn (Some (word End)) = turn.Stop
comparison_turn (Some (word Table)) = turn.Stop
comparison_turn (Some (word If)) = turn.Stop
comparison_turn (Some (word Then)) = turn.Stop
comparison_turn (Some (word Else)) = turn.Stop
comparison_turn (Some (word While)) = turn.Stop
comparison_turn (Some (word Do)) = turn.Stop
comparison_turn (Some (word Read)) = turn.Stop
comparison_turn (Some (word Write)) = turn.Stop
comparison_turn (Some (word Join)) = turn.Stop
comparison_turn (Some (word Not)) = turn.Stop
comparison_turn (Some (word Project)) = turn.Stop
comparison_turn (Some (word Select)) = turn.Stop
comparison_turn (Some (word Exists)) = turn.Stop
comparison_turn (Some (word All)) = turn.Stop
comparison_turn (Some (word Update)) = turn.Stop
comparison_turn (Some (word Extend)) = turn.Stop
comparison_turn (Some (word Rename)) = turn.Stop
comparison_turn (Some (sign LeftParenthesis)) = turn.Stop
comparison_turn (Some (sign RightParenthesis)) = turn.Stop
comparison_turn (Some (sign LeftBracket)) = turn.Stop
comparison_turn (Some (sign RightBracket)) = turn.Stop
comparison_turn (Some (sign LeftBrace)) = turn.Stop
comparison_turn (Some (sign RightBrace)) = turn.Stop
comparison_turn (Some (sign Semicolon)) = turn.Stop
comparison_turn (Some (sign Comma)) = turn.Stop
comparison_turn (Some (sign Assign)) = turn.Stop
comparison_turn (Some (domain d)) = turn.Stop
comparison_turn (Some (logic o)) = turn.Stop
comparison_turn (Some (comparison o)) = turn.Take (operator.Comparison o)
comparison_turn (Some (product o)) = turn.Stop
comparison_turn (Some (truth b)) = turn.Stop
comparison_turn (Some (integer x)) = turn.Stop
comparison_turn (Some (string x)) = turn.Stop
comparison_turn (Some (name x)) = turn.Stop
comparison_turn (Some (broken r)) = turn.Stop
comparison_turn (Some (sum Plus)) = turn.Stop
comparison_turn (Some (sum Minus)) = turn.Stop

abbrev pub sum_turn : Option Terminal → Turn
sum_turn None = turn.Stop
sum_turn (Some (word Program)) = turn.Stop
sum_turn (Some (word End)) = turn.Stop
sum_turn (Some (word Table)) = turn.Stop
sum_turn (Some (word If)) = turn.Stop
sum_turn (Some (word Then)) = turn.Stop
sum_turn (Some (word Else)) = turn.Stop
sum_turn (Some (word While)) = turn.Stop
sum_turn (Some (word Do)) = turn.Stop
sum_turn (Some (word Read)) = turn.Stop
sum_turn (Some (word Write)) = turn.Stop
sum_turn (Some (word Join)) = turn.Stop
sum_turn (Some (word Not)) = turn.Stop
sum_turn (Some (word Project)) = turn.Stop
sum_turn (Some (word Select)) = turn.Stop
sum_turn (Some (word Exists)) = turn.Stop
sum_turn (Some (word All)) = turn.Stop
sum_turn (Some (word Update)) = turn.Stop
sum_turn (Some (word Extend)) = turn.Stop
sum_turn (Some (word Rename)) = turn.Stop
sum_turn (Some (sign LeftParenthesis)) = turn.Stop
sum_turn (Some (sign RightParenthesis)) = turn.Stop
sum_turn (Some (sign LeftBracket)) = turn.Stop
sum_turn (Some (sign RightBracket)) = turn.Stop
sum_turn (Some (sign LeftBrace)) = turn.Stop
sum_turn (Some (sign RightBrace)) = turn.Stop
sum_turn (Some (sign Semicolon)) = turn.Stop
sum_turn (Some (sign Comma)) = turn.Stop
sum_turn (Some (sign Assign)) = turn.Stop
sum_turn (Some (domain d)) = turn.Stop
sum_turn (Some (logic o)) = turn.Stop
sum_turn (Some (comparison o)) = turn.Stop
sum_turn (Some (product o)) = turn.Stop
sum_turn (Some (truth b)) = turn.Stop
sum_turn (Some (integer x)) = turn.Stop
sum_turn (Some (string x)) = turn.Stop
sum_turn (Some (name x)) = turn.Stop
sum_turn (Some (broken r)) = turn.Stop
sum_turn (Some (sum Plus)) = turn.Take (operator.Sum Plus)
sum_turn (Some (sum Minus)) = turn.Take (operator.Sum Minus)

abbrev pub product_turn : Option Terminal → Turn
product_turn None = turn.Stop
product_turn (Some (word Program)) = turn.Stop
product_turn (Some (word End)) = turn.Stop
product_turn (Some (word Table)) = turn.Stop
product_turn (Some (word If)) = turn.Stop
product_turn (Some (word Then)) = turn.Stop
product_turn (Some (word Else)) = turn.Stop
product_turn (Some (word While)) = turn.Stop
product_turn (Some (word Do)) = turn.Stop
product_turn (Some (word Read)) = turn.Stop
product_turn (Some (word Write)) = turn.Stop
product_turn (Some (word Join)) = turn.Join
product_turn (Some (word Not)) = turn.Stop
product_turn (Some (word Project)) = turn.Stop
product_turn (Some (word Select)) = turn.Stop
product_turn (Some (word Exists)) = turn.Stop
product_turn (Some (word All)) = turn.Stop
product_turn (Some (word Update)) = turn.Stop
product_turn (Some (word Extend)) = turn.Stop
product_turn (Some (word Rename)) = turn.Stop
product_turn (Some (sign LeftParenthesis)) = turn.Stop
product_turn (Some (sign RightParenthesis)) = turn.Stop
product_turn (Some (sign LeftBracket)) = turn.Stop
product_turn (Some (sign RightBracket)) = turn.Stop
product_turn (Some (sign LeftBrace)) = turn.Stop
product_turn (Some (sign RightBrace)) = turn.Stop
product_turn (Some (sign Semicolon)) = turn.Stop
product_turn (Some (sign Comma)) = turn.Stop
product_turn (Some (sign Assign)) = turn.Stop
product_turn (Some (domain d)) = turn.Stop
product_turn (Some (logic o)) = turn.Stop
product_turn (Some (comparison o)) = turn.Stop
product_turn (Some (product o)) = turn.Take (operator.Product o)
product_turn (Some (truth b)) = turn.Stop
product_turn (Some (integer x)) = turn.Stop
product_turn (Some (string x)) = turn.Stop
product_turn (Some (name x)) = turn.Stop
product_turn (Some (broken r)) = turn.Stop
product_turn (Some (sum Plus)) = turn.Stop
product_turn (Some (sum Minus)) = turn.Stop

abbrev pub turn_in : Level → Option Terminal → Turn
turn_in level.Logic k = logic_turn k
turn_in level.Comparison k = comparison_turn k
turn_in level.Compared k = turn.Stop
turn_in level.Sum k = sum_turn k
turn_in level.Product k = product_turn k

abbrev pub level_behind : Level → Level
level_behind level.Logic = level.Logic
level_behind level.Comparison = level.Compared
level_behind level.Compared = level.Compared
level_behind level.Sum = level.Sum
level_behind level.Product = level.Product

abbrev pub operator_node : Operator → ℕ → ℕ → What
operator_node (operator.Logic o) a b = what.Logical o a b
operator_node (operator.Comparison o) a b = what.Compared o a b
operator_node (operator.Sum o) a b = what.Summed o a b
operator_node (operator.Product o) a b = what.Multiplied o a b

abbrev pub unary_node : Unary → ℕ → ℕ → ℕ → What
unary_node unary.Project first x a = what.Projected x a
unary_node unary.Rename first x a = what.Renamed x a
unary_node unary.Select first x a = what.Selected x a
unary_node unary.Exists first x a = what.Existing x a
unary_node unary.All first x a = what.Everywhere x a
unary_node unary.Update first x a = what.Updated first x a
unary_node unary.Extend first x a = what.Extended first (first + 1) x a

abbrev pub negation_node : Negation → ℕ → What
negation_node negation.Minus a = what.Negative a
negation_node negation.Not a = what.Negated a

-- a table constant has tuples where it begins with a parenthesis, else types
abbrev pub instance_of : Bool → Instance
instance_of true = instance.Tuples
instance_of false = instance.Types

-- the sort of its elements
abbrev pub listed_of : Instance → Listed
listed_of instance.Tuples = listed.Tuples
listed_of instance.Types = listed.Types

abbrev pub table_node : Instance → ℕ → What
table_node instance.Tuples first = what.TableOfTuples first
table_node instance.Types first = what.TableOfTypes first

abbrev pub bracketed_of : Unary → Bracketed
bracketed_of unary.Project = bracketed.Names
bracketed_of unary.Rename = bracketed.Names
bracketed_of unary.Select = bracketed.Condition
bracketed_of unary.Exists = bracketed.Condition
bracketed_of unary.All = bracketed.Condition
bracketed_of unary.Update = bracketed.Update
bracketed_of unary.Extend = bracketed.Extend
