-- The readers of the grammar in the shape of the parser's functions, each on the tokens from the function's first one on.
use Rattle.std.specs.Prelude.{◌≡◌, ℕ, suc, ◌<◌, [], ◌∷◌}
use Rattle.words.specs.declared.tokens.Sign.{Sign}
use Rattle.words.specs.Tokens.{Place, Token, Token.◌at◌, Terminal.sign}
use Rattle.grammar.specs.Parts.{Level, Unary, Argument, Argument.no_argument, Argument.names_argument, Argument.condition_argument, Argument.update_argument, Argument.extend_argument}
use Rattle.grammar.specs.Parts.{Leaf.name_leaf, Leaf.type_leaf, Level.name_level, Level.logic_level, Level.comparison_level, Level.compared_level, Level.sum_level, Level.product_level}
use Rattle.grammar.specs.Parts.{Unary.unary_minus, Unary.unary_not, Unary.unary_project, Unary.unary_rename, Unary.unary_select, Unary.unary_exists, Unary.unary_all, Unary.unary_update, Unary.unary_extend}
use Rattle.grammar.specs.Parts.{argument_of, apply, nothing, name_and_expression, type_name_and_expression, table_constant, first_name, first_type, left_bracket, right_bracket, right_brace, assign_token, place_of, origin}
use Rattle.grammar.specs.Promise.{any_token}
use Rattle.grammar.specs.Readers.{Cause.cannot_follow, Outcome.found, Outcome.refused_at, Reader, and_then, expect_token, read_leaf, read_level, read_instance, factors_at, brackets_at, expressions_at}
use Rattle.tree.specs.Holds.{HoldsName, HoldsType, HoldsExpression}
use Rattle.phrases.specs.Held.{Held, ExpressionHeld}
use Rattle.phrases.specs.States.{Holding}
use Rattle.expressions.specs.declared.sorts.Bracketed.{Bracketed}
use Rattle.expressions.specs.declared.sorts.Bracketed.TheVariants as bracketed
use Rattle.expressions.specs.declared.sorts.Level.{Level as Rank}
use Rattle.expressions.specs.declared.sorts.Level.TheVariants as rank
use Rattle.expressions.specs.declared.sorts.Negation.{Negation}
use Rattle.expressions.specs.declared.sorts.Negation.TheVariants as negation
use Rattle.expressions.specs.declared.sorts.Unary.{Unary as Named}
use Rattle.expressions.specs.declared.sorts.Unary.TheVariants as named

-- the levels and operators of the code as those of the grammar
abbrev pub level_of : Rank → Level
level_of rank.Logic = logic_level
level_of rank.Comparison = comparison_level
level_of rank.Compared = compared_level
level_of rank.Sum = sum_level
level_of rank.Product = product_level

abbrev pub unary_of : Named → Unary
unary_of named.Project = unary_project
unary_of named.Rename = unary_rename
unary_of named.Select = unary_select
unary_of named.Exists = unary_exists
unary_of named.All = unary_all
unary_of named.Update = unary_update
unary_of named.Extend = unary_extend

abbrev pub negation_of : Negation → Unary
negation_of negation.Minus = unary_minus
negation_of negation.Not = unary_not

abbrev pub argument_for : Bracketed → Argument
argument_for bracketed.Names = names_argument
argument_for bracketed.Condition = condition_argument
argument_for bracketed.Update = update_argument
argument_for bracketed.Extend = extend_argument

-- what reads an operand of a level, where n depths are left
abbrev pub operand_reader : ℕ → Rank → Reader
operand_reader n rank.Logic = read_level (read_level (read_level (factors_at any_token n) (brackets_at any_token n) product_level) (brackets_at any_token n) sum_level) (brackets_at any_token n) comparison_level
operand_reader n rank.Comparison = read_level (read_level (factors_at any_token n) (brackets_at any_token n) product_level) (brackets_at any_token n) sum_level
operand_reader n rank.Compared = read_level (read_level (factors_at any_token n) (brackets_at any_token n) product_level) (brackets_at any_token n) sum_level
operand_reader n rank.Sum = read_level (factors_at any_token n) (brackets_at any_token n) product_level
operand_reader n rank.Product = factors_at any_token n

abbrev pub level_reader : ℕ → Rank → Reader
level_reader n l = read_level (operand_reader n l) (brackets_at any_token n) (level_of l)

-- the sign that closes, as a token
abbrev pub closing_token : Sign → Token
closing_token g = sign g at origin

-- `-` or `not`, and its operand
unfoldable pub negation_behind : Unary → ℕ → Place → Reader
negation_behind u n p s = and_then (factors_at any_token n s) (λ t q. found (apply u p nothing t) q)

-- name = expr
unfoldable pub assigned_reader : ℕ → Reader
assigned_reader n s = and_then (read_leaf name_leaf s) (λ x q. and_then (expect_token assign_token q) (λ _ p. and_then (expressions_at any_token n p) (λ t o. found (name_and_expression x t) o)))

-- what stands in an operator's brackets
unfoldable pub inside_reader : ℕ → Argument → Reader
inside_reader n no_argument s = found nothing s
inside_reader n names_argument s = read_level (read_leaf name_leaf) (brackets_at any_token n) name_level s
inside_reader n condition_argument s = expressions_at any_token n s
inside_reader n update_argument s = assigned_reader n s
inside_reader n extend_argument s = and_then (read_leaf type_leaf s) (λ y r. and_then (assigned_reader n r) (λ v o. found (type_name_and_expression y v v) o))

-- an operator's brackets and its operand
unfoldable pub unary_behind : Unary → ℕ → Place → Reader
unary_behind u n p s =
    and_then (expect_token left_bracket s) (λ _ r. and_then (inside_reader n (argument_of u) r) (λ x q. and_then (expect_token right_bracket q) (λ _ o. and_then (factors_at any_token n o) (λ t i. found (apply u p x t) i))))

-- an expression and the sign that closes it
unfoldable pub enclosed_behind : Token → ℕ → Place → Reader
enclosed_behind w n p s = and_then (expressions_at any_token n s) (λ t r. and_then (expect_token w r) (λ _ q. found t q))

-- a table constant behind its brace
unfoldable pub table_reader : ℕ → Reader
table_reader n [] = refused_at cannot_follow []
table_reader n (k ∷ s) = and_then (read_instance (brackets_at any_token n) s) (λ t r. and_then (expect_token right_brace r) (λ _ q. found (table_constant (place_of k) t) q))

-- how an arena holds an expression, by its root
unfoldable pub Expressed : Holding
Expressed text ns from upto i t = ExpressionHeld text ns from upto i t

-- a name at the first entry, and an expression behind it
unfoldable pub Assigned : Holding
Assigned text ns from upto i t = (upto ≡ suc i) × (from < i) × (HoldsName text ns from from (first_name t.names)) × HoldsExpression text ns (suc from) i t.expression

-- what stands in brackets: an extension's type lies before its name
unfoldable pub Inside : Argument → Holding
Inside no_argument text ns from upto i t = upto ≡ from
Inside names_argument text ns from upto i t = Held name_level text ns from upto i t
Inside condition_argument text ns from upto i t = Expressed text ns from upto i t
Inside update_argument text ns from upto i t = Assigned text ns from upto i t
Inside extend_argument text ns from upto i t =
    (upto ≡ suc i) × (suc from < i) × (HoldsType text ns from from (first_type t.types)) × (HoldsName text ns (suc from) (suc from) (first_name t.names)) × HoldsExpression text ns (suc (suc from)) i t.expression
