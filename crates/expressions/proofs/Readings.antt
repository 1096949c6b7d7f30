-- The readers in the shape of the code, part by part: where the first part is refused, the whole is, and so on.
use Rattle.std.proofs.Common.{◌≡◌, ℕ, ◌<◌, false, eqb, List, ◌∷◌, Some, None, Option, sym, refl, ap, ◌∙◌, arith}
use mathlib.Core.Option.{some}
use Rattle.fault.specs.declared.rules.Fault.{Fault}
use Rattle.words.specs.declared.tokens.Word.TheVariants.{Program, End, Table, If, Then, Else, While, Do, Read, Write, Join, Not, Project, Select, Exists}
use Rattle.words.specs.declared.tokens.Word.TheVariants.{All, Update, Extend, Rename}
use Rattle.words.specs.declared.tokens.Sum.TheVariants.{Plus, Minus}
use Rattle.words.specs.declared.tokens.Sign.TheVariants.{LeftParenthesis, RightParenthesis, LeftBracket, RightBracket, LeftBrace, RightBrace, Semicolon}
use Rattle.words.specs.declared.tokens.Sign.TheVariants.{Comma, Assign}
use Rattle.words.specs.Tokens.{Place, Terminal, Token, Token.◌at◌, Terminal.word, Terminal.sign, Terminal.domain, Terminal.logic, Terminal.comparison}
use Rattle.words.specs.Tokens.{Terminal.sum, Terminal.product, Terminal.truth, Terminal.integer, Terminal.string, Terminal.name, Terminal.broken}
use Rattle.grammar.specs.Parts.{Part, Turn as Move, Turn.stop, Turn.take_operator, Turn.take_join, Operator as Sort, Operator.logic_operator, Operator.comparison_operator, Operator.sum_operator, Operator.product_operator}
use Rattle.grammar.specs.Parts.{Unary as Applied, Argument.extend_argument}
use Rattle.grammar.specs.Parts.{Leaf, Leaf.name_leaf, Leaf.type_leaf, Leaf.constant_leaf}
use Rattle.grammar.specs.Parts.{argument_of, apply, nothing, name_and_expression, type_name_and_expression, combine, join_parts, turn_at, level_after, code_of, left_bracket, right_bracket, assign_token}
use Rattle.grammar.specs.Promise.{any_token}
use Rattle.grammar.specs.Readers.{Outcome, Outcome.found as read, Outcome.refused_at, Reader, and_then, take_turn, expect_if, expect_token, read_leaf, read_level, rest, read_expression, read_bracket, factors_at, brackets_at, expressions_at, Shorter}
use Rattle.grammar.proofs.Fuel.{rest_nil, rest_cons, level_is, factor_shorter, bracket_shorter, product_shorter, sum_shorter, comparison_shorter}
use Rattle.phrases.specs.Places.{pays_ahead}
use Rattle.phrases.proofs.Scans.{pays_some}
use Rattle.phrases.specs.States.{before, broken_in, refused_by, Halts}
use Rattle.phrases.proofs.Steps.{refused_ahead, refused_first}
use Rattle.expressions.specs.declared.sorts.Level.{Level as Rank}
use Rattle.expressions.specs.declared.sorts.Level.TheVariants as rank
use Rattle.expressions.specs.declared.sorts.Operator.{Operator}
use Rattle.expressions.specs.declared.sorts.Operator.TheVariants as operator
use Rattle.expressions.specs.declared.sorts.Turn.{Turn}
use Rattle.expressions.specs.declared.sorts.Turn.TheVariants as turn
use Rattle.expressions.specs.declared.sorts.Unary.{Unary}
use Rattle.expressions.specs.declared.sorts.Unary.TheVariants as unary
use Rattle.expressions.specs.Starts.{turn_in, level_behind}
use Rattle.expressions.specs.Shapes.{level_of, unary_of, operand_reader, level_reader, negation_behind, assigned_reader, inside_reader, unary_behind, enclosed_behind}

pub found_halts : (end : Place) (t : Part) → Halts end (λ s. read t s)
unfolding refused_by
found_halts end t c p q = refl

pub expect_halts : (end : Place) (w : Token) (g : Part → List Token → Outcome) → code_of w < 28 → Halts end (λ s. and_then (expect_token w s) g)
unfolding expect_token refused_by
expect_halts end w g l c p q = ap (λ b. refused_by end (and_then (expect_if b (broken c at p) q) g)) (let z : eqb (code_of w) 28 ≡ false = grind (arith, l) in z)

pub factor_halts : (end : Place) (n : ℕ) (g : Part → List Token → Outcome) → Halts end (λ s. and_then (factors_at any_token n s) g)
unfolding factors_at refused_by
factor_halts end n g c p q = refl

pub expr_halts : (end : Place) (n : ℕ) (g : Part → List Token → Outcome) → Halts end (λ s. and_then (expressions_at any_token n s) g)
unfolding expressions_at read_expression read_level factors_at refused_by
expr_halts end n g c p q = refl

pub bracket_halts : (end : Place) (n : ℕ) (g : Part → List Token → Outcome) → Halts end (λ s. and_then (brackets_at any_token n s) g)
unfolding brackets_at read_bracket expect_token refused_by
bracket_halts end n g c p q = refl

pub operand_halts : (end : Place) (n : ℕ) (l : Rank) (g : Part → List Token → Outcome) → Halts end (λ s. and_then (operand_reader n l s) g)
unfolding read_level factors_at refused_by
operand_halts end n rank.Logic g c p q = refl
operand_halts end n rank.Comparison g c p q = refl
operand_halts end n rank.Compared g c p q = refl
operand_halts end n rank.Sum g c p q = refl
operand_halts end n rank.Product g c p q = refl

pub leaf_halts : (end : Place) (l : Leaf) (g : Part → List Token → Outcome) → Halts end (λ s. and_then (read_leaf l s) g)
unfolding read_leaf refused_by
leaf_halts end name_leaf g c p q = refl
leaf_halts end type_leaf g c p q = refl
leaf_halts end constant_leaf g c p q = refl

-- `-` and `not`
pub negation_halts : (end : Place) (u : Applied) (n : ℕ) (p : Place) → Halts end (negation_behind u n p)
unfolding negation_behind
negation_halts end u n p = factor_halts end n (λ t q. read (apply u p nothing t) q)

pub negation_first : (end : Place) (u : Applied) (n : ℕ) (p : Place) (s : List Token) (f : Fault) → refused_by end (factors_at any_token n s) ≡ some f → refused_by end (negation_behind u n p s) ≡ some f
unfolding negation_behind
negation_first end u n p s f h = refused_first end (factors_at any_token n s) (λ t q. read (apply u p nothing t) q) f (λ t. found_halts end (apply u p nothing t)) h

pub negation_found : (u : Applied) (n : ℕ) (p : Place) (s : List Token) (t : Part) (q : List Token) → factors_at any_token n s ≡ read t q → negation_behind u n p s ≡ read (apply u p nothing t) q
unfolding negation_behind
negation_found u n p s t q e = rw e

-- an expression and the sign that closes it
pub enclosed_halts : (end : Place) (w : Token) (n : ℕ) (p : Place) → Halts end (enclosed_behind w n p)
unfolding enclosed_behind
enclosed_halts end w n p = expr_halts end n (λ t r. and_then (expect_token w r) (λ _ q. read t q))

pub enclosed_first : (end : Place) (w : Token) (n : ℕ) (p : Place) (s : List Token) (f : Fault) → code_of w < 28 → refused_by end (expressions_at any_token n s) ≡ some f → refused_by end (enclosed_behind w n p s) ≡ some f
unfolding enclosed_behind
enclosed_first end w n p s f l h = refused_first end (expressions_at any_token n s) (λ t r. and_then (expect_token w r) (λ _ q. read t q)) f (λ t. expect_halts end w (λ _ q. read t q) l) h

pub enclosed_second : (end : Place) (w : Token) (n : ℕ) (p : Place) (s : List Token) (t : Part) (r : List Token) (f : Fault) → expressions_at any_token n s ≡ read t r → refused_by end (expect_token w r) ≡ some f → refused_by end (enclosed_behind w n p s) ≡ some f
unfolding enclosed_behind
enclosed_second end w n p s t r f e h = rw e (refused_first end (expect_token w r) (λ _ q. read t q) f (λ u. found_halts end t) h)

pub enclosed_found : (w : Token) (n : ℕ) (p : Place) (s : List Token) (t : Part) (r : List Token) (z : Part) (q : List Token) → expressions_at any_token n s ≡ read t r → expect_token w r ≡ read z q → enclosed_behind w n p s ≡ read t q
unfolding enclosed_behind
enclosed_found w n p s t r z q e h = rw (e, h)

-- name = expr
pub assigned_halts : (end : Place) (n : ℕ) (g : Part → List Token → Outcome) → Halts end (λ s. and_then (assigned_reader n s) g)
unfolding assigned_reader read_leaf refused_by
assigned_halts end n g c p q = refl

pub assigned_first : (end : Place) (n : ℕ) (s : List Token) (f : Fault) → refused_by end (read_leaf name_leaf s) ≡ some f → refused_by end (assigned_reader n s) ≡ some f
unfolding assigned_reader
assigned_first end n s f h =
    refused_first end (read_leaf name_leaf s) (λ x q. and_then (expect_token assign_token q) (λ _ p. and_then (expressions_at any_token n p) (λ t o. read (name_and_expression x t) o))) f
    (λ x. expect_halts end assign_token (λ _ p. and_then (expressions_at any_token n p) (λ t o. read (name_and_expression x t) o)) (omega arith)) h

pub assigned_second : (end : Place) (n : ℕ) (s : List Token) (x : Part) (q : List Token) (f : Fault) → read_leaf name_leaf s ≡ read x q → refused_by end (expect_token assign_token q) ≡ some f → refused_by end (assigned_reader n s) ≡ some f
unfolding assigned_reader
assigned_second end n s x q f e h =
    rw e (refused_first end (expect_token assign_token q) (λ _ p. and_then (expressions_at any_token n p) (λ t o. read (name_and_expression x t) o)) f (λ z. expr_halts end n (λ t o. read (name_and_expression x t) o)) h)

pub assigned_third : (end : Place) (n : ℕ) (s : List Token) (x : Part) (q : List Token) (z : Part) (p : List Token) (f : Fault) → read_leaf name_leaf s ≡ read x q → expect_token assign_token q ≡ read z p →
    refused_by end (expressions_at any_token n p) ≡ some f → refused_by end (assigned_reader n s) ≡ some f
unfolding assigned_reader
assigned_third end n s x q z p f e i h = rw (e, i) (refused_first end (expressions_at any_token n p) (λ t o. read (name_and_expression x t) o) f (λ t. found_halts end (name_and_expression x t)) h)

pub assigned_found : (n : ℕ) (s : List Token) (x : Part) (q : List Token) (z : Part) (p : List Token) (t : Part) (o : List Token) → read_leaf name_leaf s ≡ read x q → expect_token assign_token q ≡ read z p →
    expressions_at any_token n p ≡ read t o → assigned_reader n s ≡ read (name_and_expression x t) o
unfolding assigned_reader
assigned_found n s x q z p t o e i h = rw (e, i, h)

-- what stands in brackets
pub inside_halts : (end : Place) (n : ℕ) (u : Unary) (g : Part → List Token → Outcome) → Halts end (λ s. and_then (inside_reader n (argument_of (unary_of u)) s) g)
unfolding inside_reader assigned_reader read_leaf expressions_at read_expression read_level factors_at refused_by
inside_halts end n unary.Project g c p q = refl
inside_halts end n unary.Rename g c p q = refl
inside_halts end n unary.Select g c p q = refl
inside_halts end n unary.Exists g c p q = refl
inside_halts end n unary.All g c p q = refl
inside_halts end n unary.Update g c p q = refl
inside_halts end n unary.Extend g c p q = refl

pub extend_first : (end : Place) (n : ℕ) (s : List Token) (f : Fault) → refused_by end (read_leaf type_leaf s) ≡ some f → refused_by end (inside_reader n extend_argument s) ≡ some f
unfolding inside_reader
extend_first end n s f h =
    refused_first end (read_leaf type_leaf s) (λ y r. and_then (assigned_reader n r) (λ v o. read (type_name_and_expression y v v) o)) f (λ y. assigned_halts end n (λ v o. read (type_name_and_expression y v v) o)) h

pub extend_second : (end : Place) (n : ℕ) (s : List Token) (y : Part) (r : List Token) (f : Fault) → read_leaf type_leaf s ≡ read y r → refused_by end (assigned_reader n r) ≡ some f → refused_by end (inside_reader n extend_argument s) ≡ some f
unfolding inside_reader
extend_second end n s y r f e h = rw e (refused_first end (assigned_reader n r) (λ v o. read (type_name_and_expression y v v) o) f (λ v. found_halts end (type_name_and_expression y v v)) h)

pub extend_found : (n : ℕ) (s : List Token) (y : Part) (r : List Token) (v : Part) (o : List Token) → read_leaf type_leaf s ≡ read y r → assigned_reader n r ≡ read v o → inside_reader n extend_argument s ≡ read (type_name_and_expression y v v) o
unfolding inside_reader
extend_found n s y r v o e h = rw (e, h)

-- an operator with brackets
pub unary_halts : (end : Place) (u : Applied) (n : ℕ) (p : Place) → Halts end (unary_behind u n p)
unfolding unary_behind
unary_halts end u n p = expect_halts end left_bracket (λ _ r. and_then (inside_reader n (argument_of u) r) (λ x q. and_then (expect_token right_bracket q) (λ _ o. and_then (factors_at any_token n o) (λ t i. read (apply u p x t) i)))) (omega arith)

pub unary_first : (end : Place) (u : Unary) (n : ℕ) (p : Place) (s : List Token) (f : Fault) → refused_by end (expect_token left_bracket s) ≡ some f → refused_by end (unary_behind (unary_of u) n p s) ≡ some f
unfolding unary_behind
unary_first end u n p s f h =
    refused_first end (expect_token left_bracket s) (λ _ r. and_then (inside_reader n (argument_of (unary_of u)) r) (λ x q. and_then (expect_token right_bracket q) (λ _ o. and_then (factors_at any_token n o) (λ t i. read (apply (unary_of u) p x t) i)))) f
    (λ z. inside_halts end n u (λ x q. and_then (expect_token right_bracket q) (λ _ o. and_then (factors_at any_token n o) (λ t i. read (apply (unary_of u) p x t) i)))) h

pub unary_second : (end : Place) (u : Applied) (n : ℕ) (p : Place) (s : List Token) (z : Part) (r : List Token) (f : Fault) → expect_token left_bracket s ≡ read z r → refused_by end (inside_reader n (argument_of u) r) ≡ some f → refused_by end (unary_behind u n p s) ≡ some f
unfolding unary_behind
unary_second end u n p s z r f e h =
    rw e (refused_first end (inside_reader n (argument_of u) r) (λ x q. and_then (expect_token right_bracket q) (λ _ o. and_then (factors_at any_token n o) (λ t i. read (apply u p x t) i))) f
    (λ x. expect_halts end right_bracket (λ _ o. and_then (factors_at any_token n o) (λ t i. read (apply u p x t) i)) (omega arith)) h)

pub unary_third : (end : Place) (u : Applied) (n : ℕ) (p : Place) (s : List Token) (z : Part) (r : List Token) (x : Part) (q : List Token) (f : Fault) → expect_token left_bracket s ≡ read z r → inside_reader n (argument_of u) r ≡ read x q →
    refused_by end (expect_token right_bracket q) ≡ some f → refused_by end (unary_behind u n p s) ≡ some f
unfolding unary_behind
unary_third end u n p s z r x q f e i h =
    rw (e, i) (refused_first end (expect_token right_bracket q) (λ _ o. and_then (factors_at any_token n o) (λ t i. read (apply u p x t) i)) f (λ y. factor_halts end n (λ t i. read (apply u p x t) i)) h)

pub unary_fourth : (end : Place) (u : Applied) (n : ℕ) (p : Place) (s : List Token) (z : Part) (r : List Token) (x : Part) (q : List Token) (y : Part) (o : List Token) (f : Fault) → expect_token left_bracket s ≡ read z r → inside_reader n (argument_of u) r ≡ read x q →
    expect_token right_bracket q ≡ read y o → refused_by end (factors_at any_token n o) ≡ some f → refused_by end (unary_behind u n p s) ≡ some f
unfolding unary_behind
unary_fourth end u n p s z r x q y o f e i j h = rw (e, i, j) (refused_first end (factors_at any_token n o) (λ t i. read (apply u p x t) i) f (λ t. found_halts end (apply u p x t)) h)

pub unary_found : (u : Applied) (n : ℕ) (p : Place) (s : List Token) (z : Part) (r : List Token) (x : Part) (q : List Token) (y : Part) (o : List Token) (t : Part) (i : List Token) → expect_token left_bracket s ≡ read z r → inside_reader n (argument_of u) r ≡ read x q →
    expect_token right_bracket q ≡ read y o → factors_at any_token n o ≡ read t i → unary_behind u n p s ≡ read (apply u p x t) i
unfolding unary_behind
unary_found u n p s z r x q y o t i e j k h = rw (e, j, k, h)

then_same : (x : Outcome) (g h : Part → List Token → Outcome) → ((t : Part) (r : List Token) → g t r ≡ h t r) → and_then x g ≡ and_then x h
then_same (read t r) g h e = e t r
then_same (refused_at c r) g h e = refl

-- what a level does at a token
unfoldable pub sort_of : Operator → Sort
sort_of (operator.Logic o) = logic_operator o
sort_of (operator.Comparison o) = comparison_operator o
sort_of (operator.Sum o) = sum_operator o
sort_of (operator.Product o) = product_operator o

move_of : Turn → Move
move_of turn.Stop = stop
move_of turn.Join = take_join
move_of (turn.Take o) = take_operator (sort_of o)

turn_is : (l : Rank) (t : Terminal) (p : Place) → turn_at (level_of l) (t at p) ≡ move_of (turn_in l (Some t))
unfolding move_of sort_of
turn_is rank.Logic (word Program) p = refl
turn_is rank.Logic (word End) p = refl
turn_is rank.Logic (word Table) p = refl
turn_is rank.Logic (word If) p = refl
turn_is rank.Logic (word Then) p = refl
turn_is rank.Logic (word Else) p = refl
turn_is rank.Logic (word While) p = refl
turn_is rank.Logic (word Do) p = refl
turn_is rank.Logic (word Read) p = refl
turn_is rank.Logic (word Write) p = refl
turn_is rank.Logic (word Join) p = refl
turn_is rank.Logic (word Not) p = refl
turn_is rank.Logic (word Project) p = refl
turn_is rank.Logic (word Select) p = refl
turn_is rank.Logic (word Exists) p = refl
turn_is rank.Logic (word All) p = refl
turn_is rank.Logic (word Update) p = refl
turn_is rank.Logic (word Extend) p = refl
turn_is rank.Logic (word Rename) p = refl
turn_is rank.Logic (sign LeftParenthesis) p = refl
turn_is rank.Logic (sign RightParenthesis) p = refl
turn_is rank.Logic (sign LeftBracket) p = refl
turn_is rank.Logic (sign RightBracket) p = refl
turn_is rank.Logic (sign LeftBrace) p = refl
turn_is rank.Logic (sign RightBrace) p = refl
turn_is rank.Logic (sign Semicolon) p = refl
turn_is rank.Logic (sign Comma) p = refl
turn_is rank.Logic (sign Assign) p = refl
turn_is rank.Logic (domain d) p = refl
turn_is rank.Logic (logic o) p = refl
turn_is rank.Logic (comparison o) p = refl
turn_is rank.Logic (product o) p = refl
turn_is rank.Logic (truth b) p = refl
turn_is rank.Logic (integer x) p = refl
turn_is rank.Logic (string x) p = refl
turn_is rank.Logic (name x) p = refl
turn_is rank.Logic (broken r) p = refl
turn_is rank.Logic (sum Plus) p = refl
turn_is rank.Logic (sum Minus) p = refl
turn_is rank.Comparison (word Program) p = refl
turn_is rank.Comparison (word End) p = refl
turn_is rank.Comparison (word Table) p = refl
turn_is rank.Comparison (word If) p = refl
turn_is rank.Comparison (word Then) p = refl
turn_is rank.Comparison (word Else) p = refl
turn_is rank.Comparison (word While) p = refl
turn_is rank.Comparison (word Do) p = refl
turn_is rank.Comparison (word Read) p = refl
turn_is rank.Comparison (word Write) p = refl
turn_is rank.Comparison (word Join) p = refl
turn_is rank.Comparison (word Not) p = refl
turn_is rank.Comparison (word Project) p = refl
turn_is rank.Comparison (word Select) p = refl
turn_is rank.Comparison (word Exists) p = refl
turn_is rank.Comparison (word All) p = refl
turn_is rank.Comparison (word Update) p = refl
turn_is rank.Comparison (word Extend) p = refl
turn_is rank.Comparison (word Rename) p = refl
turn_is rank.Comparison (sign LeftParenthesis) p = refl
turn_is rank.Comparison (sign RightParenthesis) p = refl
turn_is rank.Comparison (sign LeftBracket) p = refl
turn_is rank.Comparison (sign RightBracket) p = refl
turn_is rank.Comparison (sign LeftBrace) p = refl
turn_is rank.Comparison (sign RightBrace) p = refl
turn_is rank.Comparison (sign Semicolon) p = refl
turn_is rank.Comparison (sign Comma) p = refl
turn_is rank.Comparison (sign Assign) p = refl
turn_is rank.Comparison (domain d) p = refl
turn_is rank.Comparison (logic o) p = refl
turn_is rank.Comparison (comparison o) p = refl
turn_is rank.Comparison (product o) p = refl
turn_is rank.Comparison (truth b) p = refl
turn_is rank.Comparison (integer x) p = refl
turn_is rank.Comparison (string x) p = refl
turn_is rank.Comparison (name x) p = refl
turn_is rank.Comparison (broken r) p = refl
turn_is rank.Comparison (sum Plus) p = refl
turn_is rank.Comparison (sum Minus) p = refl
turn_is rank.Compared (word Program) p = refl
turn_is rank.Compared (word End) p = refl
turn_is rank.Compared (word Table) p = refl
turn_is rank.Compared (word If) p = refl
turn_is rank.Compared (word Then) p = refl
turn_is rank.Compared (word Else) p = refl
turn_is rank.Compared (word While) p = refl
turn_is rank.Compared (word Do) p = refl
turn_is rank.Compared (word Read) p = refl
turn_is rank.Compared (word Write) p = refl
turn_is rank.Compared (word Join) p = refl
turn_is rank.Compared (word Not) p = refl
turn_is rank.Compared (word Project) p = refl
turn_is rank.Compared (word Select) p = refl
turn_is rank.Compared (word Exists) p = refl
turn_is rank.Compared (word All) p = refl
turn_is rank.Compared (word Update) p = refl
turn_is rank.Compared (word Extend) p = refl
turn_is rank.Compared (word Rename) p = refl
turn_is rank.Compared (sign LeftParenthesis) p = refl
turn_is rank.Compared (sign RightParenthesis) p = refl
turn_is rank.Compared (sign LeftBracket) p = refl
turn_is rank.Compared (sign RightBracket) p = refl
turn_is rank.Compared (sign LeftBrace) p = refl
turn_is rank.Compared (sign RightBrace) p = refl
turn_is rank.Compared (sign Semicolon) p = refl
turn_is rank.Compared (sign Comma) p = refl
turn_is rank.Compared (sign Assign) p = refl
turn_is rank.Compared (domain d) p = refl
turn_is rank.Compared (logic o) p = refl
turn_is rank.Compared (comparison o) p = refl
turn_is rank.Compared (product o) p = refl
turn_is rank.Compared (truth b) p = refl
turn_is rank.Compared (integer x) p = refl
turn_is rank.Compared (string x) p = refl
turn_is rank.Compared (name x) p = refl
turn_is rank.Compared (broken r) p = refl
turn_is rank.Compared (sum Plus) p = refl
turn_is rank.Compared (sum Minus) p = refl
turn_is rank.Sum (word Program) p = refl
turn_is rank.Sum (word End) p = refl
turn_is rank.Sum (word Table) p = refl
turn_is rank.Sum (word If) p = refl
turn_is rank.Sum (word Then) p = refl
turn_is rank.Sum (word Else) p = refl
turn_is rank.Sum (word While) p = refl
turn_is rank.Sum (word Do) p = refl
turn_is rank.Sum (word Read) p = refl
turn_is rank.Sum (word Write) p = refl
turn_is rank.Sum (word Join) p = refl
turn_is rank.Sum (word Not) p = refl
turn_is rank.Sum (word Project) p = refl
turn_is rank.Sum (word Select) p = refl
turn_is rank.Sum (word Exists) p = refl
turn_is rank.Sum (word All) p = refl
turn_is rank.Sum (word Update) p = refl
turn_is rank.Sum (word Extend) p = refl
turn_is rank.Sum (word Rename) p = refl
turn_is rank.Sum (sign LeftParenthesis) p = refl
turn_is rank.Sum (sign RightParenthesis) p = refl
turn_is rank.Sum (sign LeftBracket) p = refl
turn_is rank.Sum (sign RightBracket) p = refl
turn_is rank.Sum (sign LeftBrace) p = refl
turn_is rank.Sum (sign RightBrace) p = refl
turn_is rank.Sum (sign Semicolon) p = refl
turn_is rank.Sum (sign Comma) p = refl
turn_is rank.Sum (sign Assign) p = refl
turn_is rank.Sum (domain d) p = refl
turn_is rank.Sum (logic o) p = refl
turn_is rank.Sum (comparison o) p = refl
turn_is rank.Sum (product o) p = refl
turn_is rank.Sum (truth b) p = refl
turn_is rank.Sum (integer x) p = refl
turn_is rank.Sum (string x) p = refl
turn_is rank.Sum (name x) p = refl
turn_is rank.Sum (broken r) p = refl
turn_is rank.Sum (sum Plus) p = refl
turn_is rank.Sum (sum Minus) p = refl
turn_is rank.Product (word Program) p = refl
turn_is rank.Product (word End) p = refl
turn_is rank.Product (word Table) p = refl
turn_is rank.Product (word If) p = refl
turn_is rank.Product (word Then) p = refl
turn_is rank.Product (word Else) p = refl
turn_is rank.Product (word While) p = refl
turn_is rank.Product (word Do) p = refl
turn_is rank.Product (word Read) p = refl
turn_is rank.Product (word Write) p = refl
turn_is rank.Product (word Join) p = refl
turn_is rank.Product (word Not) p = refl
turn_is rank.Product (word Project) p = refl
turn_is rank.Product (word Select) p = refl
turn_is rank.Product (word Exists) p = refl
turn_is rank.Product (word All) p = refl
turn_is rank.Product (word Update) p = refl
turn_is rank.Product (word Extend) p = refl
turn_is rank.Product (word Rename) p = refl
turn_is rank.Product (sign LeftParenthesis) p = refl
turn_is rank.Product (sign RightParenthesis) p = refl
turn_is rank.Product (sign LeftBracket) p = refl
turn_is rank.Product (sign RightBracket) p = refl
turn_is rank.Product (sign LeftBrace) p = refl
turn_is rank.Product (sign RightBrace) p = refl
turn_is rank.Product (sign Semicolon) p = refl
turn_is rank.Product (sign Comma) p = refl
turn_is rank.Product (sign Assign) p = refl
turn_is rank.Product (domain d) p = refl
turn_is rank.Product (logic o) p = refl
turn_is rank.Product (comparison o) p = refl
turn_is rank.Product (product o) p = refl
turn_is rank.Product (truth b) p = refl
turn_is rank.Product (integer x) p = refl
turn_is rank.Product (string x) p = refl
turn_is rank.Product (name x) p = refl
turn_is rank.Product (broken r) p = refl
turn_is rank.Product (sum Plus) p = refl
turn_is rank.Product (sum Minus) p = refl

operand_shorter : (n : ℕ) (l : Rank) → Shorter (operand_reader n l)
operand_shorter n rank.Logic = comparison_shorter n
operand_shorter n rank.Comparison = sum_shorter n
operand_shorter n rank.Compared = sum_shorter n
operand_shorter n rank.Sum = product_shorter n
operand_shorter n rank.Product = factor_shorter n

-- what follows an operand, by the code's level
abbrev pub onward : ℕ → Rank → Part → Reader
onward n l t s = rest (operand_reader n l) (brackets_at any_token n) (level_of l) t s

at_turn : (n : ℕ) (l : Rank) (t : Part) (k : Terminal) (p : Place) (s : List Token) (x : Turn) → x ≡ turn_in l (Some k) →
    onward n l t ((k at p) ∷ s) ≡ take_turn (λ m t s. rest (operand_reader n l) (brackets_at any_token n) m t s) (operand_reader n l) (brackets_at any_token n) (move_of x) (level_of l) t (k at p) s
at_turn n l t k p s x e =
    rest_cons (operand_reader n l) (brackets_at any_token n) (operand_shorter n l) (bracket_shorter n) (level_of l) t (k at p) s ∙
    ap (λ m. take_turn (λ l2 t s. rest (operand_reader n l) (brackets_at any_token n) l2 t s) (operand_reader n l) (brackets_at any_token n) m (level_of l) t (k at p) s) (turn_is l k p ∙ ap move_of (sym e))

next_level : (n : ℕ) (l : Rank) (t : Part) (s : List Token) → rest (operand_reader n l) (brackets_at any_token n) (level_after (level_of l)) t s ≡ onward n (level_behind l) t s
next_level n rank.Logic t s = refl
next_level n rank.Comparison t s = refl
next_level n rank.Compared t s = refl
next_level n rank.Sum t s = refl
next_level n rank.Product t s = refl

pub more_stops : (n : ℕ) (l : Rank) (t : Part) (k : Option Terminal) (p : Place) (s : List Token) → turn.Stop ≡ turn_in l k → onward n l t (before k p s) ≡ read t (before k p s)
unfolding move_of
more_stops n l t None p s e = rest_nil (operand_reader n l) (brackets_at any_token n) (level_of l) t
more_stops n l t (Some k) p s e = at_turn n l t k p s turn.Stop e

no_turn : (l : Rank) → turn_in l None ≡ turn.Stop
no_turn rank.Logic = refl
no_turn rank.Comparison = refl
no_turn rank.Compared = refl
no_turn rank.Sum = refl
no_turn rank.Product = refl

pub more_halts : (end : Place) (n : ℕ) (l : Rank) (t : Part) → Halts end (onward n l t)
unfolding refused_by
more_halts end n l t c p q = ap (refused_by end) (more_stops n l t (Some (broken c)) p q (broken_stops l))
  where
    broken_stops : (l : Rank) → turn.Stop ≡ turn_in l (Some (broken c))
    broken_stops rank.Logic = refl
    broken_stops rank.Comparison = refl
    broken_stops rank.Compared = refl
    broken_stops rank.Sum = refl
    broken_stops rank.Product = refl

pub more_takes : (n : ℕ) (l : Rank) (o : Operator) (t : Part) (k : Option Terminal) (p : Place) (s : List Token) → turn.Take o ≡ turn_in l k →
    onward n l t (before k p s) ≡ and_then (operand_reader n l s) (λ u r. onward n (level_behind l) (combine (sort_of o) p t u) r)
unfolding move_of
more_takes n l o t None p s e = absurd (let z = e ∙ no_turn l in let y : ◌≡◌ {A = ℕ} 0 1 = cc in omega arith)
more_takes n l o t (Some k) p s e = at_turn n l t k p s (turn.Take o) e ∙ then_same (operand_reader n l s) _ _ (λ u r. next_level n l (combine (sort_of o) p t u) r)

pub more_joins : (n : ℕ) (l : Rank) (t : Part) (k : Option Terminal) (p : Place) (s : List Token) → turn.Join ≡ turn_in l k →
    onward n l t (before k p s) ≡ and_then (brackets_at any_token n s) (λ x r. and_then (operand_reader n l r) (λ u q. onward n (level_behind l) (join_parts p t x u) q))
unfolding move_of
more_joins n l t None p s e = absurd (let z = e ∙ no_turn l in let y : ◌≡◌ {A = ℕ} 0 1 = cc in omega arith)
more_joins n l t (Some k) p s e =
    at_turn n l t k p s turn.Join e ∙ then_same (brackets_at any_token n s) _ _ (λ x r. then_same (operand_reader n l r) _ _ (λ u q. next_level n l (join_parts p t x u) q))

-- a level by its first operand
pub level_first : (end : Place) (n : ℕ) (l : Rank) (s : List Token) (f : Fault) → refused_by end (operand_reader n l s) ≡ some f → refused_by end (level_reader n l s) ≡ some f
level_first end n l s f h =
    ap (refused_by end) (level_is (operand_reader n l) (brackets_at any_token n) (level_of l) s) ∙ refused_first end (operand_reader n l s) (λ t r. onward n l t r) f (λ t. more_halts end n l t) h

pub level_found : (n : ℕ) (l : Rank) (s : List Token) (t : Part) (r : List Token) → operand_reader n l s ≡ read t r → level_reader n l s ≡ onward n l t r
level_found n l s t r e = level_is (operand_reader n l) (brackets_at any_token n) (level_of l) s ∙ ap (λ x. and_then x (λ t r. onward n l t r)) e

pub expression_is : (n : ℕ) (s : List Token) → expressions_at any_token n s ≡ level_reader n rank.Logic s
unfolding expressions_at read_expression
expression_is n s = refl

-- an operator and its right operand
pub take_halts : (end : Place) (n : ℕ) (l : Rank) (o : Operator) (t : Part) (k : Option Terminal) (p : Place) (s : List Token) (f : Fault) → turn.Take o ≡ turn_in l k → broken_in s ≡ some f → refused_by end (onward n l t (before k p s)) ≡ some f
take_halts end n l o t k p s f e h =
    ap (refused_by end) (more_takes n l o t k p s e) ∙
    refused_ahead end (λ s. and_then (operand_reader n l s) (λ u r. onward n (level_behind l) (combine (sort_of o) p t u) r)) s f (operand_halts end n l (λ u r. onward n (level_behind l) (combine (sort_of o) p t u) r)) h

pub take_first : (end : Place) (n : ℕ) (l : Rank) (o : Operator) (t : Part) (k : Option Terminal) (p : Place) (s : List Token) (f : Fault) → turn.Take o ≡ turn_in l k → refused_by end (operand_reader n l s) ≡ some f → refused_by end (onward n l t (before k p s)) ≡ some f
take_first end n l o t k p s f e h =
    ap (refused_by end) (more_takes n l o t k p s e) ∙ refused_first end (operand_reader n l s) (λ u r. onward n (level_behind l) (combine (sort_of o) p t u) r) f (λ u. more_halts end n (level_behind l) (combine (sort_of o) p t u)) h

pub take_found : (n : ℕ) (l : Rank) (o : Operator) (t : Part) (k : Option Terminal) (p : Place) (s : List Token) (u : Part) (r : List Token) → turn.Take o ≡ turn_in l k → operand_reader n l s ≡ read u r →
    onward n l t (before k p s) ≡ onward n (level_behind l) (combine (sort_of o) p t u) r
take_found n l o t k p s u r e h = more_takes n l o t k p s e ∙ ap (λ x. and_then x (λ u r. onward n (level_behind l) (combine (sort_of o) p t u) r)) h

-- a join's bracket and its right operand
pub join_halts : (end : Place) (n : ℕ) (l : Rank) (t : Part) (k : Option Terminal) (p : Place) (s : List Token) (f : Fault) → turn.Join ≡ turn_in l k → broken_in s ≡ some f → refused_by end (onward n l t (before k p s)) ≡ some f
join_halts end n l t k p s f e h =
    ap (refused_by end) (more_joins n l t k p s e) ∙
    refused_ahead end (λ s. and_then (brackets_at any_token n s) (λ x r. and_then (operand_reader n l r) (λ u q. onward n (level_behind l) (join_parts p t x u) q))) s f
    (bracket_halts end n (λ x r. and_then (operand_reader n l r) (λ u q. onward n (level_behind l) (join_parts p t x u) q))) h

pub join_first : (end : Place) (n : ℕ) (l : Rank) (t : Part) (k : Option Terminal) (p : Place) (s : List Token) (f : Fault) → turn.Join ≡ turn_in l k → refused_by end (brackets_at any_token n s) ≡ some f → refused_by end (onward n l t (before k p s)) ≡ some f
join_first end n l t k p s f e h =
    ap (refused_by end) (more_joins n l t k p s e) ∙
    refused_first end (brackets_at any_token n s) (λ x r. and_then (operand_reader n l r) (λ u q. onward n (level_behind l) (join_parts p t x u) q)) f (λ x. operand_halts end n l (λ u q. onward n (level_behind l) (join_parts p t x u) q)) h

pub join_second : (end : Place) (n : ℕ) (l : Rank) (t : Part) (k : Option Terminal) (p : Place) (s : List Token) (x : Part) (r : List Token) (f : Fault) → turn.Join ≡ turn_in l k → brackets_at any_token n s ≡ read x r → refused_by end (operand_reader n l r) ≡ some f →
    refused_by end (onward n l t (before k p s)) ≡ some f
join_second end n l t k p s x r f e i h =
    ap (refused_by end) (more_joins n l t k p s e ∙ ap (λ y. and_then y (λ x r. and_then (operand_reader n l r) (λ u q. onward n (level_behind l) (join_parts p t x u) q))) i) ∙
    refused_first end (operand_reader n l r) (λ u q. onward n (level_behind l) (join_parts p t x u) q) f (λ u. more_halts end n (level_behind l) (join_parts p t x u)) h

pub join_found : (n : ℕ) (l : Rank) (t : Part) (k : Option Terminal) (p : Place) (s : List Token) (x : Part) (r : List Token) (u : Part) (q : List Token) → turn.Join ≡ turn_in l k → brackets_at any_token n s ≡ read x r → operand_reader n l r ≡ read u q →
    onward n l t (before k p s) ≡ onward n (level_behind l) (join_parts p t x u) q
join_found n l t k p s x r u q e i h =
    more_joins n l t k p s e ∙ ap (λ y. and_then y (λ x r. and_then (operand_reader n l r) (λ u q. onward n (level_behind l) (join_parts p t x u) q))) i ∙ ap (λ y. and_then y (λ u q. onward n (level_behind l) (join_parts p t x u) q)) h

pub turn_pays : (l : Rank) (k : Option Terminal) (x : Turn) → x ≡ turn_in l k → (x ≡ turn.Stop → ⊥) → 0 < pays_ahead k
turn_pays l None x e h = absurd (h (e ∙ no_turn l))
turn_pays l (Some t) x e h = let z = pays_some t in omega (arith, z)
