-- The grammar as readers: each takes tokens and finds a part and the tokens after it, or refuses at the first token that does not fit.
use Rattle.std.specs.Prelude.{ℕ, zero, suc, ◌≤◌, List, [], ◌∷◌, Bool, true, false, ◌≡◌, length}
use Rattle.std.proofs.Math.Option.{Option, none, some}
use Rattle.words.specs.Tokens.{Token, Place}
use Rattle.grammar.specs.Parts.{Part, Level, Turn, Leaf, Argument, FactorStart, StatementStart, turn_at, level_after, leaf_of, argument_of, factor_start}
use Rattle.grammar.specs.Parts.{statement_start, same_as, program_token, end_token, then_token, else_token, do_token, left_parenthesis, right_parenthesis}
use Rattle.grammar.specs.Parts.{left_bracket, right_bracket, right_brace, assign_token, place_of, nothing, place_part, at_token, close_part, name_and_expression}
use Rattle.grammar.specs.Parts.{type_name_and_expression, combine, join_parts, apply, table_constant, tuple_constant, attribute_declaration, assignment, definition}
use Rattle.grammar.specs.Parts.{while_statement, if_statement, if_else_statement, input_statement, output_statement, Level.statement_level, Level.name_level}
use Rattle.grammar.specs.Parts.{Level.type_level, Level.constant_level, Level.attribute_level, Level.tuple_level, Level.logic_level, Level.comparison_level}
use Rattle.grammar.specs.Parts.{Level.sum_level, Level.product_level, Level.compared_level, Turn.stop, Turn.take_join, Turn.take_operator, Leaf.name_leaf}
use Rattle.grammar.specs.Parts.{Leaf.type_leaf, Leaf.constant_leaf, Argument.no_argument, Argument.names_argument, Argument.condition_argument}
use Rattle.grammar.specs.Parts.{Argument.update_argument, Argument.extend_argument, FactorStart.leaf, FactorStart.unary, FactorStart.parenthesis}
use Rattle.grammar.specs.Parts.{FactorStart.brace, FactorStart.no_factor, StatementStart.assigning, StatementStart.defining, StatementStart.defining_table}
use Rattle.grammar.specs.Parts.{StatementStart.deciding, StatementStart.looping, StatementStart.reading, StatementStart.writing}
use Rattle.grammar.specs.Parts.{StatementStart.no_statement_here}
use Rattle.grammar.specs.Tree.{VariableType.of_domain, VariableType.of_table}
use Rattle.fault.specs.declared.rules.Rule.{Rule}
use Rattle.fault.specs.declared.rules.Rule.TheVariants.{CannotFollow, TooDeep}
use Rattle.grammar.specs.Grammar.{Leave}
use Rattle.grammar.specs.Promise.{refusal}

-- why a token is refused: no program goes on with it, or it opens a depth too many
pub data Cause : Type 0 where
  cannot_follow too_deep : Cause

pub data Outcome : Type 0 where
  found : Part → List Token → Outcome
  refused_at : Cause → List Token → Outcome

abbrev pub Reader : Type 0
Reader = List Token → Outcome

abbrev pub and_then : Outcome → (Part → List Token → Outcome) → Outcome
and_then (found t r) f = f t r
and_then (refused_at c r) f = refused_at c r

-- one token that has to be w
abbrev pub expect_if : Bool → Token → List Token → Outcome
expect_if true k s = found (place_part (place_of k)) s
expect_if false k s = refused_at cannot_follow (k ∷ s)

unfoldable pub expect_token : Token → Reader
expect_token w [] = refused_at cannot_follow []
expect_token w (k ∷ s) = expect_if (same_as w k) k s

abbrev pub leaf_if : Option Part → Token → List Token → Outcome
leaf_if (some t) k s = found t s
leaf_if none k s = refused_at cannot_follow (k ∷ s)

unfoldable pub read_leaf : Leaf → Reader
read_leaf f [] = refused_at cannot_follow []
read_leaf f (k ∷ s) = leaf_if (leaf_of f k) k s

abbrev pub begins_with : Token → List Token → Bool
begins_with w [] = false
begins_with w (k ∷ s) = same_as w k

-- items f with operators of one level between them, gathered to the left; b reads a join's bracket; the number bounds the turns
abbrev pub take_turn : (Level → Part → List Token → Outcome) → Reader → Reader → Turn → Level → Part → Token → List Token → Outcome
take_turn go f b stop l t k s = found t (k ∷ s)
take_turn go f b (take_operator o) l t k s = and_then (f s) (λ u r. go (level_after l) (combine o (place_of k) t u) r)
take_turn go f b take_join l t k s = and_then (b s) (λ x r. and_then (f r) (λ u q. go (level_after l) (join_parts (place_of k) t x u) q))

abbrev pub one_turn : (Level → Part → List Token → Outcome) → Reader → Reader → Level → Part → List Token → Outcome
one_turn go f b l t [] = found t []
one_turn go f b l t (k ∷ s) = take_turn go f b (turn_at l k) l t k s

unfoldable pub take_turns : Reader → Reader → ℕ → Level → Part → List Token → Outcome
take_turns f b zero l t s = found t s
take_turns f b (suc m) l t s = one_turn (take_turns f b m) f b l t s

unfoldable pub read_level : Reader → Reader → Level → Reader
read_level f b l s = and_then (f s) (λ t r. take_turns f b (length r) l t r)

-- what a level reads behind a part that it has, however many turns that takes
unfoldable pub rest : Reader → Reader → Level → Part → Reader
rest f b l t s = take_turns f b (length s) l t s

-- a reader leaves no more tokens than it was given
abbrev pub Shorter : Reader → Type 0
Shorter f = (s : List Token) (t : Part) (r : List Token) → f s ≡ found t r → length r ≤ length s

-- the small parts
unfoldable pub read_attribute : Reader
read_attribute s = and_then (read_leaf type_leaf s) (λ t r. and_then (read_leaf name_leaf r) (λ u q. found (attribute_declaration t u) q))

unfoldable pub read_tuple : Reader → Reader
read_tuple b s = and_then (expect_token left_parenthesis s) (λ z r. and_then (read_level (read_leaf constant_leaf) b constant_level r) (λ t q. and_then (expect_token right_parenthesis q) (λ _ p. found (tuple_constant z t) p)))

-- the item of each level, over parsers of factors, brackets and statements
unfoldable pub read_item : Reader → Reader → Reader → Level → Reader
read_item f b g statement_level = g
read_item f b g name_level = read_leaf name_leaf
read_item f b g type_level = read_leaf type_leaf
read_item f b g constant_level = read_leaf constant_leaf
read_item f b g attribute_level = read_attribute
read_item f b g tuple_level = read_tuple b
read_item f b g product_level = f
read_item f b g sum_level = read_level f b product_level
read_item f b g comparison_level = read_level (read_level f b product_level) b sum_level
read_item f b g compared_level = read_level (read_level f b product_level) b sum_level
read_item f b g logic_level = read_level (read_level (read_level f b product_level) b sum_level) b comparison_level

unfoldable pub read_expression : Reader → Reader → Reader
read_expression f b = read_level (read_level (read_level (read_level f b product_level) b sum_level) b comparison_level) b logic_level

abbrev pub read_instance_if : Reader → Bool → List Token → Outcome
read_instance_if b true s = read_level (read_tuple b) b tuple_level s
read_instance_if b false s = read_level (read_leaf type_leaf) b type_level s

unfoldable pub read_instance : Reader → Reader
read_instance b s = read_instance_if b (begins_with left_parenthesis s) s

-- what stands between a unary operator and its operand, over a parser of expressions and one of brackets
unfoldable pub read_argument : Reader → Reader → Argument → Reader
read_argument e b no_argument s = found nothing s
read_argument e b names_argument s = and_then (expect_token left_bracket s) (λ _ r. and_then (read_level (read_leaf name_leaf) b name_level r) (λ t q. and_then (expect_token right_bracket q) (λ _ p. found t p)))
read_argument e b condition_argument s = and_then (expect_token left_bracket s) (λ _ r. and_then (e r) (λ t q. and_then (expect_token right_bracket q) (λ _ p. found t p)))
read_argument e b update_argument s = and_then (expect_token left_bracket s) (λ _ r. and_then (read_leaf name_leaf r) (λ x q. and_then (expect_token assign_token q) (λ _ p. and_then (e p) (λ t o. and_then (expect_token right_bracket o) (λ _ i. found (name_and_expression x t) i)))))
read_argument e b extend_argument s = and_then (expect_token left_bracket s) (λ _ r. and_then (read_leaf type_leaf r) (λ y q. and_then (read_leaf name_leaf q) (λ x p. and_then (expect_token assign_token p) (λ _ o. and_then (e o) (λ t i. and_then (expect_token right_bracket i) (λ _ j. found (type_name_and_expression y x t) j))))))

-- the parsers of factors and brackets one deeper
pub record Deeper : Type 0 where
  pub factor_reader : Reader
  pub bracket_reader : Reader

abbrev pub Opening : Type 0
Opening = List Token → Option Deeper

abbrev pub open_if : {A : Type 0} → Bool → A → Option A
open_if true g = some g
open_if false g = none

abbrev pub where_opened : {A : Type 0} → Option A → List Token → (A → Outcome) → Outcome
where_opened none r f = refused_at too_deep r
where_opened (some g) r f = f g

unfoldable pub read_bracket : Opening → Reader
read_bracket d s = and_then (expect_token left_bracket s) (λ _ r. where_opened (d s) s (λ i. and_then (read_expression i.factor_reader i.bracket_reader r) (λ t q. and_then (expect_token right_bracket q) (λ _ p. found t p))))

abbrev pub read_factor_if : Reader → Option Deeper → FactorStart → Token → List Token → Outcome
read_factor_if b d (leaf t) k s = found t s
read_factor_if b d no_factor k s = refused_at cannot_follow (k ∷ s)
read_factor_if b d brace k s = and_then (read_instance b s) (λ t r. and_then (expect_token right_brace r) (λ _ q. found (table_constant (place_of k) t) q))
read_factor_if b none (unary o) k s = refused_at too_deep (k ∷ s)
read_factor_if b none parenthesis k s = refused_at too_deep (k ∷ s)
read_factor_if b (some i) (unary o) k s = and_then (read_argument (read_expression i.factor_reader i.bracket_reader) i.bracket_reader (argument_of o) s) (λ x r. and_then (i.factor_reader r) (λ t q. found (apply o (place_of k) x t) q))
read_factor_if b (some i) parenthesis k s = and_then (read_expression i.factor_reader i.bracket_reader s) (λ t r. and_then (expect_token right_parenthesis r) (λ _ q. found t q))

abbrev pub read_factor : Opening → Reader
read_factor d [] = refused_at cannot_follow []
read_factor d (k ∷ s) = read_factor_if (read_bracket d) (d (k ∷ s)) (factor_start k) k s

abbrev pub deeper_readers : Opening → Deeper
deeper_readers d = record { factor_reader = read_factor d; bracket_reader = read_bracket d }

unfoldable pub openings : Leave → ℕ → Opening
openings leave zero = λ _. none
openings leave (suc n) = λ s. open_if (leave n s) (deeper_readers (openings leave n))

unfoldable pub factors_at : Leave → ℕ → Reader
factors_at leave n = read_factor (openings leave n)

unfoldable pub brackets_at : Leave → ℕ → Reader
brackets_at leave n = read_bracket (openings leave n)

unfoldable pub expressions_at : Leave → ℕ → Reader
expressions_at leave n = read_expression (factors_at leave n) (brackets_at leave n)

-- a statement, over the parsers of expressions and brackets, and that of the statements one deeper
abbrev pub StatementOpening : Type 0
StatementOpening = List Token → Option Deeper

abbrev pub read_else_if : Reader → Reader → Part → Part → Bool → Bool → Token → List Token → Outcome
read_else_if b g t u true c k s = found (if_statement t u (place_part (place_of k))) s
read_else_if b g t u false true k s = and_then (read_level g b statement_level s) (λ v r. and_then (expect_token end_token r) (λ y q. found (if_else_statement t u (place_part (place_of k)) v y) q))
read_else_if b g t u false false k s = refused_at cannot_follow (k ∷ s)

unfoldable pub read_else : Reader → Reader → Part → Part → Reader
read_else b g t u [] = refused_at cannot_follow []
read_else b g t u (k ∷ s) = read_else_if b g t u (same_as end_token k) (same_as else_token k) k s

abbrev pub read_then : StatementOpening → Part → Reader
read_then d t r = and_then (expect_token then_token r) (λ _ q. where_opened (d r) r (λ i. and_then (read_level i.factor_reader i.bracket_reader statement_level q) (λ u p. read_else i.bracket_reader i.factor_reader t u p)))

abbrev pub read_do : StatementOpening → Part → Reader
read_do d t r = and_then (expect_token do_token r) (λ _ q. where_opened (d r) r (λ i. and_then (read_level i.factor_reader i.bracket_reader statement_level q) (λ u p. and_then (expect_token end_token p) (λ z o. found (while_statement t u z) o))))

abbrev pub read_read_if : Place → Reader → Bool → List Token → Outcome
read_read_if y b true s = and_then (b s) (λ x r. and_then (read_leaf name_leaf r) (λ t q. found (input_statement y (some x) t) q))
read_read_if y b false s = and_then (read_leaf name_leaf s) (λ t q. found (input_statement y none t) q)

abbrev pub read_write_if : Place → Reader → Reader → Bool → List Token → Outcome
read_write_if y e b true s = and_then (b s) (λ x r. and_then (e r) (λ t q. found (output_statement y (some x) t) q))
read_write_if y e b false s = and_then (e s) (λ t q. found (output_statement y none t) q)

abbrev pub read_statement_if : Reader → Reader → StatementOpening → StatementStart → Token → List Token → Outcome
read_statement_if e b d (assigning x) k s = and_then (expect_token assign_token s) (λ _ r. and_then (e r) (λ t q. found (assignment x t) q))
read_statement_if e b d (defining y) k s = and_then (read_level (read_leaf name_leaf) b name_level s) (λ t r. found (definition (of_domain y) t) r)
read_statement_if e b d defining_table k s = and_then (expect_token left_parenthesis s) (λ _ r. and_then (read_level read_attribute b attribute_level r) (λ t q. and_then (expect_token right_parenthesis q) (λ _ p. and_then (read_level (read_leaf name_leaf) b name_level p) (λ u o. found (definition (of_table t.attributes (place_of k)) u) o))))
read_statement_if e b d deciding k s = and_then (e s) (λ t r. read_then d (at_token k t) r)
read_statement_if e b d looping k s = and_then (e s) (λ t r. read_do d (at_token k t) r)
read_statement_if e b d reading k s = read_read_if (place_of k) b (begins_with left_bracket s) s
read_statement_if e b d writing k s = read_write_if (place_of k) e b (begins_with left_bracket s) s
read_statement_if e b d no_statement_here k s = refused_at cannot_follow (k ∷ s)

abbrev pub read_statement : Reader → Reader → StatementOpening → Reader
read_statement e b d [] = refused_at cannot_follow []
read_statement e b d (k ∷ s) = read_statement_if e b d (statement_start k) k s

-- the parsers of statements and of brackets one deeper
abbrev pub deeper_statements : Reader → Reader → Deeper
deeper_statements g b = record { factor_reader = g; bracket_reader = b }

unfoldable pub statements_at : Leave → ℕ → Reader
statements_at leave zero = read_statement (expressions_at leave zero) (brackets_at leave zero) (λ _. none)
statements_at leave (suc n) = read_statement (expressions_at leave (suc n)) (brackets_at leave (suc n)) (λ s. open_if (leave n s) (deeper_statements (statements_at leave n) (brackets_at leave n)))

unfoldable pub program_at : Leave → ℕ → Reader
program_at leave n s = and_then (expect_token program_token s) (λ _ r. and_then (read_level (statements_at leave n) (brackets_at leave n) statement_level r) (λ t q. and_then (expect_token end_token q) (λ z p. found (close_part t z) p)))

-- the whole text: nothing may follow the program
abbrev pub wholly : Outcome → Outcome
wholly (found t []) = found t []
wholly (found t (k ∷ s)) = refused_at cannot_follow (k ∷ s)
wholly (refused_at c r) = refused_at c r

-- the rule that is broken where the tokens r are left
abbrev pub told : Cause → List Token → Rule
told cannot_follow [] = CannotFollow
told cannot_follow (k ∷ r) = refusal k
told too_deep r = TooDeep
