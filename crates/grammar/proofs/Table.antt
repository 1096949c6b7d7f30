-- The grammar by tables: tokens by views, levels as data, one loop for every list. Equal to specs/Grammar by Same.antt.
use Prim.Native.Nat.{ℕ, suc}
use mathlib.Core.List.{List, ◌∷◌}
use mathlib.Core.Path.{◌≡◌}
use mathlib.Core.Bool.{true}
use mathlib.Core.Option.{none, some}
use Rattle.words.specs.Tokens.{Token}
use Rattle.grammar.specs.Tree.{Name, AtomicType, VariableType.of_domain, VariableType.of_table}
use Rattle.grammar.specs.Grammar.{Leave}
use Rattle.grammar.specs.Parts.{Operator, Unary, Part, Level, Leaf, Argument, turn_at, level_after, leaf_of, argument_of, factor_start, statement_start, same_as}
use Rattle.grammar.specs.Parts.{program_token, end_token, then_token, else_token, do_token, left_parenthesis, right_parenthesis, left_bracket, right_bracket}
use Rattle.grammar.specs.Parts.{right_brace, assign_token, place_of, nothing, place_part, at_token, close_part, name_and_expression, type_name_and_expression, combine}
use Rattle.grammar.specs.Parts.{join_parts, apply, table_constant, tuple_constant, attribute_declaration, assignment, definition, while_statement, if_statement}
use Rattle.grammar.specs.Parts.{if_else_statement, input_statement, output_statement, Level.statement_level, Level.name_level, Level.type_level}
use Rattle.grammar.specs.Parts.{Level.constant_level, Level.attribute_level, Level.tuple_level, Level.logic_level, Level.comparison_level, Level.sum_level}
use Rattle.grammar.specs.Parts.{Level.product_level, Level.compared_level, Turn.take_join, Turn.take_operator, Leaf.name_leaf, Leaf.type_leaf, Leaf.constant_leaf}
use Rattle.grammar.specs.Parts.{Argument.no_argument, Argument.names_argument, Argument.condition_argument, Argument.update_argument, Argument.extend_argument}
use Rattle.grammar.specs.Parts.{FactorStart.leaf, FactorStart.unary, FactorStart.parenthesis, FactorStart.brace, StatementStart.assigning}
use Rattle.grammar.specs.Parts.{StatementStart.defining, StatementStart.defining_table, StatementStart.deciding, StatementStart.looping}
use Rattle.grammar.specs.Parts.{StatementStart.reading, StatementStart.writing}

pub data TableSymbol : Type 0 where
  level : Level → TableSymbol
  more : Level → Part → TableSymbol
  factor bracket inst tuple_n attr stat prog : TableSymbol
  arg : Argument → TableSymbol
  atom : Leaf → TableSymbol
  elses : Part → Part → TableSymbol
  tok : Token → TableSymbol

abbrev pub item_of : Level → TableSymbol
item_of statement_level = stat
item_of name_level = atom name_leaf
item_of type_level = atom type_leaf
item_of constant_level = atom constant_leaf
item_of attribute_level = attr
item_of tuple_level = tuple_n
item_of logic_level = level comparison_level
item_of comparison_level = level sum_level
item_of sum_level = level product_level
item_of product_level = factor
item_of compared_level = level sum_level

-- `Reads may S n s r t`: the tokens s begin with an S, whose tree is t, r are the tokens after it, nothing in it lies more than n deeper than it, and each token that opens a depth may.
pub data Reads (leave : Leave) : TableSymbol → ℕ → List Token → List Token → Part → Type 0 where
  eats : {w k : Token} {n : ℕ} {s : List Token} → same_as w k ≡ true → Reads leave (tok w) n (k ∷ s) s (place_part (place_of k))
  atoms : {f : Leaf} {k : Token} {n : ℕ} {s : List Token} {t : Part} → leaf_of f k ≡ some t → Reads leave (atom f) n (k ∷ s) s t
  first : {l : Level} {n : ℕ} {s r q : List Token} {t u : Part} → Reads leave (item_of l) n s r t → Reads leave (more l t) n r q u → Reads leave (level l) n s q u
  done : {l : Level} {n : ℕ} {s : List Token} {t : Part} → Reads leave (more l t) n s s t
  next : {l : Level} {n : ℕ} {s r q : List Token} {t u v : Part} {k : Token} {o : Operator} → turn_at l k ≡ take_operator o → Reads leave (item_of l) n s r u → Reads leave (more (level_after l) (combine o (place_of k) t u)) n r q v → Reads leave (more l t) n (k ∷ s) q v
  joins : {l : Level} {n : ℕ} {s r q p : List Token} {t x u v : Part} {k : Token} → turn_at l k ≡ take_join → Reads leave bracket n s r x → Reads leave (item_of l) n r q u → Reads leave (more (level_after l) (join_parts (place_of k) t x u)) n q p v → Reads leave (more l t) n (k ∷ s) p v
  brackets : {z1 z2 : Part} {n : ℕ} {s r q p : List Token} {t : Part} → Reads leave (tok left_bracket) n s r z1 → leave n s ≡ true → Reads leave (level logic_level) n r q t → Reads leave (tok right_bracket) n q p z2 → Reads leave bracket (suc n) s p t
  no_arg : {n : ℕ} {s : List Token} → Reads leave (arg no_argument) n s s nothing
  arg_ids : {z1 z2 : Part} {n : ℕ} {s r q p : List Token} {t : Part} → Reads leave (tok left_bracket) n s r z1 → Reads leave (level name_level) n r q t → Reads leave (tok right_bracket) n q p z2 → Reads leave (arg names_argument) n s p t
  arg_expr : {z1 z2 : Part} {n : ℕ} {s r q p : List Token} {t : Part} → Reads leave (tok left_bracket) n s r z1 → Reads leave (level logic_level) n r q t → Reads leave (tok right_bracket) n q p z2 → Reads leave (arg condition_argument) n s p t
  arg_upd : {z1 z2 z3 : Part} {n : ℕ} {s r q p o i : List Token} {x t : Part} → Reads leave (tok left_bracket) n s r z1 → Reads leave (atom name_leaf) n r q x → Reads leave (tok assign_token) n q p z2 → Reads leave (level logic_level) n p o t → Reads leave (tok right_bracket) n o i z3 → Reads leave (arg update_argument) n s i (name_and_expression x t)
  arg_ext : {z1 z2 z3 : Part} {n : ℕ} {s r q p o i j : List Token} {y x t : Part} → Reads leave (tok left_bracket) n s r z1 → Reads leave (atom type_leaf) n r q y → Reads leave (atom name_leaf) n q p x → Reads leave (tok assign_token) n p o z2 → Reads leave (level logic_level) n o i t → Reads leave (tok right_bracket) n i j z3 → Reads leave (arg extend_argument) n s j (type_name_and_expression y x t)
  leafs : {n : ℕ} {s : List Token} {k : Token} {t : Part} → factor_start k ≡ leaf t → Reads leave factor n (k ∷ s) s t
  unaries : {n : ℕ} {s r q : List Token} {k : Token} {o : Unary} {x t : Part} → factor_start k ≡ unary o → leave n (k ∷ s) ≡ true → Reads leave (arg (argument_of o)) n s r x → Reads leave factor n r q t → Reads leave factor (suc n) (k ∷ s) q (apply o (place_of k) x t)
  parens : {z1 : Part} {n : ℕ} {s r q : List Token} {k : Token} {t : Part} → factor_start k ≡ parenthesis → leave n (k ∷ s) ≡ true → Reads leave (level logic_level) n s r t → Reads leave (tok right_parenthesis) n r q z1 → Reads leave factor (suc n) (k ∷ s) q t
  braces : {z1 : Part} {n : ℕ} {s r q : List Token} {k : Token} {t : Part} → factor_start k ≡ brace → Reads leave inst n s r t → Reads leave (tok right_brace) n r q z1 → Reads leave factor n (k ∷ s) q (table_constant (place_of k) t)
  inst_tuples : {n : ℕ} {s r : List Token} {t : Part} → Reads leave (level tuple_level) n s r t → Reads leave inst n s r t
  inst_types : {n : ℕ} {s r : List Token} {t : Part} → Reads leave (level type_level) n s r t → Reads leave inst n s r t
  tuples : {z1 z2 : Part} {n : ℕ} {s r q p : List Token} {t : Part} → Reads leave (tok left_parenthesis) n s r z1 → Reads leave (level constant_level) n r q t → Reads leave (tok right_parenthesis) n q p z2 → Reads leave tuple_n n s p (tuple_constant z1 t)
  attrs : {n : ℕ} {s r q : List Token} {t u : Part} → Reads leave (atom type_leaf) n s r t → Reads leave (atom name_leaf) n r q u → Reads leave attr n s q (attribute_declaration t u)
  assigns : {z1 : Part} {n : ℕ} {s r q : List Token} {k : Token} {x : Name} {t : Part} → statement_start k ≡ assigning x → Reads leave (tok assign_token) n s r z1 → Reads leave (level logic_level) n r q t → Reads leave stat n (k ∷ s) q (assignment x t)
  defines : {n : ℕ} {s r : List Token} {k : Token} {y : AtomicType} {t : Part} → statement_start k ≡ defining y → Reads leave (level name_level) n s r t → Reads leave stat n (k ∷ s) r (definition (of_domain y) t)
  tables : {z1 z2 : Part} {n : ℕ} {s r q p o : List Token} {k : Token} {t u : Part} → statement_start k ≡ defining_table → Reads leave (tok left_parenthesis) n s r z1 → Reads leave (level attribute_level) n r q t → Reads leave (tok right_parenthesis) n q p z2 → Reads leave (level name_level) n p o u → Reads leave stat n (k ∷ s) o (definition (of_table t.attributes (place_of k)) u)
  read1 : {n : ℕ} {s r : List Token} {k : Token} {t : Part} → statement_start k ≡ reading → Reads leave (atom name_leaf) n s r t → Reads leave stat n (k ∷ s) r (input_statement (place_of k) none t)
  read2 : {n : ℕ} {s r q : List Token} {k : Token} {x t : Part} → statement_start k ≡ reading → Reads leave bracket n s r x → Reads leave (atom name_leaf) n r q t → Reads leave stat n (k ∷ s) q (input_statement (place_of k) (some x) t)
  write1 : {n : ℕ} {s r : List Token} {k : Token} {t : Part} → statement_start k ≡ writing → Reads leave (level logic_level) n s r t → Reads leave stat n (k ∷ s) r (output_statement (place_of k) none t)
  write2 : {n : ℕ} {s r q : List Token} {k : Token} {x t : Part} → statement_start k ≡ writing → Reads leave bracket n s r x → Reads leave (level logic_level) n r q t → Reads leave stat n (k ∷ s) q (output_statement (place_of k) (some x) t)
  whilst : {z1 z2 : Part} {n : ℕ} {s r q p o : List Token} {k : Token} {t u : Part} → statement_start k ≡ looping → Reads leave (level logic_level) (suc n) s r t → Reads leave (tok do_token) n r q z1 → leave n r ≡ true → Reads leave (level statement_level) n q p u → Reads leave (tok end_token) n p o z2 → Reads leave stat (suc n) (k ∷ s) o (while_statement (at_token k t) u z2)
  conds : {z1 : Part} {n : ℕ} {s r q p o : List Token} {k : Token} {t u v : Part} → statement_start k ≡ deciding → Reads leave (level logic_level) (suc n) s r t → Reads leave (tok then_token) n r q z1 → leave n r ≡ true → Reads leave (level statement_level) n q p u → Reads leave (elses (at_token k t) u) n p o v → Reads leave stat (suc n) (k ∷ s) o v
  ends : {z1 : Part} {n : ℕ} {s r : List Token} {t u : Part} → Reads leave (tok end_token) n s r z1 → Reads leave (elses t u) n s r (if_statement t u z1)
  other : {z1 z2 : Part} {n : ℕ} {s r q p : List Token} {t u v : Part} → Reads leave (tok else_token) n s r z1 → Reads leave (level statement_level) n r q v → Reads leave (tok end_token) n q p z2 → Reads leave (elses t u) n s p (if_else_statement t u z1 v z2)
  whole : {z1 z2 : Part} {n : ℕ} {s r q p : List Token} {t : Part} → Reads leave (tok program_token) n s r z1 → Reads leave (level statement_level) n r q t → Reads leave (tok end_token) n q p z2 → Reads leave prog n s p (close_part t z2)
