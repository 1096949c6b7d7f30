-- The grammar that a reader sees and the one by tables read the same: `forth` and `back`.
use Prim.Native.Nat.{ℕ, suc, ◌<◌}
use native.Mathlib.Omega.{arith}
use mathlib.Core.List.{List, [], ◌∷◌, ◌++◌, append_assoc, append-nil}
use mathlib.Core.Path.{◌≡◌, refl, sym, subst, ap, ◌∙◌}
use mathlib.Core.Bool.{Bool, true}
use mathlib.Core.Option.{Option, none, some}
use mathlib.Core.Logic.{◌⊎◌, inl, inr}
use lib.IntN.{pos}
use Rattle.words.specs.Numbers.{value_of}
use Rattle.words.specs.Tokens.{Place, Bytes, Terminal, Token, Token.◌at◌, Terminal.word, Terminal.sign, Terminal.domain, Terminal.logic, Terminal.comparison}
use Rattle.words.specs.Tokens.{Terminal.sum, Terminal.product, Terminal.truth, Terminal.integer, Terminal.string, Terminal.name, Terminal.broken}
use Rattle.domain.specs.declared.Domain.{Domain}
use Rattle.words.specs.declared.tokens.Logic.{Logic}
use Rattle.words.specs.declared.tokens.Comparison.{Comparison}
use Rattle.words.specs.declared.tokens.Sum.{Sum}
use Rattle.words.specs.declared.tokens.Sum.TheVariants.{Plus, Minus}
use Rattle.words.specs.declared.tokens.Product.{Product}
use Rattle.words.specs.declared.tokens.Word.TheVariants.{Program, End, Table, If, Then, Else, While, Do, Read, Write, Join, Not, Project, Select, Exists}
use Rattle.words.specs.declared.tokens.Word.TheVariants.{All, Update, Extend, Rename}
use Rattle.words.specs.declared.tokens.Sign.TheVariants.{LeftParenthesis, RightParenthesis, LeftBracket, RightBracket, LeftBrace, RightBrace, Semicolon}
use Rattle.words.specs.declared.tokens.Sign.TheVariants.{Comma, Assign}
use Rattle.grammar.specs.Tree.{Name, Constant, Tuple, AtomicType, Attribute, VariableType, Expression, Statement, Statements, Name.named}
use Rattle.grammar.specs.Tree.{Constant.integer_constant, Constant.string_constant, Constant.truth_constant, Tuple.tuple_of, AtomicType.typed}
use Rattle.grammar.specs.Tree.{Attribute.attribute, VariableType.of_domain, VariableType.of_table, Expression.variable, Expression.literal}
use Rattle.grammar.specs.Tree.{Expression.table_of_tuples, Expression.table_of_types, Expression.logical, Expression.compared, Expression.summed}
use Rattle.grammar.specs.Tree.{Expression.multiplied, Expression.joined, Expression.negative, Expression.negated, Expression.projected, Expression.renamed}
use Rattle.grammar.specs.Tree.{Expression.selected, Expression.existing, Expression.everywhere, Expression.updated, Expression.extended, Statement.define}
use Rattle.grammar.specs.Tree.{Statement.assign, Statement.if_then, Statement.if_then_else, Statement.while_do, Statement.read_into, Statement.write_out}
use Rattle.grammar.specs.Tree.{Statements.no_statement, Statements.◌followed_by◌, Block.closed_at}
use Rattle.grammar.specs.Grammar.{Symbol, Of, Leave, Opens, Reads, Symbol.program, Symbol.stat_list, Symbol.more_stats, Symbol.stat, Symbol.def_stat}
use Rattle.grammar.specs.Grammar.{Symbol.id_list, Symbol.more_ids, Symbol.id, Symbol.type, Symbol.atomic_type, Symbol.table_type, Symbol.attr_list}
use Rattle.grammar.specs.Grammar.{Symbol.more_attrs, Symbol.attr_decl, Symbol.assign_stat, Symbol.expr, Symbol.bool_term, Symbol.comp_term, Symbol.low_term}
use Rattle.grammar.specs.Grammar.{Symbol.factor, Symbol.constant, Symbol.atomic_const, Symbol.table_const, Symbol.tuple_list, Symbol.more_tuples}
use Rattle.grammar.specs.Grammar.{Symbol.atomic_type_list, Symbol.more_types, Symbol.tuple_const, Symbol.more_consts, Symbol.more_bool_terms, Symbol.more_low_terms}
use Rattle.grammar.specs.Grammar.{Symbol.more_factors, Symbol.if_stat, Symbol.while_stat, Symbol.read_stat, Symbol.specifier, Symbol.write_stat, Reads.program_is}
use Rattle.grammar.specs.Grammar.{Reads.stat_list_is, Reads.no_more_stats, Reads.another_stat, Reads.stat_def, Reads.stat_assign, Reads.stat_if}
use Rattle.grammar.specs.Grammar.{Reads.stat_while, Reads.stat_read, Reads.stat_write, Reads.def_stat_is, Reads.id_list_is, Reads.no_more_ids, Reads.another_id}
use Rattle.grammar.specs.Grammar.{Reads.id_is, Reads.type_atomic, Reads.type_table, Reads.atomic_type_is, Reads.table_type_is, Reads.attr_list_is}
use Rattle.grammar.specs.Grammar.{Reads.no_more_attrs, Reads.another_attr, Reads.attr_decl_is, Reads.assign_stat_is, Reads.expr_is, Reads.no_more_bool_terms}
use Rattle.grammar.specs.Grammar.{Reads.another_bool_term, Reads.bool_term_alone, Reads.bool_term_compared, Reads.comp_term_is, Reads.no_more_low_terms}
use Rattle.grammar.specs.Grammar.{Reads.another_low_term, Reads.low_term_is, Reads.no_more_factors, Reads.another_factor, Reads.another_joined}
use Rattle.grammar.specs.Grammar.{Reads.factor_negative, Reads.factor_not, Reads.factor_project, Reads.factor_select, Reads.factor_exists, Reads.factor_all}
use Rattle.grammar.specs.Grammar.{Reads.factor_extend, Reads.factor_update, Reads.factor_rename, Reads.factor_parenthesis, Reads.factor_id}
use Rattle.grammar.specs.Grammar.{Reads.factor_constant, Reads.constant_atomic, Reads.constant_table, Reads.atomic_const_integer, Reads.atomic_const_string}
use Rattle.grammar.specs.Grammar.{Reads.atomic_const_truth, Reads.table_const_tuples, Reads.table_const_types, Reads.tuple_list_is, Reads.no_more_tuples}
use Rattle.grammar.specs.Grammar.{Reads.another_tuple, Reads.atomic_type_list_is, Reads.no_more_types, Reads.another_type, Reads.tuple_const_is, Reads.no_more_consts}
use Rattle.grammar.specs.Grammar.{Reads.another_const, Reads.if_stat_then, Reads.if_stat_else, Reads.while_stat_is, Reads.read_stat_is, Reads.specifier_given}
use Rattle.grammar.specs.Grammar.{Reads.specifier_absent, Reads.write_stat_is}
use Rattle.grammar.specs.Parts.{place_of, program_token, end_token, then_token, else_token, do_token, left_parenthesis, right_parenthesis, left_bracket, right_bracket}
use Rattle.grammar.specs.Parts.{right_brace, assign_token, Operator, Unary, Part, expression_part, name_part, type_part, constant_part, first_name, first_type}
use Rattle.grammar.specs.Parts.{append_statements, combine, join_parts, apply, name_and_expression, type_name_and_expression, at_token, place_part}
use Rattle.grammar.specs.Parts.{attribute_declaration, assignment, definition, while_statement, if_statement, if_else_statement, input_statement, output_statement}
use Rattle.grammar.specs.Parts.{table_expression, Level, Between, turn_if, turn_at, between_of, level_after, Leaf, leaf_of, name_of, type_of, constant_of, Argument}
use Rattle.grammar.specs.Parts.{argument_of, FactorStart, factor_start, StatementStart, statement_start, code_of, same_as, Operator.semicolons, Operator.commas}
use Rattle.grammar.specs.Parts.{Operator.logic_operator, Operator.comparison_operator, Operator.sum_operator, Operator.product_operator, Unary.unary_minus}
use Rattle.grammar.specs.Parts.{Unary.unary_not, Unary.unary_project, Unary.unary_rename, Unary.unary_select, Unary.unary_exists, Unary.unary_all}
use Rattle.grammar.specs.Parts.{Unary.unary_update, Unary.unary_extend, Level.statement_level, Level.name_level, Level.type_level, Level.constant_level}
use Rattle.grammar.specs.Parts.{Level.attribute_level, Level.tuple_level, Level.logic_level, Level.comparison_level, Level.sum_level, Level.product_level}
use Rattle.grammar.specs.Parts.{Level.compared_level, Between.no_operator, Between.join_operator, Between.operator_of_rank, Turn.take_join, Turn.take_operator}
use Rattle.grammar.specs.Parts.{Leaf.name_leaf, Leaf.type_leaf, Leaf.constant_leaf, Argument.no_argument, Argument.names_argument, Argument.condition_argument}
use Rattle.grammar.specs.Parts.{Argument.update_argument, Argument.extend_argument, FactorStart.leaf, FactorStart.unary, FactorStart.parenthesis}
use Rattle.grammar.specs.Parts.{FactorStart.brace, FactorStart.no_factor, StatementStart.assigning, StatementStart.defining, StatementStart.defining_table}
use Rattle.grammar.specs.Parts.{StatementStart.deciding, StatementStart.looping, StatementStart.reading, StatementStart.writing}
use Rattle.grammar.specs.Parts.{StatementStart.no_statement_here}
use Rattle.grammar.proofs.Table.{TableSymbol, item_of, Reads as Tabled, TableSymbol.level, TableSymbol.more, TableSymbol.factor as nt_factor}
use Rattle.grammar.proofs.Table.{TableSymbol.bracket, TableSymbol.inst, TableSymbol.tuple_n, TableSymbol.attr, TableSymbol.stat as nt_stat, TableSymbol.prog}
use Rattle.grammar.proofs.Table.{TableSymbol.arg, TableSymbol.atom, TableSymbol.elses, TableSymbol.tok, Reads.eats, Reads.atoms, Reads.first, Reads.done}
use Rattle.grammar.proofs.Table.{Reads.next, Reads.joins, Reads.brackets, Reads.no_arg, Reads.arg_ids, Reads.arg_expr, Reads.arg_upd, Reads.arg_ext, Reads.leafs}
use Rattle.grammar.proofs.Table.{Reads.unaries, Reads.parens, Reads.braces, Reads.inst_tuples, Reads.inst_types, Reads.tuples, Reads.attrs, Reads.assigns}
use Rattle.grammar.proofs.Table.{Reads.defines, Reads.tables, Reads.read1, Reads.read2, Reads.write1, Reads.write2, Reads.whilst, Reads.conds, Reads.ends}
use Rattle.grammar.proofs.Table.{Reads.other, Reads.whole}
use Rattle.grammar.proofs.Complete.{is_eq}

join_assoc : (a b c : Statements) → append_statements (append_statements a b) c ≡ append_statements a (append_statements b c)
join_assoc no_statement b c = refl
join_assoc (x followed_by a) b c = ap (λ i. x followed_by i) (join_assoc a b c)

join_nil : (a : Statements) → append_statements a no_statement ≡ a
join_nil no_statement = refl
join_nil (x followed_by a) = ap (λ i. x followed_by i) (join_nil a)

ap2 : {A B C : Type 0} (f : A → B → C) {a b : A} {c d : B} → a ≡ b → c ≡ d → f a c ≡ f b d
ap2 f {b} {c} e h = ap (λ i. f i c) e ∙ ap (λ i. f b i) h

ap3 : {A B C D : Type 0} (f : A → B → C → D) {a b : A} {c d : B} {x y : C} → a ≡ b → c ≡ d → x ≡ y → f a c x ≡ f b d y
ap3 f {b} {c} {d} {x} e h k = ap (λ i. f i c x) e ∙ ap2 (f b) h k

-- the symbols that the table grammar reads as a part of another, by their tokens
pub data IdTok : List Token → List Token → Name → Type 0 where
  id_tok : {x : Bytes} {p : Place} {s : List Token} → IdTok (name x at p ∷ s) s (named x p)

pub data TypeTok : List Token → List Token → AtomicType → Type 0 where
  type_tok : {d : Domain} {p : Place} {s : List Token} → TypeTok (domain d at p ∷ s) s (typed d p)

module _ (leave : Leave) where
  pub data TypeMade : ℕ → List Token → List Token → VariableType → Type 0 where
    atomic_made : {n : ℕ} {s r : List Token} {y : AtomicType} → TypeTok s r y → TypeMade n s r (of_domain y)
    table_made : {n : ℕ} {s r : List Token} {p q z : Place} {x : List Attribute} {t : Part} → Tabled leave (level attribute_level) n s (sign RightParenthesis at z ∷ r) t → t.attributes ≡ x →
        TypeMade n (word Table at p ∷ sign LeftParenthesis at q ∷ s) r (of_table x p)

  pub data SpecMade : ℕ → List Token → List Token → Option Expression → Type 0 where
    given : {n : ℕ} {s r : List Token} {p z : Place} {e : Expression} {t : Part} → Opens leave n (sign LeftBracket at p ∷ s) → Tabled leave (level logic_level) n s (sign RightBracket at z ∷ r) t → t.expression ≡ e →
        SpecMade (suc n) (sign LeftBracket at p ∷ s) r (some e)
    absent : {n : ℕ} {s : List Token} → SpecMade n s s none

  -- what the table grammar has for each symbol
  abbrev pub Made : (S : Symbol) → ℕ → List Token → List Token → Of S → Type 0
  Made program n s r b = (t : Part) × (Tabled leave prog n s r t) × (closed_at t.statements t.place ≡ b)
  Made stat_list n s r b = (t : Part) × (Tabled leave (level statement_level) n s r t) × (t.statements ≡ b)
  Made more_stats n s r b = (t : Part) → (u : Part) × (Tabled leave (more statement_level t) n s r u) × (u.statements ≡ append_statements t.statements b)
  Made stat n s r a = (t : Part) × (Tabled leave nt_stat n s r t) × (t.statements ≡ a followed_by no_statement)
  Made def_stat n s r a = (t : Part) × (Tabled leave nt_stat n s r t) × (t.statements ≡ a followed_by no_statement)
  Made assign_stat n s r a = (t : Part) × (Tabled leave nt_stat n s r t) × (t.statements ≡ a followed_by no_statement)
  Made if_stat n s r a = (t : Part) × (Tabled leave nt_stat n s r t) × (t.statements ≡ a followed_by no_statement)
  Made while_stat n s r a = (t : Part) × (Tabled leave nt_stat n s r t) × (t.statements ≡ a followed_by no_statement)
  Made read_stat n s r a = (t : Part) × (Tabled leave nt_stat n s r t) × (t.statements ≡ a followed_by no_statement)
  Made write_stat n s r a = (t : Part) × (Tabled leave nt_stat n s r t) × (t.statements ≡ a followed_by no_statement)
  Made id_list n s r x = (t : Part) × (Tabled leave (level name_level) n s r t) × (t.names ≡ x)
  Made more_ids n s r x = (t : Part) → (u : Part) × (Tabled leave (more name_level t) n s r u) × (u.names ≡ t.names ++ x)
  Made id n s r x = IdTok s r x
  Made type n s r y = TypeMade n s r y
  Made atomic_type n s r y = TypeTok s r y
  Made table_type n s r y = TypeMade n s r y
  Made attr_list n s r x = (t : Part) × (Tabled leave (level attribute_level) n s r t) × (t.attributes ≡ x)
  Made more_attrs n s r x = (t : Part) → (u : Part) × (Tabled leave (more attribute_level t) n s r u) × (u.attributes ≡ t.attributes ++ x)
  Made attr_decl n s r x = (t : Part) × (Tabled leave attr n s r t) × (t.attributes ≡ x ∷ [])
  Made expr n s r e = (t : Part) × (Tabled leave (level logic_level) n s r t) × (t.expression ≡ e)
  Made bool_term n s r e = (t : Part) × (Tabled leave (level comparison_level) n s r t) × (t.expression ≡ e)
  Made comp_term n s r e = (t : Part) × (Tabled leave (level sum_level) n s r t) × (t.expression ≡ e)
  Made low_term n s r e = (t : Part) × (Tabled leave (level product_level) n s r t) × (t.expression ≡ e)
  Made factor n s r e = (t : Part) × (Tabled leave nt_factor n s r t) × (t.expression ≡ e)
  Made (more_bool_terms a) n s r e = (t : Part) → t.expression ≡ a → (u : Part) × (Tabled leave (more logic_level t) n s r u) × (u.expression ≡ e)
  Made (more_low_terms a) n s r e = (t : Part) → t.expression ≡ a → (u : Part) × (Tabled leave (more sum_level t) n s r u) × (u.expression ≡ e)
  Made (more_factors a) n s r e = (t : Part) → t.expression ≡ a → (u : Part) × (Tabled leave (more product_level t) n s r u) × (u.expression ≡ e)
  Made constant n s r e = (t : Part) × (Tabled leave nt_factor n s r t) × (t.expression ≡ e)
  Made atomic_const n s r c = ((t : Part) × (Tabled leave (atom constant_leaf) n s r t) × (t.constants ≡ c ∷ [])) × ((t : Part) × (Tabled leave nt_factor n s r t) × (t.expression ≡ literal c))
  Made table_const n s r e = (t : Part) × (Tabled leave nt_factor n s r t) × (t.expression ≡ e)
  Made tuple_list n s r x = (t : Part) × (Tabled leave (level tuple_level) n s r t) × (t.tuples ≡ x) × ((p : Place) (y : List AtomicType) → table_expression x y p ≡ table_of_tuples x p)
  Made more_tuples n s r x = (t : Part) → (u : Part) × (Tabled leave (more tuple_level t) n s r u) × (u.tuples ≡ t.tuples ++ x)
  Made tuple_const n s r x = (t : Part) × (Tabled leave tuple_n n s r t) × (t.tuples ≡ x ∷ [])
  Made atomic_type_list n s r x = (t : Part) × (Tabled leave (level type_level) n s r t) × (t.types ≡ x) × (t.tuples ≡ [])
  Made more_types n s r x = (t : Part) → t.tuples ≡ [] → (u : Part) × (Tabled leave (more type_level t) n s r u) × (u.types ≡ t.types ++ x) × (u.tuples ≡ [])
  Made more_consts n s r x = (t : Part) → (u : Part) × (Tabled leave (more constant_level t) n s r u) × (u.constants ≡ t.constants ++ x)
  Made specifier n s r f = SpecMade n s r f

  made_program_is : {n : ℕ} {s r : List Token} {p q : Place} {b : Statements} → Made stat_list n s (word End at q ∷ r) b → Made program n (word Program at p ∷ s) r (closed_at b q)
  made_program_is {q} a = let (t, d, e) = a in (_, whole (eats refl) d (eats refl), ap (λ i. closed_at i q) e)

  made_stat_list_is : {n : ℕ} {s m r : List Token} {a : Statement} {b : Statements} → Made stat n s m a → Made more_stats n m r b → Made stat_list n s r (a followed_by b)
  made_stat_list_is {b} a c = let (t, d, e) = a in let (u, f, g) = c t in (u, first d f, g ∙ ap (λ i. append_statements i b) e)

  made_no_more_stats : {n : ℕ} {s : List Token} → Made more_stats n s s no_statement
  made_no_more_stats = λ t. (t, done, sym (join_nil t.statements))

  made_another_stat : {n : ℕ} {s m r : List Token} {p : Place} {a : Statement} {b : Statements} → Made stat n s m a → Made more_stats n m r b → Made more_stats n (sign Semicolon at p ∷ s) r (a followed_by b)
  made_another_stat {p} {b} a c = λ t. let (u, d, e) = a in let (v, f, g) = c (combine semicolons p t u) in
      (v, next refl d f, g ∙ join_assoc t.statements u.statements b ∙ ap (λ i. append_statements t.statements (append_statements i b)) e)

  made_stat_def : {n : ℕ} {s r : List Token} {a : Statement} → Made def_stat n s r a → Made stat n s r a
  made_stat_def a = a

  made_stat_assign : {n : ℕ} {s r : List Token} {a : Statement} → Made assign_stat n s r a → Made stat n s r a
  made_stat_assign a = a

  made_stat_if : {n : ℕ} {s r : List Token} {a : Statement} → Made if_stat n s r a → Made stat n s r a
  made_stat_if a = a

  made_stat_while : {n : ℕ} {s r : List Token} {a : Statement} → Made while_stat n s r a → Made stat n s r a
  made_stat_while a = a

  made_stat_read : {n : ℕ} {s r : List Token} {a : Statement} → Made read_stat n s r a → Made stat n s r a
  made_stat_read a = a

  made_stat_write : {n : ℕ} {s r : List Token} {a : Statement} → Made write_stat n s r a → Made stat n s r a
  made_stat_write a = a

  made_def_stat_is : {n : ℕ} {s m r : List Token} {y : VariableType} {x : List Name} → Made type n s m y → Made id_list n m r x → Made def_stat n s r (define y x)
  made_def_stat_is (atomic_made (type_tok {d = c} {p})) (t, d, e) = (_, defines refl d, ap (λ i. define (of_domain (typed c p)) i followed_by no_statement) e)
  made_def_stat_is (table_made {p} f g) (t, d, e) = (_, tables refl (eats refl) f (eats refl) d, ap2 (λ i j. define (of_table i p) j followed_by no_statement) g e)

  made_id_list_is : {n : ℕ} {s m r : List Token} {a : Name} {b : List Name} → Made id n s m a → Made more_ids n m r b → Made id_list n s r (a ∷ b)
  made_id_list_is {b} (id_tok {x} {p}) c = let (u, f, g) = c (name_part (named x p)) in (u, first (atoms refl) f, g)

  made_no_more_ids : {n : ℕ} {s : List Token} → Made more_ids n s s []
  made_no_more_ids = λ t. (t, done, sym (append-nil t.names))

  made_another_id : {n : ℕ} {s m r : List Token} {p : Place} {a : Name} {b : List Name} → Made id n s m a → Made more_ids n m r b → Made more_ids n (sign Comma at p ∷ s) r (a ∷ b)
  made_another_id {p} {b} (id_tok {x} {p = q}) c = λ t. let (v, f, g) = c (combine commas p t (name_part (named x q))) in (v, next refl (atoms refl) f, g ∙ append_assoc t.names (named x q ∷ []) b)

  made_type_atomic : {n : ℕ} {s r : List Token} {y : AtomicType} → Made atomic_type n s r y → Made type n s r (of_domain y)
  made_type_atomic a = atomic_made a

  made_type_table : {n : ℕ} {s r : List Token} {y : VariableType} → Made table_type n s r y → Made type n s r y
  made_type_table a = a

  made_table_type_is : {n : ℕ} {s r : List Token} {p q z : Place} {x : List Attribute} → Made attr_list n s (sign RightParenthesis at z ∷ r) x → Made table_type n (word Table at p ∷ sign LeftParenthesis at q ∷ s) r (of_table x p)
  made_table_type_is a = let (t, d, e) = a in table_made d e

  made_attr_list_is : {n : ℕ} {s m r : List Token} {a : Attribute} {b : List Attribute} → Made attr_decl n s m a → Made more_attrs n m r b → Made attr_list n s r (a ∷ b)
  made_attr_list_is {b} a c = let (t, d, e) = a in let (u, f, g) = c t in (u, first d f, g ∙ ap (λ i. i ++ b) e)

  made_no_more_attrs : {n : ℕ} {s : List Token} → Made more_attrs n s s []
  made_no_more_attrs = λ t. (t, done, sym (append-nil t.attributes))

  made_another_attr : {n : ℕ} {s m r : List Token} {p : Place} {a : Attribute} {b : List Attribute} → Made attr_decl n s m a → Made more_attrs n m r b → Made more_attrs n (sign Comma at p ∷ s) r (a ∷ b)
  made_another_attr {p} {b} a c = λ t. let (u, d, e) = a in let (v, f, g) = c (combine commas p t u) in
      (v, next refl d f, g ∙ append_assoc t.attributes u.attributes b ∙ ap (λ i. t.attributes ++ (i ++ b)) e)

  made_attr_decl_is : {n : ℕ} {s m r : List Token} {y : AtomicType} {x : Name} → Made atomic_type n s m y → Made id n m r x → Made attr_decl n s r (attribute y x)
  made_attr_decl_is type_tok id_tok = (_, attrs (atoms refl) (atoms refl), refl)

  made_assign_stat_is : {n : ℕ} {s m r : List Token} {p : Place} {x : Name} {e : Expression} → Made id n s (sign Assign at p ∷ m) x → Made expr n m r e → Made assign_stat n s r (assign x e)
  made_assign_stat_is (id_tok {x} {p = q}) a = let (t, d, e) = a in (_, assigns refl (eats refl) d, ap (λ i. assign (named x q) i followed_by no_statement) e)

  made_expr_is : {n : ℕ} {s m r : List Token} {a e : Expression} → Made bool_term n s m a → Made (more_bool_terms a) n m r e → Made expr n s r e
  made_expr_is a c = let (t, d, e) = a in let (u, f, g) = c t e in (u, first d f, g)

  made_no_more_bool_terms : {n : ℕ} {s : List Token} {a : Expression} → Made (more_bool_terms a) n s s a
  made_no_more_bool_terms = λ t h. (t, done, h)

  made_another_bool_term : {n : ℕ} {s m r : List Token} {o : Logic} {p : Place} {a b e : Expression} → Made bool_term n s m b → Made (more_bool_terms (logical o p a b)) n m r e → Made (more_bool_terms a) n (logic o at p ∷ s) r e
  made_another_bool_term {o} {p} a c = λ t h. let (u, d, e) = a in let (v, f, g) = c (combine (logic_operator o) p t u) (ap2 (logical o p) h e) in (v, next refl d f, g)

  made_bool_term_alone : {n : ℕ} {s r : List Token} {a : Expression} → Made comp_term n s r a → Made bool_term n s r a
  made_bool_term_alone a = let (t, d, e) = a in (t, first d done, e)

  made_bool_term_compared : {n : ℕ} {s m r : List Token} {o : Comparison} {p : Place} {a b : Expression} → Made comp_term n s (comparison o at p ∷ m) a → Made comp_term n m r b → Made bool_term n s r (compared o p a b)
  made_bool_term_compared {o} {p} a c = let (t, d, e) = a in let (u, f, g) = c in (_, first d (next refl f done), ap2 (compared o p) e g)

  made_comp_term_is : {n : ℕ} {s m r : List Token} {a e : Expression} → Made low_term n s m a → Made (more_low_terms a) n m r e → Made comp_term n s r e
  made_comp_term_is a c = let (t, d, e) = a in let (u, f, g) = c t e in (u, first d f, g)

  made_no_more_low_terms : {n : ℕ} {s : List Token} {a : Expression} → Made (more_low_terms a) n s s a
  made_no_more_low_terms = λ t h. (t, done, h)

  made_another_low_term : {n : ℕ} {s m r : List Token} {o : Sum} {p : Place} {a b e : Expression} → Made low_term n s m b → Made (more_low_terms (summed o p a b)) n m r e → Made (more_low_terms a) n (sum o at p ∷ s) r e
  made_another_low_term {o} {p} a c = λ t h. let (u, d, e) = a in let (v, f, g) = c (combine (sum_operator o) p t u) (ap2 (summed o p) h e) in (v, next refl d f, g)

  made_low_term_is : {n : ℕ} {s m r : List Token} {a e : Expression} → Made factor n s m a → Made (more_factors a) n m r e → Made low_term n s r e
  made_low_term_is a c = let (t, d, e) = a in let (u, f, g) = c t e in (u, first d f, g)

  made_no_more_factors : {n : ℕ} {s : List Token} {a : Expression} → Made (more_factors a) n s s a
  made_no_more_factors = λ t h. (t, done, h)

  made_another_factor : {n : ℕ} {s m r : List Token} {o : Product} {p : Place} {a b e : Expression} → Made factor n s m b → Made (more_factors (multiplied o p a b)) n m r e → Made (more_factors a) n (product o at p ∷ s) r e
  made_another_factor {o} {p} a c = λ t h. let (u, d, e) = a in let (v, f, g) = c (combine (product_operator o) p t u) (ap2 (multiplied o p) h e) in (v, next refl d f, g)

  made_another_joined : {n : ℕ} {s l m r : List Token} {p q z : Place} {a c b e : Expression} → Opens leave n (sign LeftBracket at q ∷ s) → Made expr n s (sign RightBracket at z ∷ l) c → Made factor (suc n) l m b → Made (more_factors (joined p a c b)) (suc n) m r e → Made (more_factors a) (suc n) (word Join at p ∷ sign LeftBracket at q ∷ s) r e
  made_another_joined {p} o x a c = λ t h. let (y, i, j) = x in let (u, d, e) = a in
      let (v, f, g) = c (join_parts p t y u) (ap3 (joined p) h j e) in (v, joins refl (brackets (eats refl) o i (eats refl)) d f, g)

  made_factor_negative : {n : ℕ} {s r : List Token} {p : Place} {e : Expression} → Opens leave n (sum Minus at p ∷ s) → Made factor n s r e → Made factor (suc n) (sum Minus at p ∷ s) r (negative p e)
  made_factor_negative {p} o a = let (t, d, e) = a in (_, unaries refl o no_arg d, ap (λ i. negative p i) e)

  made_factor_not : {n : ℕ} {s r : List Token} {p : Place} {e : Expression} → Opens leave n (word Not at p ∷ s) → Made factor n s r e → Made factor (suc n) (word Not at p ∷ s) r (negated p e)
  made_factor_not {p} o a = let (t, d, e) = a in (_, unaries refl o no_arg d, ap (λ i. negated p i) e)

  made_factor_project : {n : ℕ} {s m r : List Token} {p q z : Place} {x : List Name} {e : Expression} → Opens leave n (word Project at p ∷ sign LeftBracket at q ∷ s) → Made id_list n s (sign RightBracket at z ∷ m) x → Made factor n m r e → Made factor (suc n) (word Project at p ∷ sign LeftBracket at q ∷ s) r (projected p x e)
  made_factor_project {p} o x a = let (y, f, g) = x in let (t, d, e) = a in
      (_, unaries refl o (arg_ids (eats refl) f (eats refl)) d, ap2 (projected p) g e)

  made_factor_select : {n : ℕ} {s m r : List Token} {p q z : Place} {c e : Expression} → Opens leave n (word Select at p ∷ sign LeftBracket at q ∷ s) → Made expr n s (sign RightBracket at z ∷ m) c → Made factor n m r e → Made factor (suc n) (word Select at p ∷ sign LeftBracket at q ∷ s) r (selected p c e)
  made_factor_select {p} o x a = let (y, f, g) = x in let (t, d, e) = a in
      (_, unaries refl o (arg_expr (eats refl) f (eats refl)) d, ap2 (selected p) g e)

  made_factor_exists : {n : ℕ} {s m r : List Token} {p q z : Place} {c e : Expression} → Opens leave n (word Exists at p ∷ sign LeftBracket at q ∷ s) → Made expr n s (sign RightBracket at z ∷ m) c → Made factor n m r e → Made factor (suc n) (word Exists at p ∷ sign LeftBracket at q ∷ s) r (existing p c e)
  made_factor_exists {p} o x a = let (y, f, g) = x in let (t, d, e) = a in
      (_, unaries refl o (arg_expr (eats refl) f (eats refl)) d, ap2 (existing p) g e)

  made_factor_all : {n : ℕ} {s m r : List Token} {p q z : Place} {c e : Expression} → Opens leave n (word All at p ∷ sign LeftBracket at q ∷ s) → Made expr n s (sign RightBracket at z ∷ m) c → Made factor n m r e → Made factor (suc n) (word All at p ∷ sign LeftBracket at q ∷ s) r (everywhere p c e)
  made_factor_all {p} o x a = let (y, f, g) = x in let (t, d, e) = a in
      (_, unaries refl o (arg_expr (eats refl) f (eats refl)) d, ap2 (everywhere p) g e)

  made_factor_extend : {n : ℕ} {s l m o r : List Token} {p q z w : Place} {y : AtomicType} {x : Name} {c e : Expression} → Opens leave n (word Extend at p ∷ sign LeftBracket at q ∷ s) → Made atomic_type n s l y → Made id n l (sign Assign at w ∷ m) x → Made expr n m (sign RightBracket at z ∷ o) c → Made factor n o r e → Made factor (suc n) (word Extend at p ∷ sign LeftBracket at q ∷ s) r (extended p y x c e)
  made_factor_extend {p} o (type_tok {d = c} {p = q}) (id_tok {x = b} {p = z}) x a = let (y, f, g) = x in let (t, d, e) = a in (_, unaries refl o (arg_ext (eats refl) (atoms refl) (atoms refl) (eats refl) f (eats refl)) d, ap2 (extended p (typed c q) (named b z)) g e)

  made_factor_update : {n : ℕ} {s m o r : List Token} {p q z w : Place} {x : Name} {c e : Expression} → Opens leave n (word Update at p ∷ sign LeftBracket at q ∷ s) → Made id n s (sign Assign at w ∷ m) x → Made expr n m (sign RightBracket at z ∷ o) c → Made factor n o r e → Made factor (suc n) (word Update at p ∷ sign LeftBracket at q ∷ s) r (updated p x c e)
  made_factor_update {p} o (id_tok {x = b} {p = z}) x a = let (y, f, g) = x in let (t, d, e) = a in (_, unaries refl o (arg_upd (eats refl) (atoms refl) (eats refl) f (eats refl)) d, ap2 (updated p (named b z)) g e)

  made_factor_rename : {n : ℕ} {s m r : List Token} {p q z : Place} {x : List Name} {e : Expression} → Opens leave n (word Rename at p ∷ sign LeftBracket at q ∷ s) → Made id_list n s (sign RightBracket at z ∷ m) x → Made factor n m r e → Made factor (suc n) (word Rename at p ∷ sign LeftBracket at q ∷ s) r (renamed p x e)
  made_factor_rename {p} o x a = let (y, f, g) = x in let (t, d, e) = a in
      (_, unaries refl o (arg_ids (eats refl) f (eats refl)) d, ap2 (renamed p) g e)

  made_factor_parenthesis : {n : ℕ} {s r : List Token} {p z : Place} {e : Expression} → Opens leave n (sign LeftParenthesis at p ∷ s) → Made expr n s (sign RightParenthesis at z ∷ r) e → Made factor (suc n) (sign LeftParenthesis at p ∷ s) r e
  made_factor_parenthesis o a = let (t, d, e) = a in (_, parens refl o d (eats refl), e)

  made_factor_id : {n : ℕ} {s r : List Token} {x : Name} → Made id n s r x → Made factor n s r (variable x)
  made_factor_id id_tok = (_, leafs refl, refl)

  made_factor_constant : {n : ℕ} {s r : List Token} {e : Expression} → Made constant n s r e → Made factor n s r e
  made_factor_constant a = a

  made_constant_atomic : {n : ℕ} {s r : List Token} {c : Constant} → Made atomic_const n s r c → Made constant n s r (literal c)
  made_constant_atomic a = a.1

  made_constant_table : {n : ℕ} {s r : List Token} {e : Expression} → Made table_const n s r e → Made constant n s r e
  made_constant_table a = a

  made_atomic_const_integer : {n : ℕ} {s : List Token} {x : Bytes} {p : Place} → Made atomic_const n (integer x at p ∷ s) s (integer_constant (pos (value_of x)) p)
  made_atomic_const_integer = ((_, atoms refl, refl), (_, leafs refl, refl))

  made_atomic_const_string : {n : ℕ} {s : List Token} {x : Bytes} {p : Place} → Made atomic_const n (string x at p ∷ s) s (string_constant x p)
  made_atomic_const_string = ((_, atoms refl, refl), (_, leafs refl, refl))

  made_atomic_const_truth : {n : ℕ} {s : List Token} {b : Bool} {p : Place} → Made atomic_const n (truth b at p ∷ s) s (truth_constant b p)
  made_atomic_const_truth = ((_, atoms refl, refl), (_, leafs refl, refl))

  made_table_const_tuples : {n : ℕ} {s r : List Token} {p z : Place} {x : List Tuple} → Made tuple_list n s (sign RightBrace at z ∷ r) x → Made table_const n (sign LeftBrace at p ∷ s) r (table_of_tuples x p)
  made_table_const_tuples {p} a = let (t, d, e, h) = a in (_, braces refl (inst_tuples d) (eats refl), ap (λ i. table_expression i t.types p) e ∙ h p t.types)

  made_table_const_types : {n : ℕ} {s r : List Token} {p z : Place} {y : List AtomicType} → Made atomic_type_list n s (sign RightBrace at z ∷ r) y → Made table_const n (sign LeftBrace at p ∷ s) r (table_of_types y p)
  made_table_const_types {p} a = let (t, d, e, h) = a in (_, braces refl (inst_types d) (eats refl), ap (λ i. table_expression i t.types p) h ∙ ap (λ i. table_of_types i p) e)

  made_tuple_list_is : {n : ℕ} {s m r : List Token} {a : Tuple} {b : List Tuple} → Made tuple_const n s m a → Made more_tuples n m r b → Made tuple_list n s r (a ∷ b)
  made_tuple_list_is {b} a c = let (t, d, e) = a in let (u, f, g) = c t in (u, first d f, g ∙ ap (λ i. i ++ b) e, λ p y. refl)

  made_no_more_tuples : {n : ℕ} {s : List Token} → Made more_tuples n s s []
  made_no_more_tuples = λ t. (t, done, sym (append-nil t.tuples))

  made_another_tuple : {n : ℕ} {s m r : List Token} {p : Place} {a : Tuple} {b : List Tuple} → Made tuple_const n s m a → Made more_tuples n m r b → Made more_tuples n (sign Comma at p ∷ s) r (a ∷ b)
  made_another_tuple {p} {b} a c = λ t. let (u, d, e) = a in let (v, f, g) = c (combine commas p t u) in
      (v, next refl d f, g ∙ append_assoc t.tuples u.tuples b ∙ ap (λ i. t.tuples ++ (i ++ b)) e)

  made_atomic_type_list_is : {n : ℕ} {s m r : List Token} {a : AtomicType} {b : List AtomicType} → Made atomic_type n s m a → Made more_types n m r b → Made atomic_type_list n s r (a ∷ b)
  made_atomic_type_list_is {b} (type_tok {d} {p}) c = let (u, f, g, j) = c (type_part (typed d p)) refl in (u, first (atoms refl) f, g, j)

  made_no_more_types : {n : ℕ} {s : List Token} → Made more_types n s s []
  made_no_more_types = λ t h. (t, done, sym (append-nil t.types), h)

  made_another_type : {n : ℕ} {s m r : List Token} {p : Place} {a : AtomicType} {b : List AtomicType} → Made atomic_type n s m a → Made more_types n m r b → Made more_types n (sign Comma at p ∷ s) r (a ∷ b)
  made_another_type {p} {b} (type_tok {d} {p = q}) c = λ t h. let (v, f, g, j) = c (combine commas p t (type_part (typed d q))) (ap (λ i. i ++ []) h) in (v, next refl (atoms refl) f, g ∙ append_assoc t.types (typed d q ∷ []) b, j)

  made_tuple_const_is : {n : ℕ} {s m r : List Token} {p z : Place} {a : Constant} {b : List Constant} → Made atomic_const n s m a → Made more_consts n m (sign RightParenthesis at z ∷ r) b → Made tuple_const n (sign LeftParenthesis at p ∷ s) r (tuple_of (a ∷ b) p)
  made_tuple_const_is {p} {b} a c = let (t, d, e) = a.0 in let (u, f, g) = c t in (_, tuples (eats refl) (first d f) (eats refl), ap (λ i. tuple_of i p ∷ []) (g ∙ ap (λ i. i ++ b) e))

  made_no_more_consts : {n : ℕ} {s : List Token} → Made more_consts n s s []
  made_no_more_consts = λ t. (t, done, sym (append-nil t.constants))

  made_another_const : {n : ℕ} {s m r : List Token} {p : Place} {a : Constant} {b : List Constant} → Made atomic_const n s m a → Made more_consts n m r b → Made more_consts n (sign Comma at p ∷ s) r (a ∷ b)
  made_another_const {p} {b} a c = λ t. let (u, d, e) = a.0 in let (v, f, g) = c (combine commas p t u) in
      (v, next refl d f, g ∙ append_assoc t.constants u.constants b ∙ ap (λ i. t.constants ++ (i ++ b)) e)

  made_if_stat_then : {n : ℕ} {s m r : List Token} {p q z : Place} {e : Expression} {a : Statements} → Made expr (suc n) s (word Then at q ∷ m) e → Opens leave n (word Then at q ∷ m) → Made stat_list n m (word End at z ∷ r) a → Made if_stat (suc n) (word If at p ∷ s) r (if_then p e (closed_at a z))
  made_if_stat_then {p} {z} a o c = let (t, d, e) = a in let (u, f, g) = c in
      (_, conds refl d (eats refl) o f (ends (eats refl)), ap2 (λ i j. if_then p i (closed_at j z) followed_by no_statement) e g)

  made_if_stat_else : {n : ℕ} {s m l r : List Token} {p q z w : Place} {e : Expression} {a b : Statements} → Made expr (suc n) s (word Then at q ∷ m) e → Opens leave n (word Then at q ∷ m) → Made stat_list n m (word Else at z ∷ l) a → Made stat_list n l (word End at w ∷ r) b → Made if_stat (suc n) (word If at p ∷ s) r (if_then_else p e (closed_at a z) (closed_at b w))
  made_if_stat_else {p} {z} {w} a o c x = let (t, d, e) = a in let (u, f, g) = c in let (v, h, j) = x in
      (_, conds refl d (eats refl) o f (other (eats refl) h (eats refl)), ap3 (λ i k l. if_then_else p i (closed_at k z) (closed_at l w) followed_by no_statement) e g j)

  made_while_stat_is : {n : ℕ} {s m r : List Token} {p q z : Place} {e : Expression} {a : Statements} → Made expr (suc n) s (word Do at q ∷ m) e → Opens leave n (word Do at q ∷ m) → Made stat_list n m (word End at z ∷ r) a → Made while_stat (suc n) (word While at p ∷ s) r (while_do p e (closed_at a z))
  made_while_stat_is {p} {z} a o c = let (t, d, e) = a in let (u, f, g) = c in
      (_, whilst refl d (eats refl) o f (eats refl), ap2 (λ i j. while_do p i (closed_at j z) followed_by no_statement) e g)

  made_read_stat_is : {n : ℕ} {s m r : List Token} {p : Place} {f : Option Expression} {x : Name} → Made specifier n s m f → Made id n m r x → Made read_stat n (word Read at p ∷ s) r (read_into p f x)
  made_read_stat_is absent id_tok = (_, read1 refl (atoms refl), refl)
  made_read_stat_is {p} (given o d e) (id_tok {x = b} {p = z}) = (_, read2 refl (brackets (eats refl) o d (eats refl)) (atoms refl), ap (λ i. read_into p (some i) (named b z) followed_by no_statement) e)

  made_specifier_given : {n : ℕ} {s r : List Token} {p z : Place} {e : Expression} → Opens leave n (sign LeftBracket at p ∷ s) → Made expr n s (sign RightBracket at z ∷ r) e → Made specifier (suc n) (sign LeftBracket at p ∷ s) r (some e)
  made_specifier_given o a = let (t, d, e) = a in given o d e

  made_specifier_absent : {n : ℕ} {s : List Token} → Made specifier n s s none
  made_specifier_absent = absent

  made_write_stat_is : {n : ℕ} {s m r : List Token} {p : Place} {f : Option Expression} {e : Expression} → Made specifier n s m f → Made expr n m r e → Made write_stat n (word Write at p ∷ s) r (write_out p f e)
  made_write_stat_is {p} absent c = let (u, f, g) = c in (_, write1 refl f, ap (λ i. write_out p none i followed_by no_statement) g)
  made_write_stat_is {p} (given o d e) c = let (u, f, g) = c in (_, write2 refl (brackets (eats refl) o d (eats refl)) f, ap2 (λ i j. write_out p (some i) j followed_by no_statement) e g)

  pub forth : {S : Symbol} {n : ℕ} {s r : List Token} {x : Of S} → Reads leave S n s r x → Made S n s r x
  forth (program_is {n} {s} {r} {p} {q} {b} a1) = made_program_is {n = n} {s = s} {r = r} {p = p} {q = q} {b = b} (forth a1)
  forth (stat_list_is {n} {s} {m} {r} {a} {b} a1 a2) = made_stat_list_is {n = n} {s = s} {m = m} {r = r} {a = a} {b = b} (forth a1) (forth a2)
  forth (no_more_stats {n} {s}) = made_no_more_stats {n = n} {s = s}
  forth (another_stat {n} {s} {m} {r} {p} {a} {b} a1 a2) = made_another_stat {n = n} {s = s} {m = m} {r = r} {p = p} {a = a} {b = b} (forth a1) (forth a2)
  forth (stat_def {n} {s} {r} {a} a1) = made_stat_def {n = n} {s = s} {r = r} {a = a} (forth a1)
  forth (stat_assign {n} {s} {r} {a} a1) = made_stat_assign {n = n} {s = s} {r = r} {a = a} (forth a1)
  forth (stat_if {n} {s} {r} {a} a1) = made_stat_if {n = n} {s = s} {r = r} {a = a} (forth a1)
  forth (stat_while {n} {s} {r} {a} a1) = made_stat_while {n = n} {s = s} {r = r} {a = a} (forth a1)
  forth (stat_read {n} {s} {r} {a} a1) = made_stat_read {n = n} {s = s} {r = r} {a = a} (forth a1)
  forth (stat_write {n} {s} {r} {a} a1) = made_stat_write {n = n} {s = s} {r = r} {a = a} (forth a1)
  forth (def_stat_is {n} {s} {m} {r} {y} {x} a1 a2) = made_def_stat_is {n = n} {s = s} {m = m} {r = r} {y = y} {x = x} (forth a1) (forth a2)
  forth (id_list_is {n} {s} {m} {r} {a} {b} a1 a2) = made_id_list_is {n = n} {s = s} {m = m} {r = r} {a = a} {b = b} (forth a1) (forth a2)
  forth (no_more_ids {n} {s}) = made_no_more_ids {n = n} {s = s}
  forth (another_id {n} {s} {m} {r} {p} {a} {b} a1 a2) = made_another_id {n = n} {s = s} {m = m} {r = r} {p = p} {a = a} {b = b} (forth a1) (forth a2)
  forth id_is = id_tok
  forth (type_atomic {n} {s} {r} {y} a1) = made_type_atomic {n = n} {s = s} {r = r} {y = y} (forth a1)
  forth (type_table {n} {s} {r} {y} a1) = made_type_table {n = n} {s = s} {r = r} {y = y} (forth a1)
  forth atomic_type_is = type_tok
  forth (table_type_is {n} {s} {r} {p} {q} {z} {x} a1) = made_table_type_is {n = n} {s = s} {r = r} {p = p} {q = q} {z = z} {x = x} (forth a1)
  forth (attr_list_is {n} {s} {m} {r} {a} {b} a1 a2) = made_attr_list_is {n = n} {s = s} {m = m} {r = r} {a = a} {b = b} (forth a1) (forth a2)
  forth (no_more_attrs {n} {s}) = made_no_more_attrs {n = n} {s = s}
  forth (another_attr {n} {s} {m} {r} {p} {a} {b} a1 a2) = made_another_attr {n = n} {s = s} {m = m} {r = r} {p = p} {a = a} {b = b} (forth a1) (forth a2)
  forth (attr_decl_is {n} {s} {m} {r} {y} {x} a1 a2) = made_attr_decl_is {n = n} {s = s} {m = m} {r = r} {y = y} {x = x} (forth a1) (forth a2)
  forth (assign_stat_is {n} {s} {m} {r} {p} {x} {e} a1 a2) = made_assign_stat_is {n = n} {s = s} {m = m} {r = r} {p = p} {x = x} {e = e} (forth a1) (forth a2)
  forth (expr_is {n} {s} {m} {r} {a} {e} a1 a2) = made_expr_is {n = n} {s = s} {m = m} {r = r} {a = a} {e = e} (forth a1) (forth a2)
  forth (no_more_bool_terms {n} {s} {a}) = made_no_more_bool_terms {n = n} {s = s} {a = a}
  forth (another_bool_term {n} {s} {m} {r} {o} {p} {a} {b} {e} a1 a2) = made_another_bool_term {n = n} {s = s} {m = m} {r = r} {o = o} {p = p} {a = a} {b = b} {e = e} (forth a1) (forth a2)
  forth (bool_term_alone {n} {s} {r} {a} a1) = made_bool_term_alone {n = n} {s = s} {r = r} {a = a} (forth a1)
  forth (bool_term_compared {n} {s} {m} {r} {o} {p} {a} {b} a1 a2) = made_bool_term_compared {n = n} {s = s} {m = m} {r = r} {o = o} {p = p} {a = a} {b = b} (forth a1) (forth a2)
  forth (comp_term_is {n} {s} {m} {r} {a} {e} a1 a2) = made_comp_term_is {n = n} {s = s} {m = m} {r = r} {a = a} {e = e} (forth a1) (forth a2)
  forth (no_more_low_terms {n} {s} {a}) = made_no_more_low_terms {n = n} {s = s} {a = a}
  forth (another_low_term {n} {s} {m} {r} {o} {p} {a} {b} {e} a1 a2) = made_another_low_term {n = n} {s = s} {m = m} {r = r} {o = o} {p = p} {a = a} {b = b} {e = e} (forth a1) (forth a2)
  forth (low_term_is {n} {s} {m} {r} {a} {e} a1 a2) = made_low_term_is {n = n} {s = s} {m = m} {r = r} {a = a} {e = e} (forth a1) (forth a2)
  forth (no_more_factors {n} {s} {a}) = made_no_more_factors {n = n} {s = s} {a = a}
  forth (another_factor {n} {s} {m} {r} {o} {p} {a} {b} {e} a1 a2) = made_another_factor {n = n} {s = s} {m = m} {r = r} {o = o} {p = p} {a = a} {b = b} {e = e} (forth a1) (forth a2)
  forth (another_joined {n} {s} {l} {m} {r} {p} {q} {z} {a} {c} {b} {e} a1 a2 a3 a4) = made_another_joined {n = n} {s = s} {l = l} {m = m} {r = r} {p = p} {q = q} {z = z} {a = a} {c = c} {b = b} {e = e} a1 (forth a2) (forth a3) (forth a4)
  forth (factor_negative {n} {s} {r} {p} {e} a1 a2) = made_factor_negative {n = n} {s = s} {r = r} {p = p} {e = e} a1 (forth a2)
  forth (factor_not {n} {s} {r} {p} {e} a1 a2) = made_factor_not {n = n} {s = s} {r = r} {p = p} {e = e} a1 (forth a2)
  forth (factor_project {n} {s} {m} {r} {p} {q} {z} {x} {e} a1 a2 a3) = made_factor_project {n = n} {s = s} {m = m} {r = r} {p = p} {q = q} {z = z} {x = x} {e = e} a1 (forth a2) (forth a3)
  forth (factor_select {n} {s} {m} {r} {p} {q} {z} {c} {e} a1 a2 a3) = made_factor_select {n = n} {s = s} {m = m} {r = r} {p = p} {q = q} {z = z} {c = c} {e = e} a1 (forth a2) (forth a3)
  forth (factor_exists {n} {s} {m} {r} {p} {q} {z} {c} {e} a1 a2 a3) = made_factor_exists {n = n} {s = s} {m = m} {r = r} {p = p} {q = q} {z = z} {c = c} {e = e} a1 (forth a2) (forth a3)
  forth (factor_all {n} {s} {m} {r} {p} {q} {z} {c} {e} a1 a2 a3) = made_factor_all {n = n} {s = s} {m = m} {r = r} {p = p} {q = q} {z = z} {c = c} {e = e} a1 (forth a2) (forth a3)
  forth (factor_extend {n} {s} {l} {m} {o} {r} {p} {q} {z} {w} {y} {x} {c} {e} a1 a2 a3 a4 a5) = made_factor_extend {n = n} {s = s} {l = l} {m = m} {o = o} {r = r} {p = p} {q = q} {z = z} {w = w} {y = y} {x = x} {c = c} {e = e} a1 (forth a2) (forth a3) (forth a4) (forth a5)
  forth (factor_update {n} {s} {m} {o} {r} {p} {q} {z} {w} {x} {c} {e} a1 a2 a3 a4) = made_factor_update {n = n} {s = s} {m = m} {o = o} {r = r} {p = p} {q = q} {z = z} {w = w} {x = x} {c = c} {e = e} a1 (forth a2) (forth a3) (forth a4)
  forth (factor_rename {n} {s} {m} {r} {p} {q} {z} {x} {e} a1 a2 a3) = made_factor_rename {n = n} {s = s} {m = m} {r = r} {p = p} {q = q} {z = z} {x = x} {e = e} a1 (forth a2) (forth a3)
  forth (factor_parenthesis {n} {s} {r} {p} {z} {e} a1 a2) = made_factor_parenthesis {n = n} {s = s} {r = r} {p = p} {z = z} {e = e} a1 (forth a2)
  forth (factor_id {n} {s} {r} {x} a1) = made_factor_id {n = n} {s = s} {r = r} {x = x} (forth a1)
  forth (factor_constant {n} {s} {r} {e} a1) = made_factor_constant {n = n} {s = s} {r = r} {e = e} (forth a1)
  forth (constant_atomic {n} {s} {r} {c} a1) = made_constant_atomic {n = n} {s = s} {r = r} {c = c} (forth a1)
  forth (constant_table {n} {s} {r} {e} a1) = made_constant_table {n = n} {s = s} {r = r} {e = e} (forth a1)
  forth (atomic_const_integer {n} {s} {x} {p}) = made_atomic_const_integer {n = n} {s = s} {x = x} {p = p}
  forth (atomic_const_string {n} {s} {x} {p}) = made_atomic_const_string {n = n} {s = s} {x = x} {p = p}
  forth (atomic_const_truth {n} {s} {b} {p}) = made_atomic_const_truth {n = n} {s = s} {b = b} {p = p}
  forth (table_const_tuples {n} {s} {r} {p} {z} {x} a1) = made_table_const_tuples {n = n} {s = s} {r = r} {p = p} {z = z} {x = x} (forth a1)
  forth (table_const_types {n} {s} {r} {p} {z} {y} a1) = made_table_const_types {n = n} {s = s} {r = r} {p = p} {z = z} {y = y} (forth a1)
  forth (tuple_list_is {n} {s} {m} {r} {a} {b} a1 a2) = made_tuple_list_is {n = n} {s = s} {m = m} {r = r} {a = a} {b = b} (forth a1) (forth a2)
  forth (no_more_tuples {n} {s}) = made_no_more_tuples {n = n} {s = s}
  forth (another_tuple {n} {s} {m} {r} {p} {a} {b} a1 a2) = made_another_tuple {n = n} {s = s} {m = m} {r = r} {p = p} {a = a} {b = b} (forth a1) (forth a2)
  forth (atomic_type_list_is {n} {s} {m} {r} {a} {b} a1 a2) = made_atomic_type_list_is {n = n} {s = s} {m = m} {r = r} {a = a} {b = b} (forth a1) (forth a2)
  forth (no_more_types {n} {s}) = made_no_more_types {n = n} {s = s}
  forth (another_type {n} {s} {m} {r} {p} {a} {b} a1 a2) = made_another_type {n = n} {s = s} {m = m} {r = r} {p = p} {a = a} {b = b} (forth a1) (forth a2)
  forth (tuple_const_is {n} {s} {m} {r} {p} {z} {a} {b} a1 a2) = made_tuple_const_is {n = n} {s = s} {m = m} {r = r} {p = p} {z = z} {a = a} {b = b} (forth a1) (forth a2)
  forth (no_more_consts {n} {s}) = made_no_more_consts {n = n} {s = s}
  forth (another_const {n} {s} {m} {r} {p} {a} {b} a1 a2) = made_another_const {n = n} {s = s} {m = m} {r = r} {p = p} {a = a} {b = b} (forth a1) (forth a2)
  forth (if_stat_then {n} {s} {m} {r} {p} {q} {z} {e} {a} a1 a2 a3) = made_if_stat_then {n = n} {s = s} {m = m} {r = r} {p = p} {q = q} {z = z} {e = e} {a = a} (forth a1) a2 (forth a3)
  forth (if_stat_else {n} {s} {m} {l} {r} {p} {q} {z} {w} {e} {a} {b} a1 a2 a3 a4) = made_if_stat_else {n = n} {s = s} {m = m} {l = l} {r = r} {p = p} {q = q} {z = z} {w = w} {e = e} {a = a} {b = b} (forth a1) a2 (forth a3) (forth a4)
  forth (while_stat_is {n} {s} {m} {r} {p} {q} {z} {e} {a} a1 a2 a3) = made_while_stat_is {n = n} {s = s} {m = m} {r = r} {p = p} {q = q} {z = z} {e = e} {a = a} (forth a1) a2 (forth a3)
  forth (read_stat_is {n} {s} {m} {r} {p} {f} {x} a1 a2) = made_read_stat_is {n = n} {s = s} {m = m} {r = r} {p = p} {f = f} {x = x} (forth a1) (forth a2)
  forth (specifier_given {n} {s} {r} {p} {z} {e} a1 a2) = made_specifier_given {n = n} {s = s} {r = r} {p = p} {z = z} {e = e} a1 (forth a2)
  forth (specifier_absent {n} {s}) = made_specifier_absent {n = n} {s = s}
  forth (write_stat_is {n} {s} {m} {r} {p} {f} {e} a1 a2) = made_write_stat_is {n = n} {s = s} {m = m} {r = r} {p = p} {f = f} {e = e} (forth a1) (forth a2)

-- each view of a token, read backwards
data OpIs : Token → Between → Type 0 where
  not_op : {k : Token} → OpIs k no_operator
  is_join : {p : Place} → OpIs (word Join at p) join_operator
  is_seq : {p : Place} → OpIs (sign Semicolon at p) (operator_of_rank 0 semicolons)
  is_comma : {p : Place} → OpIs (sign Comma at p) (operator_of_rank 1 commas)
  is_logic : {o : Logic} {p : Place} → OpIs (logic o at p) (operator_of_rank 2 (logic_operator o))
  is_compare : {o : Comparison} {p : Place} → OpIs (comparison o at p) (operator_of_rank 3 (comparison_operator o))
  is_sum : {o : Sum} {p : Place} → OpIs (sum o at p) (operator_of_rank 4 (sum_operator o))
  is_product : {o : Product} {p : Place} → OpIs (product o at p) (operator_of_rank 5 (product_operator o))

op_is : (k : Token) → OpIs k (between_of k)
op_is (word Program at p) = not_op
op_is (word End at p) = not_op
op_is (word Table at p) = not_op
op_is (word If at p) = not_op
op_is (word Then at p) = not_op
op_is (word Else at p) = not_op
op_is (word While at p) = not_op
op_is (word Do at p) = not_op
op_is (word Read at p) = not_op
op_is (word Write at p) = not_op
op_is (word Join at p) = is_join
op_is (word Not at p) = not_op
op_is (word Project at p) = not_op
op_is (word Select at p) = not_op
op_is (word Exists at p) = not_op
op_is (word All at p) = not_op
op_is (word Update at p) = not_op
op_is (word Extend at p) = not_op
op_is (word Rename at p) = not_op
op_is (sign LeftParenthesis at p) = not_op
op_is (sign RightParenthesis at p) = not_op
op_is (sign LeftBracket at p) = not_op
op_is (sign RightBracket at p) = not_op
op_is (sign LeftBrace at p) = not_op
op_is (sign RightBrace at p) = not_op
op_is (sign Semicolon at p) = is_seq
op_is (sign Comma at p) = is_comma
op_is (sign Assign at p) = not_op
op_is (domain d at p) = not_op
op_is (logic o at p) = is_logic
op_is (comparison o at p) = is_compare
op_is (sum o at p) = is_sum
op_is (product o at p) = is_product
op_is (truth b at p) = not_op
op_is (integer x at p) = not_op
op_is (string x at p) = not_op
op_is (name x at p) = not_op
op_is (broken c at p) = not_op

data StartIs : Token → FactorStart → Type 0 where
  starts_not : {k : Token} → StartIs k no_factor
  start_name : {x : Bytes} {p : Place} → StartIs (name x at p) (leaf (expression_part (variable (named x p))))
  start_integer : {x : Bytes} {p : Place} → StartIs (integer x at p) (leaf (expression_part (literal (integer_constant (pos (value_of x)) p))))
  start_string : {x : Bytes} {p : Place} → StartIs (string x at p) (leaf (expression_part (literal (string_constant x p))))
  start_truth : {x : Bool} {p : Place} → StartIs (truth x at p) (leaf (expression_part (literal (truth_constant x p))))
  start_minus : {p : Place} → StartIs (sum Minus at p) (unary unary_minus)
  start_not : {p : Place} → StartIs (word Not at p) (unary unary_not)
  start_project : {p : Place} → StartIs (word Project at p) (unary unary_project)
  start_select : {p : Place} → StartIs (word Select at p) (unary unary_select)
  start_exists : {p : Place} → StartIs (word Exists at p) (unary unary_exists)
  start_all : {p : Place} → StartIs (word All at p) (unary unary_all)
  start_update : {p : Place} → StartIs (word Update at p) (unary unary_update)
  start_extend : {p : Place} → StartIs (word Extend at p) (unary unary_extend)
  start_rename : {p : Place} → StartIs (word Rename at p) (unary unary_rename)
  start_paren : {p : Place} → StartIs (sign LeftParenthesis at p) parenthesis
  start_brace : {p : Place} → StartIs (sign LeftBrace at p) brace

start_is : (k : Token) → StartIs k (factor_start k)
start_is (word Program at p) = starts_not
start_is (word End at p) = starts_not
start_is (word Table at p) = starts_not
start_is (word If at p) = starts_not
start_is (word Then at p) = starts_not
start_is (word Else at p) = starts_not
start_is (word While at p) = starts_not
start_is (word Do at p) = starts_not
start_is (word Read at p) = starts_not
start_is (word Write at p) = starts_not
start_is (word Join at p) = starts_not
start_is (word Not at p) = start_not
start_is (word Project at p) = start_project
start_is (word Select at p) = start_select
start_is (word Exists at p) = start_exists
start_is (word All at p) = start_all
start_is (word Update at p) = start_update
start_is (word Extend at p) = start_extend
start_is (word Rename at p) = start_rename
start_is (sign LeftParenthesis at p) = start_paren
start_is (sign RightParenthesis at p) = starts_not
start_is (sign LeftBracket at p) = starts_not
start_is (sign RightBracket at p) = starts_not
start_is (sign LeftBrace at p) = start_brace
start_is (sign RightBrace at p) = starts_not
start_is (sign Semicolon at p) = starts_not
start_is (sign Comma at p) = starts_not
start_is (sign Assign at p) = starts_not
start_is (domain d at p) = starts_not
start_is (logic o at p) = starts_not
start_is (comparison o at p) = starts_not
start_is (sum Plus at p) = starts_not
start_is (sum Minus at p) = start_minus
start_is (product o at p) = starts_not
start_is (truth b at p) = start_truth
start_is (integer x at p) = start_integer
start_is (string x at p) = start_string
start_is (name x at p) = start_name
start_is (broken c at p) = starts_not

data StatIs : Token → StatementStart → Type 0 where
  stat_not : {k : Token} → StatIs k no_statement_here
  stat_is_assign : {x : Bytes} {p : Place} → StatIs (name x at p) (assigning (named x p))
  stat_define : {d : Domain} {p : Place} → StatIs (domain d at p) (defining (typed d p))
  stat_table : {p : Place} → StatIs (word Table at p) defining_table
  stat_is_if : {p : Place} → StatIs (word If at p) deciding
  stat_is_while : {p : Place} → StatIs (word While at p) looping
  stat_is_read : {p : Place} → StatIs (word Read at p) reading
  stat_is_write : {p : Place} → StatIs (word Write at p) writing

stat_is : (k : Token) → StatIs k (statement_start k)
stat_is (word Program at p) = stat_not
stat_is (word End at p) = stat_not
stat_is (word Table at p) = stat_table
stat_is (word If at p) = stat_is_if
stat_is (word Then at p) = stat_not
stat_is (word Else at p) = stat_not
stat_is (word While at p) = stat_is_while
stat_is (word Do at p) = stat_not
stat_is (word Read at p) = stat_is_read
stat_is (word Write at p) = stat_is_write
stat_is (word Join at p) = stat_not
stat_is (word Not at p) = stat_not
stat_is (word Project at p) = stat_not
stat_is (word Select at p) = stat_not
stat_is (word Exists at p) = stat_not
stat_is (word All at p) = stat_not
stat_is (word Update at p) = stat_not
stat_is (word Extend at p) = stat_not
stat_is (word Rename at p) = stat_not
stat_is (sign g at p) = stat_not
stat_is (domain d at p) = stat_define
stat_is (logic o at p) = stat_not
stat_is (comparison o at p) = stat_not
stat_is (sum o at p) = stat_not
stat_is (product o at p) = stat_not
stat_is (truth b at p) = stat_not
stat_is (integer x at p) = stat_not
stat_is (string x at p) = stat_not
stat_is (name x at p) = stat_is_assign
stat_is (broken c at p) = stat_not

data NameIs : Token → Option Part → Type 0 where
  name_not : {k : Token} → NameIs k none
  name_part_is : {x : Bytes} {p : Place} → NameIs (name x at p) (some (name_part (named x p)))

name_is : (k : Token) → NameIs k (name_of k)
name_is (word w at p) = name_not
name_is (sign g at p) = name_not
name_is (domain d at p) = name_not
name_is (logic o at p) = name_not
name_is (comparison o at p) = name_not
name_is (sum o at p) = name_not
name_is (product o at p) = name_not
name_is (truth b at p) = name_not
name_is (integer x at p) = name_not
name_is (string x at p) = name_not
name_is (name x at p) = name_part_is
name_is (broken c at p) = name_not

data TypeIs : Token → Option Part → Type 0 where
  type_not : {k : Token} → TypeIs k none
  type_part_is : {d : Domain} {p : Place} → TypeIs (domain d at p) (some (type_part (typed d p)))

type_is : (k : Token) → TypeIs k (type_of k)
type_is (word w at p) = type_not
type_is (sign g at p) = type_not
type_is (domain d at p) = type_part_is
type_is (logic o at p) = type_not
type_is (comparison o at p) = type_not
type_is (sum o at p) = type_not
type_is (product o at p) = type_not
type_is (truth b at p) = type_not
type_is (integer x at p) = type_not
type_is (string x at p) = type_not
type_is (name x at p) = type_not
type_is (broken c at p) = type_not

data ConstIs : Token → Option Part → Type 0 where
  const_not : {k : Token} → ConstIs k none
  const_integer : {x : Bytes} {p : Place} → ConstIs (integer x at p) (some (constant_part (integer_constant (pos (value_of x)) p)))
  const_string : {x : Bytes} {p : Place} → ConstIs (string x at p) (some (constant_part (string_constant x p)))
  const_truth : {x : Bool} {p : Place} → ConstIs (truth x at p) (some (constant_part (truth_constant x p)))

const_is : (k : Token) → ConstIs k (constant_of k)
const_is (word w at p) = const_not
const_is (sign g at p) = const_not
const_is (domain d at p) = const_not
const_is (logic o at p) = const_not
const_is (comparison o at p) = const_not
const_is (sum o at p) = const_not
const_is (product o at p) = const_not
const_is (truth b at p) = const_truth
const_is (integer x at p) = const_integer
const_is (string x at p) = const_string
const_is (name x at p) = const_not
const_is (broken c at p) = const_not

-- a word or sign that is due
data TokIs : Token → Token → Type 0 where
  same : {l : Terminal} {p q : Place} → TokIs (l at q) (l at p)

tok_is : (w k : Token) → code_of w < 28 → same_as w k ≡ true → TokIs w k
tok_is (l at q) (m at p) h e = subst (λ i. TokIs (l at q) (i at p)) (is_eq (l at q) (m at p) h e) same

ranked : (c : ℕ) (v : Between) (o : Operator) → turn_if c v ≡ take_operator o → v ≡ operator_of_rank c o
ranked c no_operator o e = absurd (let y : ◌≡◌ {A = ℕ} 0 1 = cc in let z : ⊥ = omega arith in z)
ranked c join_operator o e = grind arith
ranked c (operator_of_rank m p) o e = grind arith

joins_at : (c : ℕ) (v : Between) → turn_if c v ≡ take_join → (c ≡ 5) × (v ≡ join_operator)
joins_at c no_operator e = absurd (let y : ◌≡◌ {A = ℕ} 0 1 = cc in let z : ⊥ = omega arith in z)
joins_at c join_operator e = (grind arith, refl)
joins_at c (operator_of_rank m p) e = absurd (grind arith)

as_op : (c : ℕ) (k : Token) (o : Operator) → turn_if c (between_of k) ≡ take_operator o → OpIs k (operator_of_rank c o)
as_op c k o e = subst (λ v. OpIs k v) (ranked c (between_of k) o e) (op_is k)

nil_right : {A : Type 0} (t u : List A) (x : A) (b : List A) {v : List A} → u ≡ x ∷ [] → v ≡ (t ++ u) ++ b → v ≡ t ++ (x ∷ b)
nil_right t u x b e h = h ∙ append_assoc t u b ∙ ap (λ i. t ++ (i ++ b)) e

module _ (leave : Leave) where
  pub data Bracketed : ℕ → List Token → List Token → Expression → Type 0 where
    bracketed : {n : ℕ} {s r : List Token} {p z : Place} {e : Expression} → Opens leave n (sign LeftBracket at p ∷ s) → Reads leave expr n s (sign RightBracket at z ∷ r) e →
        Bracketed (suc n) (sign LeftBracket at p ∷ s) r e

  pub data Args : Argument → ℕ → List Token → List Token → Part → Type 0 where
    arg_none : {n : ℕ} {s : List Token} {x : Part} → Args no_argument n s s x
    arg_names : {n : ℕ} {s r : List Token} {p z : Place} {x : Part} → Reads leave id_list n s (sign RightBracket at z ∷ r) x.names → Args names_argument n (sign LeftBracket at p ∷ s) r x
    arg_cond : {n : ℕ} {s r : List Token} {p z : Place} {x : Part} → Reads leave expr n s (sign RightBracket at z ∷ r) x.expression → Args condition_argument n (sign LeftBracket at p ∷ s) r x
    arg_update : {n : ℕ} {s m r : List Token} {p z w : Place} {x : Part} → Reads leave id n s (sign Assign at w ∷ m) (first_name x.names) → Reads leave expr n m (sign RightBracket at z ∷ r) x.expression → Args update_argument n (sign LeftBracket at p ∷ s) r x
    arg_extend : {n : ℕ} {s l m r : List Token} {p z w : Place} {x : Part} → Reads leave atomic_type n s l (first_type x.types) → Reads leave id n l (sign Assign at w ∷ m) (first_name x.names) → Reads leave expr n m (sign RightBracket at z ∷ r) x.expression →
        Args extend_argument n (sign LeftBracket at p ∷ s) r x

  -- what the reader's grammar has for each part of the table grammar
  abbrev pub Back : TableSymbol → ℕ → List Token → List Token → Part → Type 0
  Back (level statement_level) n s r t = Reads leave stat_list n s r t.statements
  Back (level name_level) n s r t = Reads leave id_list n s r t.names
  Back (level type_level) n s r t = (Reads leave atomic_type_list n s r t.types) × (t.tuples ≡ [])
  Back (level constant_level) n s r t = (a : Constant) × (b : List Constant) × (m : List Token) × (Reads leave atomic_const n s m a) × (Reads leave more_consts n m r b) × (t.constants ≡ a ∷ b)
  Back (level attribute_level) n s r t = Reads leave attr_list n s r t.attributes
  Back (level tuple_level) n s r t = Reads leave tuple_list n s r t.tuples
  Back (level logic_level) n s r t = Reads leave expr n s r t.expression
  Back (level comparison_level) n s r t = Reads leave bool_term n s r t.expression
  Back (level sum_level) n s r t = Reads leave comp_term n s r t.expression
  Back (level product_level) n s r t = Reads leave low_term n s r t.expression
  Back (level compared_level) n s r t = Unit {0}
  Back (more statement_level t) n s r u = (b : Statements) × (u.statements ≡ append_statements t.statements b) × Reads leave more_stats n s r b
  Back (more name_level t) n s r u = (b : List Name) × (u.names ≡ t.names ++ b) × Reads leave more_ids n s r b
  Back (more type_level t) n s r u = (b : List AtomicType) × (u.types ≡ t.types ++ b) × (Reads leave more_types n s r b) × (t.tuples ≡ [] → u.tuples ≡ [])
  Back (more constant_level t) n s r u = (b : List Constant) × (u.constants ≡ t.constants ++ b) × Reads leave more_consts n s r b
  Back (more attribute_level t) n s r u = (b : List Attribute) × (u.attributes ≡ t.attributes ++ b) × Reads leave more_attrs n s r b
  Back (more tuple_level t) n s r u = (b : List Tuple) × (u.tuples ≡ t.tuples ++ b) × Reads leave more_tuples n s r b
  Back (more logic_level t) n s r u = Reads leave (more_bool_terms t.expression) n s r u.expression
  Back (more comparison_level t) n s r u = (l : List Token) → Reads leave comp_term n l s t.expression → Reads leave bool_term n l r u.expression
  Back (more sum_level t) n s r u = Reads leave (more_low_terms t.expression) n s r u.expression
  Back (more product_level t) n s r u = Reads leave (more_factors t.expression) n s r u.expression
  Back (more compared_level t) n s r u = (s ≡ r) × (t ≡ u)
  Back nt_factor n s r t = Reads leave factor n s r t.expression
  Back bracket n s r t = Bracketed n s r t.expression
  Back inst n s r t = (Reads leave tuple_list n s r t.tuples) ⊎ ((Reads leave atomic_type_list n s r t.types) × (t.tuples ≡ []))
  Back tuple_n n s r t = (x : Tuple) × (t.tuples ≡ x ∷ []) × Reads leave tuple_const n s r x
  Back attr n s r t = (x : Attribute) × (t.attributes ≡ x ∷ []) × Reads leave attr_decl n s r x
  Back nt_stat n s r t = (x : Statement) × (t.statements ≡ x followed_by no_statement) × Reads leave stat n s r x
  Back prog n s r t = Reads leave program n s r (closed_at t.statements t.place)
  Back (arg a) n s r t = Args a n s r t
  Back (atom name_leaf) n s r t = (x : Name) × (t.names ≡ x ∷ []) × Reads leave id n s r x
  Back (atom type_leaf) n s r t = (x : AtomicType) × (t.types ≡ x ∷ []) × (Reads leave atomic_type n s r x) × (t.tuples ≡ [])
  Back (atom constant_leaf) n s r t = (x : Constant) × (t.constants ≡ x ∷ []) × Reads leave atomic_const n s r x
  Back (elses t u) n s r v = (l m : List Token) (q : Place) → Reads leave expr (suc n) l (word Then at q ∷ m) t.expression → Opens leave n (word Then at q ∷ m) → Reads leave stat_list n m s u.statements →
      (x : Statement) × (v.statements ≡ x followed_by no_statement) × Reads leave if_stat (suc n) (word If at t.place ∷ l) r x
  Back (tok w) n s r t = Unit {0}

  as_list : {S : Symbol} {n : ℕ} {s r : List Token} {a b : Of S} → b ≡ a → Reads leave S n s r a → Reads leave S n s r b
  as_list {S} {n} {s} {r} e h = subst (λ i. Reads leave S n s r i) (sym e) h

  first_back : (l : Level) (n : ℕ) (s r q : List Token) (t u : Part) → Back (item_of l) n s r t → Back (more l t) n r q u → Back (level l) n s q u
  first_back statement_level n s r q t u (a, e, x) (b, h, y) = as_list (h ∙ ap (λ i. append_statements i b) e) (stat_list_is x y)
  first_back name_level n s r q t u (a, e, x) (b, h, y) = as_list (h ∙ ap (λ i. i ++ b) e) (id_list_is x y)
  first_back type_level n s r q t u (a, e, x, k) (b, h, y, j) = (as_list (h ∙ ap (λ i. i ++ b) e) (atomic_type_list_is x y), j k)
  first_back constant_level n s r q t u (a, e, x) (b, h, y) = (a, b, _, x, y, h ∙ ap (λ i. i ++ b) e)
  first_back attribute_level n s r q t u (a, e, x) (b, h, y) = as_list (h ∙ ap (λ i. i ++ b) e) (attr_list_is x y)
  first_back tuple_level n s r q t u (a, e, x) (b, h, y) = as_list (h ∙ ap (λ i. i ++ b) e) (tuple_list_is x y)
  first_back logic_level n s r q t u a b = expr_is a b
  first_back comparison_level n s r q t u a b = b _ a
  first_back sum_level n s r q t u a b = comp_term_is a b
  first_back product_level n s r q t u a b = low_term_is a b
  first_back compared_level n s r q t u a b = tt

  done_back : (l : Level) (n : ℕ) (s : List Token) (t : Part) → Back (more l t) n s s t
  done_back statement_level n s t = (no_statement, sym (join_nil t.statements), no_more_stats)
  done_back name_level n s t = ([], sym (append-nil t.names), no_more_ids)
  done_back type_level n s t = ([], sym (append-nil t.types), no_more_types, λ h. h)
  done_back constant_level n s t = ([], sym (append-nil t.constants), no_more_consts)
  done_back attribute_level n s t = ([], sym (append-nil t.attributes), no_more_attrs)
  done_back tuple_level n s t = ([], sym (append-nil t.tuples), no_more_tuples)
  done_back logic_level n s t = no_more_bool_terms
  done_back comparison_level n s t = λ l a. bool_term_alone a
  done_back sum_level n s t = no_more_low_terms
  done_back product_level n s t = no_more_factors
  done_back compared_level n s t = (refl, refl)

  semi_next : {k : Token} {o : Operator} (n : ℕ) (s r q : List Token) (t u v : Part) → OpIs k (operator_of_rank 0 o) → Back nt_stat n s r u → Back (more statement_level (combine o (place_of k) t u)) n r q v → Back (more statement_level t) n (k ∷ s) q v
  semi_next n s r q t u v is_seq (a, e, x) (b, h, y) = (a followed_by b, h ∙ join_assoc t.statements u.statements b ∙ ap (λ i. append_statements t.statements (append_statements i b)) e, another_stat x y)

  ids_next : {k : Token} {o : Operator} (n : ℕ) (s r q : List Token) (t u v : Part) → OpIs k (operator_of_rank 1 o) → Back (atom name_leaf) n s r u → Back (more name_level (combine o (place_of k) t u)) n r q v → Back (more name_level t) n (k ∷ s) q v
  ids_next n s r q t u v is_comma (a, e, x) (b, h, y) = (a ∷ b, nil_right t.names u.names a b e h, another_id x y)

  types_next : {k : Token} {o : Operator} (n : ℕ) (s r q : List Token) (t u v : Part) → OpIs k (operator_of_rank 1 o) → Back (atom type_leaf) n s r u → Back (more type_level (combine o (place_of k) t u)) n r q v → Back (more type_level t) n (k ∷ s) q v
  types_next n s r q t u v is_comma (a, e, x, k) (b, h, y, j) = (a ∷ b, nil_right t.types u.types a b e h, another_type x y, λ i. j (ap (λ w. w ++ u.tuples) i ∙ k))

  consts_next : {k : Token} {o : Operator} (n : ℕ) (s r q : List Token) (t u v : Part) → OpIs k (operator_of_rank 1 o) → Back (atom constant_leaf) n s r u → Back (more constant_level (combine o (place_of k) t u)) n r q v → Back (more constant_level t) n (k ∷ s) q v
  consts_next n s r q t u v is_comma (a, e, x) (b, h, y) = (a ∷ b, nil_right t.constants u.constants a b e h, another_const x y)

  attrs_next : {k : Token} {o : Operator} (n : ℕ) (s r q : List Token) (t u v : Part) → OpIs k (operator_of_rank 1 o) → Back attr n s r u → Back (more attribute_level (combine o (place_of k) t u)) n r q v → Back (more attribute_level t) n (k ∷ s) q v
  attrs_next n s r q t u v is_comma (a, e, x) (b, h, y) = (a ∷ b, nil_right t.attributes u.attributes a b e h, another_attr x y)

  tuples_next : {k : Token} {o : Operator} (n : ℕ) (s r q : List Token) (t u v : Part) → OpIs k (operator_of_rank 1 o) → Back tuple_n n s r u → Back (more tuple_level (combine o (place_of k) t u)) n r q v → Back (more tuple_level t) n (k ∷ s) q v
  tuples_next n s r q t u v is_comma (a, e, x) (b, h, y) = (a ∷ b, nil_right t.tuples u.tuples a b e h, another_tuple x y)

  or_next : {k : Token} {o : Operator} (n : ℕ) (s r q : List Token) (t u v : Part) → OpIs k (operator_of_rank 2 o) → Back (level comparison_level) n s r u → Back (more logic_level (combine o (place_of k) t u)) n r q v → Back (more logic_level t) n (k ∷ s) q v
  or_next n s r q t u v is_logic a b = another_bool_term a b

  eq_next : {k : Token} {o : Operator} (n : ℕ) (s r q : List Token) (t u v : Part) → OpIs k (operator_of_rank 3 o) → Back (level sum_level) n s r u → Back (more compared_level (combine o (place_of k) t u)) n r q v → Back (more comparison_level t) n (k ∷ s) q v
  eq_next n s r q t u v (is_compare {o} {p}) a (e, f) = λ l x. subst (λ i. Reads leave bool_term n l q i.expression) f (subst (λ i. Reads leave bool_term n l i (compared o p t.expression u.expression)) e (bool_term_compared x a))

  sum_next : {k : Token} {o : Operator} (n : ℕ) (s r q : List Token) (t u v : Part) → OpIs k (operator_of_rank 4 o) → Back (level product_level) n s r u → Back (more sum_level (combine o (place_of k) t u)) n r q v → Back (more sum_level t) n (k ∷ s) q v
  sum_next n s r q t u v is_sum a b = another_low_term a b

  product_next : {k : Token} {o : Operator} (n : ℕ) (s r q : List Token) (t u v : Part) → OpIs k (operator_of_rank 5 o) → Back nt_factor n s r u → Back (more product_level (combine o (place_of k) t u)) n r q v → Back (more product_level t) n (k ∷ s) q v
  product_next n s r q t u v is_product a b = another_factor a b

  next_back : (l : Level) (k : Token) (o : Operator) (n : ℕ) (s r q : List Token) (t u v : Part) → turn_at l k ≡ take_operator o → Back (item_of l) n s r u → Back (more (level_after l) (combine o (place_of k) t u)) n r q v → Back (more l t) n (k ∷ s) q v
  next_back statement_level k o n s r q t u v e a b = semi_next n s r q t u v (as_op 0 k o e) a b
  next_back name_level k o n s r q t u v e a b = ids_next n s r q t u v (as_op 1 k o e) a b
  next_back type_level k o n s r q t u v e a b = types_next n s r q t u v (as_op 1 k o e) a b
  next_back constant_level k o n s r q t u v e a b = consts_next n s r q t u v (as_op 1 k o e) a b
  next_back attribute_level k o n s r q t u v e a b = attrs_next n s r q t u v (as_op 1 k o e) a b
  next_back tuple_level k o n s r q t u v e a b = tuples_next n s r q t u v (as_op 1 k o e) a b
  next_back logic_level k o n s r q t u v e a b = or_next n s r q t u v (as_op 2 k o e) a b
  next_back comparison_level k o n s r q t u v e a b = eq_next n s r q t u v (as_op 3 k o e) a b
  next_back sum_level k o n s r q t u v e a b = sum_next n s r q t u v (as_op 4 k o e) a b
  next_back product_level k o n s r q t u v e a b = product_next n s r q t u v (as_op 5 k o e) a b
  next_back compared_level k o n s r q t u v e a b = absurd (let y : ◌≡◌ {A = ℕ} 0 1 = cc in let z : ⊥ = omega arith in z)

  join_at : {k : Token} (n : ℕ) (s r q p : List Token) (t x u v : Part) → OpIs k join_operator → Bracketed n s r x.expression → Reads leave factor n r q u.expression → Reads leave (more_factors (joined (place_of k) t.expression x.expression u.expression)) n q p v.expression →
      Reads leave (more_factors t.expression) n (k ∷ s) p v.expression
  join_at n s r q p t x u v is_join (bracketed o c) a b = another_joined o c a b

  no_join : (c : ℕ) (v : Between) → ¬ (c ≡ 5) → ¬ (turn_if c v ≡ take_join)
  no_join c v h e = h (joins_at c v e).0

  join_back : (l : Level) (k : Token) (n : ℕ) (s r q p : List Token) (t x u v : Part) → turn_at l k ≡ take_join → Bracketed n s r x.expression → Back (item_of l) n r q u → Back (more (level_after l) (join_parts (place_of k) t x u)) n q p v → Back (more l t) n (k ∷ s) p v
  join_back statement_level k n s r q p t x u v e c a b = absurd (no_join 0 (between_of k) (λ i. omega arith) e)
  join_back name_level k n s r q p t x u v e c a b = absurd (no_join 1 (between_of k) (λ i. omega arith) e)
  join_back type_level k n s r q p t x u v e c a b = absurd (no_join 1 (between_of k) (λ i. omega arith) e)
  join_back constant_level k n s r q p t x u v e c a b = absurd (no_join 1 (between_of k) (λ i. omega arith) e)
  join_back attribute_level k n s r q p t x u v e c a b = absurd (no_join 1 (between_of k) (λ i. omega arith) e)
  join_back tuple_level k n s r q p t x u v e c a b = absurd (no_join 1 (between_of k) (λ i. omega arith) e)
  join_back logic_level k n s r q p t x u v e c a b = absurd (no_join 2 (between_of k) (λ i. omega arith) e)
  join_back comparison_level k n s r q p t x u v e c a b = absurd (no_join 3 (between_of k) (λ i. omega arith) e)
  join_back sum_level k n s r q p t x u v e c a b = absurd (no_join 4 (between_of k) (λ i. omega arith) e)
  join_back product_level k n s r q p t x u v e c a b = join_at n s r q p t x u v (subst (λ i. OpIs k i) (joins_at 5 (between_of k) e).1 (op_is k)) c a b
  join_back compared_level k n s r q p t x u v e c a b = absurd (let y : ◌≡◌ {A = ℕ} 0 1 = cc in let z : ⊥ = omega arith in z)

  bracket_back : {k j : Token} {n : ℕ} {s r : List Token} {e : Expression} → TokIs left_bracket k → TokIs right_bracket j → Opens leave n (k ∷ s) → Reads leave expr n s (j ∷ r) e → Bracketed (suc n) (k ∷ s) r e
  bracket_back same same o a = bracketed o a

  atom_back : (f : Leaf) (k : Token) (n : ℕ) (s : List Token) (t : Part) → leaf_of f k ≡ some t → Back (atom f) n (k ∷ s) s t
  atom_back name_leaf k n s t e = go (subst (λ i. NameIs k i) e (name_is k))
    where
      go : {k : Token} {t : Part} → NameIs k (some t) → Back (atom name_leaf) n (k ∷ s) s t
      go name_part_is = (_, refl, id_is)
  atom_back type_leaf k n s t e = go (subst (λ i. TypeIs k i) e (type_is k))
    where
      go : {k : Token} {t : Part} → TypeIs k (some t) → Back (atom type_leaf) n (k ∷ s) s t
      go type_part_is = (_, refl, atomic_type_is, refl)
  atom_back constant_leaf k n s t e = go (subst (λ i. ConstIs k i) e (const_is k))
    where
      go : {k : Token} {t : Part} → ConstIs k (some t) → Back (atom constant_leaf) n (k ∷ s) s t
      go const_integer = (_, refl, atomic_const_integer)
      go const_string = (_, refl, atomic_const_string)
      go const_truth = (_, refl, atomic_const_truth)

  names_back : {k j : Token} (n : ℕ) (s r : List Token) (t : Part) → TokIs left_bracket k → TokIs right_bracket j → Reads leave id_list n s (j ∷ r) t.names → Args names_argument n (k ∷ s) r t
  names_back n s r t same same a = arg_names a

  cond_back : {k j : Token} (n : ℕ) (s r : List Token) (t : Part) → TokIs left_bracket k → TokIs right_bracket j → Reads leave expr n s (j ∷ r) t.expression → Args condition_argument n (k ∷ s) r t
  cond_back n s r t same same a = arg_cond a

  update_back : {k i j : Token} (n : ℕ) (s p r : List Token) (x t : Part) → TokIs left_bracket k → TokIs assign_token i → TokIs right_bracket j → Back (atom name_leaf) n s (i ∷ p) x → Reads leave expr n p (j ∷ r) t.expression → Args update_argument n (k ∷ s) r (name_and_expression x t)
  update_back n s p r x t same same same (y, e, a) b = arg_update (as_list (ap first_name e) a) b

  extend_back : {k i j : Token} (n : ℕ) (s q p r : List Token) (y x t : Part) → TokIs left_bracket k → TokIs assign_token i → TokIs right_bracket j → Back (atom type_leaf) n s q y → Back (atom name_leaf) n q (i ∷ p) x → Reads leave expr n p (j ∷ r) t.expression → Args extend_argument n (k ∷ s) r (type_name_and_expression y x t)
  extend_back n s q p r y x t same same same (d, f, c, g) (z, e, a) b = arg_extend (as_list (ap first_type f) c) (as_list (ap first_name e) a) b

  leaf_back : {k : Token} {t : Part} (n : ℕ) (s : List Token) → StartIs k (leaf t) → Reads leave factor n (k ∷ s) s t.expression
  leaf_back n s start_name = factor_id id_is
  leaf_back n s start_integer = factor_constant (constant_atomic atomic_const_integer)
  leaf_back n s start_string = factor_constant (constant_atomic atomic_const_string)
  leaf_back n s start_truth = factor_constant (constant_atomic atomic_const_truth)

  unary_back : {k : Token} {o : Unary} (n : ℕ) (s r q : List Token) (x t : Part) → StartIs k (unary o) → Opens leave n (k ∷ s) → Args (argument_of o) n s r x → Reads leave factor n r q t.expression → Reads leave factor (suc n) (k ∷ s) q (apply o (place_of k) x t).expression
  unary_back n s r q x t start_minus o arg_none a = factor_negative o a
  unary_back n s r q x t start_not o arg_none a = factor_not o a
  unary_back n s r q x t start_project o (arg_names b) a = factor_project o b a
  unary_back n s r q x t start_rename o (arg_names b) a = factor_rename o b a
  unary_back n s r q x t start_select o (arg_cond b) a = factor_select o b a
  unary_back n s r q x t start_exists o (arg_cond b) a = factor_exists o b a
  unary_back n s r q x t start_all o (arg_cond b) a = factor_all o b a
  unary_back n s r q x t start_update o (arg_update b c) a = factor_update o b c a
  unary_back n s r q x t start_extend o (arg_extend b c d) a = factor_extend o b c d a

  paren_back : {k j : Token} {n : ℕ} {s r : List Token} {e : Expression} → StartIs k parenthesis → TokIs right_parenthesis j → Opens leave n (k ∷ s) → Reads leave expr n s (j ∷ r) e → Reads leave factor (suc n) (k ∷ s) r e
  paren_back start_paren same o a = factor_parenthesis o a

  -- a table of tuples has one at least
  tuples_table : {n : ℕ} {s r : List Token} {p z : Place} {x : List Tuple} (y : List AtomicType) → Reads leave tuple_list n s (sign RightBrace at z ∷ r) x → Reads leave factor n (sign LeftBrace at p ∷ s) r (table_expression x y p)
  tuples_table y (tuple_list_is a b) = factor_constant (constant_table (table_const_tuples (tuple_list_is a b)))

  brace_back : {k j : Token} (n : ℕ) (s r : List Token) (t : Part) → StartIs k brace → TokIs right_brace j → Back inst n s (j ∷ r) t → Reads leave factor n (k ∷ s) r (table_expression t.tuples t.types (place_of k))
  brace_back n s r t start_brace same (inl a) = tuples_table t.types a
  brace_back n s r t (start_brace {p}) same (inr (a, e)) = as_list (ap (λ i. table_expression i t.types p) e) (factor_constant (constant_table (table_const_types a)))

  tuple_back : {k j : Token} (n : ℕ) (s r : List Token) (t : Part) → TokIs left_parenthesis k → TokIs right_parenthesis j → Back (level constant_level) n s (j ∷ r) t → (x : Tuple) × ((tuple_of t.constants (place_of k) ∷ []) ≡ x ∷ []) × Reads leave tuple_const n (k ∷ s) r x
  tuple_back n s r t (same {p}) same (a, b, m, x, y, e) = (tuple_of (a ∷ b) p, ap (λ i. tuple_of i p ∷ []) e, tuple_const_is x y)

  attr_back : (n : ℕ) (s r q : List Token) (t u : Part) → Back (atom type_leaf) n s r t → Back (atom name_leaf) n r q u → Back attr n s q (attribute_declaration t u)
  attr_back n s r q t u (y, e, a, g) (x, f, b) = (attribute y x, ap2 (λ i j. attribute (first_type i) (first_name j) ∷ []) e f, attr_decl_is a b)

  assign_back : {k j : Token} {x : Name} (n : ℕ) (s r : List Token) (t : Part) → StatIs k (assigning x) → TokIs assign_token j → Reads leave expr n s r t.expression → Back nt_stat n (k ∷ j ∷ s) r (assignment x t)
  assign_back n s r t stat_is_assign same a = (_, refl, stat_assign (assign_stat_is id_is a))

  define_back : {k : Token} {y : AtomicType} (n : ℕ) (s r : List Token) (t : Part) → StatIs k (defining y) → Reads leave id_list n s r t.names → Back nt_stat n (k ∷ s) r (definition (of_domain y) t)
  define_back n s r t stat_define a = (_, refl, stat_def (def_stat_is (type_atomic atomic_type_is) a))

  table_back : {k i j : Token} (n : ℕ) (s r q : List Token) (t u : Part) → StatIs k defining_table → TokIs left_parenthesis i → TokIs right_parenthesis j → Reads leave attr_list n s (j ∷ r) t.attributes → Reads leave id_list n r q u.names → Back nt_stat n (k ∷ i ∷ s) q (definition (of_table t.attributes (place_of k)) u)
  table_back n s r q t u stat_table same same a b = (_, refl, stat_def (def_stat_is (type_table (table_type_is a)) b))

  read1_back : {k : Token} (n : ℕ) (s r : List Token) (t : Part) → StatIs k reading → Back (atom name_leaf) n s r t → Back nt_stat n (k ∷ s) r (input_statement (place_of k) none t)
  read1_back n s r t (stat_is_read {p}) (x, e, a) = (_, ap (λ i. read_into p none (first_name i) followed_by no_statement) e, stat_read (read_stat_is specifier_absent a))

  read2_back : {k : Token} (n : ℕ) (s r q : List Token) (y t : Part) → StatIs k reading → Bracketed n s r y.expression → Back (atom name_leaf) n r q t → Back nt_stat n (k ∷ s) q (input_statement (place_of k) (some y) t)
  read2_back n s r q y t (stat_is_read {p}) (bracketed o c) (x, e, a) = (_, ap (λ i. read_into p (some y.expression) (first_name i) followed_by no_statement) e, stat_read (read_stat_is (specifier_given o c) a))

  write1_back : {k : Token} (n : ℕ) (s r : List Token) (t : Part) → StatIs k writing → Reads leave expr n s r t.expression → Back nt_stat n (k ∷ s) r (output_statement (place_of k) none t)
  write1_back n s r t stat_is_write a = (_, refl, stat_write (write_stat_is specifier_absent a))

  write2_back : {k : Token} (n : ℕ) (s r q : List Token) (y t : Part) → StatIs k writing → Bracketed n s r y.expression → Reads leave expr n r q t.expression → Back nt_stat n (k ∷ s) q (output_statement (place_of k) (some y) t)
  write2_back n s r q y t stat_is_write (bracketed o c) a = (_, refl, stat_write (write_stat_is (specifier_given o c) a))

  while_back : {k i j : Token} (n : ℕ) (s q o : List Token) (t u : Part) → StatIs k looping → TokIs do_token i → TokIs end_token j → Reads leave expr (suc n) s (i ∷ q) t.expression → Opens leave n (i ∷ q) → Reads leave stat_list n q (j ∷ o) u.statements →
      Back nt_stat (suc n) (k ∷ s) o (while_statement (at_token k t) u (place_part (place_of j)))
  while_back n s q o t u stat_is_while same same a m b = (_, refl, stat_while (while_stat_is a m b))

  if_back : {k i : Token} (n : ℕ) (s q p o : List Token) (t u v : Part) → StatIs k deciding → TokIs then_token i → Reads leave expr (suc n) s (i ∷ q) t.expression → Opens leave n (i ∷ q) → Reads leave stat_list n q p u.statements →
      Back (elses (at_token k t) u) n p o v → Back nt_stat (suc n) (k ∷ s) o v
  if_back n s q p o t u v stat_is_if same a m b c = let (x, e, d) = c _ _ _ a m b in (x, e, stat_if d)

  end_back : {j : Token} (n : ℕ) (r : List Token) (t u : Part) → TokIs end_token j → Back (elses t u) n (j ∷ r) r (if_statement t u (place_part (place_of j)))
  end_back n r t u same = λ l m q a o b. (_, refl, if_stat_then a o b)

  else_back : {i j : Token} (n : ℕ) (s r : List Token) (t u v : Part) → TokIs else_token i → TokIs end_token j → Reads leave stat_list n s (j ∷ r) v.statements → Back (elses t u) n (i ∷ s) r (if_else_statement t u (place_part (place_of i)) v (place_part (place_of j)))
  else_back n s r t u v same same c = λ l m q a o b. (_, refl, if_stat_else a o b c)

  whole_back : {i j : Token} (n : ℕ) (s r : List Token) (t : Part) → TokIs program_token i → TokIs end_token j → Reads leave stat_list n s (j ∷ r) t.statements → Reads leave program n (i ∷ s) r (closed_at t.statements (place_of j))
  whole_back n s r t same same a = program_is a

  pub back : {S : TableSymbol} {n : ℕ} {s r : List Token} {t : Part} → Tabled leave S n s r t → Back S n s r t
  back (eats e) = tt
  back (atoms {f} {k} {n} {s} {t} e) = atom_back f k n s t e
  back (first {l} {n} {s} {r} {q} {t} {u} a b) = first_back l n s r q t u (back a) (back b)
  back (done {l} {n} {s} {t}) = done_back l n s t
  back (next {l} {n} {s} {r} {q} {t} {u} {v} {k} {o} e a b) = next_back l k o n s r q t u v e (back a) (back b)
  back (joins {l} {n} {s} {r} {q} {p} {t} {x} {u} {v} {k} e c a b) = join_back l k n s r q p t x u v e (back c) (back a) (back b)
  back (brackets (eats {k = i} e) m a (eats {k = j} f)) = bracket_back (tok_is left_bracket i (omega arith) e) (tok_is right_bracket j (omega arith) f) m (back a)
  back no_arg = arg_none
  back (arg_ids {n} {r} {p} {t} (eats {k = i} e) a (eats {k = j} f)) = names_back n r p t (tok_is left_bracket i (omega arith) e) (tok_is right_bracket j (omega arith) f) (back a)
  back (arg_expr {n} {r} {p} {t} (eats {k = i} e) a (eats {k = j} f)) = cond_back n r p t (tok_is left_bracket i (omega arith) e) (tok_is right_bracket j (omega arith) f) (back a)
  back (arg_upd {n} {r} {p} {i = z} {x} {t} (eats {k = i} e) a (eats {k = h} g) b (eats {k = j} f)) =
      update_back n r p z x t (tok_is left_bracket i (omega arith) e) (tok_is assign_token h (omega arith) g) (tok_is right_bracket j (omega arith) f) (back a) (back b)
  back (arg_ext {n} {r} {q} {o} {j = z} {y} {x} {t} (eats {k = i} e) c a (eats {k = h} g) b (eats {k = j} f)) =
      extend_back n r q o z y x t (tok_is left_bracket i (omega arith) e) (tok_is assign_token h (omega arith) g) (tok_is right_bracket j (omega arith) f) (back c) (back a) (back b)
  back (leafs {n} {s} {k} e) = leaf_back n s (subst (λ i. StartIs k i) e (start_is k))
  back (unaries {n} {s} {r} {q} {k} {x} {t} e m a b) = unary_back n s r q x t (subst (λ i. StartIs k i) e (start_is k)) m (back a) (back b)
  back (parens {k} e m a (eats {k = j} f)) = paren_back (subst (λ i. StartIs k i) e (start_is k)) (tok_is right_parenthesis j (omega arith) f) m (back a)
  back (braces {n} {s} {q} {k} {t} e a (eats {k = j} f)) = brace_back n s q t (subst (λ i. StartIs k i) e (start_is k)) (tok_is right_brace j (omega arith) f) (back a)
  back (inst_tuples a) = inl (back a)
  back (inst_types a) = inr (back a)
  back (tuples {n} {r} {p} {t} (eats {k = i} e) a (eats {k = j} f)) = tuple_back n r p t (tok_is left_parenthesis i (omega arith) e) (tok_is right_parenthesis j (omega arith) f) (back a)
  back (attrs {n} {s} {r} {q} {t} {u} a b) = attr_back n s r q t u (back a) (back b)
  back (assigns {n} {r} {q} {k} {t} e (eats {k = j} f) a) = assign_back n r q t (subst (λ i. StatIs k i) e (stat_is k)) (tok_is assign_token j (omega arith) f) (back a)
  back (defines {n} {s} {r} {k} {t} e a) = define_back n s r t (subst (λ i. StatIs k i) e (stat_is k)) (back a)
  back (tables {n} {r} {p} {o} {k} {t} {u} e (eats {k = i} g) a (eats {k = j} f) b) = table_back n r p o t u (subst (λ i. StatIs k i) e (stat_is k)) (tok_is left_parenthesis i (omega arith) g) (tok_is right_parenthesis j (omega arith) f) (back a) (back b)
  back (read1 {n} {s} {r} {k} {t} e a) = read1_back n s r t (subst (λ i. StatIs k i) e (stat_is k)) (back a)
  back (read2 {n} {s} {r} {q} {k} {x} {t} e a b) = read2_back n s r q x t (subst (λ i. StatIs k i) e (stat_is k)) (back a) (back b)
  back (write1 {n} {s} {r} {k} {t} e a) = write1_back n s r t (subst (λ i. StatIs k i) e (stat_is k)) (back a)
  back (write2 {n} {s} {r} {q} {k} {x} {t} e a b) = write2_back n s r q x t (subst (λ i. StatIs k i) e (stat_is k)) (back a) (back b)
  back (whilst {n} {s} {q} {o} {k} {t} {u} e a (eats {k = i} g) m b (eats {k = j} f)) =
      while_back n s q o t u (subst (λ i. StatIs k i) e (stat_is k)) (tok_is do_token i (omega arith) g) (tok_is end_token j (omega arith) f) (back a) m (back b)
  back (conds {n} {s} {q} {p} {o} {k} {t} {u} {v} e a (eats {k = i} g) m b c) =
      if_back n s q p o t u v (subst (λ i. StatIs k i) e (stat_is k)) (tok_is then_token i (omega arith) g) (back a) m (back b) (back c)
  back (ends {n} {r} {t} {u} (eats {k = j} f)) = end_back n r t u (tok_is end_token j (omega arith) f)
  back (other {n} {r} {p} {t} {u} {v} (eats {k = i} g) a (eats {k = j} f)) = else_back n r p t u v (tok_is else_token i (omega arith) g) (tok_is end_token j (omega arith) f) (back a)
  back (whole {n} {r} {p} {t} (eats {k = i} g) a (eats {k = j} f)) = whole_back n r p t (tok_is program_token i (omega arith) g) (tok_is end_token j (omega arith) f) (back a)
