-- How tokens are read: the EBNF as one relation, in its order.
-- `Reads S n s r x`: the tokens s begin with an S, which stands for x, and r are the tokens after it.
-- One constructor for each production, or for each of its alternatives, with the production above it.
-- A part `{ .. }` is a symbol of its own (`more_ids`); where operators gather to the left it has what stands before it (`more_factors a`).
-- n is how many depths may still be opened. A token that opens one has `suc n` outside and n behind it, and must be allowed to: `Opens`.
use Rattle.std.specs.Prelude.{ℕ, suc, List, [], ◌∷◌, ◌≡◌, Bool, true, pos}
use Rattle.std.proofs.Math.Option.{Option, none, some}
use Rattle.words.specs.Numbers.{value_of}
use Rattle.words.specs.Tokens.{Place, Bytes, Token, Token.◌at◌, Terminal.word, Terminal.sign, Terminal.domain, Terminal.logic, Terminal.comparison}
use Rattle.words.specs.Tokens.{Terminal.sum, Terminal.product, Terminal.truth, Terminal.integer, Terminal.string, Terminal.name}
use Rattle.domain.specs.declared.Domain.{Domain}
use Rattle.words.specs.declared.tokens.Logic.{Logic}
use Rattle.words.specs.declared.tokens.Comparison.{Comparison}
use Rattle.words.specs.declared.tokens.Sum.{Sum}
use Rattle.words.specs.declared.tokens.Product.{Product}
use Rattle.words.specs.declared.tokens.Sum.TheVariants.{Minus}
use Rattle.words.specs.declared.tokens.Word.TheVariants.{Program, End, Table, If, Then, Else, While, Do, Read, Write, Join, Not, Project, Select, Exists}
use Rattle.words.specs.declared.tokens.Word.TheVariants.{All, Update, Extend, Rename}
use Rattle.words.specs.declared.tokens.Sign.TheVariants.{LeftParenthesis, RightParenthesis, LeftBracket, RightBracket, LeftBrace, RightBrace, Semicolon}
use Rattle.words.specs.declared.tokens.Sign.TheVariants.{Comma, Assign}
use Rattle.grammar.specs.Tree.{Name, Constant, Tuple, AtomicType, Attribute, VariableType, Expression, Statement, Statements, Block, Name.named}
use Rattle.grammar.specs.Tree.{Constant.integer_constant, Constant.string_constant, Constant.truth_constant, Tuple.tuple_of, AtomicType.typed}
use Rattle.grammar.specs.Tree.{Attribute.attribute, VariableType.of_domain, VariableType.of_table, Expression.variable, Expression.literal}
use Rattle.grammar.specs.Tree.{Expression.table_of_tuples, Expression.table_of_types, Expression.logical, Expression.compared, Expression.summed}
use Rattle.grammar.specs.Tree.{Expression.multiplied, Expression.joined, Expression.negative, Expression.negated, Expression.projected, Expression.renamed}
use Rattle.grammar.specs.Tree.{Expression.selected, Expression.existing, Expression.everywhere, Expression.updated, Expression.extended, Statement.define}
use Rattle.grammar.specs.Tree.{Statement.assign, Statement.if_then, Statement.if_then_else, Statement.while_do, Statement.read_into, Statement.write_out}
use Rattle.grammar.specs.Tree.{Statements.no_statement, Statements.◌followed_by◌, Block.closed_at}

pub data Symbol : Type 0 where
  program stat_list more_stats stat def_stat id_list more_ids id type atomic_type table_type attr_list more_attrs attr_decl assign_stat : Symbol
  expr bool_term comp_term low_term factor constant atomic_const table_const tuple_list more_tuples atomic_type_list more_types tuple_const more_consts : Symbol
  more_bool_terms more_low_terms more_factors : Expression → Symbol
  if_stat while_stat read_stat specifier write_stat : Symbol

-- what a symbol stands for
abbrev pub Of : Symbol → Type 0
Of program = Block
Of stat_list = Statements
Of more_stats = Statements
Of stat = Statement
Of def_stat = Statement
Of id_list = List Name
Of more_ids = List Name
Of id = Name
Of type = VariableType
Of atomic_type = AtomicType
Of table_type = VariableType
Of attr_list = List Attribute
Of more_attrs = List Attribute
Of attr_decl = Attribute
Of assign_stat = Statement
Of expr = Expression
Of bool_term = Expression
Of comp_term = Expression
Of low_term = Expression
Of factor = Expression
Of constant = Expression
Of atomic_const = Constant
Of table_const = Expression
Of tuple_list = List Tuple
Of more_tuples = List Tuple
Of atomic_type_list = List AtomicType
Of more_types = List AtomicType
Of tuple_const = Tuple
Of more_consts = List Constant
Of (more_bool_terms a) = Expression
Of (more_low_terms a) = Expression
Of (more_factors a) = Expression
Of if_stat = Statement
Of while_stat = Statement
Of read_stat = Statement
Of specifier = Option Expression
Of write_stat = Statement

-- Leave to open a depth: whether the first of the tokens s may, where n depths are left behind it.
-- A program of the language has leave everywhere; what is promised of faults gives leave to some tokens only.
abbrev pub Leave : Type 0
Leave = ℕ → List Token → Bool

module _ (leave : Leave) where
  abbrev pub Opens : ℕ → List Token → Type 0
  Opens n s = leave n s ≡ true

  pub data Reads : (S : Symbol) → ℕ → List Token → List Token → Of S → Type 0 where
    -- program → program stat-list end
    program_is : {n : ℕ} {s r : List Token} {p q : Place} {b : Statements} →
        Reads stat_list n s (word End at q ∷ r) b →
        Reads program n (word Program at p ∷ s) r (closed_at b q)
    -- stat-list → stat { ; stat }
    stat_list_is : {n : ℕ} {s m r : List Token} {a : Statement} {b : Statements} →
        Reads stat n s m a → Reads more_stats n m r b →
        Reads stat_list n s r (a followed_by b)
    no_more_stats : {n : ℕ} {s : List Token} →
        Reads more_stats n s s no_statement
    another_stat : {n : ℕ} {s m r : List Token} {p : Place} {a : Statement} {b : Statements} →
        Reads stat n s m a → Reads more_stats n m r b →
        Reads more_stats n (sign Semicolon at p ∷ s) r (a followed_by b)
    -- stat → def-stat | assign-stat | if-stat | while-stat | read-stat | write-stat
    stat_def : {n : ℕ} {s r : List Token} {a : Statement} → Reads def_stat n s r a → Reads stat n s r a
    stat_assign : {n : ℕ} {s r : List Token} {a : Statement} → Reads assign_stat n s r a → Reads stat n s r a
    stat_if : {n : ℕ} {s r : List Token} {a : Statement} → Reads if_stat n s r a → Reads stat n s r a
    stat_while : {n : ℕ} {s r : List Token} {a : Statement} → Reads while_stat n s r a → Reads stat n s r a
    stat_read : {n : ℕ} {s r : List Token} {a : Statement} → Reads read_stat n s r a → Reads stat n s r a
    stat_write : {n : ℕ} {s r : List Token} {a : Statement} → Reads write_stat n s r a → Reads stat n s r a
    -- def-stat → type id-list
    def_stat_is : {n : ℕ} {s m r : List Token} {y : VariableType} {x : List Name} →
        Reads type n s m y → Reads id_list n m r x →
        Reads def_stat n s r (define y x)
    -- id-list → id { , id }
    id_list_is : {n : ℕ} {s m r : List Token} {a : Name} {b : List Name} →
        Reads id n s m a → Reads more_ids n m r b →
        Reads id_list n s r (a ∷ b)
    no_more_ids : {n : ℕ} {s : List Token} →
        Reads more_ids n s s []
    another_id : {n : ℕ} {s m r : List Token} {p : Place} {a : Name} {b : List Name} →
        Reads id n s m a → Reads more_ids n m r b →
        Reads more_ids n (sign Comma at p ∷ s) r (a ∷ b)
    id_is : {n : ℕ} {s : List Token} {x : Bytes} {p : Place} →
        Reads id n (name x at p ∷ s) s (named x p)
    -- type → atomic-type | table-type
    type_atomic : {n : ℕ} {s r : List Token} {y : AtomicType} → Reads atomic_type n s r y → Reads type n s r (of_domain y)
    type_table : {n : ℕ} {s r : List Token} {y : VariableType} → Reads table_type n s r y → Reads type n s r y
    -- atomic-type → integer | string | boolean
    atomic_type_is : {n : ℕ} {s : List Token} {d : Domain} {p : Place} →
        Reads atomic_type n (domain d at p ∷ s) s (typed d p)
    -- table-type → table ( attr-list )
    table_type_is : {n : ℕ} {s r : List Token} {p q z : Place} {x : List Attribute} →
        Reads attr_list n s (sign RightParenthesis at z ∷ r) x →
        Reads table_type n (word Table at p ∷ sign LeftParenthesis at q ∷ s) r (of_table x p)
    -- attr-list → attr-decl { , attr-decl }
    attr_list_is : {n : ℕ} {s m r : List Token} {a : Attribute} {b : List Attribute} →
        Reads attr_decl n s m a → Reads more_attrs n m r b →
        Reads attr_list n s r (a ∷ b)
    no_more_attrs : {n : ℕ} {s : List Token} →
        Reads more_attrs n s s []
    another_attr : {n : ℕ} {s m r : List Token} {p : Place} {a : Attribute} {b : List Attribute} →
        Reads attr_decl n s m a → Reads more_attrs n m r b →
        Reads more_attrs n (sign Comma at p ∷ s) r (a ∷ b)
    -- attr-decl → atomic-type id
    attr_decl_is : {n : ℕ} {s m r : List Token} {y : AtomicType} {x : Name} →
        Reads atomic_type n s m y → Reads id n m r x →
        Reads attr_decl n s r (attribute y x)
    -- assign-stat → id = expr
    assign_stat_is : {n : ℕ} {s m r : List Token} {p : Place} {x : Name} {e : Expression} →
        Reads id n s (sign Assign at p ∷ m) x → Reads expr n m r e →
        Reads assign_stat n s r (assign x e)
    -- expr → bool-term { (and | or) bool-term }
    expr_is : {n : ℕ} {s m r : List Token} {a e : Expression} →
        Reads bool_term n s m a → Reads (more_bool_terms a) n m r e →
        Reads expr n s r e
    no_more_bool_terms : {n : ℕ} {s : List Token} {a : Expression} →
        Reads (more_bool_terms a) n s s a
    another_bool_term : {n : ℕ} {s m r : List Token} {o : Logic} {p : Place} {a b e : Expression} →
        Reads bool_term n s m b → Reads (more_bool_terms (logical o p a b)) n m r e →
        Reads (more_bool_terms a) n (logic o at p ∷ s) r e
    -- bool-term → comp-term [ (== | != | > | >= | < | <=) comp-term ]
    bool_term_alone : {n : ℕ} {s r : List Token} {a : Expression} →
        Reads comp_term n s r a →
        Reads bool_term n s r a
    bool_term_compared : {n : ℕ} {s m r : List Token} {o : Comparison} {p : Place} {a b : Expression} →
        Reads comp_term n s (comparison o at p ∷ m) a → Reads comp_term n m r b →
        Reads bool_term n s r (compared o p a b)
    -- comp-term → low-term { (+ | -) low-term }
    comp_term_is : {n : ℕ} {s m r : List Token} {a e : Expression} →
        Reads low_term n s m a → Reads (more_low_terms a) n m r e →
        Reads comp_term n s r e
    no_more_low_terms : {n : ℕ} {s : List Token} {a : Expression} →
        Reads (more_low_terms a) n s s a
    another_low_term : {n : ℕ} {s m r : List Token} {o : Sum} {p : Place} {a b e : Expression} →
        Reads low_term n s m b → Reads (more_low_terms (summed o p a b)) n m r e →
        Reads (more_low_terms a) n (sum o at p ∷ s) r e
    -- low-term → factor { (* | / | join-op) factor }          join-op → join [ expr ]
    low_term_is : {n : ℕ} {s m r : List Token} {a e : Expression} →
        Reads factor n s m a → Reads (more_factors a) n m r e →
        Reads low_term n s r e
    no_more_factors : {n : ℕ} {s : List Token} {a : Expression} →
        Reads (more_factors a) n s s a
    another_factor : {n : ℕ} {s m r : List Token} {o : Product} {p : Place} {a b e : Expression} →
        Reads factor n s m b → Reads (more_factors (multiplied o p a b)) n m r e →
        Reads (more_factors a) n (product o at p ∷ s) r e
    another_joined : {n : ℕ} {s l m r : List Token} {p q z : Place} {a c b e : Expression} →
        Opens n (sign LeftBracket at q ∷ s) →
        Reads expr n s (sign RightBracket at z ∷ l) c → Reads factor (suc n) l m b → Reads (more_factors (joined p a c b)) (suc n) m r e →
        Reads (more_factors a) (suc n) (word Join at p ∷ sign LeftBracket at q ∷ s) r e
    -- factor → unary-op factor          unary-op → -
    factor_negative : {n : ℕ} {s r : List Token} {p : Place} {e : Expression} →
        Opens n (sum Minus at p ∷ s) →
        Reads factor n s r e →
        Reads factor (suc n) (sum Minus at p ∷ s) r (negative p e)
    -- unary-op → not
    factor_not : {n : ℕ} {s r : List Token} {p : Place} {e : Expression} →
        Opens n (word Not at p ∷ s) →
        Reads factor n s r e →
        Reads factor (suc n) (word Not at p ∷ s) r (negated p e)
    -- project-op → project [ id-list ]
    factor_project : {n : ℕ} {s m r : List Token} {p q z : Place} {x : List Name} {e : Expression} →
        Opens n (word Project at p ∷ sign LeftBracket at q ∷ s) →
        Reads id_list n s (sign RightBracket at z ∷ m) x → Reads factor n m r e →
        Reads factor (suc n) (word Project at p ∷ sign LeftBracket at q ∷ s) r (projected p x e)
    -- select-op → select [ expr ]
    factor_select : {n : ℕ} {s m r : List Token} {p q z : Place} {c e : Expression} →
        Opens n (word Select at p ∷ sign LeftBracket at q ∷ s) →
        Reads expr n s (sign RightBracket at z ∷ m) c → Reads factor n m r e →
        Reads factor (suc n) (word Select at p ∷ sign LeftBracket at q ∷ s) r (selected p c e)
    -- exists-op → exists [ expr ]
    factor_exists : {n : ℕ} {s m r : List Token} {p q z : Place} {c e : Expression} →
        Opens n (word Exists at p ∷ sign LeftBracket at q ∷ s) →
        Reads expr n s (sign RightBracket at z ∷ m) c → Reads factor n m r e →
        Reads factor (suc n) (word Exists at p ∷ sign LeftBracket at q ∷ s) r (existing p c e)
    -- all-op → all [ expr ]
    factor_all : {n : ℕ} {s m r : List Token} {p q z : Place} {c e : Expression} →
        Opens n (word All at p ∷ sign LeftBracket at q ∷ s) →
        Reads expr n s (sign RightBracket at z ∷ m) c → Reads factor n m r e →
        Reads factor (suc n) (word All at p ∷ sign LeftBracket at q ∷ s) r (everywhere p c e)
    -- extend-op → extend [ atomic-type id = expr ]
    factor_extend : {n : ℕ} {s l m o r : List Token} {p q z w : Place} {y : AtomicType} {x : Name} {c e : Expression} →
        Opens n (word Extend at p ∷ sign LeftBracket at q ∷ s) →
        Reads atomic_type n s l y → Reads id n l (sign Assign at w ∷ m) x → Reads expr n m (sign RightBracket at z ∷ o) c → Reads factor n o r e →
        Reads factor (suc n) (word Extend at p ∷ sign LeftBracket at q ∷ s) r (extended p y x c e)
    -- update-op → update [ id = expr ]
    factor_update : {n : ℕ} {s m o r : List Token} {p q z w : Place} {x : Name} {c e : Expression} →
        Opens n (word Update at p ∷ sign LeftBracket at q ∷ s) →
        Reads id n s (sign Assign at w ∷ m) x → Reads expr n m (sign RightBracket at z ∷ o) c → Reads factor n o r e →
        Reads factor (suc n) (word Update at p ∷ sign LeftBracket at q ∷ s) r (updated p x c e)
    -- rename-op → rename [ id-list ]
    factor_rename : {n : ℕ} {s m r : List Token} {p q z : Place} {x : List Name} {e : Expression} →
        Opens n (word Rename at p ∷ sign LeftBracket at q ∷ s) →
        Reads id_list n s (sign RightBracket at z ∷ m) x → Reads factor n m r e →
        Reads factor (suc n) (word Rename at p ∷ sign LeftBracket at q ∷ s) r (renamed p x e)
    -- factor → ( expr )
    factor_parenthesis : {n : ℕ} {s r : List Token} {p z : Place} {e : Expression} →
        Opens n (sign LeftParenthesis at p ∷ s) →
        Reads expr n s (sign RightParenthesis at z ∷ r) e →
        Reads factor (suc n) (sign LeftParenthesis at p ∷ s) r e
    -- factor → id | constant
    factor_id : {n : ℕ} {s r : List Token} {x : Name} → Reads id n s r x → Reads factor n s r (variable x)
    factor_constant : {n : ℕ} {s r : List Token} {e : Expression} → Reads constant n s r e → Reads factor n s r e
    -- constant → atomic-const | table-const
    constant_atomic : {n : ℕ} {s r : List Token} {c : Constant} → Reads atomic_const n s r c → Reads constant n s r (literal c)
    constant_table : {n : ℕ} {s r : List Token} {e : Expression} → Reads table_const n s r e → Reads constant n s r e
    -- atomic-const → intconst | strconst | boolconst
    atomic_const_integer : {n : ℕ} {s : List Token} {x : Bytes} {p : Place} → Reads atomic_const n (integer x at p ∷ s) s (integer_constant (pos (value_of x)) p)
    atomic_const_string : {n : ℕ} {s : List Token} {x : Bytes} {p : Place} → Reads atomic_const n (string x at p ∷ s) s (string_constant x p)
    atomic_const_truth : {n : ℕ} {s : List Token} {b : Bool} {p : Place} → Reads atomic_const n (truth b at p ∷ s) s (truth_constant b p)
    -- table-const → { tuple-list | atomic-type-list }
    table_const_tuples : {n : ℕ} {s r : List Token} {p z : Place} {x : List Tuple} →
        Reads tuple_list n s (sign RightBrace at z ∷ r) x →
        Reads table_const n (sign LeftBrace at p ∷ s) r (table_of_tuples x p)
    table_const_types : {n : ℕ} {s r : List Token} {p z : Place} {y : List AtomicType} →
        Reads atomic_type_list n s (sign RightBrace at z ∷ r) y →
        Reads table_const n (sign LeftBrace at p ∷ s) r (table_of_types y p)
    -- tuple-list → tuple-const { , tuple-const }
    tuple_list_is : {n : ℕ} {s m r : List Token} {a : Tuple} {b : List Tuple} →
        Reads tuple_const n s m a → Reads more_tuples n m r b →
        Reads tuple_list n s r (a ∷ b)
    no_more_tuples : {n : ℕ} {s : List Token} →
        Reads more_tuples n s s []
    another_tuple : {n : ℕ} {s m r : List Token} {p : Place} {a : Tuple} {b : List Tuple} →
        Reads tuple_const n s m a → Reads more_tuples n m r b →
        Reads more_tuples n (sign Comma at p ∷ s) r (a ∷ b)
    -- atomic-type-list → atomic-type { , atomic-type }
    atomic_type_list_is : {n : ℕ} {s m r : List Token} {a : AtomicType} {b : List AtomicType} →
        Reads atomic_type n s m a → Reads more_types n m r b →
        Reads atomic_type_list n s r (a ∷ b)
    no_more_types : {n : ℕ} {s : List Token} →
        Reads more_types n s s []
    another_type : {n : ℕ} {s m r : List Token} {p : Place} {a : AtomicType} {b : List AtomicType} →
        Reads atomic_type n s m a → Reads more_types n m r b →
        Reads more_types n (sign Comma at p ∷ s) r (a ∷ b)
    -- tuple-const → ( atomic-const { , atomic-const } )
    tuple_const_is : {n : ℕ} {s m r : List Token} {p z : Place} {a : Constant} {b : List Constant} →
        Reads atomic_const n s m a → Reads more_consts n m (sign RightParenthesis at z ∷ r) b →
        Reads tuple_const n (sign LeftParenthesis at p ∷ s) r (tuple_of (a ∷ b) p)
    no_more_consts : {n : ℕ} {s : List Token} →
        Reads more_consts n s s []
    another_const : {n : ℕ} {s m r : List Token} {p : Place} {a : Constant} {b : List Constant} →
        Reads atomic_const n s m a → Reads more_consts n m r b →
        Reads more_consts n (sign Comma at p ∷ s) r (a ∷ b)
    -- if-stat → if expr then stat-list [ else stat-list ] end
    -- (`else` opens again the depth that `then` has opened, so it needs no leave of its own)
    if_stat_then : {n : ℕ} {s m r : List Token} {p q z : Place} {e : Expression} {a : Statements} →
        Reads expr (suc n) s (word Then at q ∷ m) e → Opens n (word Then at q ∷ m) → Reads stat_list n m (word End at z ∷ r) a →
        Reads if_stat (suc n) (word If at p ∷ s) r (if_then p e (closed_at a z))
    if_stat_else : {n : ℕ} {s m l r : List Token} {p q z w : Place} {e : Expression} {a b : Statements} →
        Reads expr (suc n) s (word Then at q ∷ m) e → Opens n (word Then at q ∷ m) → Reads stat_list n m (word Else at z ∷ l) a → Reads stat_list n l (word End at w ∷ r) b →
        Reads if_stat (suc n) (word If at p ∷ s) r (if_then_else p e (closed_at a z) (closed_at b w))
    -- while-stat → while expr do stat-list end
    while_stat_is : {n : ℕ} {s m r : List Token} {p q z : Place} {e : Expression} {a : Statements} →
        Reads expr (suc n) s (word Do at q ∷ m) e → Opens n (word Do at q ∷ m) → Reads stat_list n m (word End at z ∷ r) a →
        Reads while_stat (suc n) (word While at p ∷ s) r (while_do p e (closed_at a z))
    -- read-stat → read specifier id
    read_stat_is : {n : ℕ} {s m r : List Token} {p : Place} {f : Option Expression} {x : Name} →
        Reads specifier n s m f → Reads id n m r x →
        Reads read_stat n (word Read at p ∷ s) r (read_into p f x)
    -- specifier → [ expr ] | ε
    specifier_given : {n : ℕ} {s r : List Token} {p z : Place} {e : Expression} →
        Opens n (sign LeftBracket at p ∷ s) →
        Reads expr n s (sign RightBracket at z ∷ r) e →
        Reads specifier (suc n) (sign LeftBracket at p ∷ s) r (some e)
    specifier_absent : {n : ℕ} {s : List Token} →
        Reads specifier n s s none
    -- write-stat → write specifier expr
    write_stat_is : {n : ℕ} {s m r : List Token} {p : Place} {f : Option Expression} {e : Expression} →
        Reads specifier n s m f → Reads expr n m r e →
        Reads write_stat n (word Write at p ∷ s) r (write_out p f e)
