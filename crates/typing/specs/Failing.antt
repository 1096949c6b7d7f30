-- Which check is the first to fail where an expression has no type, or a statement is not right.
-- One constructor for each check; its premises say that every check before it passed.
use Rattle.std.specs.Prelude.{◌≡◌, ◌+◌, ◌<◌, ◌≤◌, true, false, List, [], ◌∷◌, ◌++◌, map, length}
use Rattle.std.proofs.Math.Option.{Option, some}
use Rattle.domain.specs.declared.Domain.{Domain}
use Rattle.domain.specs.declared.Domain.TheVariants.{Integer, String, Boolean}
use Rattle.fault.specs.Limits.{columns, variables}
use Rattle.fault.specs.declared.rules.Fault.{Fault}
use Rattle.fault.specs.declared.rules.Rule.TheVariants.{RepeatedName, NameNotFound, OperandMismatch, StatementMismatch, TooMany}
use Rattle.words.specs.Tokens.{Bytes, Place}
use Rattle.words.specs.declared.tokens.Logic.{Logic}
use Rattle.words.specs.declared.tokens.Comparison.{Comparison}
use Rattle.words.specs.declared.tokens.Sum.{Sum}
use Rattle.words.specs.declared.tokens.Product.{Product}
use Rattle.grammar.specs.Tree.{Name, Name.named, Constant, Tuple, Tuple.tuple_of, AtomicType, AtomicType.typed, Attribute, Attribute.attribute, VariableType, VariableType.of_table}
use Rattle.grammar.specs.Tree.{Expression, Expression.variable, Expression.table_of_tuples, Expression.table_of_types, Expression.logical, Expression.compared, Expression.summed, Expression.multiplied, Expression.joined}
use Rattle.grammar.specs.Tree.{Expression.negative, Expression.negated, Expression.projected, Expression.renamed, Expression.selected, Expression.existing, Expression.everywhere, Expression.updated, Expression.extended}
use Rattle.grammar.specs.Tree.{Statement, Statement.define, Statement.assign, Statement.if_then, Statement.if_then_else, Statement.while_do, Statement.read_into, Statement.write_out, Statements, Statements.◌followed_by◌, Block, Block.closed_at}
use Rattle.schema.specs.Columns.{Column}
use Rattle.schema.specs.Kinds.{ValueType, ValueType.atom, ValueType.table}
use Rattle.schema.specs.Sameness.{SameType}
use Rattle.scope.specs.Chains.{Found, Sees, Absent}
use Rattle.typing.specs.Environments.{fault, Variable, Environment, blocks, count, start, inside, opened, defining, is_column, is_variable, Unknown}
use Rattle.typing.specs.Tables.{domain_in, domain_of, first_domains, column_named, has, among, defines, meet, Comparable}
use Rattle.typing.specs.Typing.{Typed, Declares, Specified, Valid, ValidBlock}

abbrev pub Not : Type 0 → Type 0
Not P = P → ⊥

-- Lists of names and of constants: the first entry that is wrong.

-- absence before repetition
pub data Mislisted (cs : List Column) : List Bytes → List Name → Fault → Type 0 where
  listed_absent : {n : Bytes} {p : Place} {before : List Bytes} {rest : List Name} →
      has cs n ≡ false → Mislisted cs before (named n p ∷ rest) (fault NameNotFound p)
  listed_twice : {n : Bytes} {p : Place} {before : List Bytes} {rest : List Name} →
      has cs n ≡ true → among before n ≡ true → Mislisted cs before (named n p ∷ rest) (fault RepeatedName p)
  listed_later : {n : Bytes} {p : Place} {before : List Bytes} {rest : List Name} {f : Fault} →
      has cs n ≡ true → among before n ≡ false → Mislisted cs (n ∷ before) rest f → Mislisted cs before (named n p ∷ rest) f

pub data Repeats : List Bytes → List Name → Fault → Type 0 where
  repeats_here : {n : Bytes} {p : Place} {before : List Bytes} {rest : List Name} →
      among before n ≡ true → Repeats before (named n p ∷ rest) (fault RepeatedName p)
  repeats_later : {n : Bytes} {p : Place} {before : List Bytes} {rest : List Name} {f : Fault} →
      among before n ≡ false → Repeats (n ∷ before) rest f → Repeats before (named n p ∷ rest) f

pub data Misfitting (ds : List Domain) : List Tuple → Fault → Type 0 where
  misfits_here : {cs : List Constant} {p : Place} {rest : List Tuple} →
      Not (map domain_of cs ≡ ds) → Misfitting ds (tuple_of cs p ∷ rest) (fault OperandMismatch p)
  misfits_later : {cs : List Constant} {p : Place} {rest : List Tuple} {f : Fault} →
      map domain_of cs ≡ ds → Misfitting ds rest f → Misfitting ds (tuple_of cs p ∷ rest) f

-- Expressions.
pub data Fails : Environment → Expression → Fault → Type 0 where
  -- a name: in scope
  name_unknown : {env : Environment} {n : Bytes} {p : Place} → Unknown env n → Fails env (variable (named n p)) (fault NameNotFound p)
  -- a table constant: column count of the first tuple, then the tuples in turn
  tuples_count : {env : Environment} {tuples : List Tuple} {p : Place} →
      columns < length (first_domains tuples) → Fails env (table_of_tuples tuples p) (fault TooMany p)
  tuples_misfit : {env : Environment} {tuples : List Tuple} {p : Place} {f : Fault} →
      length (first_domains tuples) ≤ columns → Misfitting (first_domains tuples) tuples f → Fails env (table_of_tuples tuples p) f
  -- an empty table constant: column count
  types_count : {env : Environment} {types : List AtomicType} {p : Place} →
      columns < length (map domain_in types) → Fails env (table_of_types types p) (fault TooMany p)
  -- `and`, `or`: left operand, right operand, both booleans
  logical_left : {env : Environment} {o : Logic} {p : Place} {a b : Expression} {f : Fault} → Fails env a f → Fails env (logical o p a b) f
  logical_right : {env : Environment} {o : Logic} {p : Place} {a b : Expression} {t : ValueType} {f : Fault} →
      Typed env a t → Fails env b f → Fails env (logical o p a b) f
  logical_types : {env : Environment} {o : Logic} {p : Place} {a b : Expression} {t u : ValueType} →
      Typed env a t → Typed env b u → Not ((t ≡ atom Boolean) × (u ≡ atom Boolean)) → Fails env (logical o p a b) (fault OperandMismatch p)
  -- a comparison: left operand, right operand, what can be compared
  compared_left : {env : Environment} {o : Comparison} {p : Place} {a b : Expression} {f : Fault} → Fails env a f → Fails env (compared o p a b) f
  compared_right : {env : Environment} {o : Comparison} {p : Place} {a b : Expression} {t : ValueType} {f : Fault} →
      Typed env a t → Fails env b f → Fails env (compared o p a b) f
  compared_types : {env : Environment} {o : Comparison} {p : Place} {a b : Expression} {t u : ValueType} →
      Typed env a t → Typed env b u → Not (Comparable o t u) → Fails env (compared o p a b) (fault OperandMismatch p)
  -- `+`, `-`: left operand, right operand, both integers
  summed_left : {env : Environment} {o : Sum} {p : Place} {a b : Expression} {f : Fault} → Fails env a f → Fails env (summed o p a b) f
  summed_right : {env : Environment} {o : Sum} {p : Place} {a b : Expression} {t : ValueType} {f : Fault} →
      Typed env a t → Fails env b f → Fails env (summed o p a b) f
  summed_types : {env : Environment} {o : Sum} {p : Place} {a b : Expression} {t u : ValueType} →
      Typed env a t → Typed env b u → Not ((t ≡ atom Integer) × (u ≡ atom Integer)) → Fails env (summed o p a b) (fault OperandMismatch p)
  -- `*`, `/`: left operand, right operand, both integers
  multiplied_left : {env : Environment} {o : Product} {p : Place} {a b : Expression} {f : Fault} → Fails env a f → Fails env (multiplied o p a b) f
  multiplied_right : {env : Environment} {o : Product} {p : Place} {a b : Expression} {t : ValueType} {f : Fault} →
      Typed env a t → Fails env b f → Fails env (multiplied o p a b) f
  multiplied_types : {env : Environment} {o : Product} {p : Place} {a b : Expression} {t u : ValueType} →
      Typed env a t → Typed env b u → Not ((t ≡ atom Integer) × (u ≡ atom Integer)) → Fails env (multiplied o p a b) (fault OperandMismatch p)
  -- `join`: left operand, right operand, both tables, column count, no common name, the condition, a boolean
  joined_left : {env : Environment} {p : Place} {a c b : Expression} {f : Fault} → Fails env a f → Fails env (joined p a c b) f
  joined_right : {env : Environment} {p : Place} {a c b : Expression} {t : ValueType} {f : Fault} →
      Typed env a t → Fails env b f → Fails env (joined p a c b) f
  joined_left_atom : {env : Environment} {p : Place} {a c b : Expression} {d : Domain} {u : ValueType} →
      Typed env a (atom d) → Typed env b u → Fails env (joined p a c b) (fault OperandMismatch p)
  joined_right_atom : {env : Environment} {p : Place} {a c b : Expression} {cs : List Column} {d : Domain} →
      Typed env a (table cs) → Typed env b (atom d) → Fails env (joined p a c b) (fault OperandMismatch p)
  joined_count : {env : Environment} {p : Place} {a c b : Expression} {cs ds : List Column} →
      Typed env a (table cs) → Typed env b (table ds) → columns < length cs + length ds → Fails env (joined p a c b) (fault TooMany p)
  joined_names : {env : Environment} {p : Place} {a c b : Expression} {cs ds : List Column} →
      Typed env a (table cs) → Typed env b (table ds) → length cs + length ds ≤ columns → meet cs ds ≡ true →
      Fails env (joined p a c b) (fault RepeatedName p)
  joined_inner : {env : Environment} {p : Place} {a c b : Expression} {cs ds : List Column} {f : Fault} →
      Typed env a (table cs) → Typed env b (table ds) → length cs + length ds ≤ columns → meet cs ds ≡ false →
      Fails (inside (cs ++ ds) env) c f → Fails env (joined p a c b) f
  joined_type : {env : Environment} {p : Place} {a c b : Expression} {cs ds : List Column} {t : ValueType} →
      Typed env a (table cs) → Typed env b (table ds) → length cs + length ds ≤ columns → meet cs ds ≡ false →
      Typed (inside (cs ++ ds) env) c t → Not (t ≡ atom Boolean) → Fails env (joined p a c b) (fault OperandMismatch p)
  -- a sign: operand, an integer
  negative_operand : {env : Environment} {p : Place} {a : Expression} {f : Fault} → Fails env a f → Fails env (negative p a) f
  negative_type : {env : Environment} {p : Place} {a : Expression} {t : ValueType} →
      Typed env a t → Not (t ≡ atom Integer) → Fails env (negative p a) (fault OperandMismatch p)
  -- `not`: operand, a boolean
  negated_operand : {env : Environment} {p : Place} {a : Expression} {f : Fault} → Fails env a f → Fails env (negated p a) f
  negated_type : {env : Environment} {p : Place} {a : Expression} {t : ValueType} →
      Typed env a t → Not (t ≡ atom Boolean) → Fails env (negated p a) (fault OperandMismatch p)
  -- `project`: operand, a table, names from left to right
  projected_operand : {env : Environment} {p : Place} {names : List Name} {e : Expression} {f : Fault} → Fails env e f → Fails env (projected p names e) f
  projected_atom : {env : Environment} {p : Place} {names : List Name} {e : Expression} {d : Domain} →
      Typed env e (atom d) → Fails env (projected p names e) (fault OperandMismatch p)
  projected_names : {env : Environment} {p : Place} {names : List Name} {e : Expression} {cs : List Column} {f : Fault} →
      Typed env e (table cs) → Mislisted cs [] names f → Fails env (projected p names e) f
  -- `rename`: operand, a table, as many names as columns, no name twice
  renamed_operand : {env : Environment} {p : Place} {names : List Name} {e : Expression} {f : Fault} → Fails env e f → Fails env (renamed p names e) f
  renamed_atom : {env : Environment} {p : Place} {names : List Name} {e : Expression} {d : Domain} →
      Typed env e (atom d) → Fails env (renamed p names e) (fault OperandMismatch p)
  renamed_count : {env : Environment} {p : Place} {names : List Name} {e : Expression} {cs : List Column} →
      Typed env e (table cs) → Not (length names ≡ length cs) → Fails env (renamed p names e) (fault OperandMismatch p)
  renamed_names : {env : Environment} {p : Place} {names : List Name} {e : Expression} {cs : List Column} {f : Fault} →
      Typed env e (table cs) → length names ≡ length cs → Repeats [] names f → Fails env (renamed p names e) f
  -- `select`: operand, a table, the condition, a boolean
  selected_operand : {env : Environment} {p : Place} {c e : Expression} {f : Fault} → Fails env e f → Fails env (selected p c e) f
  selected_atom : {env : Environment} {p : Place} {c e : Expression} {d : Domain} →
      Typed env e (atom d) → Fails env (selected p c e) (fault OperandMismatch p)
  selected_inner : {env : Environment} {p : Place} {c e : Expression} {cs : List Column} {f : Fault} →
      Typed env e (table cs) → Fails (inside cs env) c f → Fails env (selected p c e) f
  selected_type : {env : Environment} {p : Place} {c e : Expression} {cs : List Column} {t : ValueType} →
      Typed env e (table cs) → Typed (inside cs env) c t → Not (t ≡ atom Boolean) → Fails env (selected p c e) (fault OperandMismatch p)
  -- `exists`: operand, a table, the condition, a boolean
  existing_operand : {env : Environment} {p : Place} {c e : Expression} {f : Fault} → Fails env e f → Fails env (existing p c e) f
  existing_atom : {env : Environment} {p : Place} {c e : Expression} {d : Domain} →
      Typed env e (atom d) → Fails env (existing p c e) (fault OperandMismatch p)
  existing_inner : {env : Environment} {p : Place} {c e : Expression} {cs : List Column} {f : Fault} →
      Typed env e (table cs) → Fails (inside cs env) c f → Fails env (existing p c e) f
  existing_type : {env : Environment} {p : Place} {c e : Expression} {cs : List Column} {t : ValueType} →
      Typed env e (table cs) → Typed (inside cs env) c t → Not (t ≡ atom Boolean) → Fails env (existing p c e) (fault OperandMismatch p)
  -- `all`: operand, a table, the condition, a boolean
  everywhere_operand : {env : Environment} {p : Place} {c e : Expression} {f : Fault} → Fails env e f → Fails env (everywhere p c e) f
  everywhere_atom : {env : Environment} {p : Place} {c e : Expression} {d : Domain} →
      Typed env e (atom d) → Fails env (everywhere p c e) (fault OperandMismatch p)
  everywhere_inner : {env : Environment} {p : Place} {c e : Expression} {cs : List Column} {f : Fault} →
      Typed env e (table cs) → Fails (inside cs env) c f → Fails env (everywhere p c e) f
  everywhere_type : {env : Environment} {p : Place} {c e : Expression} {cs : List Column} {t : ValueType} →
      Typed env e (table cs) → Typed (inside cs env) c t → Not (t ≡ atom Boolean) → Fails env (everywhere p c e) (fault OperandMismatch p)
  -- `update`: operand, a table, its column, the value, of the column's domain
  updated_operand : {env : Environment} {p q : Place} {n : Bytes} {x e : Expression} {f : Fault} →
      Fails env e f → Fails env (updated p (named n q) x e) f
  updated_atom : {env : Environment} {p q : Place} {n : Bytes} {x e : Expression} {d : Domain} →
      Typed env e (atom d) → Fails env (updated p (named n q) x e) (fault OperandMismatch p)
  updated_name : {env : Environment} {p q : Place} {n : Bytes} {x e : Expression} {cs : List Column} →
      Typed env e (table cs) → Absent (is_column n) (cs ∷ []) → Fails env (updated p (named n q) x e) (fault NameNotFound q)
  updated_inner : {env : Environment} {p q : Place} {n : Bytes} {x e : Expression} {cs : List Column} {c : Found Column} {f : Fault} →
      Typed env e (table cs) → Sees (is_column n) (cs ∷ []) c → Fails (inside cs env) x f → Fails env (updated p (named n q) x e) f
  updated_type : {env : Environment} {p q : Place} {n : Bytes} {x e : Expression} {cs : List Column} {c : Found Column} {t : ValueType} →
      Typed env e (table cs) → Sees (is_column n) (cs ∷ []) c → Typed (inside cs env) x t → Not (t ≡ atom c.entry.domain) →
      Fails env (updated p (named n q) x e) (fault OperandMismatch p)
  -- `extend`: operand, a table, column count, a new name, the value, of the column's domain
  extended_operand : {env : Environment} {p q r : Place} {d : Domain} {n : Bytes} {x e : Expression} {f : Fault} →
      Fails env e f → Fails env (extended p (typed d r) (named n q) x e) f
  extended_atom : {env : Environment} {p q r : Place} {d g : Domain} {n : Bytes} {x e : Expression} →
      Typed env e (atom g) → Fails env (extended p (typed d r) (named n q) x e) (fault OperandMismatch p)
  extended_count : {env : Environment} {p q r : Place} {d : Domain} {n : Bytes} {x e : Expression} {cs : List Column} →
      Typed env e (table cs) → columns ≤ length cs → Fails env (extended p (typed d r) (named n q) x e) (fault TooMany p)
  extended_name : {env : Environment} {p q r : Place} {d : Domain} {n : Bytes} {x e : Expression} {cs : List Column} →
      Typed env e (table cs) → length cs < columns → has cs n ≡ true → Fails env (extended p (typed d r) (named n q) x e) (fault RepeatedName q)
  extended_inner : {env : Environment} {p q r : Place} {d : Domain} {n : Bytes} {x e : Expression} {cs : List Column} {f : Fault} →
      Typed env e (table cs) → length cs < columns → has cs n ≡ false → Fails (inside cs env) x f →
      Fails env (extended p (typed d r) (named n q) x e) f
  extended_type : {env : Environment} {p q r : Place} {d : Domain} {n : Bytes} {x e : Expression} {cs : List Column} {t : ValueType} →
      Typed env e (table cs) → length cs < columns → has cs n ≡ false → Typed (inside cs env) x t → Not (t ≡ atom d) →
      Fails env (extended p (typed d r) (named n q) x e) (fault OperandMismatch p)

-- Definitions.

-- the attributes of a table type in turn: repetition before the count
pub data Misdeclared : List Column → List Attribute → Fault → Type 0 where
  declared_twice : {d : Domain} {q p : Place} {n : Bytes} {before : List Column} {rest : List Attribute} →
      has before n ≡ true → Misdeclared before (attribute (typed d q) (named n p) ∷ rest) (fault RepeatedName p)
  declared_crowded : {d : Domain} {q p : Place} {n : Bytes} {before : List Column} {rest : List Attribute} →
      has before n ≡ false → columns ≤ length before → Misdeclared before (attribute (typed d q) (named n p) ∷ rest) (fault TooMany p)
  declared_later : {d : Domain} {q p : Place} {n : Bytes} {before : List Column} {rest : List Attribute} {f : Fault} →
      has before n ≡ false → length before < columns → Misdeclared (before ++ (column_named n d ∷ [])) rest f →
      Misdeclared before (attribute (typed d q) (named n p) ∷ rest) f

-- the names of a definition in turn: repetition before the count
pub data Misdefined (t : ValueType) : Environment → List Name → Fault → Type 0 where
  defined_twice : {env : Environment} {n : Bytes} {p : Place} {rest : List Name} →
      defines env.own n ≡ true → Misdefined t env (named n p ∷ rest) (fault RepeatedName p)
  defined_crowded : {env : Environment} {n : Bytes} {p : Place} {rest : List Name} →
      defines env.own n ≡ false → variables ≤ count env → Misdefined t env (named n p ∷ rest) (fault TooMany p)
  defined_later : {env : Environment} {n : Bytes} {p : Place} {rest : List Name} {f : Fault} →
      defines env.own n ≡ false → count env < variables → Misdefined t (defining n t env) rest f →
      Misdefined t env (named n p ∷ rest) f

-- the specifier of a `read` or `write`: the expression, a string
pub data Misspecified (env : Environment) (p : Place) : Option Expression → Fault → Type 0 where
  specifier_fails : {e : Expression} {f : Fault} → Fails env e f → Misspecified env p (some e) f
  specifier_type : {e : Expression} {t : ValueType} → Typed env e t → Not (t ≡ atom String) → Misspecified env p (some e) (fault StatementMismatch p)

-- Statements.
mutual
  pub data Invalid : Environment → Statement → Fault → Type 0 where
    -- a definition: its type, then its names
    define_type : {env : Environment} {attributes : List Attribute} {p : Place} {names : List Name} {f : Fault} →
        Misdeclared [] attributes f → Invalid env (define (of_table attributes p) names) f
    define_names : {env : Environment} {type : VariableType} {t : ValueType} {names : List Name} {f : Fault} →
        Declares type t → Misdefined t env names f → Invalid env (define type names) f
    -- an assignment: the variable, the expression, of the variable's type
    assign_name : {env : Environment} {n : Bytes} {p : Place} {e : Expression} →
        Absent (is_variable n) (blocks env) → Invalid env (assign (named n p) e) (fault NameNotFound p)
    assign_expression : {env : Environment} {n : Bytes} {p : Place} {e : Expression} {v : Found Variable} {f : Fault} →
        Sees (is_variable n) (blocks env) v → Fails env e f → Invalid env (assign (named n p) e) f
    assign_type : {env : Environment} {n : Bytes} {p : Place} {e : Expression} {v : Found Variable} {u : ValueType} →
        Sees (is_variable n) (blocks env) v → Typed env e u → Not (SameType v.entry.type u) →
        Invalid env (assign (named n p) e) (fault StatementMismatch p)
    -- `if` with `then`: the test, a boolean, the block
    if_then_test : {env : Environment} {p : Place} {e : Expression} {b : Block} {f : Fault} → Fails env e f → Invalid env (if_then p e b) f
    if_then_type : {env : Environment} {p : Place} {e : Expression} {b : Block} {t : ValueType} →
        Typed env e t → Not (t ≡ atom Boolean) → Invalid env (if_then p e b) (fault StatementMismatch p)
    if_then_block : {env : Environment} {p : Place} {e : Expression} {b : Block} {f : Fault} →
        Typed env e (atom Boolean) → InvalidBlock env b f → Invalid env (if_then p e b) f
    -- `if` with `else`: the test, a boolean, the blocks in turn
    if_then_else_test : {env : Environment} {p : Place} {e : Expression} {b c : Block} {f : Fault} → Fails env e f → Invalid env (if_then_else p e b c) f
    if_then_else_type : {env : Environment} {p : Place} {e : Expression} {b c : Block} {t : ValueType} →
        Typed env e t → Not (t ≡ atom Boolean) → Invalid env (if_then_else p e b c) (fault StatementMismatch p)
    if_then_else_block : {env : Environment} {p : Place} {e : Expression} {b c : Block} {f : Fault} →
        Typed env e (atom Boolean) → InvalidBlock env b f → Invalid env (if_then_else p e b c) f
    if_then_else_other : {env : Environment} {p : Place} {e : Expression} {b c : Block} {f : Fault} →
        Typed env e (atom Boolean) → ValidBlock env b → InvalidBlock env c f → Invalid env (if_then_else p e b c) f
    -- `while`: the test, a boolean, the block
    while_do_test : {env : Environment} {p : Place} {e : Expression} {b : Block} {f : Fault} → Fails env e f → Invalid env (while_do p e b) f
    while_do_type : {env : Environment} {p : Place} {e : Expression} {b : Block} {t : ValueType} →
        Typed env e t → Not (t ≡ atom Boolean) → Invalid env (while_do p e b) (fault StatementMismatch p)
    while_do_block : {env : Environment} {p : Place} {e : Expression} {b : Block} {f : Fault} →
        Typed env e (atom Boolean) → InvalidBlock env b f → Invalid env (while_do p e b) f
    -- `read`: the specifier with its type, then the variable
    read_into_specifier : {env : Environment} {p q : Place} {s : Option Expression} {n : Bytes} {f : Fault} →
        Misspecified env p s f → Invalid env (read_into p s (named n q)) f
    read_into_name : {env : Environment} {p q : Place} {s : Option Expression} {n : Bytes} →
        Specified env s → Absent (is_variable n) (blocks env) → Invalid env (read_into p s (named n q)) (fault NameNotFound q)
    -- `write`: the specifier with its type, then the expression
    write_out_specifier : {env : Environment} {p : Place} {s : Option Expression} {e : Expression} {f : Fault} →
        Misspecified env p s f → Invalid env (write_out p s e) f
    write_out_expression : {env : Environment} {p : Place} {s : Option Expression} {e : Expression} {f : Fault} →
        Specified env s → Fails env e f → Invalid env (write_out p s e) f

  pub data InvalidAll : Environment → Statements → Fault → Type 0 where
    first_invalid : {env : Environment} {s : Statement} {rest : Statements} {f : Fault} → Invalid env s f → InvalidAll env (s followed_by rest) f
    later_invalid : {env next : Environment} {s : Statement} {rest : Statements} {f : Fault} →
        Valid env s next → InvalidAll next rest f → InvalidAll env (s followed_by rest) f

  pub data InvalidBlock : Environment → Block → Fault → Type 0 where
    block_invalid : {env : Environment} {ss : Statements} {p : Place} {f : Fault} → InvalidAll (opened env) ss f → InvalidBlock env (closed_at ss p) f

-- A program is wrong at its first statement that is not right.
pub data Wrong : Block → Fault → Type 0 where
  program_wrong : {ss : Statements} {p : Place} {f : Fault} → InvalidAll start ss f → Wrong (closed_at ss p) f
