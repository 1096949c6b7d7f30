-- Which expressions have which type, and which statements are right. Each rule stands above its constructor.
-- `Typed env e t`: in the environment, e has type t. `Valid env s next`: s is right there, and what follows it is checked in next.
use Rattle.std.specs.Prelude.{◌≡◌, ◌+◌, ◌<◌, ◌≤◌, true, false, List, [], ◌∷◌, ◌++◌, map, length}
use Rattle.std.proofs.Math.Option.{Option, none, some}
use Rattle.domain.specs.declared.Domain.{Domain}
use Rattle.domain.specs.declared.Domain.TheVariants.{Integer, String, Boolean}
use Rattle.fault.specs.Limits.{columns, variables}
use Rattle.words.specs.Tokens.{Bytes, Place}
use Rattle.words.specs.declared.tokens.Logic.{Logic}
use Rattle.words.specs.declared.tokens.Comparison.{Comparison}
use Rattle.words.specs.declared.tokens.Sum.{Sum}
use Rattle.words.specs.declared.tokens.Product.{Product}
use Rattle.grammar.specs.Tree.{Name, Name.named, Constant, Tuple, Tuple.tuple_of, AtomicType, AtomicType.typed, Attribute, Attribute.attribute, VariableType, VariableType.of_domain, VariableType.of_table}
use Rattle.grammar.specs.Tree.{Expression, Expression.variable, Expression.literal, Expression.table_of_tuples, Expression.table_of_types, Expression.logical, Expression.compared, Expression.summed, Expression.multiplied, Expression.joined}
use Rattle.grammar.specs.Tree.{Expression.negative, Expression.negated, Expression.projected, Expression.renamed, Expression.selected, Expression.existing, Expression.everywhere, Expression.updated, Expression.extended}
use Rattle.grammar.specs.Tree.{Statement, Statement.define, Statement.assign, Statement.if_then, Statement.if_then_else, Statement.while_do, Statement.read_into, Statement.write_out, Statements, Statements.no_statement, Statements.◌followed_by◌, Block, Block.closed_at}
use Rattle.schema.specs.Columns.{Column}
use Rattle.schema.specs.Kinds.{ValueType, ValueType.atom, ValueType.table}
use Rattle.schema.specs.Sameness.{SameType}
use Rattle.scope.specs.Chains.{Found, Sees}
use Rattle.typing.specs.Environments.{Variable, Environment, blocks, count, start, inside, opened, defining, is_column, is_variable, Reference, referred, Refers}
use Rattle.typing.specs.Tables.{bytes_in, domain_in, domain_of, first_domains, nameless, column_named, has, among, defines, meet, kept, renaming, Comparable}

-- Lists of names and of constants.

-- each name is a column's, and none stands twice or among those before
pub data Listed (cs : List Column) : List Bytes → List Name → Type 0 where
  listed_none : {before : List Bytes} → Listed cs before []
  listed_more : {n : Bytes} {p : Place} {before : List Bytes} {rest : List Name} →
      has cs n ≡ true → among before n ≡ false → Listed cs (n ∷ before) rest → Listed cs before (named n p ∷ rest)

-- no name stands twice or among those before
pub data Distinct : List Bytes → List Name → Type 0 where
  distinct_none : {before : List Bytes} → Distinct before []
  distinct_more : {n : Bytes} {p : Place} {before : List Bytes} {rest : List Name} →
      among before n ≡ false → Distinct (n ∷ before) rest → Distinct before (named n p ∷ rest)

-- every tuple has these domains
pub data Fitting (ds : List Domain) : List Tuple → Type 0 where
  fitting_none : Fitting ds []
  fitting_more : {cs : List Constant} {p : Place} {rest : List Tuple} →
      map domain_of cs ≡ ds → Fitting ds rest → Fitting ds (tuple_of cs p ∷ rest)

-- Expressions.
pub data Typed : Environment → Expression → ValueType → Type 0 where
  -- a name has the type of what it stands for
  name_typed : {env : Environment} {n : Bytes} {p : Place} {r : Reference} →
      Refers env n r → Typed env (variable (named n p)) (referred r)
  -- a constant has its domain
  literal_typed : {env : Environment} {c : Constant} → Typed env (literal c) (atom (domain_of c))
  -- a table constant: at most `columns` columns, and every tuple has the first one's domains
  tuples_typed : {env : Environment} {tuples : List Tuple} {p : Place} →
      length (first_domains tuples) ≤ columns → Fitting (first_domains tuples) tuples →
      Typed env (table_of_tuples tuples p) (table (nameless (first_domains tuples)))
  -- an empty table constant: at most `columns` columns
  types_typed : {env : Environment} {types : List AtomicType} {p : Place} →
      length (map domain_in types) ≤ columns → Typed env (table_of_types types p) (table (nameless (map domain_in types)))
  -- `and`, `or`: two booleans
  logical_typed : {env : Environment} {o : Logic} {p : Place} {a b : Expression} →
      Typed env a (atom Boolean) → Typed env b (atom Boolean) → Typed env (logical o p a b) (atom Boolean)
  -- `==`, `!=`: the same type; `<`, `<=`, `>`, `>=`: two integers or two strings
  compared_typed : {env : Environment} {o : Comparison} {p : Place} {a b : Expression} {t u : ValueType} →
      Typed env a t → Typed env b u → Comparable o t u → Typed env (compared o p a b) (atom Boolean)
  -- `+`, `-`: two integers
  summed_typed : {env : Environment} {o : Sum} {p : Place} {a b : Expression} →
      Typed env a (atom Integer) → Typed env b (atom Integer) → Typed env (summed o p a b) (atom Integer)
  -- `*`, `/`: two integers
  multiplied_typed : {env : Environment} {o : Product} {p : Place} {a b : Expression} →
      Typed env a (atom Integer) → Typed env b (atom Integer) → Typed env (multiplied o p a b) (atom Integer)
  -- `join`: two tables without a common name, together at most `columns` columns; the condition sees them all; left columns, then right
  joined_typed : {env : Environment} {p : Place} {a c b : Expression} {cs ds : List Column} →
      Typed env a (table cs) → Typed env b (table ds) → length cs + length ds ≤ columns → meet cs ds ≡ false →
      Typed (inside (cs ++ ds) env) c (atom Boolean) → Typed env (joined p a c b) (table (cs ++ ds))
  -- a sign before an integer
  negative_typed : {env : Environment} {p : Place} {a : Expression} →
      Typed env a (atom Integer) → Typed env (negative p a) (atom Integer)
  -- `not` before a boolean
  negated_typed : {env : Environment} {p : Place} {a : Expression} →
      Typed env a (atom Boolean) → Typed env (negated p a) (atom Boolean)
  -- `project`: columns of the table, each once; the table's order stays
  projected_typed : {env : Environment} {p : Place} {names : List Name} {e : Expression} {cs : List Column} →
      Typed env e (table cs) → Listed cs [] names → Typed env (projected p names e) (table (kept (map bytes_in names) cs))
  -- `rename`: a name for each column, none twice
  renamed_typed : {env : Environment} {p : Place} {names : List Name} {e : Expression} {cs : List Column} →
      Typed env e (table cs) → length names ≡ length cs → Distinct [] names →
      Typed env (renamed p names e) (table (renaming (map bytes_in names) cs))
  -- `select`: a table, and a boolean that sees its columns
  selected_typed : {env : Environment} {p : Place} {c e : Expression} {cs : List Column} →
      Typed env e (table cs) → Typed (inside cs env) c (atom Boolean) → Typed env (selected p c e) (table cs)
  -- `exists`: likewise, giving a boolean
  existing_typed : {env : Environment} {p : Place} {c e : Expression} {cs : List Column} →
      Typed env e (table cs) → Typed (inside cs env) c (atom Boolean) → Typed env (existing p c e) (atom Boolean)
  -- `all`: likewise
  everywhere_typed : {env : Environment} {p : Place} {c e : Expression} {cs : List Column} →
      Typed env e (table cs) → Typed (inside cs env) c (atom Boolean) → Typed env (everywhere p c e) (atom Boolean)
  -- `update`: a column of the table alone, and a value of its domain that sees the columns
  updated_typed : {env : Environment} {p q : Place} {n : Bytes} {x e : Expression} {cs : List Column} {f : Found Column} →
      Typed env e (table cs) → Sees (is_column n) (cs ∷ []) f → Typed (inside cs env) x (atom f.entry.domain) →
      Typed env (updated p (named n q) x e) (table cs)
  -- `extend`: a new name, room for it, and a value of its domain that sees the columns so far; the new column is the last
  extended_typed : {env : Environment} {p q r : Place} {d : Domain} {n : Bytes} {x e : Expression} {cs : List Column} →
      Typed env e (table cs) → length cs < columns → has cs n ≡ false → Typed (inside cs env) x (atom d) →
      Typed env (extended p (typed d r) (named n q) x e) (table (cs ++ (column_named n d ∷ [])))

-- Definitions.

-- the attributes of a table type, after those before: each name new, and at most `columns` of them
pub data Declared : List Column → List Attribute → List Column → Type 0 where
  declared_none : {before : List Column} → Declared before [] before
  declared_more : {d : Domain} {q p : Place} {n : Bytes} {before cs : List Column} {rest : List Attribute} →
      has before n ≡ false → length before < columns → Declared (before ++ (column_named n d ∷ [])) rest cs →
      Declared before (attribute (typed d q) (named n p) ∷ rest) cs

-- the type that a definition names
pub data Declares : VariableType → ValueType → Type 0 where
  declares_atom : {d : Domain} {p : Place} → Declares (of_domain (typed d p)) (atom d)
  declares_table : {attributes : List Attribute} {p : Place} {cs : List Column} →
      Declared [] attributes cs → Declares (of_table attributes p) (table cs)

-- names of a definition: each new in its own block, and at most `variables` in scope, hidden ones too
pub data Defined (t : ValueType) : Environment → List Name → Environment → Type 0 where
  defined_none : {env : Environment} → Defined t env [] env
  defined_more : {env next : Environment} {n : Bytes} {p : Place} {rest : List Name} →
      defines env.own n ≡ false → count env < variables → Defined t (defining n t env) rest next →
      Defined t env (named n p ∷ rest) next

-- the specifier of a `read` or `write`, if there is one, is a string
pub data Specified (env : Environment) : Option Expression → Type 0 where
  not_specified : Specified env none
  specified : {e : Expression} → Typed env e (atom String) → Specified env (some e)

-- Statements.
mutual
  pub data Valid : Environment → Statement → Environment → Type 0 where
    define_valid : {env next : Environment} {type : VariableType} {t : ValueType} {names : List Name} →
        Declares type t → Defined t env names next → Valid env (define type names) next
    -- a variable takes an expression of its type
    assign_valid : {env : Environment} {n : Bytes} {p : Place} {e : Expression} {f : Found Variable} {u : ValueType} →
        Sees (is_variable n) (blocks env) f → Typed env e u → SameType f.entry.type u → Valid env (assign (named n p) e) env
    -- a test is a boolean
    if_then_valid : {env : Environment} {p : Place} {e : Expression} {b : Block} →
        Typed env e (atom Boolean) → ValidBlock env b → Valid env (if_then p e b) env
    if_then_else_valid : {env : Environment} {p : Place} {e : Expression} {b c : Block} →
        Typed env e (atom Boolean) → ValidBlock env b → ValidBlock env c → Valid env (if_then_else p e b c) env
    while_do_valid : {env : Environment} {p : Place} {e : Expression} {b : Block} →
        Typed env e (atom Boolean) → ValidBlock env b → Valid env (while_do p e b) env
    -- `read` takes a variable of any type, `write` an expression of any type
    read_into_valid : {env : Environment} {p q : Place} {s : Option Expression} {n : Bytes} {f : Found Variable} →
        Specified env s → Sees (is_variable n) (blocks env) f → Valid env (read_into p s (named n q)) env
    write_out_valid : {env : Environment} {p : Place} {s : Option Expression} {e : Expression} {t : ValueType} →
        Specified env s → Typed env e t → Valid env (write_out p s e) env

  -- one statement after the other: what one defines, the next ones see
  pub data ValidAll : Environment → Statements → Environment → Type 0 where
    none_valid : {env : Environment} → ValidAll env no_statement env
    more_valid : {env next end : Environment} {s : Statement} {rest : Statements} →
        Valid env s next → ValidAll next rest end → ValidAll env (s followed_by rest) end

  -- what a block defines is seen in it alone
  pub data ValidBlock : Environment → Block → Type 0 where
    block_valid : {env end : Environment} {ss : Statements} {p : Place} →
        ValidAll (opened env) ss end → ValidBlock env (closed_at ss p)

-- A program is right if its statements are, one after the other, with nothing in scope before them.
pub data Right : Block → Type 0 where
  program_right : {end : Environment} {ss : Statements} {p : Place} → ValidAll start ss end → Right (closed_at ss p)
