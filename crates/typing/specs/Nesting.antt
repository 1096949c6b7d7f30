-- How deep brackets nest, and how many attributes they bring into scope: the buffer for attributes in scope never fills.
use Rattle.std.specs.Prelude.{◌≡◌, ℕ, zero, suc, ◌+◌, ◌≤◌, List, [], ◌∷◌, ◌++◌, length}
use Rattle.domain.specs.declared.Domain.{Domain}
use Rattle.fault.specs.Limits.{columns, depth, attributes}
use Rattle.words.specs.Tokens.{Place}
use Rattle.words.specs.declared.tokens.Logic.{Logic}
use Rattle.words.specs.declared.tokens.Comparison.{Comparison}
use Rattle.words.specs.declared.tokens.Sum.{Sum}
use Rattle.words.specs.declared.tokens.Product.{Product}
use Rattle.grammar.specs.Tree.{Name, AtomicType}
use Rattle.grammar.specs.Tree.{Expression, Expression.variable, Expression.literal, Expression.table_of_tuples, Expression.table_of_types, Expression.logical, Expression.compared, Expression.summed, Expression.multiplied, Expression.joined}
use Rattle.grammar.specs.Tree.{Expression.negative, Expression.negated, Expression.projected, Expression.renamed, Expression.selected, Expression.existing, Expression.everywhere, Expression.updated, Expression.extended}
use Rattle.schema.specs.Columns.{Column}
use Rattle.schema.specs.Kinds.{ValueType, ValueType.atom, ValueType.table}
use Rattle.scope.specs.Chains.{size}
use Rattle.typing.specs.Environments.{Variable, Environment, blocks, inside}
use Rattle.typing.specs.Typing.{Typed}

-- what is inside a bracket nests one less
abbrev pub Inside : (ℕ → Type 0) → ℕ → Type 0
Inside P zero = ⊥
Inside P (suc n) = P n

-- the brackets of an expression nest at most n deep
abbrev pub Nests : Expression → ℕ → Type 0
Nests (variable x) n = Unit {0}
Nests (literal c) n = Unit {0}
Nests (table_of_tuples xs p) n = Unit {0}
Nests (table_of_types ys p) n = Unit {0}
Nests (logical o p a b) n = Nests a n × Nests b n
Nests (compared o p a b) n = Nests a n × Nests b n
Nests (summed o p a b) n = Nests a n × Nests b n
Nests (multiplied o p a b) n = Nests a n × Nests b n
Nests (joined p a c b) n = Nests a n × Nests b n × Inside (Nests c) n
Nests (negative p a) n = Nests a n
Nests (negated p a) n = Nests a n
Nests (projected p xs e) n = Nests e n
Nests (renamed p xs e) n = Nests e n
Nests (selected p c e) n = Nests e n × Inside (Nests c) n
Nests (existing p c e) n = Nests e n × Inside (Nests c) n
Nests (everywhere p c e) n = Nests e n × Inside (Nests c) n
Nests (updated p x v e) n = Nests e n × Inside (Nests v) n
Nests (extended p y x v e) n = Nests e n × Inside (Nests v) n

-- a type of at most `columns` columns
pub data Fits : ValueType → Type 0 where
  atom_fits : {d : Domain} → Fits (atom d)
  table_fits : {cs : List Column} → length cs ≤ columns → Fits (table cs)

-- every variable of the lists has such a type
abbrev pub AllFit : List Variable → Type 0
AllFit [] = Unit {0}
AllFit (v ∷ rest) = Fits v.type × AllFit rest

abbrev pub EveryFits : List (List Variable) → Type 0
EveryFits [] = Unit {0}
EveryFits (own ∷ outer) = AllFit own × EveryFits outer

-- no table in scope has more columns than there may be
abbrev pub Few : Environment → Type 0
Few env = EveryFits (blocks env)

-- `Part env e inner part`: to check e in env, part is checked in inner
pub data Part : Environment → Expression → Environment → Expression → Type 0 where
  logical_left : {env : Environment} {o : Logic} {p : Place} {a b : Expression} → Part env (logical o p a b) env a
  logical_right : {env : Environment} {o : Logic} {p : Place} {a b : Expression} → Part env (logical o p a b) env b
  compared_left : {env : Environment} {o : Comparison} {p : Place} {a b : Expression} → Part env (compared o p a b) env a
  compared_right : {env : Environment} {o : Comparison} {p : Place} {a b : Expression} → Part env (compared o p a b) env b
  summed_left : {env : Environment} {o : Sum} {p : Place} {a b : Expression} → Part env (summed o p a b) env a
  summed_right : {env : Environment} {o : Sum} {p : Place} {a b : Expression} → Part env (summed o p a b) env b
  multiplied_left : {env : Environment} {o : Product} {p : Place} {a b : Expression} → Part env (multiplied o p a b) env a
  multiplied_right : {env : Environment} {o : Product} {p : Place} {a b : Expression} → Part env (multiplied o p a b) env b
  joined_left : {env : Environment} {p : Place} {a c b : Expression} → Part env (joined p a c b) env a
  joined_right : {env : Environment} {p : Place} {a c b : Expression} → Part env (joined p a c b) env b
  joined_inner : {env : Environment} {p : Place} {a c b : Expression} {cs ds : List Column} →
      Typed env a (table cs) → Typed env b (table ds) → length cs + length ds ≤ columns → Part env (joined p a c b) (inside (cs ++ ds) env) c
  negative_operand : {env : Environment} {p : Place} {a : Expression} → Part env (negative p a) env a
  negated_operand : {env : Environment} {p : Place} {a : Expression} → Part env (negated p a) env a
  projected_operand : {env : Environment} {p : Place} {xs : List Name} {e : Expression} → Part env (projected p xs e) env e
  renamed_operand : {env : Environment} {p : Place} {xs : List Name} {e : Expression} → Part env (renamed p xs e) env e
  selected_operand : {env : Environment} {p : Place} {c e : Expression} → Part env (selected p c e) env e
  selected_inner : {env : Environment} {p : Place} {c e : Expression} {cs : List Column} → Typed env e (table cs) → Part env (selected p c e) (inside cs env) c
  existing_operand : {env : Environment} {p : Place} {c e : Expression} → Part env (existing p c e) env e
  existing_inner : {env : Environment} {p : Place} {c e : Expression} {cs : List Column} → Typed env e (table cs) → Part env (existing p c e) (inside cs env) c
  everywhere_operand : {env : Environment} {p : Place} {c e : Expression} → Part env (everywhere p c e) env e
  everywhere_inner : {env : Environment} {p : Place} {c e : Expression} {cs : List Column} → Typed env e (table cs) → Part env (everywhere p c e) (inside cs env) c
  updated_operand : {env : Environment} {p : Place} {x : Name} {v e : Expression} → Part env (updated p x v e) env e
  updated_inner : {env : Environment} {p : Place} {x : Name} {v e : Expression} {cs : List Column} → Typed env e (table cs) → Part env (updated p x v e) (inside cs env) v
  extended_operand : {env : Environment} {p : Place} {y : AtomicType} {x : Name} {v e : Expression} → Part env (extended p y x v e) env e
  extended_inner : {env : Environment} {p : Place} {y : AtomicType} {x : Name} {v e : Expression} {cs : List Column} → Typed env e (table cs) → Part env (extended p y x v e) (inside cs env) v

-- a part of a part is a part
pub data Parts : Environment → Expression → Environment → Expression → Type 0 where
  itself : {env : Environment} {e : Expression} → Parts env e env e
  deeper : {env inner last : Environment} {e part end : Expression} → Part env e inner part → Parts inner part last end → Parts env e last end

-- a table has at most `columns` columns, where those of the variables have
abbrev pub WidthsFit : Type 0
WidthsFit = (env : Environment) (e : Expression) (t : ValueType) → Few env → Typed env e t → Fits t

-- outside all brackets, an expression within the depth never brings more attributes into scope than the buffer takes, in no more lists than there are depths
abbrev pub NeverFull : Type 0
NeverFull = (env last : Environment) (e end : Expression) → env.contexts ≡ [] → Few env → Nests e depth → Parts env e last end →
    (size last.contexts ≤ attributes) × (length last.contexts ≤ depth)
