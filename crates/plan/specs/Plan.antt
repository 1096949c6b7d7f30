-- A plan: a script's tree with each name replaced by what it stands for, and each operator with the columns of its result.
-- Code and meaning are defined on plans, so neither looks up a name again.
use Rattle.std.specs.Prelude.{ℕ, List}
use Rattle.std.proofs.Math.Option.{Option}
use Rattle.domain.specs.declared.Domain.{Domain}
use Rattle.domain.specs.declared.Domain.TheVariants.{Integer, Boolean}
use Rattle.grammar.specs.Tree.{Constant, Tuple}
use Rattle.schema.specs.Columns.{Column}
use Rattle.schema.specs.Kinds.{ValueType, ValueType.atom, ValueType.table}
use Rattle.typing.specs.Tables.{domain_of}
use Rattle.words.specs.Tokens.{Place}
use Rattle.words.specs.declared.tokens.Comparison.{Comparison}
use Rattle.words.specs.declared.tokens.Logic.{Logic}
use Rattle.words.specs.declared.tokens.Product.{Product}
use Rattle.words.specs.declared.tokens.Sum.{Sum}

-- a column that a projection keeps: its number, and the place of its name in the list
pub record Kept : Type 0 where
  pub column : ℕ
  pub place : Place

-- an expression; the columns are those of the result
pub data Term : Type 0 where
  constant : Constant → Term
  -- a variable by its number among all in scope, the oldest 0
  variable : ValueType → ℕ → Place → Term
  -- an attribute by the distance of its bracket, the nearest 0, and its column there
  attribute : Domain → ℕ → ℕ → Place → Term
  tuples : List Column → List Tuple → Place → Term
  logical : Logic → Place → Term → Term → Term
  -- with the type of the left operand
  compared : Comparison → ValueType → Place → Term → Term → Term
  summed : Sum → Place → Term → Term → Term
  multiplied : Product → Place → Term → Term → Term
  negative negated : Place → Term → Term
  -- the left table, the condition, the right table
  joined : List Column → Place → Term → Term → Term → Term
  projected : List Column → List Kept → Place → Term → Term
  -- other names for the same columns
  renamed : List Column → Term → Term
  -- the condition, then the table
  selected existing everywhere : List Column → Place → Term → Term → Term
  -- the column that is updated and its domain, the new value, the table
  updated : List Column → ℕ → Domain → Place → Term → Term → Term
  -- the new column's domain, its value, the table
  extended : List Column → Domain → Place → Term → Term → Term

-- the type of a planned expression
abbrev pub type_of : Term → ValueType
type_of (constant c) = atom (domain_of c)
type_of (variable t i p) = t
type_of (attribute d c k p) = atom d
type_of (tuples cs ts p) = table cs
type_of (logical o p a b) = atom Boolean
type_of (compared o t p a b) = atom Boolean
type_of (summed o p a b) = atom Integer
type_of (multiplied o p a b) = atom Integer
type_of (negative p a) = atom Integer
type_of (negated p a) = atom Boolean
type_of (joined cs p a c b) = table cs
type_of (projected cs ks p a) = table cs
type_of (renamed cs a) = table cs
type_of (selected cs p c a) = table cs
type_of (existing cs p c a) = atom Boolean
type_of (everywhere cs p c a) = atom Boolean
type_of (updated cs k d p x a) = table cs
type_of (extended cs d p x a) = table cs

-- statements; a body has its statements, the number of variables that it defines itself, and the place of the word that closes it
infixr 50 ◌then◌
mutual
  pub data Action : Type 0 where
    -- a variable for each place
    define : ValueType → List Place → Action
    -- the variable's type, number and place
    assign : ValueType → ℕ → Place → Term → Action
    if_then : Place → Term → Body → Action
    if_then_else : Place → Term → Body → Body → Action
    while_do : Place → Term → Body → Action
    -- the name to read from, if there is one; the variable's type, number and place
    read_into : Option Term → ValueType → ℕ → Place → Action
    write_out : Place → Option Term → Term → Action

  pub data Actions : Type 0 where
    nothing : Actions
    ◌then◌ : Action → Actions → Actions

  pub data Body : Type 0 where
    body : Actions → ℕ → Place → Body
