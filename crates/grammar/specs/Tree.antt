-- What a script's text stands for. Each node has the place that its faults and its instructions name.
-- Children stand in the grammar's order; parentheses leave no node.
use Rattle.std.specs.Prelude.{Bool, List, ℤ}
use Rattle.std.proofs.Math.Option.{Option}
use Rattle.domain.specs.declared.Domain.{Domain}
use Rattle.words.specs.declared.tokens.Logic.{Logic}
use Rattle.words.specs.declared.tokens.Comparison.{Comparison}
use Rattle.words.specs.declared.tokens.Sum.{Sum}
use Rattle.words.specs.declared.tokens.Product.{Product}
use Rattle.words.specs.Tokens.{Bytes, Place}

pub data Name : Type 0 where
  named : Bytes → Place → Name

-- an integer by its value, a string by its bytes
pub data Constant : Type 0 where
  integer_constant : ℤ → Place → Constant
  string_constant : Bytes → Place → Constant
  truth_constant : Bool → Place → Constant

-- at its `(`
pub data Tuple : Type 0 where
  tuple_of : List Constant → Place → Tuple

pub data AtomicType : Type 0 where
  typed : Domain → Place → AtomicType

pub data Attribute : Type 0 where
  attribute : AtomicType → Name → Attribute

-- a table type at the word `table`
pub data VariableType : Type 0 where
  of_domain : AtomicType → VariableType
  of_table : List Attribute → Place → VariableType

-- an operator stands at its own token, a table constant at its `{`
pub data Expression : Type 0 where
  variable : Name → Expression
  literal : Constant → Expression
  table_of_tuples : List Tuple → Place → Expression
  table_of_types : List AtomicType → Place → Expression
  logical : Logic → Place → Expression → Expression → Expression
  compared : Comparison → Place → Expression → Expression → Expression
  summed : Sum → Place → Expression → Expression → Expression
  multiplied : Product → Place → Expression → Expression → Expression
  -- the left table, the condition, the right table
  joined : Place → Expression → Expression → Expression → Expression
  negative negated : Place → Expression → Expression
  projected renamed : Place → List Name → Expression → Expression
  -- the condition, then the table
  selected existing everywhere : Place → Expression → Expression → Expression
  -- the column, the new value, the table
  updated : Place → Name → Expression → Expression → Expression
  -- the domain, the column, the value, the table
  extended : Place → AtomicType → Name → Expression → Expression → Expression

-- a statement stands at its first token; a list of statements keeps the place of the word that closes it
infixr 50 ◌followed_by◌
mutual
  pub data Statement : Type 0 where
    define : VariableType → List Name → Statement
    assign : Name → Expression → Statement
    if_then : Place → Expression → Block → Statement
    if_then_else : Place → Expression → Block → Block → Statement
    while_do : Place → Expression → Block → Statement
    read_into : Place → Option Expression → Name → Statement
    write_out : Place → Option Expression → Expression → Statement

  pub data Statements : Type 0 where
    no_statement : Statements
    ◌followed_by◌ : Statement → Statements → Statements

  pub data Block : Type 0 where
    closed_at : Statements → Place → Block
