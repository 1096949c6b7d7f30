-- The state of a run: what the machine holds between two steps.
use Rattle.std.specs.Prelude.{ℕ, List, [], ℤ}
use Rattle.std.proofs.Math.Option.{Option}
use Rattle.fault.specs.declared.rules.Fault.{Fault}
use Rattle.fault.specs.declared.rules.Rule.{Rule}
use Rattle.fault.specs.declared.rules.Rule.TheVariants.{Disorder}
use Rattle.schema.specs.Kinds.{ValueType}
use Rattle.store.specs.Meaning.{Store}
use Rattle.words.specs.Tokens.{Bytes, Place}

-- an operand: a cell, or a table by its number in the store
pub data Operand : Type 0 where
  cell : ℤ → Operand
  table_at : ℕ → Operand

-- a variable: the same
abbrev pub Slot : Type 0
Slot = Operand

-- the row that a bracket is at: of one table, with the column that is updated; or of a left and a right table
pub data Context : Type 0 where
  over_one : ℕ → ℕ → ℕ → Context
  over_two : ℕ → ℕ → ℕ → ℕ → Context

pub data Condition : Type 0 where
  going : Condition
  -- for a text: the name it is to come from, the variable's type and number
  waiting : Option Bytes → ValueType → ℕ → Condition
  -- lines: the name they go to, the format, the value, how many were collected
  showing : Option Bytes → ValueType → Operand → ℕ → Condition
  done : Condition
  failed : Fault → Condition

pub record State : Type 0 where
  pub counter : ℕ
  -- the last operand first
  pub operands : List Operand
  -- the oldest variable first
  pub variables : List Slot
  -- the nearest bracket first
  pub contexts : List Context
  pub store : Store
  -- by number: the empty one, the script's, those read
  pub strings : List Bytes
  pub condition : Condition

-- Changes of one part.

abbrev pub with_store : Store → State → State
with_store x s = record { counter = s.counter; operands = s.operands; variables = s.variables; contexts = s.contexts; store = x; strings = s.strings; condition = s.condition }

abbrev pub with_operands : List Operand → State → State
with_operands x s = record { counter = s.counter; operands = x; variables = s.variables; contexts = s.contexts; store = s.store; strings = s.strings; condition = s.condition }

abbrev pub with_variables : List Slot → State → State
with_variables x s = record { counter = s.counter; operands = s.operands; variables = x; contexts = s.contexts; store = s.store; strings = s.strings; condition = s.condition }

abbrev pub with_contexts : List Context → State → State
with_contexts x s = record { counter = s.counter; operands = s.operands; variables = s.variables; contexts = x; store = s.store; strings = s.strings; condition = s.condition }

abbrev pub with_condition : Condition → State → State
with_condition x s = record { counter = s.counter; operands = s.operands; variables = s.variables; contexts = s.contexts; store = s.store; strings = s.strings; condition = x }

abbrev pub goto : ℕ → State → State
goto x s = record { counter = x; operands = s.operands; variables = s.variables; contexts = s.contexts; store = s.store; strings = s.strings; condition = s.condition }

-- a run that has failed has no operands, variables or contexts any more; its tables and strings stay
abbrev pub fail : Rule → Place → State → State
fail r p s =
    record {
      counter = s.counter;
      operands = [];
      variables = [];
      contexts = [];
      store = s.store;
      strings = s.strings;
      condition = failed (record { rule = r; place = p });
    }

-- disorder has no place in the script
abbrev pub disorder : State → State
disorder s = fail Disorder (record { line = 0; byte = 0 }) s
