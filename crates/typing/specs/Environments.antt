-- What is in scope: the attributes of the brackets around an expression, and the variables of the blocks around a statement.
use Rattle.std.specs.Prelude.{ℕ, Bool, List, [], ◌∷◌, ◌++◌, Some, None, Option}
use Rattle.domain.specs.declared.Domain.{Domain}
use Rattle.words.specs.Tokens.{Bytes, Place}
use Rattle.fault.specs.declared.rules.Fault.{Fault}
use Rattle.fault.specs.declared.rules.Rule.{Rule}
use Rattle.schema.specs.Columns.{Column}
use Rattle.schema.specs.Kinds.{ValueType, ValueType.atom}
use Rattle.scope.specs.Names.{called}
use Rattle.scope.specs.Chains.{Found, size, find, Sees, Absent}

-- a fault of a rule at a place of the script
abbrev pub fault : Rule → Place → Fault
fault r p = record { rule = r; place = p }

-- a variable; a name that does not lie in the text is none, and is never found
pub record Variable : Type 0 where
  pub name : Option Bytes
  pub type : ValueType

-- the attributes of each bracket, the nearest first; the variables of the own block, the oldest first; those of the blocks around it, the nearest first
pub record Environment : Type 0 where
  pub contexts : List (List Column)
  pub own : List Variable
  pub outer : List (List Variable)

abbrev pub blocks : Environment → List (List Variable)
blocks env = env.own ∷ env.outer

-- how many variables are in scope, hidden ones too
abbrev pub count : Environment → ℕ
count env = size (blocks env)

-- before the first statement
abbrev pub start : Environment
start = record { contexts = []; own = []; outer = [] }

-- inside the bracket of an operator over a table of these columns
abbrev pub inside : List Column → Environment → Environment
inside columns env = record { contexts = columns ∷ env.contexts; own = env.own; outer = env.outer }

-- inside a new block
abbrev pub opened : Environment → Environment
opened env = record { contexts = env.contexts; own = []; outer = env.own ∷ env.outer }

-- with one variable more in the own block
abbrev pub defining : Bytes → ValueType → Environment → Environment
defining n t env = record { contexts = env.contexts; own = env.own ++ (record { name = Some n; type = t } ∷ []); outer = env.outer }

-- which columns and which variables have the name
abbrev pub is_column : Bytes → Column → Bool
is_column n c = called c.name n

abbrev pub is_variable : Bytes → Variable → Bool
is_variable n v = called v.name n

-- what a name stands for: an attribute by the distance of its bracket and its column there, or a variable by its number among all in scope
pub data Reference : Type 0 where
  to_attribute : ℕ → ℕ → Domain → Reference
  to_variable : ℕ → ValueType → Reference

abbrev pub attribute_found : Found Column → Reference
attribute_found f = to_attribute f.distance f.position f.entry.domain

abbrev pub variable_found : Found Variable → Reference
variable_found f = to_variable f.number f.entry.type

-- the type of what a name stands for
abbrev pub referred : Reference → ValueType
referred (to_attribute distance column d) = atom d
referred (to_variable number t) = t

-- `Refers env n r`: the nearest bracket that has the name; else the nearest block that has it
pub data Refers (env : Environment) (n : Bytes) : Reference → Type 0 where
  by_attribute : {f : Found Column} → Sees (is_column n) env.contexts f → Refers env n (attribute_found f)
  by_variable : {f : Found Variable} → Absent (is_column n) env.contexts → Sees (is_variable n) (blocks env) f → Refers env n (variable_found f)

-- neither a bracket nor a block has the name
pub data Unknown (env : Environment) (n : Bytes) : Type 0 where
  nowhere : Absent (is_column n) env.contexts → Absent (is_variable n) (blocks env) → Unknown env n

-- The search itself.

-- assignments and reads seek variables only
abbrev pub variable_named : Environment → Bytes → Option (Found Variable)
variable_named env n = find (is_variable n) (blocks env)

abbrev pub resolve_or : Option (Found Column) → Option (Found Variable) → Option Reference
resolve_or (Some f) o = Some (attribute_found f)
resolve_or None (Some f) = Some (variable_found f)
resolve_or None None = None

abbrev pub resolve : Environment → Bytes → Option Reference
resolve env n = resolve_or (find (is_column n) env.contexts) (variable_named env n)
