-- What holds of the plan of every typed expression.
use Rattle.std.specs.Prelude.{◌≡◌}
use Rattle.grammar.specs.Tree.{Expression}
use Rattle.schema.specs.Kinds.{ValueType}
use Rattle.typing.specs.Environments.{Environment}
use Rattle.typing.specs.Typing.{Typed}
use Rattle.plan.specs.Plan.{type_of}
use Rattle.plan.specs.Planning.{planned}

-- the plan of an expression has the type that the expression has
abbrev pub PlansKeepTypes : Type 0
PlansKeepTypes = (env : Environment) (e : Expression) (t : ValueType) → Typed env e t → type_of (planned env e) ≡ t
