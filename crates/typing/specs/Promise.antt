-- What the checker promises: it accepts exactly what is typed, and refuses with the first check that fails.
use Rattle.std.specs.Prelude.{◌≡◌, ◌⊎◌, ◌↔◌, Ok, Err}
use Rattle.fault.specs.declared.rules.Fault.{Fault}
use Rattle.grammar.specs.Tree.{Expression, Statement, Block}
use Rattle.typing.specs.Environments.{Environment}
use Rattle.typing.specs.Typing.{Typed, Valid, Right}
use Rattle.typing.specs.Failing.{Not, Fails, Invalid, Wrong}
use Rattle.typing.specs.Checker.{Answer, check, check_statement, check_program}

-- an answer, what it means to be accepted with a value, and to be refused with a fault
pub record Exact {A : Type 0} (answer : Answer A) (Good : A → Type 0) (Bad : Fault → Type 0) : Type 0 where
  pub accepted : (a : A) → (answer ≡ Ok a) ↔ Good a
  pub refused : (f : Fault) → (answer ≡ Err f) ↔ Bad f
  pub one_answer : (a b : A) → Good a → Good b → a ≡ b
  pub one_fault : (f g : Fault) → Bad f → Bad g → f ≡ g
  pub one_of_both : ((a : A) × Good a) ⊎ ((f : Fault) × Bad f)
  pub never_both : (a : A) (f : Fault) → Good a → Not (Bad f)

-- an expression has the one type that is answered, or the one fault
abbrev pub ExpressionsExact : Type 0
ExpressionsExact = (env : Environment) (e : Expression) → Exact (check env e) (Typed env e) (Fails env e)

-- a statement leads to the one environment that is answered, or has the one fault
abbrev pub StatementsExact : Type 0
StatementsExact = (env : Environment) (s : Statement) → Exact (check_statement env s) (Valid env s) (Invalid env s)

-- a program is right, or wrong with the one fault
abbrev pub ProgramsExact : Type 0
ProgramsExact = (b : Block) → Exact (check_program b) (λ _. Right b) (Wrong b)
