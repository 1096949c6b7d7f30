use Rattle.typing.proofs.Exactness.{expressions_exact, statements_exact, programs_exact}
use Rattle.typing.proofs.Nesting.{widths_fit, never_full}
use Rattle.typing.proofs.Specimens.{specimens_stand}
use Rattle.typing.proofs.typing_stands.Goals as goal

pub returns : goal.returns
returns c = record { expressions = expressions_exact; statements = statements_exact; programs = programs_exact; widths = widths_fit; never_full = never_full; specimens = specimens_stand }
