-- The specimens, by one computation.
use Rattle.std.proofs.Common.{ℕ, refl}
use Rattle.code.specs.Generation.{noted_term, noted_action, generated, generated_action, code_of}
use Rattle.grammar.specs.Readers.{expect_token, read_leaf, take_turns, read_level, rest, read_attribute, read_tuple, read_item, read_expression, read_instance, read_argument, read_bracket, openings, factors_at, brackets_at, expressions_at, read_else, statements_at, program_at}
use Rattle.plan.specs.Planning.{planned, planned_statement, planned_program}
use Rattle.std.specs.Fmt.{digits}
use Rattle.texts.specs.Reading.{read_quoted}
use Rattle.typing.specs.Checker.{bind, ask, or_absent, columns_of, listed, distinct, fitting, together, with_column, projection, renamings, check, attributes_from, declare, define_all, specify, test, check_statement, check_program}
use Rattle.words.specs.Spelling.{keyword_of}
use Rattle.machine.specs.Specimens.{SpecimensStand, RowsFallTogether, CellsRunOut}
use Rattle.machine.specs.Steps.{execute}

-- every definition that is shut elsewhere, opened for these computations
all : ℕ
unfolding noted_term noted_action generated generated_action code_of expect_token read_leaf take_turns read_level rest read_attribute read_tuple read_item read_expression read_instance read_argument read_bracket openings factors_at brackets_at expressions_at read_else statements_at program_at planned planned_statement planned_program bind ask or_absent columns_of listed distinct fitting together with_column projection renamings check attributes_from declare define_all specify test check_statement check_program keyword_of execute digits read_quoted
all = 0

pub specimens_stand : SpecimensStand
unfolding all
specimens_stand = refl

pub rows_fall_together : RowsFallTogether
unfolding all
rows_fall_together = refl

pub cells_run_out : CellsRunOut
unfolding all
cells_run_out = record { fit = refl; full = refl }
