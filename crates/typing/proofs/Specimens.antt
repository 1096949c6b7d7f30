-- The specimens, each by computation.
use Rattle.std.proofs.Common.{refl}
use Rattle.typing.specs.Checker.{bind, ask, or_absent, columns_of, listed, distinct, fitting, together, with_column, projection, renamings, check, attributes_from, declare, define_all, specify, test, check_statement, check_statements, check_block, check_program}
use Rattle.typing.specs.Specimens.{SpecimensStand}

pub specimens_stand : SpecimensStand
unfolding bind ask or_absent columns_of listed distinct fitting together with_column projection renamings check attributes_from declare define_all specify test check_statement check_statements check_block check_program
specimens_stand = (refl, (refl, (refl, (refl, (refl, (refl, (refl, (refl, (refl, (refl, (refl, (refl, tt))))))))))))
