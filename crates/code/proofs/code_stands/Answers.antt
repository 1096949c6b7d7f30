use Rattle.code.proofs.Landing.{jumps_land}
use Rattle.code.proofs.code_stands.Goals as goal

pub returns : goal.returns
returns c = jumps_land
