use Rattle.packed.proofs.Turning.{swapped}
use Rattle.packed.proofs.moves.swap_rest.Goals as goal

pub returns : goal.returns
returns c front a b is f k = swapped _ _ front a b _ _ is f k c.rotate_left.ensures.after
