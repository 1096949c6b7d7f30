use Rattle.std.proofs.Common.{sym, arith}
use Rattle.directory.proofs.Questions.{left_told}
use Rattle.packed.proofs.Fields.{entries, run}
use Rattle.packed.proofs.store_impl.PackedRowStore.cells_left.Goals as goal

pub returns : goal.returns
returns c =
    let s = c.args.self.now in
    omega (arith, left_told s.capacity (entries s) (run s) _ (sym s.full))
