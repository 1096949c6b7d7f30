use Rattle.std.proofs.Common.{arith}
use Rattle.directory.proofs.Questions.{count_told}
use Rattle.packed.proofs.Fields.{entries, run}
use Rattle.packed.proofs.store_impl.PackedRowStore.table_count.Goals as goal

pub returns : goal.returns
returns c =
    let s = c.args.self.now in
    omega (arith, count_told s.capacity (entries s) (run s))
