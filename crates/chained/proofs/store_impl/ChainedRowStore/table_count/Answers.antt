use Rattle.std.proofs.Common.{arith}
use Rattle.directory.proofs.Questions.{count_told}
use Rattle.chained.proofs.Fields.{entries, run}
use Rattle.chained.proofs.store_impl.ChainedRowStore.table_count.Goals as goal

pub returns : goal.returns
returns c =
    let s = c.args.self.now in
    omega (arith, count_told s.capacity (entries s) (run s))
