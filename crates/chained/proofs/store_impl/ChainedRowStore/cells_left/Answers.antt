use Rattle.directory.proofs.Questions.{left_told}
use Rattle.chained.proofs.Fields.{entries, run}
use Rattle.chained.proofs.store_impl.ChainedRowStore.cells_left.Goals as goal

pub returns : goal.returns
returns c =
    let s = c.args.self.now in
    left_told s.capacity (entries s) (run s) s.used s.full
