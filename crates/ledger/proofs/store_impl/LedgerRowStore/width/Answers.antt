use Rattle.ledger.proofs.Fields.{widths, lines}
use Rattle.ledger.proofs.Changes.{width_found}
use Rattle.ledger.proofs.store_impl.LedgerRowStore.width.Goals as goal

pub returns : goal.returns
returns c =
    let s = c.args.self.now in
    width_found s.capacity (widths s) (lines s) c.args.table c.entry.result c.entry.ensures
