use Rattle.std.proofs.Common.{arith}
use Rattle.ledger.proofs.Fields.{widths, lines}
use Rattle.ledger.proofs.Numbering.{length_numbered}
use Rattle.ledger.proofs.store_impl.LedgerRowStore.table_count.Goals as goal

pub returns : goal.returns
returns c =
    let s = c.args.self.now in
    omega (arith, length_numbered 0 (widths s) (lines s))
