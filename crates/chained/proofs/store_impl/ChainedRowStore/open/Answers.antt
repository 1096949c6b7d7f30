use Rattle.std.proofs.Common.{refl, ap, ◌∙◌}
use Rattle.directory.specs.Run.{laid}
use Rattle.directory.proofs.Keeping.{open_done}
use Rattle.chained.specs.Chains.{values, nexts}
use Rattle.chained.proofs.Keeping.{kept_opened, run_opened}
use Rattle.chained.proofs.Fields.{entries, links, run, kept, parts}
use Rattle.chained.proofs.store_impl.ChainedRowStore.open.Goals as goal

pub invariant_of-self : goal.invariant_of-self
invariant_of-self c =
    let s = c.args.self.now in
    parts (links s) refl (kept_opened c.args.width c.open.result _ (kept s) c.open.ensures)

pub returns : goal.returns
returns c =
    let s = c.args.self.now in
    let r = open_done s.capacity (entries s) (run s) _ c.args.width c.open.result _ c.open.ensures in
    let same = run_opened (entries s) c.args.width c.open.result _ (values (links s)) (nexts (links s)) c.open.ensures in
    record { reply = r.0; after = ap (laid s.capacity _) same ∙ r.1 }
