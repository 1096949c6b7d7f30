use Rattle.std.proofs.Common.{arith}
use Rattle.directory.proofs.Keeping.{held_opened, open_done}
use Rattle.packed.proofs.Beginnings.{starts_opened}
use Rattle.packed.proofs.Fields.{entries, run, held, parts}
use Rattle.packed.proofs.store_impl.PackedRowStore.open.Goals as goal

pub invariant_of-self : goal.invariant_of-self
invariant_of-self c =
    let s = c.args.self.now in
    parts (held_opened _ c.args.width c.open.result _ (held s) c.open.ensures) (starts_opened (entries s) (run s) _ c.args.width c.open.result _ s.begun s.full (omega arith) c.open.ensures) s.room

pub returns : goal.returns
returns c =
    let s = c.args.self.now in
    let r = open_done s.capacity (entries s) (run s) _ c.args.width c.open.result _ c.open.ensures in
    record { reply = r.0; after = r.1 }
