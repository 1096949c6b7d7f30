use Rattle.std.proofs.Common.{length, ap, ◌∙◌, arith}
use Rattle.std.proofs.lemmas.List.{take_at}
use Rattle.directory.specs.declared.entry.Entry.{Entry}
use Rattle.directory.proofs.Restarting.{restart_fits, restart_set, restart_at, restart_all, length_restarted}
use Rattle.directory.proofs.tables.Directory+Entry.restart.Goals as goal

pub overflow_mul-at : goal.overflow_mul-at
overflow_mul-at c =
    omega (arith, restart_fits c.args.self.now.entries.items c.loop-entry.entry-items c.loop-entry.entry-index c.loop-entry.at (record { first = 0; width = 0; count = 0 }) (omega arith) c.loop-entry.invariant.0 c.loop-entry.invariant.1.0)

pub overflow_add-at : goal.overflow_add-at
overflow_add-at c =
    omega (arith, restart_fits c.args.self.now.entries.items c.loop-entry.entry-items c.loop-entry.entry-index c.loop-entry.at (record { first = 0; width = 0; count = 0 }) (omega arith) c.loop-entry.invariant.0 c.loop-entry.invariant.1.0)

pub loop-entry-init : goal.loop-entry-init
loop-entry-init c = (c.deref_mut-entry-items.ensures.value, (omega arith, omega arith))

pub loop-entry-preserved : goal.loop-entry-preserved
loop-entry-preserved c =
    let es = c.args.self.now.entries.items in
    let i = c.loop-entry.entry-index in
    let d : Entry = record { first = 0; width = 0; count = 0 } in
    let fits = restart_fits es c.loop-entry.entry-items i c.loop-entry.at d (omega arith) c.loop-entry.invariant.0 c.loop-entry.invariant.1.0 in
    let at = restart_at es c.loop-entry.entry-items i c.loop-entry.at d (omega arith) c.loop-entry.invariant.0 c.loop-entry.invariant.1.0 in
    (restart_set es c.loop-entry.entry-items i c.loop-entry.at d (omega arith) c.loop-entry.invariant.0 c.loop-entry.invariant.1.0, (omega (arith, at), omega (arith, fits)))

pub returns : goal.returns
returns c =
    let es = c.args.self.now.entries.items in
    let all = restart_all es c.loop-entry.entry-items c.loop-entry.entry-index (omega arith) c.loop-entry.invariant.0 in
    take_at _ _ _ (ap length all ∙ length_restarted 0 es ∙ omega arith) ∙ all
