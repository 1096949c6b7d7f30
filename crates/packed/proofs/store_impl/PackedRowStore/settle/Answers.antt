use Rattle.std.proofs.Common.{Err, refl, ap, ◌∙◌, arith}
use Rattle.store.proofs.Exits.{passed_on}
use Rattle.store.proofs.Cases.{settle_absent, settle_accepted}
use Rattle.directory.specs.Run.{laid}
use Rattle.directory.proofs.Decoding.{length_decode}
use Rattle.packed.proofs.Fields.{entries, run, meaning, held, parts}
use Rattle.packed.proofs.Turning.{settle_kept, settle_fits, settle_small, settle_decodes, settle_held, settle_begun}
use Rattle.packed.proofs.store_impl.PackedRowStore.settle.Goals as goal

pub returns-in_err-old : goal.returns-in_err-old
returns-in_err-old c =
    let s = c.args.self.now in
    let e = c.in_err-old.ensures in
    let r = settle_absent (meaning s) c.args.table (omega (arith, e.1.0, length_decode (entries s) (run s))) in
    record { reply = passed_on c.from_residual-in_err-old.result _ c.from_residual-in_err-old.ensures.1 ∙ ap Err e.1.1 ∙ r.0; after = ap (λ es. laid s.capacity es (run s)) e.0 ∙ r.1 }

pub overflow_sub-kept : goal.overflow_sub-kept
overflow_sub-kept c =
    let s = c.args.self.now in
    let e = c.in_ok-old.ensures in
    omega (arith, settle_kept (entries s) (run s) c.args.table c.cells-gone.result _ c.in_ok-old.old c.in_ok-last.last (run s) (run s) e.0 e.1.0 c.in_ok-last.ensures.1 s.full s.begun refl c.cells-gone.ensures refl)

pub settle_cells-requires : goal.settle_cells-requires
settle_cells-requires c =
    let s = c.args.self.now in
    let e = c.in_ok-old.ensures in
    settle_fits (entries s) (run s) c.args.table c.cells-gone.result c.cells.result c.in_ok-old.old c.in_ok-last.last c.as_mut_slice.result.now (run s) e.0 e.1.0 c.in_ok-last.ensures.1 s.full s.begun c.as_mut_slice.ensures.value c.cells-gone.ensures c.cells.ensures

pub restart-requires : goal.restart-requires
restart-requires c =
    let s = c.args.self.now in
    let e = c.in_ok-old.ensures in
    settle_small (entries s) (run s) c.args.table c.cells-gone.result c.cells.result c.in_ok-old.old c.in_ok-last.last c.as_mut_slice.result.now c.settle_cells.new.cells e.0 e.1.0 c.in_ok-last.ensures.1 s.full s.begun c.as_mut_slice.ensures.value c.cells-gone.ensures c.cells.ensures c.settle_cells.ensures _ _ _ s.cells.len (omega arith) (omega arith) e.1.1 c.truncate.ensures.items (held s)

pub invariant_of-self-2 : goal.invariant_of-self-2
invariant_of-self-2 c =
    let s = c.args.self.now in
    let e = c.in_ok-old.ensures in
    parts (settle_held (entries s) (run s) c.args.table c.cells-gone.result c.cells.result c.in_ok-old.old c.in_ok-last.last c.as_mut_slice.result.now c.settle_cells.new.cells e.0 e.1.0 c.in_ok-last.ensures.1 s.full s.begun c.as_mut_slice.ensures.value c.cells-gone.ensures c.cells.ensures c.settle_cells.ensures _ _ _ s.cells.len (omega arith) (omega arith) e.1.1 c.truncate.ensures.items _ c.restart.ensures (held s)) (settle_begun (entries s) (run s) c.args.table c.cells-gone.result c.cells.result c.in_ok-old.old c.in_ok-last.last c.as_mut_slice.result.now c.settle_cells.new.cells e.0 e.1.0 c.in_ok-last.ensures.1 s.full s.begun c.as_mut_slice.ensures.value c.cells-gone.ensures c.cells.ensures c.settle_cells.ensures _ _ _ s.cells.len (omega arith) (omega arith) e.1.1 c.truncate.ensures.items _ c.restart.ensures) (omega (arith, s.room, c.truncate.ensures.capacity))

pub returns : goal.returns
returns c =
    let s = c.args.self.now in
    let e = c.in_ok-old.ensures in
    let r = settle_accepted (meaning s) c.args.table (omega (arith, e.0, length_decode (entries s) (run s))) in
    record { reply = r.0; after = ap (λ ts. record { capacity = s.capacity; tables = ts }) (settle_decodes (entries s) (run s) c.args.table c.cells-gone.result c.cells.result c.in_ok-old.old c.in_ok-last.last c.as_mut_slice.result.now c.settle_cells.new.cells e.0 e.1.0 c.in_ok-last.ensures.1 s.full s.begun c.as_mut_slice.ensures.value c.cells-gone.ensures c.cells.ensures c.settle_cells.ensures _ _ _ s.cells.len (omega arith) (omega arith) e.1.1 c.truncate.ensures.items _ c.restart.ensures s.capacity) ∙ r.1 }
