use Rattle.std.proofs.Common.{◌≡◌, ◌*◌, cond, ◌++◌, length, take, Err, vec_items, refl, ap, ◌∙◌, arith}
use Rattle.directory.proofs.Adding.{add_good, add_size, add_count, row_wide, add_again, add_over, add_held, add_done}
use Rattle.packed.proofs.Beginnings.{last_begins, add_begun}
use Rattle.packed.proofs.Fields.{entries, run, held, parts}
use Rattle.packed.proofs.store_impl.PackedRowStore.add.Goals as goal

pub shared_ref_as_front-new : goal.shared_ref_as_front-new
shared_ref_as_front-new c =
    let l = c.in_ok-last.ensures in
    (add_good (held c.args.self.now) c.in_ok-last.last c.args.row.now l.0 l.1 c.told-row).1

pub has_row-requires : goal.has_row-requires
has_row-requires c =
    let s = c.args.self.now in
    let e = c.in_ok-last.last in
    let l = c.in_ok-last.ensures in
    let row = c.args.row.now in
    let size : e.count * length (take e.width row) ≡ e.count * e.width = ap (λ n. e.count * n) (row_wide (held s) e row l.0 l.1 c.told-row) in
    omega (arith, size, add_size (held s) e row l.0 l.1 c.told-row, last_begins (entries s) e l.0 l.1 s.begun, c.deref.ensures.len)

pub returns-then-has_row : goal.returns-then-has_row
returns-then-has_row c =
    let s = c.args.self.now in
    let e = c.in_ok-last.last in
    let l = c.in_ok-last.ensures in
    let r = add_again (held s) e c.args.row.now l.0 l.1 c.told-row c.deref.result.now e.first c.has_row.result c.deref.ensures.value (last_begins (entries s) e l.0 l.1 s.begun) c.has_row.ensures c.if-has_row.true in
    record { reply = r.0; after = r.1 }

pub returns-then-width-self : goal.returns-then-width-self
returns-then-width-self c =
    let s = c.args.self.now in
    let e = c.in_ok-last.last in
    let l = c.in_ok-last.ensures in
    let r = add_over (held s) e c.args.row.now l.0 l.1 c.told-row c.deref.result.now e.first c.has_row.result c.deref.ensures.value (last_begins (entries s) e l.0 l.1 s.begun) c.has_row.ensures c.if-has_row.false (length (run s)) refl (omega arith) in
    record { reply = ap Err c.refuse.ensures ∙ r.0; after = r.1 }

pub overflow_add-last : goal.overflow_add-last
overflow_add-last c =
    let l = c.in_ok-last.ensures in
    omega (arith, add_count (held c.args.self.now) c.in_ok-last.last c.args.row.now l.0 l.1 c.told-row)

pub invariant_of-self : goal.invariant_of-self
invariant_of-self c =
    let s = c.args.self.now in
    let e = c.in_ok-last.last in
    let l = c.in_ok-last.ensures in
    let row = c.args.row.now in
    let part : length (take e.width row) ≡ e.width = row_wide (held s) e row l.0 l.1 c.told-row in
    let grew : vec_items c.extend_from_slice.new.self ≡ run s ++ take e.width row = c.extend_from_slice.ensures.items ∙ ap (λ b. cond b (run s ++ take e.width row) (run s)) (c.extend_from_slice.ensures.succeeds (omega arith)) in
    parts (add_held (held s) e row l.0 l.1 c.told-row c.deref.result.now e.first c.has_row.result c.deref.ensures.value (last_begins (entries s) e l.0 l.1 s.begun) c.has_row.ensures c.if-has_row.false (omega arith) e.first _ _ c.replace_last.ensures grew) (add_begun (entries s) _ e l.0 l.1 s.begun c.replace_last.ensures) (omega (arith, s.room, c.extend_from_slice.ensures.capacity))

pub returns : goal.returns
returns c =
    let s = c.args.self.now in
    let e = c.in_ok-last.last in
    let l = c.in_ok-last.ensures in
    let row = c.args.row.now in
    let part : length (take e.width row) ≡ e.width = row_wide (held s) e row l.0 l.1 c.told-row in
    let grew : vec_items c.extend_from_slice.new.self ≡ run s ++ take e.width row = c.extend_from_slice.ensures.items ∙ ap (λ b. cond b (run s ++ take e.width row) (run s)) (c.extend_from_slice.ensures.succeeds (omega arith)) in
    let r = add_done (held s) e row l.0 l.1 c.told-row c.deref.result.now e.first c.has_row.result c.deref.ensures.value (last_begins (entries s) e l.0 l.1 s.begun) c.has_row.ensures c.if-has_row.false (omega arith) e.first _ _ c.replace_last.ensures grew in
    record { reply = r.0; after = r.1 }
