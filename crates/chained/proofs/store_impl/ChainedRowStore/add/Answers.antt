use Rattle.std.proofs.Common.{◌≡◌, ◌-◌, ◌*◌, true, false, length, take, Err, sym, refl, ap, ◌∙◌, ap₂, arith}
use Rattle.directory.specs.Run.{laid}
use Rattle.directory.proofs.Adding.{add_good, row_wide, add_count, add_again, add_over, add_held, add_done}
use Rattle.chained.specs.Chains.{values, nexts, walk, step, put, under, head_of}
use Rattle.chained.proofs.Keeping.{held_kept, length_run}
use Rattle.chained.proofs.Extending.{extend_inside, search_inside, search_none, search_some, write_inside, extend_run, extend_kept}
use Rattle.chained.proofs.Fields.{entries, links, run, kept, parts, after_slice, joined_as, written_as, chain_low}
use Rattle.chained.proofs.store_impl.ChainedRowStore.add.Goals as goal

pub shared_ref_as_front-new : goal.shared_ref_as_front-new
shared_ref_as_front-new c =
    let s = c.args.self.now in
    let l = c.in_ok-last.ensures in
    (add_good (held_kept (kept s)) c.in_ok-last.last c.args.row.now l.0 l.1 c.told-row).1

pub search-requires : goal.search-requires
search-requires c =
    let s = c.args.self.now in
    let l = c.in_ok-last.ensures in
    record {
      wide = omega (arith, add_good (held_kept (kept s)) c.in_ok-last.last c.args.row.now l.0 l.1 c.told-row, row_wide (held_kept (kept s)) c.in_ok-last.last c.args.row.now l.0 l.1 c.told-row);
      inside = ap (λ ls. under (length ls) (walk (nexts ls) (c.in_ok-last.last.count * length (take c.in_ok-last.last.width c.args.row.now)) c.in_ok-last.last.first)) c.deref.ensures.value ∙ ap (λ n. under n (walk (nexts (links s)) (c.in_ok-last.last.count * length (take c.in_ok-last.last.width c.args.row.now)) c.in_ok-last.last.first)) s.room ∙ search_inside (kept s) c.in_ok-last.last c.args.row.now l.0 l.1 c.told-row;
    }

pub returns-in_default : goal.returns-in_default
returns-in_default c =
    let s = c.args.self.now in
    let l = c.in_ok-last.ensures in
    let found = search_none (kept s) c.in_ok-last.last c.args.row.now l.0 l.1 c.told-row _ _ (ap values c.deref.ensures.value) (ap nexts c.deref.ensures.value) c.in_default.ensures in
    let r = add_again (held_kept (kept s)) c.in_ok-last.last c.args.row.now l.0 l.1 c.told-row (run s) _ true refl refl found refl in
    record { reply = r.0; after = r.1 }

pub returns-then-last-self : goal.returns-then-last-self
returns-then-last-self c =
    let s = c.args.self.now in
    let l = c.in_ok-last.ensures in
    let found = (search_some (kept s) c.in_ok-last.last c.args.row.now l.0 l.1 c.told-row c.in-Some.end _ _ (ap values c.deref.ensures.value) (ap nexts c.deref.ensures.value) c.in-Some.ensures).0 in
    let r = add_over (held_kept (kept s)) c.in_ok-last.last c.args.row.now l.0 l.1 c.told-row (run s) _ false refl refl found refl s.used (omega (arith, length_run (entries s) (values (links s)) (nexts (links s)), s.full)) (omega arith) in
    record { reply = ap Err c.refuse.ensures ∙ r.0; after = r.1 }

pub join_last-first-requires : goal.join_last-first-requires
join_last-first-requires c =
    let s = c.args.self.now in
    let l = c.in_ok-last.ensures in
    let found = search_some (kept s) c.in_ok-last.last c.args.row.now l.0 l.1 c.told-row c.in-Some.end _ _ (ap values c.deref.ensures.value) (ap nexts c.deref.ensures.value) c.in-Some.ensures in
    record {
      inside = chain_low s.capacity c.cells.result c.in_ok-last.last c.as_mut_slice.result.now (links s) c.as_mut_slice.ensures.value s.room c.cells.ensures (extend_inside (kept s) c.in_ok-last.last c.args.row.now l.0 l.1 c.told-row);
      last = found.1 ∙ sym (ap₂ (λ ls n. step (nexts ls) (n - 1) c.in_ok-last.last.first) c.as_mut_slice.ensures.value c.cells.ensures);
    }

pub write_row-self-requires : goal.write_row-self-requires
write_row-self-requires c =
    let s = c.args.self.now in
    let l = c.in_ok-last.ensures in
    let j = joined_as s.links.len c.join_last-first.new.links c.as_mut_slice.result.now (links s) c.cells.result c.in_ok-last.last s.free c.join_last-first.auto.links c.as_mut_slice.ensures.value (omega arith) c.join_last-first.ensures.nexts c.join_last-first.ensures.values c.cells.ensures in
    let head = c.join_last-first.ensures.head ∙ ap (λ n. head_of n c.in_ok-last.last.first s.free) c.cells.ensures in
    let lent = after_slice s.links.len c.join_last-first.new.links (links s) in
    let long : length c.as_mut_slice-2.result.now ≡ s.capacity = omega (arith, c.as_mut_slice-2.ensures.len, s.room) in
    ap₂ (λ n ls. under n (walk (nexts ls) (length (take c.in_ok-last.last.width c.args.row.now)) s.free)) long c.as_mut_slice-2.ensures.value ∙ write_inside (kept s) c.in_ok-last.last c.args.row.now l.0 l.1 c.told-row (nexts lent) c.join_last-first.result j.0 head (omega arith)

pub overflow_add-last : goal.overflow_add-last
overflow_add-last c =
    let s = c.args.self.now in
    let l = c.in_ok-last.ensures in
    omega (arith, add_count (held_kept (kept s)) c.in_ok-last.last c.args.row.now l.0 l.1 c.told-row)

pub invariant_of-self : goal.invariant_of-self
invariant_of-self c =
    let s = c.args.self.now in
    let l = c.in_ok-last.ensures in
    let found = (search_some (kept s) c.in_ok-last.last c.args.row.now l.0 l.1 c.told-row c.in-Some.end _ _ (ap values c.deref.ensures.value) (ap nexts c.deref.ensures.value) c.in-Some.ensures).0 in
    let j = joined_as s.links.len c.join_last-first.new.links c.as_mut_slice.result.now (links s) c.cells.result c.in_ok-last.last s.free c.join_last-first.auto.links c.as_mut_slice.ensures.value (omega arith) c.join_last-first.ensures.nexts c.join_last-first.ensures.values c.cells.ensures in
    let head = c.join_last-first.ensures.head ∙ ap (λ n. head_of n c.in_ok-last.last.first s.free) c.cells.ensures in
    let lent = after_slice s.links.len c.join_last-first.new.links (links s) in
    let wrote = after_slice s.links.len c.write_row-self.new.links lent in
    let v = c.as_mut_slice-2.ensures.value in
    let w = written_as s.links.len c.write_row-self.new.links c.as_mut_slice-2.result.now lent (take c.in_ok-last.last.width c.args.row.now) s.free c.write_row-self.auto.links v (omega (arith, c.as_mut_slice-2.ensures.len, ap length v)) c.write_row-self.ensures.values c.write_row-self.ensures.nexts in
    parts wrote refl (extend_kept (kept s) c.in_ok-last.last c.args.row.now l.0 l.1 c.told-row (nexts lent) c.join_last-first.result j.0 head (omega arith) (values wrote) (nexts wrote) c.write_row-self.result _ (w.0 ∙ ap (λ cs. put cs (walk (nexts lent) (length (take c.in_ok-last.last.width c.args.row.now)) s.free) (take c.in_ok-last.last.width c.args.row.now)) j.1) w.1 (c.write_row-self.ensures.rest ∙ ap (λ ls. step (nexts ls) (length (take c.in_ok-last.last.width c.args.row.now)) s.free) v) c.replace_last.ensures (add_held (held_kept (kept s)) c.in_ok-last.last c.args.row.now l.0 l.1 c.told-row (run s) _ false refl refl found refl (omega (arith, length_run (entries s) (values (links s)) (nexts (links s)), s.full)) c.join_last-first.result _ _ c.replace_last.ensures refl))

pub returns : goal.returns
returns c =
    let s = c.args.self.now in
    let l = c.in_ok-last.ensures in
    let found = (search_some (kept s) c.in_ok-last.last c.args.row.now l.0 l.1 c.told-row c.in-Some.end _ _ (ap values c.deref.ensures.value) (ap nexts c.deref.ensures.value) c.in-Some.ensures).0 in
    let j = joined_as s.links.len c.join_last-first.new.links c.as_mut_slice.result.now (links s) c.cells.result c.in_ok-last.last s.free c.join_last-first.auto.links c.as_mut_slice.ensures.value (omega arith) c.join_last-first.ensures.nexts c.join_last-first.ensures.values c.cells.ensures in
    let head = c.join_last-first.ensures.head ∙ ap (λ n. head_of n c.in_ok-last.last.first s.free) c.cells.ensures in
    let lent = after_slice s.links.len c.join_last-first.new.links (links s) in
    let wrote = after_slice s.links.len c.write_row-self.new.links lent in
    let v = c.as_mut_slice-2.ensures.value in
    let w = written_as s.links.len c.write_row-self.new.links c.as_mut_slice-2.result.now lent (take c.in_ok-last.last.width c.args.row.now) s.free c.write_row-self.auto.links v (omega (arith, c.as_mut_slice-2.ensures.len, ap length v)) c.write_row-self.ensures.values c.write_row-self.ensures.nexts in
    let r = add_done (held_kept (kept s)) c.in_ok-last.last c.args.row.now l.0 l.1 c.told-row (run s) _ false refl refl found refl (omega (arith, length_run (entries s) (values (links s)) (nexts (links s)), s.full)) c.join_last-first.result _ _ c.replace_last.ensures refl in
    record { reply = r.0; after = ap (laid s.capacity _) (extend_run (kept s) c.in_ok-last.last c.args.row.now l.0 l.1 c.told-row (nexts lent) c.join_last-first.result j.0 head (omega arith) (values wrote) (nexts wrote) c.write_row-self.result _ (w.0 ∙ ap (λ cs. put cs (walk (nexts lent) (length (take c.in_ok-last.last.width c.args.row.now)) s.free) (take c.in_ok-last.last.width c.args.row.now)) j.1) w.1 (c.write_row-self.ensures.rest ∙ ap (λ ls. step (nexts ls) (length (take c.in_ok-last.last.width c.args.row.now)) s.free) v) c.replace_last.ensures) ∙ r.1 }
