use Rattle.std.proofs.Common.{◌-◌, [], ◌∷◌, length, ap, ◌∙◌, arith}
use Rattle.std.proofs.lemmas.List.{length-append}
use Rattle.store.proofs.Cases.{drop_accepted}
use Rattle.directory.proofs.Decoding.{length_decode}
use Rattle.directory.proofs.Keeping.{decode_drop}
use Rattle.chained.specs.Chains as chain
use Rattle.chained.specs.Chains.{values, nexts, head_of}
use Rattle.chained.proofs.Keeping.{held_kept, last_inside, last_size, kept_drop, run_drop}
use Rattle.chained.proofs.Fields.{entries, links, run, meaning, kept, parts, after_slice, joined_as, chain_low}
use Rattle.chained.proofs.store_impl.ChainedRowStore.drop_last.Goals as goal

pub join-self-requires : goal.join-self-requires
join-self-requires c =
    let s = c.args.self.now in
    chain_low s.capacity c.cells-gone.result c.in_ok-last.last c.as_mut_slice.result.now (links s) c.as_mut_slice.ensures.value s.room c.cells-gone.ensures (last_inside (kept s) _ c.in_ok-last.last c.in_ok-last.ensures)

pub overflow_cast-self : goal.overflow_cast-self
overflow_cast-self c =
    let s = c.args.self.now in
    omega (arith, c.cells-gone.ensures, last_size (kept s) _ c.in_ok-last.last c.in_ok-last.ensures, s.within, s.small)

pub overflow_sub-self : goal.overflow_sub-self
overflow_sub-self c =
    let s = c.args.self.now in
    omega (arith, c.cells-gone.ensures, last_size (kept s) _ c.in_ok-last.last c.in_ok-last.ensures)

pub invariant_of-self-2 : goal.invariant_of-self-2
invariant_of-self-2 c =
    let s = c.args.self.now in
    let ls = after_slice s.links.len c.join-self.new.links (links s) in
    let j = joined_as s.links.len c.join-self.new.links c.as_mut_slice.result.now (links s) c.cells-gone.result c.in_ok-last.last s.free c.join-self.auto.links c.as_mut_slice.ensures.value (omega arith) c.join-self.ensures.nexts c.join-self.ensures.values c.cells-gone.ensures in
    parts ls j.1 (kept_drop (kept s) _ c.in_ok-last.last c.in_ok-last.ensures _ _ _ j.0 (c.join-self.ensures.head ∙ ap (λ n. head_of n c.in_ok-last.last.first s.free) c.cells-gone.ensures) (ap (λ n. s.used - n) c.cells-gone.ensures))

pub returns : goal.returns
returns c =
    let s = c.args.self.now in
    let fs = c.pop.new.self.entries.items in
    let is = c.in_ok-last.ensures in
    let r = drop_accepted (meaning s) (omega (arith, length_decode (entries s) (run s), ap length is, length-append fs (c.in_ok-last.last ∷ []))) in
    let ls = after_slice s.links.len c.join-self.new.links (links s) in
    let j = joined_as s.links.len c.join-self.new.links c.as_mut_slice.result.now (links s) c.cells-gone.result c.in_ok-last.last s.free c.join-self.auto.links c.as_mut_slice.ensures.value (omega arith) c.join-self.ensures.nexts c.join-self.ensures.values c.cells-gone.ensures in
    let cut = run_drop (kept s) _ c.in_ok-last.last is _ _ _ j.0 (c.join-self.ensures.head ∙ ap (λ n. head_of n c.in_ok-last.last.first s.free) c.cells-gone.ensures) (ap (λ n. s.used - n) c.cells-gone.ensures) in
    record { reply = r.0; after = ap (λ ts. record { capacity = s.capacity; tables = ts }) (decode_drop (entries s) fs c.in_ok-last.last (run s) _ is (held_kept (kept s)).full (ap (λ cs. chain.run fs cs (nexts ls)) j.1 ∙ cut)).0 ∙ r.1 }
