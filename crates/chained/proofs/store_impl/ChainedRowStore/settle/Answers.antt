use Rattle.std.proofs.Common.{◌-◌, length, get_or, Err, ap, ◌∙◌, arith}
use Rattle.store.proofs.Exits.{passed_on}
use Rattle.store.proofs.Cases.{settle_absent, settle_accepted}
use Rattle.directory.proofs.Decoding.{length_decode}
use Rattle.directory.proofs.Settling.{settled_entries, last_read}
use Rattle.chained.specs.Chains as chain
use Rattle.chained.specs.Chains.{head_of}
use Rattle.chained.proofs.Moving.{settle_inside, settle_size, kept_settle, settle_decodes}
use Rattle.chained.proofs.Fields.{entries, links, run, meaning, kept, parts, after_slice, joined_as, chain_low}
use Rattle.chained.proofs.store_impl.ChainedRowStore.settle.Goals as goal

pub returns-in_err-old : goal.returns-in_err-old
returns-in_err-old c =
    let s = c.args.self.now in
    let h = c.in_err-old.ensures in
    let r = settle_absent (meaning s) c.args.table (omega (arith, h.1.0, length_decode (entries s) (run s))) in
    record { reply = passed_on c.from_residual.result _ c.from_residual.ensures.1 ∙ ap Err h.1.1 ∙ r.0; after = ap (λ es. chain.chained s.capacity es (chain.values (links s)) (chain.nexts (links s))) h.0 ∙ r.1 }

pub join-self-requires : goal.join-self-requires
join-self-requires c =
    let s = c.args.self.now in
    let h = c.in_ok-old.ensures in
    let last = get_or (entries s) (length (entries s) - 1) c.in_ok-old.old in
    chain_low s.capacity c.cells-gone.result c.in_ok-old.old c.as_mut_slice.result.now (links s) c.as_mut_slice.ensures.value s.room c.cells-gone.ensures (settle_inside (kept s) c.args.table c.in_ok-old.old last h.0 h.1.0 (last_read (entries s) c.in_ok-old.old (omega (arith, h.0))))

pub overflow_cast-self : goal.overflow_cast-self
overflow_cast-self c =
    let s = c.args.self.now in
    let h = c.in_ok-old.ensures in
    let last = get_or (entries s) (length (entries s) - 1) c.in_ok-old.old in
    omega (arith, c.cells-gone.ensures, settle_size (kept s) c.args.table c.in_ok-old.old last h.0 h.1.0 (last_read (entries s) c.in_ok-old.old (omega (arith, h.0))), s.within, s.small)

pub overflow_sub-self : goal.overflow_sub-self
overflow_sub-self c =
    let s = c.args.self.now in
    let h = c.in_ok-old.ensures in
    let last = get_or (entries s) (length (entries s) - 1) c.in_ok-old.old in
    omega (arith, c.cells-gone.ensures, settle_size (kept s) c.args.table c.in_ok-old.old last h.0 h.1.0 (last_read (entries s) c.in_ok-old.old (omega (arith, h.0))))

pub invariant_of-self-2 : goal.invariant_of-self-2
invariant_of-self-2 c =
    let s = c.args.self.now in
    let h = c.in_ok-old.ensures in
    let last = get_or (entries s) (length (entries s) - 1) c.in_ok-old.old in
    let ls = after_slice s.links.len c.join-self.new.links (links s) in
    let j = joined_as s.links.len c.join-self.new.links c.as_mut_slice.result.now (links s) c.cells-gone.result c.in_ok-old.old s.free c.join-self.auto.links c.as_mut_slice.ensures.value (omega arith) c.join-self.ensures.nexts c.join-self.ensures.values c.cells-gone.ensures in
    parts ls j.1 (kept_settle (kept s) c.args.table c.in_ok-old.old last h.0 h.1.0 (last_read (entries s) c.in_ok-old.old (omega (arith, h.0))) _ _ _ _ j.0 (c.join-self.ensures.head ∙ ap (λ n. head_of n c.in_ok-old.old.first s.free) c.cells-gone.ensures) (ap (λ n. s.used - n) c.cells-gone.ensures) (h.1.1 ∙ settled_entries (entries s) c.args.table c.in_ok-old.old last h.0 (last_read (entries s) c.in_ok-old.old (omega (arith, h.0)))))

pub returns : goal.returns
returns c =
    let s = c.args.self.now in
    let h = c.in_ok-old.ensures in
    let last = get_or (entries s) (length (entries s) - 1) c.in_ok-old.old in
    let r = settle_accepted (meaning s) c.args.table (omega (arith, h.0, length_decode (entries s) (run s))) in
    let ls = after_slice s.links.len c.join-self.new.links (links s) in
    let j = joined_as s.links.len c.join-self.new.links c.as_mut_slice.result.now (links s) c.cells-gone.result c.in_ok-old.old s.free c.join-self.auto.links c.as_mut_slice.ensures.value (omega arith) c.join-self.ensures.nexts c.join-self.ensures.values c.cells-gone.ensures in
    record { reply = r.0; after = ap (λ cs. chain.chained s.capacity c.settle.new.self.entries.items cs (chain.nexts ls)) j.1 ∙ ap (λ ts. record { capacity = s.capacity; tables = ts }) (settle_decodes (kept s) c.args.table c.in_ok-old.old last h.0 h.1.0 (last_read (entries s) c.in_ok-old.old (omega (arith, h.0))) _ _ _ _ j.0 (c.join-self.ensures.head ∙ ap (λ n. head_of n c.in_ok-old.old.first s.free) c.cells-gone.ensures) (ap (λ n. s.used - n) c.cells-gone.ensures) (h.1.1 ∙ settled_entries (entries s) c.args.table c.in_ok-old.old last h.0 (last_read (entries s) c.in_ok-old.old (omega (arith, h.0))))) ∙ r.1 }
