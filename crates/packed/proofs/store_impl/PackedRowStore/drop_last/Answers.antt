use Rattle.std.proofs.Common.{[], ◌∷◌, length, ap, ◌∙◌, arith}
use Rattle.std.proofs.lemmas.List.{length-append}
use Rattle.store.proofs.Cases.{drop_accepted}
use Rattle.directory.proofs.Decoding.{length_decode}
use Rattle.directory.proofs.Keeping.{held_drop, decode_drop}
use Rattle.packed.proofs.Fields.{entries, run, meaning, held, parts}
use Rattle.packed.proofs.Beginnings.{starts_dropped, cut_at}
use Rattle.packed.proofs.store_impl.PackedRowStore.drop_last.Goals as goal

pub invariant_of-self-2 : goal.invariant_of-self-2
invariant_of-self-2 c =
    let s = c.args.self.now in
    let is = c.in_ok-last.ensures in
    parts (held_drop _ c.in_ok-last.last _ (held s) is (cut_at _ _ _ (run s) _ is s.full s.begun c.truncate.ensures.items)) (starts_dropped _ _ _ is s.begun) (omega (arith, s.room, c.truncate.ensures.capacity))

pub returns : goal.returns
returns c =
    let s = c.args.self.now in
    let fs = c.pop.new.self.entries.items in
    let is = c.in_ok-last.ensures in
    let r = drop_accepted (meaning s) (omega (arith, length_decode (entries s) (run s), ap length is, length-append fs (c.in_ok-last.last ∷ []))) in
    record {
      reply = r.0;
      after = ap (λ ts. record { capacity = s.capacity; tables = ts }) (decode_drop (entries s) fs c.in_ok-last.last (run s) _ is s.full (cut_at _ _ _ (run s) _ is s.full s.begun c.truncate.ensures.items)).0 ∙ r.1;
    }
