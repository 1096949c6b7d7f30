use Rattle.std.proofs.Common.{length, refl, ap, ◌∙◌, arith}
use Rattle.std.proofs.lemmas.List.FromFn.{length-map-range_with_len}
use Rattle.chained.specs.Chains.{nexts}
use Rattle.chained.proofs.Keeping.{kept_new}
use Rattle.chained.proofs.Projections.{length_values, nexts_made}
use Rattle.chained.proofs.Fields.{parts}
use Rattle.chained.proofs.store_impl.Chained.new.Goals as goal

pub invariant_of-result : goal.invariant_of-result
invariant_of-result c =
    let ls = c.in_ok-links.links.items in
    let is = c.in_ok-links.ensures in
    parts ls refl (kept_new _ _ _ _ c.in_ok-tables.ensures (ap nexts is ∙ nexts_made _) (length_values ls ∙ ap length is ∙ length-map-range_with_len _ 1 _) (omega arith))
