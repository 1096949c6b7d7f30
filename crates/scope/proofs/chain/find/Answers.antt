use Rattle.std.proofs.Common.{◌≡◌, ◌++◌, ◌∷◌, [], reverse, length, arith, rules, ◌∙◌, ap}
use Rattle.std.specs.Iterator.Adapters.{rev_source, enumerate_source, enumerate_count}
use Rattle.std.specs.Slice.Iter.{iter_rest}
use Rattle.std.proofs.lemmas.List.{nil_from_length}
use Rattle.scope.specs.Names.{named}
use Rattle.scope.specs.Chains.{cut}
use Rattle.scope.proofs.Cuts.{find_here, find_outermost, find_nowhere}
use Rattle.scope.proofs.Searches.{search_is}
use Rattle.scope.proofs.Numbers.{entry_found}
use Rattle.scope.proofs.chain.find.Goals as goal

pub returns-in-Some-newest : goal.returns-in-Some-newest
returns-in-Some-newest g c =
    let ends : iter_rest (rev_source (enumerate_source c.loop-outward.outward-iterator)) ≡ iter_rest (rev_source (enumerate_source c.next.new.self)) ++ (c.in-Some.start.now ∷ []) = search rules in
    let counted : c.in-Some.outward ≡ enumerate_count c.loop-outward.outward-iterator = search rules in
    record {
      value =
          find_here (named g.E.Named.spelling c.args.text.now c.args.name.now) _ _ c.in-Some.start.now c.min-from.result c.in-Some-newest.position c.in-Some.outward c.loop-outward.left.now ends (search rules) (search rules)
          ∙ (rw counted c.loop-outward.invariant.same);
      search = search_is (named g.E.Named.spelling c.args.text.now c.args.name.now) (cut (reverse c.args.starts.now) c.args.entries.now);
      entry = entry_found (named g.E.Named.spelling c.args.text.now c.args.name.now) (reverse c.args.starts.now) c.args.entries.now;
    }

pub returns-in_err-position : goal.returns-in_err-position
returns-in_err-position g c =
    let ended : iter_rest (rev_source (enumerate_source c.loop-outward.outward-iterator)) ≡ [] = nil_from_length _ (search rules) in
    record {
      value = c.from_residual.ensures ∙ find_nowhere (named g.E.Named.spelling c.args.text.now c.args.name.now) _ c.loop-outward.left.now _ ended c.in_err-position.ensures.value ∙ c.loop-outward.invariant.same;
      search = search_is (named g.E.Named.spelling c.args.text.now c.args.name.now) (cut (reverse c.args.starts.now) c.args.entries.now);
      entry = entry_found (named g.E.Named.spelling c.args.text.now c.args.name.now) (reverse c.args.starts.now) c.args.entries.now;
    }

pub returns : goal.returns
returns g c =
    let ended : iter_rest (rev_source (enumerate_source c.loop-outward.outward-iterator)) ≡ [] = nil_from_length _ (search rules) in
    let whole : length c.args.starts.now ≡ enumerate_count c.loop-outward.outward-iterator = omega (arith, c.loop-outward.invariant.counted, ap length ended) in
    record {
      value =
          find_outermost (named g.E.Named.spelling c.args.text.now c.args.name.now) _ c.loop-outward.left.now c.in_ok-position.position (length c.args.starts.now) ended c.in_ok-position.ensures.value
          ∙ rw whole c.loop-outward.invariant.same;
      search = search_is (named g.E.Named.spelling c.args.text.now c.args.name.now) (cut (reverse c.args.starts.now) c.args.entries.now);
      entry = entry_found (named g.E.Named.spelling c.args.text.now c.args.name.now) (reverse c.args.starts.now) c.args.entries.now;
    }
