use Rattle.std.proofs.Common.{◌≡◌, ◌+◌, ◌≤◌, reverse, length}
use Rattle.std.specs.Iterator.Adapters.{rev_source, enumerate_source, enumerate_count}
use Rattle.std.specs.Slice.Iter.{iter_rest}
use Rattle.scope.specs.Names.{named}
use Rattle.scope.specs.Chains.{find, cut, place_of}
use Rattle.scope.proofs.Cuts.{from_inside}
use Rattle.scope.proofs.chain.find.Given as goal

-- what is left to look at gives the whole answer
abbrev pub invariant-loop-outward : goal.invariant-loop-outward
invariant-loop-outward g l = record {
  ready : (goal.iterator-loop-outward g).can_next l.outward-iterator;
  ends : (goal.iterator-loop-outward g).is_finite l.outward-iterator;
  counted : enumerate_count l.outward-iterator + length (iter_rest (rev_source (enumerate_source l.outward-iterator))) ≡ length l.fn.starts;
  shorter : length l.left ≤ length l.initial.left;
  same : from_inside (enumerate_count l.outward-iterator) (place_of (find (named g.E.Named.spelling l.text l.name) (cut (reverse (iter_rest (rev_source (enumerate_source l.outward-iterator)))) l.left)))
      ≡ place_of (find (named g.E.Named.spelling l.text l.name) (cut (reverse l.fn.starts) l.initial.left));
}
