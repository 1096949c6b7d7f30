use Rattle.std.proofs.Common.{Some}
use Rattle.typing.specs.Checker.{Answer}
use Rattle.lists.specs.Walks.{walked, left}
use Rattle.lists.proofs.Fitting.{TuplesFit}
use Rattle.lists.proofs.constants.tuples_fit.Given as goal

-- what is left to test gives the whole answer
abbrev pub invariant-loop-tuple : goal.invariant-loop-tuple
invariant-loop-tuple l = record {
  ready : (goal.iterator-loop-tuple).can_next l.tuple-iterator;
  ends : (goal.iterator-loop-tuple).is_finite l.tuple-iterator;
  same : (r : Answer (Unit {0})) → TuplesFit l.nodes l.attributes (left l.tuple-iterator) r → TuplesFit l.nodes l.attributes (walked l.nodes (Some l.first)) r;
}
