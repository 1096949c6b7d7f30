use Rattle.std.proofs.Common.{◌≡◌, Some, drop}
use Rattle.lists.specs.Walks.{walked, left}
use Rattle.lists.specs.Fits.{constants_fit}
use Rattle.lists.proofs.constants.constants_fit.Given as goal

-- what is left to compare gives the whole answer
abbrev pub invariant-loop-attribute : goal.invariant-loop-attribute
invariant-loop-attribute l = record {
  ready : (goal.iterator-loop-attribute).can_next l.constants;
  ends : (goal.iterator-loop-attribute).is_finite l.constants;
  same : constants_fit (left l.constants) (drop l.attribute-index l.attributes) ≡ constants_fit (walked l.nodes (Some l.first)) l.attributes;
}
