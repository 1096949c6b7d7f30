use Rattle.std.proofs.Common.{◌≡◌, Some}
use Rattle.schema.specs.Columns.{held}
use Rattle.lists.specs.Walks.{walked, left}
use Rattle.lists.proofs.Fitting.{columns_said}
use Rattle.lists.proofs.constants.columns.Given as goal

-- what is left to add gives the whole
abbrev pub invariant-loop-node : goal.invariant-loop-node
invariant-loop-node l = record {
  ready : (goal.iterator-loop-node).can_next l.node-iterator;
  ends : (goal.iterator-loop-node).is_finite l.node-iterator;
  same : columns_said (left l.node-iterator) (held l.longer) ≡ columns_said (walked l.nodes (Some l.first)) (held l.initial.longer);
}
