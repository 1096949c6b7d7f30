use Rattle.std.proofs.Common.{◌≡◌, Some, List, [], map, length}
use Rattle.std.specs.Iterator.Adapters.{zip_first, zip_second}
use Rattle.std.specs.Slice.Iter.{iter_rest}
use Rattle.schema.specs.Columns.{Column, column_of, schema_of}
use Rattle.typing.specs.Checker.{Answer}
use Rattle.lists.specs.Walks.{walked, left}
use Rattle.lists.proofs.Renaming.{RenamesAll}
use Rattle.lists.proofs.names.rename.Given as goal

-- what is left to name gives the whole answer
abbrev pub invariant-loop-name : goal.invariant-loop-name
invariant-loop-name l = record {
  ready : (goal.iterator-loop-name).can_next l.name-iterator;
  ends : (goal.iterator-loop-name).is_finite l.name-iterator;
  as_many : length (left (zip_first l.name-iterator)) ≡ length (iter_rest (zip_second l.name-iterator));
  same : (r : Answer (List Column)) → RenamesAll l.text (left (zip_first l.name-iterator)) (map (column_of l.text) (iter_rest (zip_second l.name-iterator))) (schema_of l.text l.fresh) r →
      RenamesAll l.text (walked l.nodes (Some l.first)) (schema_of l.text l.schema) [] r;
}
