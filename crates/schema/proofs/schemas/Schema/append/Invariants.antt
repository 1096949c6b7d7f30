use Rattle.std.proofs.Common.{◌≡◌, ◌≤◌, ◌++◌, length, take}
use Rattle.fault.specs.Limits.{columns}
use Rattle.schema.specs.Columns.{held}
use Rattle.schema.proofs.schemas.Schema.append.Given as goal

-- so many of the other's attributes stand behind those of the first
abbrev pub invariant-loop-attribute : goal.invariant-loop-attribute
invariant-loop-attribute l = record {
  added : held l.longer ≡ held l.initial.longer ++ take l.attribute-index l.attribute-items;
  few : length (held l.longer) ≤ columns;
}
