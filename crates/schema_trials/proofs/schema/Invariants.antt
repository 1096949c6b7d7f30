use Rattle.std.proofs.Common.{◌≡◌, take}
use Rattle.std.specs.Prelude.{replicate}
use Rattle.domain.specs.declared.Domain.TheVariants.{Integer}
use Rattle.fault.specs.Limits.{columns}
use Rattle.schema.specs.Columns.{schema_of}
use Rattle.schema_trials.specs.Trials.{text, nameless, columns_for}
use Rattle.schema_trials.proofs.schema.Given as goal

abbrev pub invariant-loop : goal.invariant-loop
invariant-loop l = schema_of text l.schema ≡ take columns (replicate l.counter (nameless Integer))

abbrev pub invariant-loop-which : goal.invariant-loop-which
invariant-loop-which l = schema_of text l.schema ≡ columns_for l.integers (take l.which-index l.columns)
