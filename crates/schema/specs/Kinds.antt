-- The types of values, given the text that spells the names.
use Rattle.std.specs.Prelude.{ℕ, List}
use Rattle.domain.specs.declared.Domain.{Domain}
use Rattle.schema.specs.declared.kinds.Kind.{Kind}
use Rattle.schema.specs.declared.kinds.Kind.TheVariants.{Atom, Table}
use Rattle.schema.specs.Columns.{Column, schema_of}

-- an atom of a domain, or a table of columns in order
pub data ValueType : Type 0 where
  atom : Domain → ValueType
  table : List Column → ValueType

abbrev pub type_of : List ℕ → Kind → ValueType
type_of text (Atom d) = atom d
type_of text (Table s) = table (schema_of text s)
