-- Columns: what the attributes of a schema stand for, given the text that spells their names.
use Rattle.std.specs.Prelude.{ℕ, List, map, take, Some, None, Option}
use Rattle.domain.specs.declared.Domain.{Domain}
use Rattle.words.specs.Tokens.{Bytes}
use Rattle.words.specs.Spans.{part_of}
use Rattle.words.specs.declared.spans.Span.{Span}
use Rattle.schema.specs.declared.attributes.Attribute.{Attribute}
use Rattle.schema.specs.declared.schemas.Schema.{Schema}

-- a column of a table: its name, if it has one, and its domain
pub record Column : Type 0 where
  pub name : Option Bytes
  pub domain : Domain

-- what a part of the text spells, if there is one; a part that does not lie in the text spells no name
abbrev pub spelled : List ℕ → Option Span → Option Bytes
spelled text None = None
spelled text (Some s) = part_of s text

abbrev pub name_of : List ℕ → Attribute → Option Bytes
name_of text a = spelled text a.name

abbrev pub column_of : List ℕ → Attribute → Column
column_of text a = record { name = name_of text a; domain = a.domain }

-- the attributes of a schema that count
abbrev pub held : Schema → List Attribute
held s = take s.len s.attributes

-- a schema, by its columns in order
abbrev pub schema_of : List ℕ → Schema → List Column
schema_of text s = map (column_of text) (held s)
