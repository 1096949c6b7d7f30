-- Attributes together with the text that spells their names.
use Rattle.std.specs.Prelude.{List, map}
use Rattle.schema.specs.Columns.{Column, column_of}
use Rattle.schema.specs.declared.columns.Columns.{Columns}

-- the columns that attributes stand for in their text
abbrev pub columns_of : Columns → List Column
columns_of c = map (column_of c.text.now) c.attributes.now
