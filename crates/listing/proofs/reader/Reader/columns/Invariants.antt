use Rattle.std.proofs.Common.{◌≡◌, [], map, drop}
use Rattle.fault.specs.declared.rules.Rule.TheVariants.{WrongHeading}
use Rattle.schema.specs.Columns.{column_of}
use Rattle.schema.specs.Spelled.{columns_of}
use Rattle.texts.specs.Readers.{entries}
use Rattle.texts.specs.Reading.{read_column}
use Rattle.listing.specs.Seen.{rest, passed}
use Rattle.listing.proofs.reader.Reader.columns.Given as goal

abbrev pub invariant-loop-attribute : goal.invariant-loop-attribute
invariant-loop-attribute l = (l.self.text.now ≡ l.initial.self.text.now) ×
    (passed (entries WrongHeading read_column l.separator (map (column_of l.columns.text.now) (drop l.attribute-index l.columns.attributes.now)) (rest l.self))
    ≡ passed (entries WrongHeading read_column [] (columns_of l.columns) (rest l.initial.self)))
