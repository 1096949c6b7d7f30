use Rattle.std.proofs.Common.{◌≡◌, [], length, drop}
use Rattle.fault.specs.Limits.{columns}
use Rattle.fault.specs.declared.rules.Rule.TheVariants.{WrongRow}
use Rattle.texts.specs.Readers.{entries}
use Rattle.texts.specs.Reading.{read_value}
use Rattle.listing.specs.Seen.{rest, values_in, domains_of}
use Rattle.listing.proofs.Entries.{gathered}
use Rattle.listing.proofs.reader.Reader.values.Given as goal

abbrev pub invariant-loop-i : goal.invariant-loop-i
invariant-loop-i l = (l.self.text.now ≡ l.initial.self.text.now) × (length l.cells ≡ columns) ×
    (gathered (values_in l.i l.self.text.now l.cells) (entries WrongRow read_value l.separator (domains_of (drop l.i l.attributes)) (rest l.self))
    ≡ entries WrongRow read_value [] (domains_of l.attributes) (rest l.initial.self))
