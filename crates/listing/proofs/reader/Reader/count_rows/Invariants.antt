use Rattle.std.proofs.Common.{◌≡◌, ◌-◌, ◌≤◌, length}
use Rattle.schema.specs.Columns.{held}
use Rattle.texts.specs.Reading.{read_body}
use Rattle.listing.specs.Seen.{rest, domains_of}
use Rattle.listing.specs.Whole.{counted}
use Rattle.listing.proofs.Tables.{more_than}
use Rattle.listing.proofs.reader.Reader.count_rows.Given as goal

abbrev pub invariant-loop-self : goal.invariant-loop-self
invariant-loop-self l = (l.self.text.now ≡ l.initial.self.text.now) × (l.count ≤ l.self.at) ×
    (more_than l.count (read_body (domains_of (held l.schema)) (rest l.self)) ≡ counted (read_body (domains_of (held l.schema)) (rest l.initial.self)))

abbrev pub decreases-loop-self : goal.decreases-loop-self
decreases-loop-self l = length l.self.text.now - l.self.at
