use Rattle.std.proofs.Common.{◌≡◌, ◌-◌, ◌≤◌, length}
use Rattle.texts.specs.Reading.{further}
use Rattle.listing.specs.Seen.{rest}
use Rattle.listing.proofs.reader.Reader.further_digits.Given as goal

abbrev pub invariant-loop-b : goal.invariant-loop-b
invariant-loop-b l =
    (l.first ≤ l.number) × (l.number ≤ l.limit) × (l.self.text.now ≡ l.initial.self.text.now) ×
    (further l.limit l.number (rest l.self) ≡ further l.limit l.initial.number (rest l.initial.self))

abbrev pub decreases-loop-b : goal.decreases-loop-b
decreases-loop-b l = length l.self.text.now - l.self.at
