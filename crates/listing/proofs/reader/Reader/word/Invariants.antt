use Rattle.std.proofs.Common.{◌≡◌, drop}
use Rattle.texts.specs.Readers.{word}
use Rattle.listing.specs.Seen.{rest}
use Rattle.listing.proofs.reader.Reader.word.Given as goal

abbrev pub invariant-loop-b : goal.invariant-loop-b
invariant-loop-b l = (l.self.text.now ≡ l.initial.self.text.now) ×
    (word l.rule (drop l.b-index l.wanted) (tt {0}) (rest l.self) ≡ word l.rule l.wanted (tt {0}) (rest l.initial.self))
