use Rattle.std.proofs.Common.{◌≡◌, ◌-◌, length}
use Rattle.texts.specs.Reading.{read_body}
use Rattle.listing.specs.Seen.{rest}
use Rattle.take.specs.Taking.{learnt}
use Rattle.take.specs.Supplies.{text_of, column_domains, known_of, learned_from}
use Rattle.take.proofs.supply.Supply.learn_rows.Given as goal

abbrev pub invariant-loop-reader : goal.invariant-loop-reader
invariant-loop-reader l = (l.reader.text.now ≡ l.initial.reader.text.now) × (text_of l.self ≡ l.reader.text.now) ×
    (learnt (known_of l.self) (learned_from l.self l.fresh) (read_body (column_domains l.self) (rest l.reader))
    ≡ learnt (known_of l.self) (learned_from l.self l.initial.fresh) (read_body (column_domains l.self) (rest l.initial.reader)))

abbrev pub decreases-loop-reader : goal.decreases-loop-reader
decreases-loop-reader l = length l.reader.text.now - l.reader.at
