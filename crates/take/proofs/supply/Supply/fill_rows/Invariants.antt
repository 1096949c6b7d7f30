use Rattle.std.proofs.Common.{◌≡◌, ℕ, ◌-◌, List, length}
use Rattle.store.specs.Meaning.{last_table}
use Rattle.texts.specs.Language.{Value}
use Rattle.texts.specs.Readers.{Reading.taken}
use Rattle.texts.specs.Reading.{read_body}
use Rattle.listing.specs.Seen.{rest}
use Rattle.pool.specs.Learning.{strings_of}
use Rattle.take.specs.Taking.{cell_rows, add_all}
use Rattle.take.specs.Supplies.{text_of, column_domains, width_of}
use Rattle.take.proofs.Fills.{Left}
use Rattle.take.proofs.supply.Supply.fill_rows.Given as goal

abbrev pub invariant-loop-reader : goal.invariant-loop-reader
invariant-loop-reader g l = (text_of l.self ≡ l.reader.text.now) ×
    ((rows : List (List Value)) (q : List ℕ) → read_body (column_domains l.self) (rest l.initial.reader) ≡ taken rows q → (last_table (g.S.RowStore.meaning l.initial.store)).width ≡ width_of l.self →
    Left (column_domains l.self) (strings_of l.self.source l.fresh) (rest l.reader) q (width_of l.self) (g.S.RowStore.meaning l.store)
    (add_all (g.S.RowStore.meaning l.initial.store) (cell_rows (strings_of l.self.source l.fresh) rows)))

abbrev pub decreases-loop-reader : goal.decreases-loop-reader
decreases-loop-reader g l = length l.reader.text.now - l.reader.at
