use Rattle.std.proofs.Common.{◌≡◌, ◌-◌, ◌*◌, true, length}
use Rattle.store.specs.Meaning.{has}
use Rattle.directory.specs.Run.{chunk}
use Rattle.chained.specs.Chains.{nexts, values, walk, step, gather, under}
use Rattle.chained.proofs.rows.search.Given as goal

abbrev pub invariant-loop : goal.invariant-loop
invariant-loop l =
    let ns = nexts l.links in
    (has (chunk (l.count - l.counter) (length l.row) (gather (values l.links) (walk ns ((l.count - l.counter) * length l.row) l.at))) l.row ≡ has (chunk l.count (length l.row) (gather (values l.links) (walk ns (l.count * length l.row) l.from))) l.row) × (under (length l.links) (walk ns ((l.count - l.counter) * length l.row) l.at) ≡ true) × (l.at ≡ step ns (l.counter * length l.row) l.from) × (l.last ≡ step ns (l.counter * length l.row - 1) l.from)
