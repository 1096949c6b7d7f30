use Rattle.std.proofs.Common.{◌≡◌, length, rules}
use Rattle.fault.specs.Limits.{columns}
use Rattle.listing.specs.Seen.{value_in}
use Rattle.pool.specs.Learning.{strings_of, cell_of}
use Rattle.pool.proofs.Learns.{map_is}
use Rattle.pool.proofs.fresh.Fresh.row_of.Goals as goal

pub returns : goal.returns
returns c =
    let all : length c.args.cells.now ≡ columns = search rules in
    map_is _ _ (λ x. cell_of (strings_of c.args.source c.args.self.now) (value_in c.args.source.text.now x)) (λ x y q k. search rules) columns c.args.cells.now c.map.result all c.map.ensures.items
