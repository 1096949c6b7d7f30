use Rattle.std.proofs.Common.{rules}
use Rattle.scope.specs.Names.{named}
use Rattle.scope.proofs.Ends.{stops_newest}
use Rattle.scope.proofs.chain.newest.Goals as goal

pub returns-clause-value : goal.returns-clause-value
returns-clause-value g c = stops_newest (named g.E.Named.spelling c.args.text.now c.args.name.now) c.args.entries.now _ (search rules)
