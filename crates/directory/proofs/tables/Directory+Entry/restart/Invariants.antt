use Rattle.std.proofs.Common.{◌≡◌, ◌^◌, ◌<◌, ◌++◌, take, drop}
use Rattle.directory.specs.Run.{extent}
use Rattle.directory.specs.Starts.{restarted}
use Rattle.directory.proofs.tables.Directory+Entry.restart.Given as goal

-- the first entries are set
abbrev pub invariant-loop-entry : goal.invariant-loop-entry
invariant-loop-entry l =
    let old = l.fn.self.entries.items in
    (l.entry-items ≡ restarted 0 (take l.entry-index old) ++ drop l.entry-index old) × ((l.at ≡ extent (take l.entry-index old)) × (l.at < 2 ^ 16))
