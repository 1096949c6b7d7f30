use Rattle.std.proofs.Common.{◌≡◌, ◌-◌, true, length}
use Rattle.chained.specs.Chains.{nexts, walk, step, under}
use Rattle.chained.proofs.links.after.Given as goal

abbrev pub invariant-loop : goal.invariant-loop
invariant-loop l =
    (step (nexts l.links) (l.count - l.counter) l.at ≡ step (nexts l.links) l.count l.from) × (under (length l.links) (walk (nexts l.links) (l.count - l.counter) l.at) ≡ true)
