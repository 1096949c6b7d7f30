-- The starts of the lists of a chain, the outermost first.
use Rattle.std.specs.Prelude.{ℕ, List, take}
use Rattle.scope.specs.declared.starts.Starts.{Starts}

-- the starts that count
abbrev pub begun : Starts → List ℕ
begun s = take s.len s.at
