-- Where tables begin in the run: each where the one before it ends.
use Rattle.std.specs.Prelude.{ℕ, ◌+◌, Bool, true, ◌&&◌, List, [], ◌∷◌, ◌==◌}
use Rattle.directory.specs.Run.{extent_of}
use Rattle.directory.specs.declared.entry.Entry.{Entry}

-- the entries say so, the first one beginning here
abbrev pub starts : ℕ → List Entry → Bool
starts at [] = true
starts at (e ∷ es) = e.first == at && starts (at + extent_of e) es

-- the entries made to say so
abbrev pub restarted : ℕ → List Entry → List Entry
restarted at [] = []
restarted at (e ∷ es) = record { first = at; width = e.width; count = e.count } ∷ restarted (at + extent_of e) es
