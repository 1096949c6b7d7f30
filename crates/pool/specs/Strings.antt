-- Strings by number: the empty string, then the script's, then those read. A string's number is its first place in that list.
use Rattle.std.specs.Prelude.{ℕ, ◌+◌, cond, List, [], ◌∷◌, ◌++◌, map, Some, None, Option}
use Rattle.std.specs.Str.{bytes_eq}
use Rattle.words.specs.declared.spans.Span.{Span}
use Rattle.listing.specs.Seen.{part}
use Rattle.pool.specs.declared.known.Known.{Known}

-- n places further on
abbrev pub ahead : ℕ → Option ℕ → Option ℕ
ahead n None = None
ahead n (Some i) = Some (n + i)

-- the first place of a string in a list
abbrev pub position : List (List ℕ) → List ℕ → Option ℕ
position [] wanted = None
position (s ∷ strings) wanted = cond (bytes_eq s wanted) (Some 0) (ahead 1 (position strings wanted))

-- parts of some bytes, by their bytes
abbrev pub parts : List ℕ → List Span → List (List ℕ)
parts bytes spans = map (part bytes) spans

-- the strings that have a number, in order
abbrev pub numbered : Known → List (List ℕ)
numbered k = [] ∷ (parts k.script.now k.literals.now ++ parts k.pool.now k.entries.now)
