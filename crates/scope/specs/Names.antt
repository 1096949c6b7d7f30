-- Names that may be missing.
use Rattle.std.specs.Prelude.{ℕ, List, Bool, false, Some, None, Option}
use Rattle.std.specs.Str.{bytes_eq}
use Rattle.words.specs.Tokens.{Bytes}

-- whether what may be a name is this one; what has no name is never it
abbrev pub called : Option Bytes → Bytes → Bool
called None wanted = false
called (Some name) wanted = bytes_eq name wanted

-- whether an entry, by what a text spells of it, has this name
abbrev pub named : {E : Type 0} → (List ℕ → E → Option (List ℕ)) → List ℕ → List ℕ → E → Bool
named spelling text name e = called (spelling text e) name
