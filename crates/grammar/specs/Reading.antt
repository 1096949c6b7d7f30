-- What the executable reader of whole texts finds: the tree of a program, and of any other text its fault.
use Rattle.std.specs.Prelude.{ℕ, List, [], ◌≡◌}
use Rattle.words.specs.Tokens.{Token}
use Rattle.grammar.specs.Tree.{Block.closed_at}
use Rattle.grammar.specs.Readers.{Outcome, Outcome.found, Outcome.refused_at, program_at, wholly, told}
use Rattle.grammar.specs.Promise.{any_token, Program, Placed}

-- an outcome tells what the grammar says of the tokens
abbrev pub Tells : ℕ → List Token → Outcome → Type 0
Tells n s (found t r) = (r ≡ []) × Program n s (closed_at t.statements t.place)
Tells n s (refused_at x r) = Placed n s (told x r) r

-- the readers find exactly what the grammar says; there is one tree or one fault, so they find the one there is
abbrev pub ReadersExact : Type 0
ReadersExact = (n : ℕ) (s : List Token) → Tells n s (wholly (program_at any_token n s))
