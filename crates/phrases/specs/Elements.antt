-- What a list asks of the reader of its elements, which is passed to it.
use Rattle.std.specs.Prelude.{ℕ, Result, OnOk}
use Rattle.std.specs.Fn.{Shared}
use denote.Ref.{MutBor}
use Rattle.fault.specs.declared.rules.Fault.{Fault}
use Rattle.phrases.specs.declared.parsers.Parser.{Parser}
use Rattle.phrases.specs.Held.{Held}
use Rattle.phrases.specs.declared.sorts.Listed.{Listed}
use Rattle.phrases.specs.Sorts.{level_of, item_reader}
use Rattle.phrases.specs.States.{SameArena, SameLength, Numbers, AnswersAs}

-- a reader of elements, as the clauses see it
abbrev pub Elements : Type 0 → Type 1
Elements F = Shared F (MutBor Parser × Unit {0}) (Result ℕ Fault × (MutBor Parser × Unit {0}))

-- a call keeps the arena, reads a token at least and pays for its nodes
pub record Moves {F : Type 0} (g : Elements F) (f : F) : Type 0 where
  pub lent : (p q : MutBor Parser) (r : Result ℕ Fault) → g.post f (p, tt) (r, (q, tt)) → SameArena p.now q.now
  pub numbers : (p q : MutBor Parser) (r : Result ℕ Fault) → g.post f (p, tt) (r, (q, tt)) → OnOk r (Numbers p.now q.now)

-- a call keeps the arena's length
pub record Keeps {F : Type 0} (g : Elements F) (f : F) : Type 0 where
  pub long : (p q : MutBor Parser) (r : Result ℕ Fault) → g.post f (p, tt) (r, (q, tt)) → SameLength p.now q.now

-- a call does what the grammar's reader of such elements does
pub record Reads {F : Type 0} (g : Elements F) (f : F) (listed : Listed) : Type 0 where
  pub follows : (p q : MutBor Parser) (r : Result ℕ Fault) → g.post f (p, tt) (r, (q, tt)) → (n : ℕ) → AnswersAs (Held (level_of listed)) (item_reader n listed) p.now q.now r
