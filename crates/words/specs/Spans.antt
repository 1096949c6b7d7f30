-- Parts of a text by their numbers.
use Rattle.std.specs.Prelude.{ℕ, ◌+◌, cond, List, length, take, drop, Some, None, Option, nat_le}
use Rattle.std.specs.Borrow.{Bor}
use Rattle.words.specs.declared.spans.Span.{Span}

-- the bytes of the text that a span names; none where it does not lie in the text
abbrev pub part_of : Span → List ℕ → Option (List ℕ)
part_of s t = cond (nat_le (s.start + s.len) (length t)) (Some (take s.len (drop s.start t))) None

-- the bytes of a part that was handed out, apart from where they lie
abbrev pub bytes_of : Option (Bor (List ℕ)) → Option (List ℕ)
bytes_of (Some r) = Some r.now
bytes_of None = None
