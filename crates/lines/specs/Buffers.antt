-- A line at the start of a buffer; the bytes after it stay.
use Rattle.std.specs.Prelude.{◌≡◌, ℕ, ◌+◌, ◌*◌, ◌≤◌, cond, List, ◌++◌, length, drop, Ok, Err, Result, nat_lt, IfOk}
use Rattle.fault.specs.declared.rules.Fault.{Fault}
use Rattle.fault.specs.declared.rules.Rule.TheVariants.{BufferTooSmall}
use Rattle.fault.specs.Limits.{line_bytes, string_bytes, name_bytes, columns}
use Rattle.fault.specs.Places.{nowhere}
use Rattle.lines.specs.declared.writing.Line.{Line}

abbrev pub written : List ℕ → List ℕ → List ℕ
written line buffer = line ++ drop (length line) buffer

-- the text is written behind any line that ends at this place
abbrev pub Writes : ℕ → List ℕ → List ℕ → List ℕ → Type 0
Writes at text entry exit =
    (front whole : List ℕ) → length front ≡ at → entry ≡ written front whole → exit ≡ written (front ++ text) whole

-- so many bytes more fit behind the line
abbrev pub HasRoom : ℕ → Line → Type 0
HasRoom n line = line.length + n ≤ length line.buffer.now

-- the line goes on with the text
pub record Adds (text : List ℕ) (from to : Line) : Type 0 where
  pub bytes : Writes from.length text from.buffer.now to.buffer.now
  pub end : to.length ≡ from.length + length text
  pub size : length to.buffer.now ≡ length from.buffer.now
  -- in the same buffer
  pub same : to.buffer.ghost_name ≡ from.buffer.ghost_name

-- Room: the most bytes of a value, which a string in its quotes has, of a column, and of a heading.

abbrev pub value_room : ℕ
value_room = string_bytes + 2

abbrev pub column_room : ℕ
column_room = name_bytes + 2

abbrev pub heading_room : ℕ
heading_room = columns * (column_room + 1) + 3

-- Every line call: the length of the line, or a refusal of a buffer that is too small for some line.

abbrev pub too_small : Fault
too_small = record { rule = BufferTooSmall; place = nowhere }

abbrev pub line_reply : List ℕ → List ℕ → Result ℕ Fault
line_reply line buffer = cond (nat_lt (length buffer) line_bytes) (Err too_small) (Ok (length line))

abbrev pub line_after : List ℕ → List ℕ → List ℕ
line_after line buffer = cond (nat_lt (length buffer) line_bytes) buffer (written line buffer)

-- a call writes this line, and any line that is written fits `line_bytes`
pub record WritesLine (line entry exit : List ℕ) (answer : Result ℕ Fault) : Type 0 where
  pub reply : answer ≡ line_reply line entry
  pub after : exit ≡ line_after line entry
  pub fits : IfOk answer (λ n. n ≤ line_bytes)
