-- Writing behind a line.
use Rattle.std.proofs.Common.{◌≡◌, ℕ, ◌+◌, ◌≤◌, false, cond, ltb, List, [], ◌∷◌, ◌++◌, length, Ok, Err, sym, ap, ◌∙◌, subst, append_assoc, arith, length-append}
use Rattle.std.proofs.lemmas.List.{append-nil}
use Rattle.fault.specs.Limits.{line_bytes}
use Rattle.texts.specs.Lines.{string_bytes}
use Rattle.lines.specs.declared.writing.Line.{Line}
use Rattle.lines.specs.Buffers.{written, Writes, Adds, WritesLine, too_small}

-- one text behind another
pub writes_then : (at next : ℕ) (a b x y z : List ℕ) → next ≡ at + length a → Writes at a x y → Writes next b y z → Writes at (a ++ b) x z
writes_then at next a b x y z n f g = λ front whole l e.
    let long = length-append front a in
    subst (λ w. z ≡ written w whole) (append_assoc front a b) (g (front ++ a) whole (omega (arith, n, long, l)) (f front whole l e))

-- nothing
pub none_writes : (at : ℕ) (x : List ℕ) → Writes at [] x x
none_writes at x = λ front whole l e. e ∙ ap (λ z. written z whole) (sym (append-nil front))

pub string_length : (s : List ℕ) → length (string_bytes s) ≡ length s + 2
string_length s = let long = length-append s (34 ∷ []) in omega (arith, long)

-- one text behind another, on lines
pub adds_then : {a b : List ℕ} {x y z : Line} → Adds a x y → Adds b y z → Adds (a ++ b) x z
adds_then {a = a} {b = b} {x = x} {y = y} f g = record {
  bytes = writes_then x.length y.length a b _ _ _ f.end f.bytes g.bytes;
  end = (let long = length-append a b in omega (arith, long, f.end, g.end));
  size = g.size ∙ f.size;
  same = g.same ∙ f.same;
}

-- the same text in other words
pub adds_as : {a b : List ℕ} {x y : Line} → a ≡ b → Adds a x y → Adds b x y
adds_as {x = x} {y = y} e w = subst (λ t. Adds t x y) e w

-- A call that writes one line at the start of a buffer with room for any line.
pub writes_line : {line entry exit : List ℕ} {from to : Line} →
    line_bytes ≤ length entry → from.buffer.now ≡ entry → from.length ≡ 0 → Adds line from to → exit ≡ to.buffer.now → length line ≤ line_bytes → WritesLine line entry exit (Ok to.length)
writes_line {line = line} {entry = entry} {from = from} {to = to} room start empty a e short =
    let large : ltb (length entry) line_bytes ≡ false = grind (arith, room) in
    let long : to.length ≡ length line = omega (arith, a.end, empty) in
    let after : to.buffer.now ≡ written line entry = a.bytes [] entry (sym empty) start in
    record {
      reply = ap Ok long ∙ sym (ap (λ b. cond b (Err too_small) (Ok (length line))) large);
      after = (e ∙ after) ∙ sym (ap (λ b. cond b entry (written line entry)) large);
      fits = omega (arith, long, short);
    }
