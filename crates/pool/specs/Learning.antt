-- What reading a text adds to the strings: each one that has no number yet, once, by first appearance,
-- as long as there is room for one string more and for its bytes.
use Rattle.std.specs.Prelude.{ℕ, ◌-◌, cond, ◌&&◌, List, [], ◌∷◌, ◌++◌, length, ℤ, pos, Some, None, Option, Ok, Err, Result, ok_or, nat_le}
use Rattle.fault.specs.Limits.{read_strings, read_bytes}
use Rattle.texts.specs.Language.{Value, Value.integer, Value.string, Value.boolean}
use Rattle.pool.specs.declared.fresh.Fresh.{Fresh}
use Rattle.pool.specs.declared.fresh.Room.{Room}
use Rattle.pool.specs.declared.learning.Source.{Source}
use Rattle.pool.specs.Strings.{position, parts, numbered}

-- the new strings so far, and the room that is left: an Err once it was too little
pub record Learned : Type 0 where
  pub fresh : List (List ℕ)
  pub room : Result Room Room

abbrev pub learned_of : List ℕ → Fresh → Learned
learned_of text f = record { fresh = parts text f.spans.items; room = f.room }

-- nothing yet, after so many strings with so many bytes
abbrev pub nothing_learned : ℕ → ℕ → Learned
nothing_learned strings bytes = record { fresh = []; room = Ok (record { strings = read_strings - strings; bytes = read_bytes - bytes }) }

-- the room that a string leaves, if it fits
abbrev pub room_after : Room → List ℕ → Option Room
room_after r s = cond (nat_le 1 r.strings && nat_le (length s) r.bytes) (Some (record { strings = r.strings - 1; bytes = r.bytes - length s })) None

-- a new string, which is kept if it leaves room
abbrev pub with_string : List (List ℕ) → List ℕ → Result Room Room → Learned
with_string fresh s (Err r) = record { fresh = fresh; room = Err r }
with_string fresh s (Ok r) = record { fresh = fresh ++ (s ∷ []); room = Ok r }

-- a string that has a number already, or a new one, while there is room; from the first one on that does not fit, all stays
abbrev pub learn_on : Option ℕ → List (List ℕ) → Result Room Room → List ℕ → Learned
learn_on number fresh (Err r) s = record { fresh = fresh; room = Err r }
learn_on (Some n) fresh (Ok r) s = record { fresh = fresh; room = Ok r }
learn_on None fresh (Ok r) s = with_string fresh s (ok_or (room_after r s) r)

abbrev pub learn_string : List (List ℕ) → Learned → List ℕ → Learned
learn_string known l s = learn_on (position (known ++ l.fresh) s) l.fresh l.room s

abbrev pub learn_value : List (List ℕ) → Learned → Value → Learned
learn_value known l (integer z) = l
learn_value known l (string s) = learn_string known l s
learn_value known l (boolean b) = l

abbrev pub learn_row : List (List ℕ) → Learned → List Value → Learned
learn_row known l [] = l
learn_row known l (v ∷ vs) = learn_row known (learn_value known l v) vs

abbrev pub learn_rows : List (List ℕ) → Learned → List (List Value) → Learned
learn_rows known l [] = l
learn_rows known l (row ∷ rows) = learn_rows known (learn_row known l row) rows

-- every string that has a number, those of the text too
abbrev pub strings_of : Source → Fresh → List (List ℕ)
strings_of source f = numbered source.known ++ (learned_of source.text.now f).fresh

-- Cells: an integer, 0 or 1, or the number of a string.

abbrev pub number_or0 : Option ℕ → ℤ
number_or0 None = pos 0
number_or0 (Some n) = pos n

abbrev pub cell_of : List (List ℕ) → Value → ℤ
cell_of strings (integer z) = z
cell_of strings (string s) = number_or0 (position strings s)
cell_of strings (boolean b) = cond b (pos 1) (pos 0)
