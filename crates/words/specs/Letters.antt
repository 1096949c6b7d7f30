-- The classes of bytes that tokens are made of.
use Rattle.std.specs.Prelude.{ℕ, ◌+◌, Bool, true, false, not, ◌&&◌, ◌||◌, [], ◌∷◌, ◌==◌, nat_le}
use Rattle.words.specs.Tokens.{Bytes}
use Rattle.words.specs.declared.letters.Class.{Class}
use Rattle.words.specs.declared.letters.Class.TheVariants.{Naming, Counting, Quoted}

-- a to z and A to Z
abbrev pub letter : ℕ → Bool
letter b = (nat_le 97 b && nat_le b 122) || (nat_le 65 b && nat_le b 90)

-- 0 to 9
abbrev pub digit : ℕ → Bool
digit b = nat_le 48 b && nat_le b 57

-- what a name goes on with: letters, digits and the underscore
abbrev pub name_byte : ℕ → Bool
name_byte b = letter b || (digit b || b == 95)

-- what may stand in a string: nothing below 32, no double quote, no 127
abbrev pub plain : ℕ → Bool
plain b = nat_le 32 b && (not (b == 34) && not (b == 127))

-- the line feed
abbrev pub feed : ℕ → Bool
feed b = b == 10

-- space, tab and carriage return
abbrev pub blank : ℕ → Bool
blank b = b == 32 || (b == 9 || b == 13)

abbrev pub belongs : Class → ℕ → Bool
belongs Naming b = name_byte b
belongs Counting b = digit b
belongs Quoted b = plain b

-- how many bytes at the front belong
abbrev pub run : (ℕ → Bool) → Bytes → ℕ
run p [] = 0
run p (b ∷ rest) = elim (p b) [ true ↦ run p rest + 1 | false ↦ 0 ]

-- each byte belongs
abbrev pub every : (ℕ → Bool) → Bytes → Bool
every p [] = true
every p (b ∷ rest) = p b && every p rest
