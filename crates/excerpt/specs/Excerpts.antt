-- The line of a place, and how its bytes are shown.
use Rattle.std.specs.Prelude.{ℕ, ◌-◌, ◌≤◌, ◌<◌, min, cond, ◌&&◌, List, ◌⊎◌, ◌≡◌, leb, eqb, length, get_or}

-- the line begins at r: at the text's start or behind a line feed, and none stands between r and the byte
pub record LineStart (text : List ℕ) (byte r : ℕ) : Type 0 where
  pub before : r ≤ min byte (length text)
  pub begins : (r ≡ 0) ⊎ (get_or text (r - 1) 0 ≡ 10)
  pub none : (k : ℕ) → r ≤ k → k < min byte (length text) → get_or text k 0 ≡ 10 → ⊥

-- the line ends at r: at the text's end or at a line feed, and none stands between the byte and r
pub record LineEnd (text : List ℕ) (byte r : ℕ) : Type 0 where
  pub behind : min byte (length text) ≤ r
  pub within : r ≤ length text
  pub ends : (r ≡ length text) ⊎ (get_or text r 0 ≡ 10)
  pub none : (k : ℕ) → min byte (length text) ≤ k → k < r → get_or text k 0 ≡ 10 → ⊥

-- a space is 32, `~` 126, a tab 9, a question mark 63
abbrev pub printed : ℕ → ℕ
printed b = cond (leb 32 b && leb b 126) b (cond (eqb b 9) 32 63)
