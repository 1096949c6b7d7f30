-- The rest of a text from a place on, byte by byte.
use Rattle.std.proofs.Common.{◌≡◌, ℕ, ◌+◌, ◌-◌, ◌≤◌, List, length, get_or, take, drop, ap, ◌∙◌, arith}
use Rattle.std.proofs.lemmas.List.{get_or-drop, length-drop, take_rest}

pub rest_length : (text : List ℕ) (start : ℕ) → length (take (length text - start) (drop start text)) ≡ length text - start
rest_length text start = ap length (take_rest text start) ∙ length-drop start text

pub rest_byte : (text : List ℕ) (start k : ℕ) → get_or (take (length text - start) (drop start text)) k 0 ≡ get_or text (start + k) 0
rest_byte text start k = ap (λ l. get_or l k 0) (take_rest text start) ∙ get_or-drop start text k 0

-- the byte at a place behind the start
pub byte_behind : (text : List ℕ) (start k : ℕ) → start ≤ k → get_or (take (length text - start) (drop start text)) (k - start) 0 ≡ get_or text k 0
byte_behind text start k low =
    let there : start + (k - start) ≡ k = omega arith in rest_byte text start (k - start) ∙ ap (λ i. get_or text i 0) there
