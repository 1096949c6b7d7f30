-- Readers of bytes, and the ways to put them together: one for each way to put formats together.
-- A reader gives a value and the bytes after its text, or the rule that is broken and the bytes from the refused one on.
use Rattle.std.specs.Prelude.{ℕ, zero, suc, Bool, true, false, cond, List, [], ◌∷◌, length, ◌==◌, Some, None, Option}
use Rattle.fault.specs.declared.rules.Rule.{Rule}
use Rattle.texts.specs.Formats.{opening, comma, closing}

pub data Reading (A : Type 0) : Type 0 where
  taken : A → List ℕ → Reading A
  refused : Rule → List ℕ → Reading A

abbrev pub Reader : Type 0 → Type 0
Reader A = List ℕ → Reading A

-- the byte that comes next
abbrev pub first : List ℕ → Option ℕ
first [] = None
first (b ∷ s) = Some b

abbrev pub bind : {A B : Type 0} → Reading A → (A → List ℕ → Reading B) → Reading B
bind (taken a r) f = f a r
bind (refused rule r) f = refused rule r

-- one text after another; what may come second hangs on the first value
abbrev pub after : {A B : Type 0} → Reader A → (A → Reader B) → Reader B
after f g s = bind (f s) g

-- the same text for another value
abbrev pub give : {A B : Type 0} → (A → B) → Reader A → Reader B
give h f s = bind (f s) (λ a r. taken (h a) r)

-- one of two, by the next byte
abbrev pub either : {A : Type 0} → (Option ℕ → Bool) → Reader A → Reader A → Reader A
either test f g s = cond (test (first s)) (f s) (g s)

-- one byte that passes a test
abbrev pub one_on : Bool → Rule → ℕ → List ℕ → Reading ℕ
one_on true rule b s = taken b s
one_on false rule b s = refused rule (b ∷ s)

abbrev pub one : Rule → (ℕ → Bool) → Reader ℕ
one rule test [] = refused rule []
one rule test (b ∷ s) = one_on (test b) rule b s

-- fixed bytes
abbrev pub word_on : {A : Type 0} → Bool → Rule → ℕ → List ℕ → Reading A → Reading A
word_on true rule b s x = x
word_on false rule b s x = refused rule (b ∷ s)

abbrev pub word : {A : Type 0} → Rule → List ℕ → A → Reader A
word rule [] a s = taken a s
word rule (w ∷ ws) a [] = refused rule []
word rule (w ∷ ws) a (b ∷ s) = word_on (b == w) rule b s (word rule ws a s)

-- the text's end
abbrev pub finish : {A : Type 0} → Rule → A → Reader A
finish rule a [] = taken a []
finish rule a (b ∷ s) = refused rule (b ∷ s)

-- texts of f while the next byte passes the test, at most so many, then one of g
abbrev pub turns : {A : Type 0} → (Option ℕ → Bool) → Reader A → Reader (List A) → ℕ → Reader (List A)
turns test f g zero = g
turns test f g (suc n) = either test (after f (λ a. give (λ more. a ∷ more) (turns test f g n))) g

abbrev pub many : {A : Type 0} → (Option ℕ → Bool) → Reader A → Reader (List A) → Reader (List A)
many test f g s = turns test f g (length s) s

-- the entries that are left of a line, the first of them behind `before`, and the end of the line
abbrev pub entries : {X A : Type 0} → Rule → (X → Reader A) → List ℕ → List X → Reader (List A)
entries rule f before [] = word rule closing []
entries rule f before (x ∷ xs) =
    after (word rule before tt) (λ (_ : Unit {0}). after (f x) (λ a. give (λ more. a ∷ more) (entries rule f comma xs)))

abbrev pub line : {X A : Type 0} → Rule → (X → Reader A) → List X → Reader (List A)
line rule f xs = after (word rule opening tt) (λ (_ : Unit {0}). entries rule f [] xs)
