-- Formats: which byte sequences are texts of which value, and the ways to put formats together.
-- Nothing here reads. These are the words in which the texts of values, rows and tables are described.
use Rattle.std.specs.Prelude.{◌≡◌, ℕ, Bool, true, ◌⊎◌, List, [], ◌∷◌, ◌++◌, codes}

-- `F a p`: the bytes p are a text of the value a
abbrev pub Format : Type 0 → Type 1
Format A = A → List ℕ → Type 0

-- fixed bytes, which stand for one value
abbrev pub Word : {A : Type 0} → List ℕ → A → Format A
Word w a b p = (b ≡ a) × (p ≡ w)

-- one byte that passes a test, and stands for itself
abbrev pub One : (ℕ → Bool) → Format ℕ
One test b p = (p ≡ b ∷ []) × (test b ≡ true)

-- a text of F, then one of what may come after its value
pub record After {A B : Type 0} (F : Format A) (G : A → Format B) (b : B) (p : List ℕ) : Type 0 where
  pub value : A
  pub front : List ℕ
  pub back : List ℕ
  pub parts : p ≡ front ++ back
  pub begins : F value front
  pub ends : G value b back

-- the texts of F, for another value
pub record Given {A B : Type 0} (h : A → B) (F : Format A) (b : B) (p : List ℕ) : Type 0 where
  pub value : A
  pub is : b ≡ h value
  pub text : F value p

-- a text of one of two formats
abbrev pub Either : {A : Type 0} → Format A → Format A → Format A
Either F G a p = F a p ⊎ G a p

-- a text for each value in turn, then the closing one
abbrev pub Many : {A : Type 0} → Format A → Format (List A) → Format (List A)
Many F G [] p = G [] p
Many F G (a ∷ more) p = (front : List ℕ) × (back : List ℕ) × (p ≡ front ++ back) × F a front × Many F G more back

-- Lines of entries, as headings and rows are: `(`, the entries with a comma between two, `)` and the line feed.

abbrev pub opening : List ℕ
opening = codes "("

abbrev pub comma : List ℕ
comma = codes ","

abbrev pub closing : List ℕ
closing = codes ")\n"

-- the entries that are left, the first of them behind `before`, and the end of the line
abbrev pub Entries : {X A : Type 0} → (X → Format A) → List ℕ → List X → Format (List A)
Entries F before [] = Word closing []
Entries F before (x ∷ xs) = After (Word before tt) (λ (_ : Unit {0}). After (F x) (λ a. Given (λ more. a ∷ more) (Entries F comma xs)))

abbrev pub Line : {X A : Type 0} → (X → Format A) → List X → Format (List A)
Line F xs = After (Word opening tt) (λ (_ : Unit {0}). Entries F [] xs)
