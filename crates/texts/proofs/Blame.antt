-- By which rule a reader refuses: what holds of its refusals, put together as readers are. The reader of a value refuses as a cell, that of a heading as the heading.
use Rattle.std.proofs.Common.{◌≡◌, ℕ, zero, suc, ◌+◌, ◌-◌, ◌*◌, Bool, true, false, cond, eqb, leb, List, [], ◌∷◌, ◌++◌, Some, None, codes, Option, refl}
use Rattle.fault.specs.declared.rules.Rule.{Rule}
use Rattle.fault.specs.declared.rules.Rule.TheVariants.{WrongHeading, WrongCell}
use Rattle.domain.specs.declared.Domain.{Domain}
use Rattle.domain.specs.declared.Domain.TheVariants.{Integer, String, Boolean}
use Rattle.schema.specs.Columns.{Column}
use Rattle.texts.specs.Formats.{Format, opening, comma, closing}
use Rattle.texts.specs.Readers.{Reading, Reading.taken, Reading.refused, Reader, first, bind, after, give, either, word, word_on, one, one_on, entries}
use Rattle.words.specs.Letters.{digit, plain}
use Rattle.texts.specs.Language.{first_digit, quote, shown_name, kind}
use Rattle.texts.specs.Reading.{next, next_digit, further_on, further, read_count, apart, read_integer, read_quoted, read_string, read_boolean, read_value, read_name, read_column, read_heading}
use Rattle.texts.proofs.Exactness.{Reads, Outcome}

-- what holds of a refusal, if the reading is one
abbrev pub Told : {A : Type 0} → (Rule → List ℕ → Type 0) → Reading A → Type 0
Told L (taken a r) = Unit {0}
Told L (refused rule r) = L rule r

pub told_weaker : {A : Type 0} (L M : Rule → List ℕ → Type 0) → ((rule : Rule) (r : List ℕ) → L rule r → M rule r) → (x : Reading A) → Told L x → Told M x
told_weaker L M k (taken a r) h = tt
told_weaker L M k (refused rule r) h = k rule r h

pub told_give : {A B : Type 0} (L : Rule → List ℕ → Type 0) (f : A → B) (x : Reading A) → Told L x → Told L (bind x (λ a r. taken (f a) r))
told_give L f (taken a r) h = tt
told_give L f (refused rule r) h = h

pub told_either : {A : Type 0} (L : Rule → List ℕ → Type 0) (b : Bool) (x y : Reading A) → Told L x → Told L y → Told L (cond b x y)
told_either L true x y h k = h
told_either L false x y h k = k

-- a refusal of one reader after another is the first one's, or the second one's behind a text of the first
pub told_after : {A B : Type 0} (L : Rule → List ℕ → Type 0) (F : Format A) (S : Option ℕ → Type 0) (f : Reader A) (g : A → Reader B) (s : List ℕ) →
    Reads F S f → Told L (f s) → ((a : A) (w front : List ℕ) → s ≡ front ++ w → F a front → Told L (g a w)) → Told L (after f g s)
told_after {A = A} L F S f g s x h k = go (f s) (x.reads s) h
  where
    go : (y : Reading A) → Outcome F S f s y → Told L y → Told L (bind y g)
    go (taken a w) o h = k a w o.front o.parts o.text
    go (refused rule r) o h = h

pub told_self : {A : Type 0} (y : Reading A) → Told (λ rule r. y ≡ refused rule r) y
told_self (taken a r) = tt
told_self (refused rule r) = refl

-- Readers that refuse by one rule alone.
abbrev pub Only : {A : Type 0} → Rule → Reader A → Type 0
Only rule f = (s : List ℕ) → Told (λ other r. other ≡ rule) (f s)

pub only_word : {A : Type 0} (rule : Rule) (w : List ℕ) (a : A) → Only rule (word rule w a)
only_word rule [] a s = tt
only_word rule (c ∷ w) a [] = refl
only_word {A = A} rule (c ∷ w) a (b ∷ s) = go (eqb b c) (only_word rule w a s)
  where
    go : (x : Bool) → Told (λ other r. other ≡ rule) (word rule w a s) → Told (λ other r. other ≡ rule) (word_on x rule b s (word rule w a s))
    go true h = h
    go false h = refl

pub only_one : (rule : Rule) (test : ℕ → Bool) → Only rule (one rule test)
only_one rule test [] = refl
only_one rule test (b ∷ s) = go (test b)
  where
    go : (x : Bool) → Told (λ other r. other ≡ rule) (one_on x rule b s)
    go true = tt
    go false = refl

pub only_after : {A B : Type 0} (rule : Rule) (f : Reader A) (g : A → Reader B) → Only rule f → ((a : A) → Only rule (g a)) → Only rule (after f g)
only_after {A = A} rule f g h k s = go (f s) (h s)
  where
    go : (y : Reading A) → Told (λ other r. other ≡ rule) y → Told (λ other r. other ≡ rule) (bind y g)
    go (taken a r) t = k a r
    go (refused other r) t = t

pub only_give : {A B : Type 0} (rule : Rule) (h : A → B) (f : Reader A) → Only rule f → Only rule (give h f)
only_give rule h f k s = told_give (λ other r. other ≡ rule) h (f s) (k s)

pub only_either : {A : Type 0} (rule : Rule) (test : Option ℕ → Bool) (f g : Reader A) → Only rule f → Only rule g → Only rule (either test f g)
only_either rule test f g h k s = go (test (first s))
  where
    go : (x : Bool) → Told (λ other r. other ≡ rule) (cond x (f s) (g s))
    go true = h s
    go false = k s

pub only_further : (limit n : ℕ) → Only WrongCell (further limit n)
only_further limit n [] = tt
only_further limit n (b ∷ s) = go (digit b) (leb (n * 10 + (b - 48)) limit) (only_further limit (n * 10 + (b - 48)) s)
  where
    go : (x y : Bool) → Told (λ other r. other ≡ WrongCell) (further limit (n * 10 + (b - 48)) s) →
        Told (λ other r. other ≡ WrongCell) (further_on x y n b s (further limit (n * 10 + (b - 48)) s))
    go false y h = tt
    go true false h = refl
    go true true h = h

pub only_count : (limit : ℕ) → Only WrongCell (read_count limit)
only_count limit = only_after WrongCell _ _ (only_one WrongCell first_digit) (λ b. only_further limit (b - 48))

pub only_apart : {A : Type 0} (a : A) → Only WrongCell (apart a)
only_apart a s = go (next_digit (first s))
  where
    go : (x : Bool) → Told (λ other r. other ≡ WrongCell) (cond x (refused WrongCell s) (taken a s))
    go true = refl
    go false = tt

pub only_quoted : (n : ℕ) → Only WrongCell (read_quoted n)
unfolding read_quoted
only_quoted zero = only_word WrongCell quote []
only_quoted (suc n) = only_either WrongCell (next 34) _ _ (only_word WrongCell quote [])
    (only_after WrongCell (one WrongCell plain) (λ b. give (λ more. b ∷ more) (read_quoted n)) (only_one WrongCell plain) (λ b. only_give WrongCell (λ more. b ∷ more) (read_quoted n) (only_quoted n)))

-- the reader of a value refuses as a cell
pub only_value : (d : Domain) → Only WrongCell (read_value d)
only_value Integer = only_give WrongCell _ read_integer (only_either WrongCell (next 45) _ _
    (only_after WrongCell _ _ (only_word WrongCell (codes "-") (tt {0})) (λ _. only_give WrongCell _ _ (only_count _)))
    (only_either WrongCell (next 48) _ _ (only_after WrongCell _ _ (only_word WrongCell (codes "0") _) (λ a. only_apart a)) (only_give WrongCell _ _ (only_count _))))
only_value String = only_give WrongCell _ read_string (only_after WrongCell _ _ (only_word WrongCell quote (tt {0})) (λ _. only_quoted _))
only_value Boolean = only_give WrongCell _ read_boolean (only_either WrongCell (next 116) _ _ (only_word WrongCell (codes "true") true) (only_word WrongCell (codes "false") false))

pub only_name : (o : Option (List ℕ)) → Only WrongHeading (read_name o)
only_name None = only_word WrongHeading (codes "?") tt
only_name (Some n) = only_either WrongHeading (next 63) _ _ (only_word WrongHeading (codes "?") tt) (only_word WrongHeading n tt)

pub only_columns : (before : List ℕ) (cs : List Column) → Only WrongHeading (entries WrongHeading read_column before cs)
only_columns before [] = only_word WrongHeading closing []
only_columns before (c ∷ cs) = only_after WrongHeading _ _ (only_word WrongHeading before (tt {0})) (λ _.
    only_after WrongHeading _ _ (only_after WrongHeading _ _ (only_name (shown_name c.name)) (λ _. only_word WrongHeading (kind c.domain) tt)) (λ a.
    only_give WrongHeading _ _ (only_columns comma cs)))

-- the heading refuses as the heading
pub only_heading : (cs : List Column) → Only WrongHeading (read_heading cs)
only_heading cs = only_after WrongHeading _ _ (only_word WrongHeading opening (tt {0})) (λ _. only_columns [] cs)
