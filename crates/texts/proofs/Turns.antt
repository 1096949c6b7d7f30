-- The rows of a table, one by one: what a loop over them goes by.
use Rattle.std.proofs.Common.{◌≡◌, ℕ, ◌<◌, Bool, true, false, eqb, List, [], ◌∷◌, length, codes, sym, refl, ap, ◌∙◌, subst, arith, length-append}
use Rattle.fault.specs.declared.rules.Rule.{Rule}
use Rattle.fault.specs.declared.rules.Rule.TheVariants.{WrongRow}
use Rattle.domain.specs.declared.Domain.{Domain}
use Rattle.texts.specs.Formats.{Word}
use Rattle.texts.specs.Readers.{Reading, Reading.taken, Reading.refused, first, bind, after, word, word_on, finish}
use Rattle.texts.specs.Language.{Value, RowText, ending}
use Rattle.texts.specs.Reading.{next, read_row, read_rows, read_body}
use Rattle.texts.proofs.Exactness.{Took, Outcome, anywhere, word_reads, word_leads, after_leads, many_on, many_off}
use Rattle.texts.proofs.Listings.{row_reads}
use Rattle.texts.proofs.Due.{row_some}

-- a word for another value
pub word_as : {A : Type 0} (rule : Rule) (w : List ℕ) (a : A) (s : List ℕ) → word rule w a s ≡ bind (word rule w (tt {0}) s) (λ (_ : Unit {0}) r. taken a r)
word_as rule [] a s = refl
word_as rule (c ∷ w) a [] = refl
word_as {A = A} rule (c ∷ w) a (b ∷ s) = go (eqb b c) (word_as rule w a s)
  where
    go : (y : Bool) → word rule w a s ≡ bind (word rule w (tt {0}) s) (λ (_ : Unit {0}) r. taken a r) →
        word_on y rule b s (word rule w a s) ≡ bind (word_on y rule b s (word rule w (tt {0}) s)) (λ (_ : Unit {0}) r. taken a r)
    go true h = h
    go false h = refl

-- a row takes some bytes
pub row_shortens : (ds : List Domain) (s : List ℕ) (vs : List Value) (r : List ℕ) → taken vs r ≡ read_row ds s → length r < length s
row_shortens ds s vs r e =
    let t : Took (RowText ds) anywhere s vs r = subst (Outcome (RowText ds) anywhere (read_row ds) s) (sym e) ((row_reads ds).reads s) in
    let long = ap length t.parts ∙ length-append t.front r in
    omega (arith, long, row_some ds vs t.front t.text)

module _ (ds : List Domain) (s : List ℕ) where
  rows_on : next 40 (first s) ≡ true → read_rows ds s ≡ bind (read_row ds s) (λ row q. bind (read_rows ds q) (λ rows r. taken (row ∷ rows) r))
  rows_on h = many_on (next 40) (RowText ds) (Word ending []) anywhere _ _ (row_reads ds) (word_reads WrongRow ending [])
      (after_leads (next 40) true (word_leads 40 [] tt (next 40) true refl)) (λ vs p r t e. word_leads 101 (codes "nd\n") [] (next 40) false refl vs p r t) (λ vs p t. t.0) refl s h

  rows_off : next 40 (first s) ≡ false → read_rows ds s ≡ word WrongRow ending [] s
  rows_off h = many_off (next 40) (RowText ds) (Word ending []) anywhere _ _ (row_reads ds) (word_reads WrongRow ending [])
      (after_leads (next 40) true (word_leads 40 [] tt (next 40) true refl)) (λ vs p r t e. word_leads 101 (codes "nd\n") [] (next 40) false refl vs p r t) (λ vs p t. t.0) refl s h

  -- another row
  pub body_on : next 40 (first s) ≡ true → read_body ds s ≡ bind (read_row ds s) (λ row q. bind (read_body ds q) (λ rows r. taken (row ∷ rows) r))
  body_on h = ap (λ x. bind x (λ rows. finish WrongRow rows)) (rows_on h) ∙ go (read_row ds s)
    where
      last : (row : List Value) (rows : List (List Value)) (u : List ℕ) → finish WrongRow (row ∷ rows) u ≡ bind (finish WrongRow rows u) (λ rows r. taken (row ∷ rows) r)
      last row rows [] = refl
      last row rows (b ∷ u) = refl

      inner : (row : List Value) (x : Reading (List (List Value))) → bind (bind x (λ rows r. taken (row ∷ rows) r)) (λ rows. finish WrongRow rows) ≡ bind (bind x (λ rows. finish WrongRow rows)) (λ rows r. taken (row ∷ rows) r)
      inner row (taken rows u) = last row rows u
      inner row (refused rule r) = refl

      go : (x : Reading (List Value)) → bind (bind x (λ row q. bind (read_rows ds q) (λ rows r. taken (row ∷ rows) r))) (λ rows. finish WrongRow rows) ≡ bind x (λ row q. bind (read_body ds q) (λ rows r. taken (row ∷ rows) r))
      go (taken row q) = inner row (read_rows ds q)
      go (refused rule r) = refl

  -- no further row: `end`, and the text's end
  pub body_off : next 40 (first s) ≡ false → read_body ds s ≡ bind (after (word WrongRow ending (tt {0})) (λ (_ : Unit {0}). finish WrongRow tt) s) (λ (_ : Unit {0}) r. taken [] r)
  body_off h = ap (λ x. bind x (λ rows. finish WrongRow rows)) (rows_off h ∙ word_as WrongRow ending [] s) ∙ go (word WrongRow ending (tt {0}) s)
    where
      last : (u : List ℕ) → finish {A = List (List Value)} WrongRow [] u ≡ bind (finish WrongRow (tt {0}) u) (λ (_ : Unit {0}) r. taken [] r)
      last [] = refl
      last (b ∷ u) = refl

      go : (x : Reading (Unit {0})) → bind (bind x (λ (_ : Unit {0}) r. taken [] r)) (λ rows. finish {A = List (List Value)} WrongRow rows) ≡ bind (bind x (λ (_ : Unit {0}). finish WrongRow (tt {0}))) (λ (_ : Unit {0}) r. taken [] r)
      go (taken a u) = last u
      go (refused rule r) = refl
