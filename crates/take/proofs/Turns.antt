-- The two passages over a text, row by row.
use Rattle.std.proofs.Common.{◌≡◌, ℕ, true, false, List, [], ◌∷◌, map, take, Ok, Err, Result, sym, refl, ap, ◌∙◌, subst, ap₂}
use Rattle.domain.specs.declared.Domain.{Domain}
use Rattle.fault.specs.declared.rules.Rule.{Rule}
use Rattle.fault.specs.declared.rules.Rule.TheVariants.{WrongRow}
use Rattle.texts.specs.Language.{Value, ending}
use Rattle.texts.specs.Readers.{Reading, Reading.taken, Reading.refused, first, bind, after, word, finish}
use Rattle.texts.specs.Reading.{next, read_row, read_body}
use Rattle.texts.proofs.Turns.{body_on, body_off}
use Rattle.listing.specs.declared.cell.Cell.{Cell}
use Rattle.fault.specs.declared.rules.Fault.{Fault}
use Rattle.listing.specs.declared.reader.Reader.{Reader}
use Rattle.listing.specs.Seen.{seen, seen_as, value_in, values_in}
use Rattle.pool.specs.declared.fresh.Fresh.{Fresh}
use Rattle.pool.specs.Learning.{Learned, learned_of, learn_row}
use Rattle.take.specs.Taking.{learnt}

-- the rows that are left, read from s and learned after l, give the whole answer x
module _ (ds : List Domain) (known : List (List ℕ)) (l : Learned) (s : List ℕ) (x : Reading Learned) (whole : learnt known l (read_body ds s) ≡ x) where
  turn : next 40 (first s) ≡ true → bind (read_row ds s) (λ row q. learnt known (learn_row known l row) (read_body ds q)) ≡ x
  turn h = go (read_row ds s) ∙ (ap (learnt known l) (sym (body_on ds s h)) ∙ whole)
    where
      inner : (row : List Value) (y : Reading (List (List Value))) → learnt known (learn_row known l row) y ≡ learnt known l (bind y (λ rows r. taken (row ∷ rows) r))
      inner row (taken rows r) = refl
      inner row (refused rule r) = refl

      go : (y : Reading (List Value)) → bind y (λ row q. learnt known (learn_row known l row) (read_body ds q)) ≡ learnt known l (bind y (λ row q. bind (read_body ds q) (λ rows r. taken (row ∷ rows) r)))
      go (taken row q) = inner row (read_body ds q)
      go (refused rule r) = refl

  pub another_row : (after : Learned) (vs : List Value) (r : List ℕ) → next 40 (first s) ≡ true → taken vs r ≡ read_row ds s → after ≡ learn_row known l vs → learnt known after (read_body ds r) ≡ x
  another_row after vs r h e k = ap (λ z. learnt known z (read_body ds r)) k ∙ (ap (λ y. bind y (λ row q. learnt known (learn_row known l row) (read_body ds q))) e ∙ turn h)

  pub wrong_row : (rule : Rule) (r : List ℕ) → next 40 (first s) ≡ true → refused rule r ≡ read_row ds s → refused rule r ≡ x
  wrong_row rule r h e = ap (λ y. bind y (λ row q. learnt known (learn_row known l row) (read_body ds q))) e ∙ turn h

  pub ended : next 40 (first s) ≡ false → bind (after (word WrongRow ending (tt {0})) (λ (_ : Unit {0}). finish WrongRow (tt {0})) s) (λ (_ : Unit {0}) r. taken l r) ≡ x
  ended h = go (after (word WrongRow ending (tt {0})) (λ (_ : Unit {0}). finish WrongRow (tt {0})) s) ∙ (ap (learnt known l) (sym (body_off ds s h)) ∙ whole)
    where
      go : (y : Reading (Unit {0})) → bind y (λ (_ : Unit {0}) r. taken l r) ≡ learnt known l (bind y (λ (_ : Unit {0}) r. taken [] r))
      go (taken a r) = refl
      go (refused rule r) = refl

-- the cells that are learned are the row's values
pub row_values : (text u : List ℕ) (cells : List Cell) (w n : ℕ) → u ≡ text → w ≡ n → map (value_in text) (take w cells) ≡ values_in n u cells
row_values text u cells w n e h = ap₂ (λ t k. map (value_in t) (take k cells)) (sym e) h

-- the end of a text, as what was learned
pub seen_end : (text : List ℕ) (fresh : Fresh) (s : Reader) (r : Result (Unit {0}) Fault) (x : Reading (Unit {0})) → seen s r ≡ x →
    seen_as (λ _ _. learned_of text fresh) s r ≡ bind x (λ (_ : Unit {0}) q. taken (learned_of text fresh) q)
seen_end text fresh s (Ok u) x e = ap (λ y. bind y (λ (_ : Unit {0}) q. taken (learned_of text fresh) q)) e
seen_end text fresh s (Err f) x e = ap (λ y. bind y (λ (_ : Unit {0}) q. taken (learned_of text fresh) q)) e

-- Filling: a text that is right, row by row.

abbrev rest_of : Reading (List (List Value)) → List ℕ
rest_of (taken a t) = t
rest_of (refused rule t) = t

abbrev value_of : Reading (List (List Value)) → List (List Value)
value_of (taken a t) = a
value_of (refused rule t) = []

abbrev told : {A : Type 0} → Reading A → Type 0
told (taken b t) = Unit {0}
told (refused other t) = ⊥

refused_not_taken : {A : Type 0} (rule : Rule) (r : List ℕ) (a : A) (q : List ℕ) → ◌≡◌ {A = Reading A} (refused rule r) (taken a q) → ⊥
refused_not_taken rule r a q e = subst told (sym e) tt

-- the rows behind a row
pub rows_behind : (ds : List Domain) (s : List ℕ) (rows : List (List Value)) (q : List ℕ) (vs : List Value) (r : List ℕ) → next 40 (first s) ≡ true → read_body ds s ≡ taken rows q → taken vs r ≡ read_row ds s →
    (more : List (List Value)) × (rows ≡ vs ∷ more) × (read_body ds r ≡ taken more q)
rows_behind ds s rows q vs r h e k = go (read_body ds r) refl (ap (λ y. bind y (λ row t. bind (read_body ds t) (λ rows u. taken (row ∷ rows) u))) k ∙ (sym (body_on ds s h) ∙ e))
  where
    go : (y : Reading (List (List Value))) → read_body ds r ≡ y → bind y (λ rows u. taken (vs ∷ rows) u) ≡ taken rows q → (more : List (List Value)) × (rows ≡ vs ∷ more) × (read_body ds r ≡ taken more q)
    go (taken more u) f g = (more, sym (ap value_of g), f ∙ ap (taken more) (ap rest_of g))
    go (refused rule u) f g = absurd (refused_not_taken rule u rows q g)

-- a right text has no wrong row
pub no_wrong_row : (ds : List Domain) (s : List ℕ) (rows : List (List Value)) (q : List ℕ) (rule : Rule) (r : List ℕ) → next 40 (first s) ≡ true → read_body ds s ≡ taken rows q → refused rule r ≡ read_row ds s → ⊥
no_wrong_row ds s rows q rule r h e k = refused_not_taken rule r rows q (ap (λ y. bind y (λ row t. bind (read_body ds t) (λ rows u. taken (row ∷ rows) u))) k ∙ (sym (body_on ds s h) ∙ e))

-- at the end there are no more rows
pub no_more : (ds : List Domain) (s : List ℕ) (rows : List (List Value)) (q : List ℕ) → next 40 (first s) ≡ false → read_body ds s ≡ taken rows q → rows ≡ []
no_more ds s rows q h e = go (after (word WrongRow ending (tt {0})) (λ (_ : Unit {0}). finish WrongRow (tt {0})) s) (sym (body_off ds s h) ∙ e)
  where
    go : (y : Reading (Unit {0})) → bind y (λ (_ : Unit {0}) r. taken [] r) ≡ taken rows q → rows ≡ []
    go (taken u r) g = sym (ap value_of g)
    go (refused rule r) g = sym (ap value_of g)
