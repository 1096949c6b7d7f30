-- The law of the layers: heading, row or cell, by the place alone.
use Rattle.std.proofs.Common.{◌≡◌, ℕ, true, false, ◌⊎◌, ◌↔◌, List, [], ◌∷◌, ◌++◌, codes, sym, refl, ap, ◌∙◌, subst, inl, inr, true≢false, append_assoc, append-nil, arith}
use mathlib.Core.List.{append_cancel_right}
use Rattle.fault.specs.declared.rules.Rule.{Rule}
use Rattle.fault.specs.declared.rules.Rule.TheVariants.{WrongHeading, WrongRow, WrongCell}
use Rattle.fault.specs.Rules.{layer_of}
use Rattle.fault.specs.declared.rules.Layer.TheVariants as layer
use Rattle.domain.specs.declared.Domain.{Domain}
use Rattle.schema.specs.Columns.{Column}
use Rattle.texts.specs.Readers.{Reading, Reading.taken, Reading.refused, bind, after, word, finish}
use Rattle.texts.specs.Language.{Value, HeadingText, domains}
use Rattle.texts.specs.Reading.{read_value, read_heading, read_body, read_table}
use Rattle.texts.specs.Promise.{Placed}
use Rattle.texts.specs.Layers.{BegunByValue, ValueDue, has_line_feed, TableLayer, TablesByLayer, AtomLayer, AtomsByLayer}
use Rattle.texts.proofs.Exactness.{Took, Refused, Outcome, anywhere, at_end}
use Rattle.texts.proofs.Listings.{heading_reads, body_reads}
use Rattle.texts.proofs.Whole.{taken_not_refused}
use Rattle.texts.proofs.Blame.{Told, told_weaker, told_after, Only, only_word, only_after, only_value, only_heading}
use Rattle.texts.proofs.Due.{RowOrCell, further_on, RowsDue, only_finish, told_body, table_due, value_placed, placed_value}
use Rattle.texts.proofs.Feeds.{feed_inside, heading_one_line, beginning}

-- Rules are told apart by their layers.
abbrev blamed : {A : Type 0} → Reading A → Rule
blamed (taken a r) = WrongRow
blamed (refused rule r) = rule

abbrev left_of : {A : Type 0} → Reading A → List ℕ
left_of (taken a r) = r
left_of (refused rule r) = r

heading_not_row : WrongHeading ≡ WrongRow → ⊥
heading_not_row e = let z : layer.Heading ≡ layer.Row = ap layer_of e in absurd (let y : ◌≡◌ {A = ℕ} 0 1 = cc in omega arith)

heading_not_cell : WrongHeading ≡ WrongCell → ⊥
heading_not_cell e = let z : layer.Heading ≡ layer.Cell = ap layer_of e in absurd (let y : ◌≡◌ {A = ℕ} 0 1 = cc in omega arith)

row_not_cell : WrongRow ≡ WrongCell → ⊥
row_not_cell e = let z : layer.Row ≡ layer.Cell = ap layer_of e in absurd (let y : ◌≡◌ {A = ℕ} 0 1 = cc in omega arith)

not_heading : (P : Domain → List ℕ → Type 0) (s : List ℕ) (rule : Rule) (r : List ℕ) → RowOrCell P s rule r → rule ≡ WrongHeading → ⊥
not_heading P s rule r (inl h) e = heading_not_row (sym e ∙ h)
not_heading P s rule r (inr h) e = heading_not_cell (sym e ∙ h.0)

-- a table's refusal: the heading's, or one of the rows behind it
told_table : (cs : List Column) (s : List ℕ) → Told (λ rule r. (rule ≡ WrongHeading) ⊎ RowOrCell (ValueDue cs) s rule r) (read_table cs s)
told_table cs s =
    told_after (λ rule r. (rule ≡ WrongHeading) ⊎ RowOrCell (ValueDue cs) s rule r) _ anywhere (read_heading cs) (λ _. read_body (domains cs)) s (heading_reads cs)
    (told_weaker (λ other r. other ≡ WrongHeading) (λ rule r. (rule ≡ WrongHeading) ⊎ RowOrCell (ValueDue cs) s rule r) (λ rule r h. inl h) (read_heading cs s) (only_heading cs s)) (λ names w front e t.
    told_weaker (RowOrCell (RowsDue (domains cs)) w) (λ rule r. (rule ≡ WrongHeading) ⊎ RowOrCell (ValueDue cs) s rule r)
    (λ rule r h. inr (further_on (RowsDue (domains cs)) (ValueDue cs) s front w e
    (λ d p u. record { names = names; heading = front; rows = u.rows; lines = u.lines; row = u.row; parts = ap (λ z. front ++ z) u.parts; headed = t; filled = u.filled; due = u.due }) rule r h))
    (read_body (domains cs) w) (told_body (domains cs) w))

told_of : {A : Type 0} (L : Rule → List ℕ → Type 0) (x : Reading A) (rule : Rule) (r : List ℕ) → x ≡ refused rule r → Told L x → L rule r
told_of L x rule r e h = subst (Told L) e h

-- the heading's part of the law
module _ (cs : List Column) (s p r : List ℕ) (rule : Rule) (e : read_table cs s ≡ refused rule r) (parts : s ≡ p ++ r) where
  heading_refused : (other : Rule) (t : List ℕ) → read_heading cs s ≡ refused other t → has_line_feed p ≡ false
  heading_refused other t h =
      let o : Refused (HeadingText cs) (read_heading cs) s other t = subst (Outcome (HeadingText cs) anywhere (read_heading cs) s) h ((heading_reads cs).reads s) in
      let same : t ≡ r = ap left_of (sym (ap (λ x. bind x (λ _. read_body (domains cs))) h) ∙ e) in
      let front : o.front ≡ p = append_cancel_right o.front p r (ap (λ z. o.front ++ z) (sym same) ∙ (sym o.parts ∙ parts)) in
      let l = heading_one_line cs o.value (o.front ++ o.rest) o.text in
      go o front (beginning o.front o.rest l.inside l.ended l.plainly)
    where
      go : (o : Refused (HeadingText cs) (read_heading cs) s other t) → o.front ≡ p → (has_line_feed o.front ≡ false) ⊎ (o.rest ≡ []) → has_line_feed p ≡ false
      go o f (inl k) = ap has_line_feed (sym f) ∙ k
      go o f (inr k) = absurd (taken_not_refused (read_heading cs (o.front ++ t)) o.value other t t
          ((heading_reads cs).complete o.value o.front t (subst (HeadingText cs o.value) (ap (λ z. o.front ++ z) k ∙ append-nil o.front) o.text) tt) (o.again t refl))

  heading_taken : (names : List (Unit {0})) (w : List ℕ) → read_heading cs s ≡ taken names w → has_line_feed p ≡ true
  heading_taken names w h =
      let t : Took (HeadingText cs) anywhere s names w = subst (Outcome (HeadingText cs) anywhere (read_heading cs) s) h ((heading_reads cs).reads s) in
      let below : read_body (domains cs) w ≡ refused rule r = sym (ap (λ x. bind x (λ _. read_body (domains cs))) h) ∙ e in
      let o : Refused _ (read_body (domains cs)) w rule r = subst (Outcome _ at_end (read_body (domains cs)) w) below ((body_reads (domains cs)).reads w) in
      let l = heading_one_line cs names t.front t.text in
      let front : p ≡ t.front ++ o.front = append_cancel_right p (t.front ++ o.front) r (sym parts ∙ (t.parts ∙ (ap (λ z. t.front ++ z) o.parts ∙ sym (append_assoc t.front o.front r)))) in
      ap has_line_feed (front ∙ (ap (λ z. z ++ o.front) l.ended ∙ append_assoc l.inside (10 ∷ []) o.front)) ∙ feed_inside l.inside o.front

  heading_law : (rule ≡ WrongHeading) ↔ (has_line_feed p ≡ false)
  heading_law = go (read_heading cs s) refl (only_heading cs s)
    where
      go : (x : Reading (List (Unit {0}))) → read_heading cs s ≡ x → Told (λ other t. other ≡ WrongHeading) x → (rule ≡ WrongHeading) ↔ (has_line_feed p ≡ false)
      go (refused other t) h k = (λ _. heading_refused other t h, λ _. ap blamed (sym e ∙ ap (λ x. bind x (λ _. read_body (domains cs))) h) ∙ k)
      go (taken names w) h k =
          let below : read_body (domains cs) w ≡ refused rule r = sym (ap (λ x. bind x (λ _. read_body (domains cs))) h) ∙ e in (
            λ q. absurd (not_heading (RowsDue (domains cs)) w rule r (told_of (RowOrCell (RowsDue (domains cs)) w) (read_body (domains cs) w) rule r below (told_body (domains cs) w)) q),
            λ q. absurd (true≢false (sym (heading_taken names w h) ∙ q)),
          )

  cell_found : (rule ≡ WrongHeading) ⊎ RowOrCell (ValueDue cs) s rule r → rule ≡ WrongCell →
      (front : List ℕ) × (text : List ℕ) × (d : Domain) × (s ≡ front ++ text) × ValueDue cs d front × Placed (BegunByValue d) text r
  cell_found (inl h) q = absurd (heading_not_cell (sym h ∙ q))
  cell_found (inr (inl h)) q = absurd (row_not_cell (sym h ∙ q))
  cell_found (inr (inr (h, c))) q = (c.front, c.text, c.domain, c.parts, c.due, value_placed c.domain c.text r WrongCell c.value)

  three_rules : (rule ≡ WrongHeading) ⊎ RowOrCell (ValueDue cs) s rule r → (rule ≡ WrongHeading) ⊎ ((rule ≡ WrongRow) ⊎ (rule ≡ WrongCell))
  three_rules (inl h) = inl h
  three_rules (inr (inl h)) = inr (inl h)
  three_rules (inr (inr h)) = inr (inr h.0)

  pub table_layer : TableLayer cs s p r rule
  table_layer =
      let told = told_of (λ rule r. (rule ≡ WrongHeading) ⊎ RowOrCell (ValueDue cs) s rule r) (read_table cs s) rule r e (told_table cs s) in
      record {
        heading = heading_law;
        cell = (cell_found told, λ c. ap blamed (sym e ∙ (ap (read_table cs) c.3 ∙ table_due cs c.2 c.0 c.1 WrongCell r c.4 (placed_value c.2 c.1 r c.5))));
        three = three_rules told;
      }

pub tables_by_layer : TablesByLayer
tables_by_layer cs s p r rule e parts = table_layer cs s p r rule e parts

-- an atom's refusal: the value's, or one of what follows it
pub atoms_by_layer : AtomsByLayer
atoms_by_layer d s r rule e = go (read_value d s) refl (only_value d s)
  where
    closes : (v : Value) → Only WrongRow (after (word WrongRow (codes "\n") v) (λ w. finish WrongRow w))
    closes v = only_after WrongRow _ _ (only_word WrongRow (codes "\n") v) (λ w. only_finish WrongRow w)

    go : (x : Reading Value) → read_value d s ≡ x → Told (λ other t. other ≡ WrongCell) x → AtomLayer d s r rule
    go (refused other t) h k =
        let same : ◌≡◌ {A = Reading Value} (refused other t) (refused rule r) = sym (ap (λ x. bind x (λ v. after (word WrongRow (codes "\n") v) (λ w. finish WrongRow w))) h) ∙ e in
        let cell : rule ≡ WrongCell = sym (ap blamed same) ∙ k in
        record { cell = (λ _. value_placed d s r rule (h ∙ same), λ _. cell); two = inr cell }
    go (taken v w) h k =
        let below : after (word WrongRow (codes "\n") v) (λ w. finish WrongRow w) w ≡ refused rule r = sym (ap (λ x. bind x (λ v. after (word WrongRow (codes "\n") v) (λ w. finish WrongRow w))) h) ∙ e in
        let row : rule ≡ WrongRow = told_of (λ other t. other ≡ WrongRow) _ rule r below (closes v w) in
        record { cell = (λ q. absurd (row_not_cell (sym row ∙ q)), λ q. absurd (taken_not_refused (read_value d s) v WrongCell w r h (placed_value d s r q))); two = inl row }
