-- The entries of a line, one by one: a turn of a loop reads one entry, and what is left gives the whole answer.
use Rattle.std.proofs.Common.{◌≡◌, ℕ, ◌+◌, ◌<◌, ◌≤◌, List, [], ◌∷◌, ◌++◌, map, length, get_or, take, drop, set, sym, refl, ap, ◌∙◌, ap₂, append_assoc, append-nil, arith}
use Rattle.std.proofs.lemmas.List.{drop_more, drop_all, take_more_set, map-append}
use Rattle.fault.specs.declared.rules.Rule.{Rule}
use Rattle.fault.specs.declared.rules.Rule.TheVariants.{WrongHeading, WrongRow}
use Rattle.schema.specs.declared.attributes.Attribute.{Attribute}
use Rattle.schema.specs.Columns.{column_of}
use Rattle.texts.specs.Formats.{comma, closing}
use Rattle.texts.specs.Readers.{Reading, Reading.taken, Reading.refused, Reader, bind, after, give, word, entries}
use Rattle.texts.specs.Language.{Value}
use Rattle.texts.specs.Reading.{read_column, read_value}
use Rattle.listing.specs.declared.cell.Cell.{Cell}
use Rattle.texts.proofs.Turns.{word_as}
use Rattle.listing.specs.Seen.{passed, column_behind, value_behind, value_in, values_in, domains_of}

-- the first entry, then the others
module _ {X A : Type 0} (rule : Rule) (f : X → Reader A) where
  abbrev pub one_behind : List ℕ → X → Reader A
  one_behind before x = after (word rule before (tt {0})) (λ (_ : Unit {0}). f x)

  pub entries_turn : (before : List ℕ) (x : X) (xs : List X) (s : List ℕ) →
      entries rule f before (x ∷ xs) s ≡ bind (one_behind before x s) (λ v q. bind (entries rule f comma xs q) (λ vs r. taken (v ∷ vs) r))
  entries_turn before x xs s = go (word rule before (tt {0}) s)
    where
      go : (y : Reading (Unit {0})) → bind y (λ _. after (f x) (λ a. give (λ more. a ∷ more) (entries rule f comma xs))) ≡
          bind (bind y (λ _. f x)) (λ v q. bind (entries rule f comma xs q) (λ vs r. taken (v ∷ vs) r))
      go (taken a r) = refl
      go (refused other r) = refl

  pub passed_turn : (before : List ℕ) (x : X) (xs : List X) (s : List ℕ) →
      passed (entries rule f before (x ∷ xs) s) ≡ bind (one_behind before x s) (λ _ q. passed (entries rule f comma xs q))
  passed_turn before x xs s = ap passed (entries_turn before x xs s) ∙ go (one_behind before x s)
    where
      let_go : (v : A) (y : Reading (List A)) → passed (bind y (λ vs r. taken (v ∷ vs) r)) ≡ passed y
      let_go v (taken vs r) = refl
      let_go v (refused other r) = refl

      go : (y : Reading A) → passed (bind y (λ v q. bind (entries rule f comma xs q) (λ vs r. taken (v ∷ vs) r))) ≡ bind y (λ _ q. passed (entries rule f comma xs q))
      go (taken v q) = let_go v (entries rule f comma xs q)
      go (refused other r) = refl

-- Columns: attributes from the i-th on, read from s behind the separator, give the whole answer x.
module _ (script : List ℕ) (all : List Attribute) (i : ℕ) (d : Attribute) (before s : List ℕ) (x : Reading (Unit {0})) (here : i < length all)
    (whole : passed (entries WrongHeading read_column before (map (column_of script) (drop i all)) s) ≡ x) where
  columns_turn : bind (column_behind before (column_of script (get_or all i d)) s) (λ _ q. passed (entries WrongHeading read_column comma (map (column_of script) (drop (i + 1) all)) q)) ≡ x
  columns_turn = sym (passed_turn WrongHeading read_column before (column_of script (get_or all i d)) (map (column_of script) (drop (i + 1) all)) s)
      ∙ (ap (λ z. passed (entries WrongHeading read_column before (map (column_of script) z) s)) (sym (drop_more all i d here)) ∙ whole)

  pub columns_on : (y : Unit {0}) (r : List ℕ) → taken y r ≡ column_behind before (column_of script (get_or all i d)) s →
      passed (entries WrongHeading read_column comma (map (column_of script) (drop (i + 1) all)) r) ≡ x
  columns_on y r e = ap (λ z. bind z (λ _ q. passed (entries WrongHeading read_column comma (map (column_of script) (drop (i + 1) all)) q))) e ∙ columns_turn

  pub columns_off : (rule : Rule) (r : List ℕ) → refused rule r ≡ column_behind before (column_of script (get_or all i d)) s → refused rule r ≡ x
  columns_off rule r e = ap (λ z. bind z (λ _ q. passed (entries WrongHeading read_column comma (map (column_of script) (drop (i + 1) all)) q))) e ∙ columns_turn

-- a word whose value is let go
pub passed_word : {A : Type 0} (rule : Rule) (w : List ℕ) (a : A) (s : List ℕ) → passed (word rule w a s) ≡ word rule w (tt {0}) s
passed_word rule w a s = ap passed (word_as rule w a s) ∙ go (word rule w (tt {0}) s)
  where
    go : (y : Reading (Unit {0})) → passed (bind y (λ (_ : Unit {0}) r. taken a r)) ≡ y
    go (taken u r) = refl
    go (refused other r) = refl

-- behind the last column the line ends
pub columns_end : (script : List ℕ) (all : List Attribute) (i : ℕ) (before s : List ℕ) (x : Reading (Unit {0})) → length all ≤ i →
    passed (entries WrongHeading read_column before (map (column_of script) (drop i all)) s) ≡ x → word WrongHeading closing tt s ≡ x
columns_end script all i before s x past whole = sym (end_passed s) ∙ (ap (λ z. passed (entries WrongHeading read_column before (map (column_of script) z) s)) (sym (drop_all i all past)) ∙ whole)
  where
    end_passed : (s : List ℕ) → passed (word {A = List (Unit {0})} WrongHeading closing [] s) ≡ word WrongHeading closing (tt {0}) s
    end_passed s = passed_word WrongHeading closing [] s

-- Values: what was read before stands in front of what is left.
abbrev pub gathered : List Value → Reading (List Value) → Reading (List Value)
gathered before x = bind x (λ vs r. taken (before ++ vs) r)

gathered_more : (p : List Value) (v : Value) (y : Reading (List Value)) → gathered p (bind y (λ vs r. taken (v ∷ vs) r)) ≡ gathered (p ++ (v ∷ [])) y
gathered_more p v (taken vs r) = ap (λ z. taken z r) (sym (append_assoc p (v ∷ []) vs))
gathered_more p v (refused rule r) = refl

pub gathered_none : (y : Reading (List Value)) → gathered [] y ≡ y
gathered_none (taken vs r) = refl
gathered_none (refused rule r) = refl

values_more : (t : List ℕ) (cells : List Cell) (i : ℕ) (c : Cell) → i < length cells → values_in (i + 1) t (set cells i c) ≡ values_in i t cells ++ (value_in t c ∷ [])
values_more t cells i c h = ap (map (value_in t)) (take_more_set cells i c h) ∙ map-append (value_in t) (take i cells) (c ∷ [])

-- attributes from the i-th on, read from s behind the separator, and the cells before them, give the whole answer x
module _ (t : List ℕ) (all : List Attribute) (i : ℕ) (d : Attribute) (before s : List ℕ) (cells : List Cell) (x : Reading (List Value)) (here : i < length all)
    (whole : gathered (values_in i t cells) (entries WrongRow read_value before (domains_of (drop i all)) s) ≡ x) where
  values_turn : gathered (values_in i t cells) (bind (value_behind before (get_or all i d).domain s) (λ v q. bind (entries WrongRow read_value comma (domains_of (drop (i + 1) all)) q) (λ vs r. taken (v ∷ vs) r))) ≡ x
  values_turn = ap (gathered (values_in i t cells)) (sym (entries_turn WrongRow read_value before (get_or all i d).domain (domains_of (drop (i + 1) all)) s))
      ∙ (ap (λ z. gathered (values_in i t cells) (entries WrongRow read_value before (domains_of z) s)) (sym (drop_more all i d here)) ∙ whole)

  pub values_on : (c : Cell) (r u : List ℕ) → i < length cells → u ≡ t → taken (value_in u c) r ≡ value_behind before (get_or all i d).domain s →
      gathered (values_in (i + 1) u (set cells i c)) (entries WrongRow read_value comma (domains_of (drop (i + 1) all)) r) ≡ x
  values_on c r u room same e =
      ap (λ z. gathered (values_in (i + 1) z (set cells i c)) (entries WrongRow read_value comma (domains_of (drop (i + 1) all)) r)) same
      ∙ (ap (λ z. gathered z (entries WrongRow read_value comma (domains_of (drop (i + 1) all)) r)) (values_more t cells i c room)
      ∙ (sym (gathered_more (values_in i t cells) (value_in t c) (entries WrongRow read_value comma (domains_of (drop (i + 1) all)) r))
      ∙ (ap (λ z. gathered (values_in i t cells) (bind z (λ v q. bind (entries WrongRow read_value comma (domains_of (drop (i + 1) all)) q) (λ vs r. taken (v ∷ vs) r)))) (ap (λ z. taken (value_in z c) r) (sym same) ∙ e)
      ∙ values_turn)))

  pub values_off : (rule : Rule) (r : List ℕ) → refused rule r ≡ value_behind before (get_or all i d).domain s → refused rule r ≡ x
  values_off rule r e = ap (λ z. gathered (values_in i t cells) (bind z (λ v q. bind (entries WrongRow read_value comma (domains_of (drop (i + 1) all)) q) (λ vs r. taken (v ∷ vs) r)))) e ∙ values_turn

-- behind the last value the line ends
module _ (t : List ℕ) (all : List Attribute) (i : ℕ) (before s : List ℕ) (cells : List Cell) (x : Reading (List Value)) (past : length all ≤ i) (reached : i ≤ length all)
    (whole : gathered (values_in i t cells) (entries WrongRow read_value before (domains_of (drop i all)) s) ≡ x) where
  values_last : gathered (values_in i t cells) (word WrongRow closing [] s) ≡ x
  values_last = ap (λ z. gathered (values_in i t cells) (entries WrongRow read_value before (domains_of z) s)) (sym (drop_all i all past)) ∙ whole

  closing_turn : bind (word WrongRow closing (tt {0}) s) (λ (_ : Unit {0}) r. taken (values_in i t cells) r) ≡ x
  closing_turn = go (word WrongRow closing (tt {0}) s) ∙ (ap (gathered (values_in i t cells)) (sym (word_as WrongRow closing [] s)) ∙ values_last)
    where
      go : (y : Reading (Unit {0})) → bind y (λ (_ : Unit {0}) r. taken (values_in i t cells) r) ≡ gathered (values_in i t cells) (bind y (λ (_ : Unit {0}) r. taken [] r))
      go (taken u r) = ap (λ z. taken z r) (sym (append-nil (values_in i t cells)))
      go (refused rule r) = refl

  pub values_closed : (u r : List ℕ) → u ≡ t → taken tt r ≡ word WrongRow closing (tt {0}) s → taken (values_in (length all) u cells) r ≡ x
  values_closed u r same e =
      let width : length all ≡ i = omega arith in
      ap₂ (λ n z. taken (values_in n z cells) r) width same ∙ (ap (λ z. bind z (λ (_ : Unit {0}) r. taken (values_in i t cells) r)) e ∙ closing_turn)

  pub values_unclosed : (rule : Rule) (r : List ℕ) → refused rule r ≡ word WrongRow closing (tt {0}) s → refused rule r ≡ x
  values_unclosed rule r e = ap (λ z. bind z (λ (_ : Unit {0}) r. taken (values_in i t cells) r)) e ∙ closing_turn
