-- Where a value is due: a row refuses as a cell exactly there, and by what the reader of the value says.
use Rattle.std.proofs.Common.{◌≡◌, ℕ, zero, suc, ◌<◌, ◌≤◌, Bool, true, false, cond, ◌⊎◌, List, [], ◌∷◌, ◌++◌, length, sym, refl, ap, ◌∙◌, subst, ap₂, inl, inr, true≢false, append_assoc, append-nil, arith, length-append}
use Rattle.std.proofs.Common.{None}
use Rattle.fault.specs.declared.rules.Rule.{Rule}
use Rattle.fault.specs.declared.rules.Rule.TheVariants.{WrongRow, WrongCell}
use Rattle.domain.specs.declared.Domain.{Domain}
use Rattle.domain.specs.declared.Domain.TheVariants.{Integer, String, Boolean}
use Rattle.schema.specs.Columns.{Column}
use Rattle.texts.specs.Formats.{Word, Many, opening, comma, closing}
use Rattle.texts.specs.Readers.{Reading, Reading.taken, Reading.refused, Reader, first, bind, after, give, word, finish, turns, entries}
use Rattle.texts.specs.Language.{Value, RowText, domains, ending, ValueText}
use Rattle.texts.specs.Reading.{next, next_digit, read_value, read_row, read_rows, read_body, read_table}
use Rattle.texts.specs.Promise.{Placed}
use Rattle.texts.specs.Layers.{may_end, Behind, BegunByValue, Due, ValueDue}
use Rattle.texts.proofs.Exactness.{Reads, Outcome, anywhere, at_end, after_reads, word_reads, from_none, Leads, word_leads, after_leads}
use Rattle.texts.proofs.Values.{leaves, leaves_before, value_reads}
use Rattle.texts.proofs.Listings.{heading_reads, row_reads, rows_reads}
use Rattle.texts.proofs.Whole.{exact, taken_not_refused}
use Rattle.texts.proofs.Blame.{Told, told_weaker, told_give, told_either, told_after, Only, only_word, only_value}

-- Where a value is due: the refusal of a cell, traced down to the value's reader. P says what stands before the value.
pub record CellAt (P : Domain → List ℕ → Type 0) (s r : List ℕ) : Type 0 where
  pub domain : Domain
  pub front : List ℕ
  pub text : List ℕ
  pub parts : s ≡ front ++ text
  pub due : P domain front
  pub value : read_value domain text ≡ refused WrongCell r

abbrev pub RowOrCell : (Domain → List ℕ → Type 0) → List ℕ → Rule → List ℕ → Type 0
RowOrCell P s rule r = (rule ≡ WrongRow) ⊎ ((rule ≡ WrongCell) × CellAt P s r)

-- behind further bytes
pub further_on : (P Q : Domain → List ℕ → Type 0) (s front w : List ℕ) → s ≡ front ++ w → ((d : Domain) (p : List ℕ) → P d p → Q d (front ++ p)) →
    (rule : Rule) (r : List ℕ) → RowOrCell P w rule r → RowOrCell Q s rule r
further_on P Q s front w e k rule r (inl h) = inl h
further_on P Q s front w e k rule r (inr (h, c)) = inr (
  h,
  record {
    domain = c.domain;
    front = front ++ c.front;
    text = c.text;
    parts = e ∙ (ap (λ z. front ++ z) c.parts ∙ sym (append_assoc front c.front c.text));
    due = k c.domain c.front c.due;
    value = c.value;
  },
)

pub told_row : {A : Type 0} (P : Domain → List ℕ → Type 0) (s : List ℕ) (x : Reading A) → Told (λ other r. other ≡ WrongRow) x → Told (RowOrCell P s) x
told_row P s x h = told_weaker (λ other r. other ≡ WrongRow) (RowOrCell P s) (λ rule r k. inl k) x h

pub told_value : (P : Domain → List ℕ → Type 0) (d : Domain) (s front w : List ℕ) → s ≡ front ++ w → P d front → Told (RowOrCell P s) (read_value d w)
told_value P d s front w e due = go (read_value d w) refl (only_value d w)
  where
    go : (x : Reading Value) → read_value d w ≡ x → Told (λ other r. other ≡ WrongCell) x → Told (RowOrCell P s) x
    go (taken v r) q h = tt
    go (refused rule r) q h = inr (h, record { domain = d; front = front; text = w; parts = e; due = due; value = q ∙ ap (λ z. refused z r) h })

pub told_entries : (before : List ℕ) (ds : List Domain) (s : List ℕ) → Told (RowOrCell (Due before ds) s) (entries WrongRow read_value before ds s)
told_entries before [] s = told_row (Due before []) s (word WrongRow closing [] s) (only_word WrongRow closing [] s)
told_entries before (d ∷ ds) s =
    told_after (RowOrCell (Due before (d ∷ ds)) s) _ anywhere (word WrongRow before tt) _ s (word_reads WrongRow before tt)
    (told_row (Due before (d ∷ ds)) s _ (only_word WrongRow before (tt {0}) s)) (λ a w front e t.
    told_after (RowOrCell (Due before (d ∷ ds)) s) _ (leaves d) (read_value d) _ w (value_reads d)
    (told_value (Due before (d ∷ ds)) d s before w (e ∙ ap (λ z. z ++ w) t.1) (inl (refl, refl))) (λ v u entry h x.
    told_give (RowOrCell (Due before (d ∷ ds)) s) (λ more. v ∷ more) (entries WrongRow read_value comma ds u)
    (told_weaker (RowOrCell (Due comma ds) u) (RowOrCell (Due before (d ∷ ds)) s)
    (further_on (Due comma ds) (Due before (d ∷ ds)) s (before ++ entry) u
    (e ∙ (ap₂ (λ y z. y ++ z) t.1 h ∙ sym (append_assoc before entry u)))
    (λ f p due. inr (v, entry, p, append_assoc before entry p, x, due)))
    (entries WrongRow read_value comma ds u) (told_entries comma ds u))))

-- whole rows, and a row up to where a value is due
pub record RowsDue (ds : List Domain) (d : Domain) (p : List ℕ) : Type 0 where
  pub rows : List (List Value)
  pub lines : List ℕ
  pub row : List ℕ
  pub parts : p ≡ lines ++ (opening ++ row)
  pub filled : Many (RowText ds) (Word [] []) rows lines
  pub due : Due [] ds d row

pub told_line : (ds : List Domain) (s : List ℕ) → Told (RowOrCell (RowsDue ds) s) (read_row ds s)
told_line ds s =
    told_after (RowOrCell (RowsDue ds) s) _ anywhere (word WrongRow opening tt) _ s (word_reads WrongRow opening tt)
    (told_row (RowsDue ds) s _ (only_word WrongRow opening (tt {0}) s)) (λ a w front e t.
    told_weaker (RowOrCell (Due [] ds) w) (RowOrCell (RowsDue ds) s)
    (further_on (Due [] ds) (RowsDue ds) s opening w (e ∙ ap (λ z. z ++ w) t.1) (λ d p due. record { rows = []; lines = []; row = p; parts = refl; filled = (refl, refl); due = due }))
    (entries WrongRow read_value [] ds w) (told_entries [] ds w))

pub told_turns : (ds : List Domain) (n : ℕ) (s : List ℕ) → Told (RowOrCell (RowsDue ds) s) (turns (next 40) (read_row ds) (word WrongRow ending []) n s)
told_turns ds zero s = told_row (RowsDue ds) s _ (only_word WrongRow ending [] s)
told_turns ds (suc n) s = told_either (RowOrCell (RowsDue ds) s) (next 40 (first s)) _ (word WrongRow ending [] s)
    (told_after (RowOrCell (RowsDue ds) s) _ anywhere (read_row ds) (λ a. give (λ more. a ∷ more) (turns (next 40) (read_row ds) (word WrongRow ending []) n)) s (row_reads ds) (told_line ds s) (λ a w front e t.
    told_give (RowOrCell (RowsDue ds) s) (λ more. a ∷ more) (turns (next 40) (read_row ds) (word WrongRow ending []) n w)
    (told_weaker (RowOrCell (RowsDue ds) w) (RowOrCell (RowsDue ds) s)
    (further_on (RowsDue ds) (RowsDue ds) s front w e (λ d p due. record {
      rows = a ∷ due.rows;
      lines = front ++ due.lines;
      row = due.row;
      parts = ap (λ z. front ++ z) due.parts ∙ sym (append_assoc front due.lines (opening ++ due.row));
      filled = (front, due.lines, refl, t, due.filled);
      due = due.due;
    }))
    _ (told_turns ds n w))))
    (told_row (RowsDue ds) s (word WrongRow ending [] s) (only_word WrongRow ending [] s))

pub only_finish : {A : Type 0} (rule : Rule) (a : A) → Only rule (finish rule a)
only_finish rule a [] = tt
only_finish rule a (b ∷ s) = refl

pub told_body : (ds : List Domain) (s : List ℕ) → Told (RowOrCell (RowsDue ds) s) (read_body ds s)
told_body ds s = told_after (RowOrCell (RowsDue ds) s) _ anywhere (read_rows ds) (λ rows. finish WrongRow rows) s (rows_reads ds) (told_turns ds (length s) s)
    (λ rows w front e t. told_row (RowsDue ds) s (finish WrongRow rows w) (only_finish WrongRow rows w))

-- Back again: where a value is due, what its reader refuses is refused.
pub due_leads : (ds : List Domain) (d : Domain) (p t : List ℕ) → Due comma ds d p → next_digit (first (p ++ t)) ≡ false
due_leads [] d p t h = absurd h
due_leads (e ∷ ds) d p t (inl h) = ap (λ z. next_digit (first (z ++ t))) h.1
due_leads (e ∷ ds) d p t (inr h) = ap (λ z. next_digit (first (z ++ t))) h.3

pub entries_due : (before : List ℕ) (ds : List Domain) (d : Domain) (p t : List ℕ) (rule : Rule) (r : List ℕ) → Due before ds d p → read_value d t ≡ refused rule r →
    entries WrongRow read_value before ds (p ++ t) ≡ refused rule r
entries_due before [] d p t rule r h v = absurd h
entries_due before (e ∷ ds) d p t rule r (inl h) v =
    ap (λ z. entries WrongRow read_value before (e ∷ ds) (z ++ t)) h.1
    ∙ (ap (λ x. bind x (λ (_ : Unit {0}). after (read_value e) (λ a. give (λ more. a ∷ more) (entries WrongRow read_value comma ds)))) ((word_reads WrongRow before tt).complete tt before t (refl, refl) tt)
    ∙ ap (λ x. bind x (λ a. give (λ more. a ∷ more) (entries WrongRow read_value comma ds))) (subst (λ z. read_value z t ≡ refused rule r) h.0 v))
entries_due before (e ∷ ds) d p t rule r (inr (a, entry, rest, parts, text, due)) v =
    ap (entries WrongRow read_value before (e ∷ ds)) (ap (λ z. z ++ t) parts ∙ (append_assoc before (entry ++ rest) t ∙ ap (λ z. before ++ z) (append_assoc entry rest t)))
    ∙ (ap (λ x. bind x (λ (_ : Unit {0}). after (read_value e) (λ a. give (λ more. a ∷ more) (entries WrongRow read_value comma ds)))) ((word_reads WrongRow before tt).complete tt before (entry ++ (rest ++ t)) (refl, refl) tt)
    ∙ (ap (λ x. bind x (λ a. give (λ more. a ∷ more) (entries WrongRow read_value comma ds))) ((value_reads e).complete a entry (rest ++ t) text (leaves_before e (first (rest ++ t)) (due_leads ds d rest t due)))
    ∙ ap (λ x. bind x (λ more q. taken (a ∷ more) q)) (entries_due comma ds d rest t rule r due v)))

pub row_due : (ds : List Domain) (d : Domain) (p t : List ℕ) (rule : Rule) (r : List ℕ) → Due [] ds d p → read_value d t ≡ refused rule r →
    read_row ds (opening ++ (p ++ t)) ≡ refused rule r
row_due ds d p t rule r h v = entries_due [] ds d p t rule r h v

-- a row's line is not empty, and begins with `(`
pub row_leads : (ds : List Domain) → Leads (RowText ds) (next 40) true
row_leads ds = after_leads (next 40) true (word_leads 40 [] tt (next 40) true refl)

pub row_some : (ds : List Domain) (vs : List Value) (p : List ℕ) → RowText ds vs p → 0 < length p
row_some ds vs [] t = absurd (true≢false (sym (row_leads ds vs [] [] t)))
row_some ds vs (b ∷ p) t = omega arith

pub turns_due : (ds : List Domain) (rows : List (List Value)) (lines row : List ℕ) (d : Domain) (t : List ℕ) (rule : Rule) (r : List ℕ) (n : ℕ) →
    Many (RowText ds) (Word [] []) rows lines → Due [] ds d row → read_value d t ≡ refused rule r → length (lines ++ (opening ++ (row ++ t))) ≤ n →
    turns (next 40) (read_row ds) (word WrongRow ending []) n (lines ++ (opening ++ (row ++ t))) ≡ refused rule r
turns_due ds [] lines row d t rule r zero m due v h = absurd (let long = ap (λ z. length (z ++ (opening ++ (row ++ t)))) m.1 in omega (arith, long))
turns_due ds [] lines row d t rule r (suc n) m due v h =
    ap (λ z. turns (next 40) (read_row ds) (word WrongRow ending []) (suc n) (z ++ (opening ++ (row ++ t)))) m.1
    ∙ ap (λ x. bind x (λ a. give (λ more. a ∷ more) (turns (next 40) (read_row ds) (word WrongRow ending []) n))) (row_due ds d row t rule r due v)
turns_due ds (vs ∷ rows) lines row d t rule r zero m due v h =
    absurd (let long = length-append m.0 m.1 in let whole = ap length m.2 in let more = length-append lines (opening ++ (row ++ t)) in omega (arith, long, whole, more, row_some ds vs m.0 m.3))
turns_due ds (vs ∷ rows) lines row d t rule r (suc n) m due v h =
    let rest : List ℕ = m.1 ++ (opening ++ (row ++ t)) in
    let parts : lines ++ (opening ++ (row ++ t)) ≡ m.0 ++ rest = ap (λ z. z ++ (opening ++ (row ++ t))) m.2 ∙ append_assoc m.0 m.1 (opening ++ (row ++ t)) in
    let shorter : length rest ≤ n = (let long = ap length parts ∙ length-append m.0 rest in omega (arith, long, h, row_some ds vs m.0 m.3)) in
    ap (turns (next 40) (read_row ds) (word WrongRow ending []) (suc n)) parts
    ∙ (ap (λ b. cond b (after (read_row ds) (λ a. give (λ more. a ∷ more) (turns (next 40) (read_row ds) (word WrongRow ending []) n)) (m.0 ++ rest)) (word WrongRow ending [] (m.0 ++ rest))) (row_leads ds vs m.0 rest m.3)
    ∙ (ap (λ x. bind x (λ a. give (λ more. a ∷ more) (turns (next 40) (read_row ds) (word WrongRow ending []) n))) ((row_reads ds).complete vs m.0 rest m.3 tt)
    ∙ ap (λ x. bind x (λ more q. taken (vs ∷ more) q)) (turns_due ds rows m.1 row d t rule r n m.4 due v shorter)))

pub table_due : (cs : List Column) (d : Domain) (p t : List ℕ) (rule : Rule) (r : List ℕ) → ValueDue cs d p → read_value d t ≡ refused rule r → read_table cs (p ++ t) ≡ refused rule r
table_due cs d p t rule r u v =
    let rest : List ℕ = u.lines ++ (opening ++ (u.row ++ t)) in
    let parts : p ++ t ≡ u.heading ++ rest = ap (λ z. z ++ t) u.parts ∙ (append_assoc u.heading (u.lines ++ (opening ++ u.row)) t ∙ ap (λ z. u.heading ++ z) (append_assoc u.lines (opening ++ u.row) t)) in
    ap (read_table cs) parts
    ∙ (ap (λ x. bind x (λ _. read_body (domains cs))) ((heading_reads cs).complete u.names u.heading rest u.headed tt)
    ∙ ap (λ x. bind x (λ rows. finish WrongRow rows)) (turns_due (domains cs) u.rows u.lines u.row d t rule r (length rest) u.filled u.due v (omega arith)))

-- What the reader of a value refuses, in words of the format.
abbrev pub read_behind : Domain → Value → Reader Value
read_behind d v s = cond (may_end d (first s)) (taken v []) (refused WrongCell s)

pub end_ends : (d : Domain) → may_end d None ≡ true
end_ends Integer = refl
end_ends String = refl
end_ends Boolean = refl

pub behind_reads : (d : Domain) (v : Value) → Reads (Behind d v) at_end (read_behind d v)
behind_reads d v = record { reads = λ s. go s (may_end d (first s)) refl; complete = whole }
  where
    go : (s : List ℕ) (x : Bool) → may_end d (first s) ≡ x → Outcome (Behind d v) at_end (read_behind d v) s (cond x (taken v []) (refused WrongCell s))
    go s true e = record { front = s; parts = sym (append-nil s); text = (refl, e); stops = refl }
    go s false e = record { front = []; parts = refl; rest = []; value = v; text = (refl, end_ends d); again = λ u h. ap (λ z. cond z (taken v []) (refused WrongCell u)) (ap (may_end d) h ∙ e) }

    whole : (w : Value) (p r : List ℕ) → Behind d v w p → at_end (first r) → read_behind d v (p ++ r) ≡ taken w r
    whole w p r t e = from_none (λ z. read_behind d v (p ++ z) ≡ taken w z)
        (ap (read_behind d v) (append-nil p) ∙ (ap (λ z. cond z (taken v []) (refused WrongCell p)) t.1 ∙ ap (λ z. taken z []) (sym t.0))) r e

pub begun_reads : (d : Domain) → Reads (BegunByValue d) at_end (after (read_value d) (read_behind d))
begun_reads d = after_reads _ _ (leaves d) at_end _ _ (value_reads d) (λ v p t. behind_reads d v) (λ v w p r t e. fits p r t.1 e)
  where
    fits : (p r : List ℕ) → may_end d (first p) ≡ true → at_end (first r) → leaves d (first (p ++ r))
    fits [] r h e = ap (may_end d) e ∙ end_ends d
    fits (b ∷ p) r h e = h

pub value_placed : (d : Domain) (t r : List ℕ) (rule : Rule) → read_value d t ≡ refused rule r → Placed (BegunByValue d) t r
value_placed d t r rule e = ((exact (BegunByValue d) _ (begun_reads d)).refuses t r).0 (rule, ap (λ x. bind x (read_behind d)) e)

pub placed_value : (d : Domain) (t r : List ℕ) → Placed (BegunByValue d) t r → read_value d t ≡ refused WrongCell r
placed_value d t r q = let f = ((exact (BegunByValue d) _ (begun_reads d)).refuses t r).1 q in go (read_value d t) ((value_reads d).reads t) (only_value d t) f.0 f.1
  where
    go : (x : Reading Value) → Outcome (ValueText d) (leaves d) (read_value d) t x → Told (λ other r. other ≡ WrongCell) x → (rule : Rule) → bind x (read_behind d) ≡ refused rule r → x ≡ refused WrongCell r
    go (taken v w) o h rule e = absurd (taken_not_refused (read_behind d v w) v rule [] r (ap (λ z. cond z (taken v []) (refused WrongCell w)) o.stops) e)
    go (refused other w) o h rule e = ap (λ z. refused z w) h ∙ ap (refused WrongCell) (ap left_of e)
      where
        left_of : Reading Value → List ℕ
        left_of (taken v q) = q
        left_of (refused other q) = q
