-- The rows of a table, one by one, and the whole text.
use Rattle.std.proofs.Common.{◌≡◌, ℕ, ◌+◌, ◌-◌, ◌<◌, ◌≤◌, true, false, cond, ltb, List, [], ◌∷◌, map, length, take, drop, Ok, Err, Result, sym, refl, ap, ◌∙◌, subst, ap₂, arith, length-append}
use Rattle.std.proofs.lemmas.List.{length-drop, take_all}
use Rattle.fault.specs.declared.rules.Fault.{Fault}
use Rattle.fault.specs.declared.rules.Rule.{Rule}
use Rattle.fault.specs.Limits.{text_bytes}
use Rattle.domain.specs.declared.Domain.{Domain}
use Rattle.schema.specs.declared.attributes.Attribute.{Attribute}
use Rattle.schema.specs.Columns.{Column, column_of}
use Rattle.texts.specs.Readers.{Reading, Reading.taken, Reading.refused, first, bind, after, word, finish}
use Rattle.fault.specs.declared.rules.Rule.TheVariants.{WrongRow}
use Rattle.texts.specs.Language.{Value, domains, ending, TableText}
use Rattle.texts.specs.Reading.{next, read_row, read_body, read_heading, read_table}
use Rattle.texts.specs.Promise.{Exact}
use Rattle.texts.specs.Layers.{TableLayer}
use Rattle.texts.proofs.Whole.{exact, taken_not_refused}
use Rattle.texts.proofs.Listings.{table_reads}
use Rattle.texts.proofs.Layers.{tables_by_layer}
use Rattle.texts.proofs.Turns.{row_shortens, body_on, body_off}
use Rattle.listing.specs.declared.reader.Reader.{Reader}
use Rattle.listing.specs.Seen.{rest, seen, AtFault, fault_at, passed, domains_of}
use Rattle.listing.specs.Whole.{too_long, counted, replied, table_reply, TellsTable}

-- so many rows before those that are left
abbrev pub more_than : ℕ → Reading (List (List Value)) → Reading ℕ
more_than n x = bind x (λ rows r. taken (n + length rows) r)

pub none_before : (x : Reading (List (List Value))) → more_than 0 x ≡ counted x
none_before (taken rows r) = let same : 0 + length rows ≡ length rows = omega arith in ap (λ n. taken n r) same
none_before (refused rule r) = refl

-- the rows that are left, read from s, and the n before them give the whole answer x
module _ (ds : List Domain) (n : ℕ) (s : List ℕ) (x : Reading ℕ) (whole : more_than n (read_body ds s) ≡ x) where
  turn : next 40 (first s) ≡ true → bind (read_row ds s) (λ _ q. more_than (n + 1) (read_body ds q)) ≡ x
  turn h = go (read_row ds s) ∙ (ap (more_than n) (sym (body_on ds s h)) ∙ whole)
    where
      inner : (row : List Value) (y : Reading (List (List Value))) → more_than (n + 1) y ≡ more_than n (bind y (λ rows r. taken (row ∷ rows) r))
      inner row (taken rows r) = let same : n + 1 + length rows ≡ n + length (row ∷ rows) = omega arith in ap (λ k. taken k r) same
      inner row (refused rule r) = refl

      go : (y : Reading (List Value)) → bind y (λ _ q. more_than (n + 1) (read_body ds q)) ≡ more_than n (bind y (λ row q. bind (read_body ds q) (λ rows r. taken (row ∷ rows) r)))
      go (taken row q) = inner row (read_body ds q)
      go (refused rule r) = refl

  pub another_row : (vs : List Value) (r : List ℕ) → next 40 (first s) ≡ true → taken vs r ≡ read_row ds s → more_than (n + 1) (read_body ds r) ≡ x
  another_row vs r h e = ap (λ y. bind y (λ _ q. more_than (n + 1) (read_body ds q))) e ∙ turn h

  pub wrong_row : (rule : Rule) (r : List ℕ) → next 40 (first s) ≡ true → refused rule r ≡ read_row ds s → refused rule r ≡ x
  wrong_row rule r h e = ap (λ y. bind y (λ _ q. more_than (n + 1) (read_body ds q))) e ∙ turn h

  ended : next 40 (first s) ≡ false → bind (after (word WrongRow ending (tt {0})) (λ (_ : Unit {0}). finish WrongRow tt) s) (λ (_ : Unit {0}) r. taken n r) ≡ x
  ended h = go (after (word WrongRow ending (tt {0})) (λ (_ : Unit {0}). finish WrongRow tt) s) ∙ (ap (more_than n) (sym (body_off ds s h)) ∙ whole)
    where
      go : (y : Reading (Unit {0})) → bind y (λ (_ : Unit {0}) r. taken n r) ≡ more_than n (bind y (λ (_ : Unit {0}) r. taken [] r))
      go (taken a r) = let same : n ≡ n + 0 = omega arith in ap (λ k. taken k r) same
      go (refused rule r) = refl

  pub right_end : (r : List ℕ) → next 40 (first s) ≡ false → taken (tt {0}) r ≡ after (word WrongRow ending (tt {0})) (λ (_ : Unit {0}). finish WrongRow (tt {0})) s → taken n r ≡ x
  right_end r h e = ap (λ y. bind y (λ (_ : Unit {0}) r. taken n r)) e ∙ ended h

  pub wrong_end : (rule : Rule) (r : List ℕ) → next 40 (first s) ≡ false → refused rule r ≡ after (word WrongRow ending (tt {0})) (λ (_ : Unit {0}). finish WrongRow (tt {0})) s → refused rule r ≡ x
  wrong_end rule r h e = ap (λ y. bind y (λ (_ : Unit {0}) r. taken n r)) e ∙ ended h

-- a row moves the reader on
pub moved : (ds : List Domain) (text u : List ℕ) (at to : ℕ) (vs : List Value) → u ≡ text → to ≤ length u → at ≤ length text → taken vs (drop to u) ≡ read_row ds (drop at text) → at < to
moved ds text u at to vs same a b e =
    let less = row_shortens ds (drop at text) vs (drop to u) e in
    let l = length-drop at text in let m = length-drop to u in let n = ap length same in
    omega (arith, less, l, m, n, a, b)

-- the domains of a schema's columns
pub domains_are : (script : List ℕ) (all : List Attribute) → domains_of all ≡ domains (map (column_of script) all)
domains_are script [] = refl
domains_are script (a ∷ all) = ap (λ ds. a.domain ∷ ds) (domains_are script all)

-- the heading, then the rows
module _ (cs : List Column) (s : List ℕ) where
  pub table_turn : bind (passed (read_heading cs s)) (λ (_ : Unit {0}) q. counted (read_body (domains cs) q)) ≡ counted (read_table cs s)
  table_turn = go (read_heading cs s)
    where
      go : (y : Reading (List (Unit {0}))) → bind (passed y) (λ (_ : Unit {0}) q. counted (read_body (domains cs) q)) ≡ counted (bind y (λ _. read_body (domains cs)))
      go (taken us q) = refl
      go (refused rule r) = refl

-- the reply of a whole text, from what the reader says and where it stands
reply_at : (cs : List Column) (s : Reader) (r : Result ℕ Fault) → seen s r ≡ counted (read_table cs s.text.now) → AtFault s r → r ≡ table_reply cs s.text.now
reply_at cs s r e p =
    let fits : ltb text_bytes (length s.text.now) ≡ false = grind (arith, s.short) in
    go r e p ∙ sym (ap (λ b. cond b (Err too_long) (replied s.text.now (counted (read_table cs s.text.now)))) fits)
  where
    go : (r : Result ℕ Fault) → seen s r ≡ counted (read_table cs s.text.now) → AtFault s r → r ≡ replied s.text.now (counted (read_table cs s.text.now))
    go (Ok n) e p = ap (replied s.text.now) e
    go (Err f) e p = ap Err (p ∙ (let back : s.at ≡ length s.text.now - length (drop s.at s.text.now) = (let l = length-drop s.at s.text.now in omega (arith, l, s.within)) in ap (fault_at f.rule s.text.now) back)) ∙ ap (replied s.text.now) e

pub reply_is : (cs : List Column) (text : List ℕ) (start s : Reader) (r : Result ℕ Fault) → length text ≤ text_bytes → start.text.now ≡ take text_bytes text → start.at ≡ 0 →
    s.text.now ≡ start.text.now → seen s r ≡ counted (read_table cs (rest start)) → AtFault s r → r ≡ table_reply cs text
reply_is cs text start s r short whole zero same e p =
    let all : s.text.now ≡ text = same ∙ (whole ∙ take_all text_bytes text short) in
    let from : rest start ≡ s.text.now = ap (λ n. drop n start.text.now) zero ∙ sym same in
    reply_at cs s r (e ∙ ap (λ z. counted (read_table cs z)) from) p ∙ ap (table_reply cs) all

-- a text that is too long
pub reply_long : (cs : List Column) (text : List ℕ) (f : Fault) → text_bytes < length text → f ≡ too_long → Err f ≡ table_reply cs text
reply_long cs text f long e =
    let over : ltb text_bytes (length text) ≡ true = grind (arith, long) in
    ap Err e ∙ sym (ap (λ b. cond b (Err too_long) (replied text (counted (read_table cs text)))) over)

abbrev told : Result ℕ Fault → Type 0
told (Ok n) = Unit {0}
told (Err f) = ⊥

ok_not_err : (n : ℕ) (f : Fault) → ◌≡◌ {A = Result ℕ Fault} (Ok n) (Err f) → ⊥
ok_not_err n f h = subst told h tt

abbrev number_of : ℕ → Result ℕ Fault → ℕ
number_of d (Ok n) = n
number_of d (Err f) = d

abbrev fault_of : Fault → Result ℕ Fault → Fault
fault_of d (Ok n) = d
fault_of d (Err f) = f

-- what the reply tells
pub tells_table : (cs : List Column) (text : List ℕ) (r : Result ℕ Fault) → length text ≤ text_bytes → r ≡ table_reply cs text → TellsTable cs text r
tells_table cs text r short e =
    let fits : ltb text_bytes (length text) ≡ false = grind (arith, short) in
    let is : r ≡ replied text (counted (read_table cs text)) = e ∙ ap (λ b. cond b (Err too_long) (replied text (counted (read_table cs text)))) fits in
    go (read_table cs text) refl is
  where
    x : Exact (TableText cs) (read_table cs)
    x = exact (TableText cs) (read_table cs) (table_reads cs)

    go : (y : Reading (List (List Value))) → read_table cs text ≡ y → r ≡ replied text (counted y) → TellsTable cs text r
    go (taken rows q) h i =
        let all : read_table cs text ≡ taken rows [] = h ∙ ap (taken rows) (x.whole text rows q h) in
        record {
          accepted = λ n. (
            (λ e. (rows, (x.accepts text rows).0 all, ap (number_of 0) (sym e ∙ i))),
            (λ y. i ∙ ap (λ z. replied text (counted z)) (sym all ∙ (x.accepts text y.0).1 y.1) ∙ ap Ok (sym y.2)),
          );
          refuses = λ f e. absurd (ok_not_err (length rows) f (sym i ∙ e));
        }
    go (refused rule q) h i =
        let placed = (x.refuses text q).0 (rule, h) in
        let far : length placed.0 ≡ length text - length q = (let long = ap length placed.1 ∙ length-append placed.0 q in omega (arith, long)) in
        record {
          accepted = λ n. (
            (λ e. absurd (ok_not_err n _ (sym e ∙ i))),
            (λ y. absurd (taken_not_refused (read_table cs text) y.0 rule [] q ((x.accepts text y.0).1 y.1) h)),
          );
          refuses = λ f e.
              let is : fault_at rule text (length text - length q) ≡ f = ap (fault_of f) (sym i ∙ e) in
              let same : rule ≡ f.rule = ap (λ z. z.rule) is in (
                placed.0,
                q,
                placed.1,
                placed,
                sym is ∙ ap₂ (λ z n. fault_at z text n) same (sym far),
                subst (TableLayer cs text placed.0 q) same (tables_by_layer cs text placed.0 q rule h placed.1),
              );
        }

-- the heading of a schema, then the rows
module _ (script : List ℕ) (all : List Attribute) (s : List ℕ) where
  pub heading_right : (u : Unit {0}) (q : List ℕ) → taken u q ≡ passed (read_heading (map (column_of script) all) s) → counted (read_body (domains_of all) q) ≡ counted (read_table (map (column_of script) all) s)
  heading_right u q e =
      ap (λ ds. counted (read_body ds q)) (domains_are script all)
      ∙ (ap (λ y. bind y (λ (_ : Unit {0}) q. counted (read_body (domains (map (column_of script) all)) q))) e ∙ table_turn (map (column_of script) all) s)

  pub heading_wrong : (rule : Rule) (r : List ℕ) → refused rule r ≡ passed (read_heading (map (column_of script) all) s) → refused rule r ≡ counted (read_table (map (column_of script) all) s)
  heading_wrong rule r e = ap (λ y. bind y (λ (_ : Unit {0}) q. counted (read_body (domains (map (column_of script) all)) q))) e ∙ table_turn (map (column_of script) all) s
