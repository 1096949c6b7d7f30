-- Taking the rows of a right text: opened, filled, and then settled or dropped.
use Rattle.std.proofs.Common.{◌≡◌, ℕ, ◌≤◌, true, false, cond, List, [], map, length, take, drop, Ok, Err, Result, sym, ap, ◌∙◌, subst, ap₂, zero-mul, arith}
use Rattle.std.proofs.lemmas.List.{take_all}
use Rattle.fault.specs.declared.rules.Fault.{Fault}
use Rattle.fault.specs.declared.rules.Rule.TheVariants.{TooManyRows}
use Rattle.fault.specs.Limits.{text_bytes}
use Rattle.schema.specs.declared.attributes.Attribute.{Attribute}
use Rattle.schema.specs.Columns.{column_of}
use Rattle.store.specs.Meaning.{Row, Store, last_table, open_after, open_reply, settle_reply, settle_after, drop_reply, drop_after}
use Rattle.texts.specs.Language.{Value}
use Rattle.texts.specs.Readers.{Reading.taken}
use Rattle.texts.specs.Reading.{read_body, read_heading, read_table}
use Rattle.listing.specs.declared.reader.Reader.{Reader}
use Rattle.listing.specs.Seen.{rest, passed, domains_of}
use Rattle.listing.proofs.Tables.{domains_are}
use Rattle.take.specs.Taking.{insert_all, add_all, ready, replaced, of_supply, fits_reply, fits_after}
use Rattle.take.proofs.Settles.{AllWide, holding, last_new, Fills, fills, opens, opened_is, settles, drops}
use Rattle.take.proofs.Widths.{body_reads_rows}

-- a refusal is no acceptance
abbrev told : {A : Type 0} → Result A Fault → Type 0
told (Ok a) = Unit {0}
told (Err f) = ⊥

pub err_not_ok : {A : Type 0} (f : Fault) (a : A) → ◌≡◌ {A = Result A Fault} (Err f) (Ok a) → ⊥
err_not_ok f a e = subst told (sym e) tt

-- a new reader stands at the start of the text
pub starts : (r : Reader) (text : List ℕ) → length text ≤ text_bytes → r.text.now ≡ take text_bytes text → r.at ≡ 0 → rest r ≡ text
starts r text short e zero = ap₂ drop zero (e ∙ take_all text_bytes text short)

-- behind the heading of a right text a reader finds its rows
pub rows_follow : (script : List ℕ) (all : List Attribute) (text s : List ℕ) (rows : List (List Value)) (u : Unit {0}) (q : List ℕ) → s ≡ text →
    read_table (map (column_of script) all) text ≡ taken rows [] → taken u q ≡ passed (read_heading (map (column_of script) all) s) → read_body (domains_of all) q ≡ taken rows []
rows_follow script all text s rows u q same e h =
    ap (λ ds. read_body ds q) (domains_are script all) ∙ body_reads_rows (map (column_of script) all) text rows u q e (h ∙ ap (λ z. passed (read_heading (map (column_of script) all) z)) same)

module _ (m m1 : Store) (n v w : ℕ) (ok : ready m n w ≡ true) (wide : v ≡ w) (after : m1 ≡ open_after m v) where
  pub opened_now : m1 ≡ holding m w []
  opened_now = after ∙ (ap (open_after m) wide ∙ opened_is m n w ok)

  pub opens_now : open_reply m v ≡ Ok tt
  opens_now = ap (open_reply m) wide ∙ opens m n w ok

  pub width_now : (last_table m1).width ≡ w
  width_now = ap (λ s. (last_table s).width) opened_now ∙ ap (λ t. t.width) (last_new m w [])

  module _ (rows : List Row) (all : AllWide w rows) where
    filled : Fills m w (insert_all [] rows) (add_all m1 rows)
    filled = subst (λ s. Fills m w (insert_all [] rows) (add_all s rows)) (sym opened_now) (fills m w [] rows all (let z = zero-mul w in omega (arith, z)))

    pub settled_rows : (add_all m1 rows).whole ≡ true → (m2 m3 : Store) (r : Result (Unit {0}) Fault) → m2 ≡ (add_all m1 rows).store → r ≡ settle_reply m2 n → m3 ≡ settle_after m2 n →
        (r ≡ fits_reply (insert_all [] rows) w m) × (m3 ≡ fits_after (insert_all [] rows) w n m)
    settled_rows h m2 m3 r e a b =
        let s = settles m n w ok (insert_all [] rows) (add_all m1 rows) filled h in (
          a ∙ (ap (λ z. settle_reply z n) e ∙ (s.0 ∙ sym (ap (λ c. cond c (Ok tt) (Err (of_supply TooManyRows))) s.2))),
          b ∙ (ap (λ z. settle_after z n) e ∙ (s.1 ∙ sym (ap (λ c. cond c (replaced m n (record { width = w; rows = insert_all [] rows })) m) s.2))),
        )

    pub dropped_rows : (add_all m1 rows).whole ≡ false → (m2 m3 : Store) → m2 ≡ (add_all m1 rows).store → m3 ≡ drop_after m2 →
        (drop_reply m2 ≡ Ok tt) × (Err (of_supply TooManyRows) ≡ fits_reply (insert_all [] rows) w m) × (m3 ≡ fits_after (insert_all [] rows) w n m)
    dropped_rows h m2 m3 e b =
        let s = drops m n w ok (insert_all [] rows) (add_all m1 rows) filled h in (
          ap drop_reply e ∙ s.0,
          sym (ap (λ c. cond c (Ok tt) (Err (of_supply TooManyRows))) s.2),
          b ∙ (ap drop_after e ∙ (s.1 ∙ sym (ap (λ c. cond c (replaced m n (record { width = w; rows = insert_all [] rows })) m) s.2))),
        )
