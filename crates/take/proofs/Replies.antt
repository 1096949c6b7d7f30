-- The reply to a text and the store afterwards, refusal by refusal in their order.
use Rattle.std.proofs.Common.{◌≡◌, ℕ, ◌<◌, ◌≤◌, Bool, true, false, cond, ltb, List, [], length, Ok, Err, Result, sym, refl, ap, ◌∙◌, subst, ap₂, arith}
use Rattle.std.specs.Result.{is_err}
use Rattle.fault.specs.declared.rules.Fault.{Fault}
use Rattle.fault.specs.declared.rules.Rule.TheVariants.{TooManyStrings}
use Rattle.fault.specs.Limits.{text_bytes}
use Rattle.schema.specs.Columns.{Column}
use Rattle.store.specs.Meaning.{Store}
use Rattle.texts.specs.Language.{Value, TableText}
use Rattle.texts.specs.Readers.{Reading, Reading.taken, Reading.refused}
use Rattle.texts.specs.Reading.{read_table}
use Rattle.texts.proofs.Whole.{exact}
use Rattle.texts.proofs.Listings.{table_reads}
use Rattle.listing.specs.Whole.{too_long, replied}
use Rattle.pool.specs.Learning.{Learned, learn_rows}
use Rattle.take.specs.Taking.{table_rows, of_supply, ready, disorder, fits_reply, fits_after, rows_reply, learnt, with_learned, take_read, take_reply, read_after, take_after}

abbrev told : Result Learned Fault → Type 0
told (Ok l) = Unit {0}
told (Err f) = ⊥

abbrev learned_of : Learned → Result Learned Fault → Learned
learned_of d (Ok l) = l
learned_of d (Err f) = d

module _ (cs : List Column) (text : List ℕ) (known : List (List ℕ)) (l0 : Learned) (n w : ℕ) (s : Store) where
  -- the text is too long
  pub long : text_bytes < length text → (Err too_long ≡ take_reply cs text known l0 n w s) × (s ≡ take_after cs text known l0 n w s)
  long h =
      let over : ltb text_bytes (length text) ≡ true = grind (arith, h) in (
        sym (ap (λ b. cond b (Err too_long) (cond (ready s n w) (take_read text known l0 w s (read_table cs text)) (Err disorder))) over),
        sym (ap (λ b. cond b s (cond (ready s n w) (read_after known l0 n w s (read_table cs text)) s)) over),
      )

  module _ (short : length text ≤ text_bytes) where
    by_ready : (b : Bool) → ready s n w ≡ b →
        (take_reply cs text known l0 n w s ≡ cond b (take_read text known l0 w s (read_table cs text)) (Err disorder)) × (take_after cs text known l0 n w s ≡ cond b (read_after known l0 n w s (read_table cs text)) s)
    by_ready b h =
        let fine : ltb text_bytes (length text) ≡ false = grind (arith, short) in (
          ap₂ (λ c d. cond c (Err too_long) (cond d (take_read text known l0 w s (read_table cs text)) (Err disorder))) fine h,
          ap₂ (λ c d. cond c s (cond d (read_after known l0 n w s (read_table cs text)) s)) fine h,
        )

    -- the store is out of order
    pub unready : ready s n w ≡ false → (Err disorder ≡ take_reply cs text known l0 n w s) × (s ≡ take_after cs text known l0 n w s)
    unready h = (sym (by_ready false h).0, sym (by_ready false h).1)

    module _ (ok : ready s n w ≡ true) where
      -- the text is not right
      pub wrong : (f : Fault) (l : Learned) → Err f ≡ replied text (learnt known l0 (read_table cs text)) → (Err f ≡ take_reply cs text known l0 n w s) × (s ≡ take_after cs text known l0 n w s)
      wrong f l e =
          let both = go (read_table cs text) e in
          (both.0 ∙ sym (by_ready true ok).0, both.1 ∙ sym (by_ready true ok).1)
        where
          go : (x : Reading (List (List Value))) → Err f ≡ replied text (learnt known l0 x) → (Err f ≡ take_read text known l0 w s x) × (s ≡ read_after known l0 n w s x)
          go (taken rows r) h = absurd (subst told (sym h) tt)
          go (refused rule r) h = (h, refl)

      -- the text is right, and l is what was learned of it
      pub record Right (l : Learned) : Type 0 where
        pub rows : List (List Value)
        pub reads : read_table cs text ≡ taken rows []
        pub learned : l ≡ learn_rows known l0 rows

      pub right : (l : Learned) → Ok l ≡ replied text (learnt known l0 (read_table cs text)) → Right l
      right l e = go (read_table cs text) refl e
        where
          go : (x : Reading (List (List Value))) → read_table cs text ≡ x → Ok l ≡ replied text (learnt known l0 x) → Right l
          go (taken rows r) h k = record { rows = rows; reads = h ∙ ap (taken rows) ((exact (TableText cs) (read_table cs) (table_reads cs)).whole text rows r h); learned = ap (learned_of l) k }
          go (refused rule r) h k = absurd (subst told k tt)

      module _ (l : Learned) (t : Right l) where
        reply_is : take_reply cs text known l0 n w s ≡ with_learned (rows_reply l (table_rows known l t.rows) w s) l
        reply_is = (by_ready true ok).0 ∙ (ap (take_read text known l0 w s) t.reads ∙ ap (λ k. with_learned (rows_reply k (table_rows known k t.rows) w s) k) (sym t.learned))

        after_is : take_after cs text known l0 n w s ≡ cond (is_err l.room) s (fits_after (table_rows known l t.rows) w n s)
        after_is = (by_ready true ok).1 ∙ (ap (read_after known l0 n w s) t.reads ∙ ap (λ k. cond (is_err k.room) s (fits_after (table_rows known k t.rows) w n s)) (sym t.learned))

        -- too many strings
        pub too_many : (is_err l.room) ≡ true → (Err (of_supply TooManyStrings) ≡ take_reply cs text known l0 n w s) × (s ≡ take_after cs text known l0 n w s)
        too_many h = (
          sym (reply_is ∙ ap (λ b. with_learned (cond b (Err (of_supply TooManyStrings)) (fits_reply (table_rows known l t.rows) w s)) l) h),
          sym (after_is ∙ ap (λ b. cond b s (fits_after (table_rows known l t.rows) w n s)) h),
        )

        -- as the rows are taken
        pub as_rows : (is_err l.room) ≡ false → (r : Result (Unit {0}) Fault) (m : Store) → r ≡ fits_reply (table_rows known l t.rows) w s → m ≡ fits_after (table_rows known l t.rows) w n s →
            (with_learned r l ≡ take_reply cs text known l0 n w s) × (m ≡ take_after cs text known l0 n w s)
        as_rows h r m a b = (
          ap (λ x. with_learned x l) a ∙ sym (reply_is ∙ ap (λ c. with_learned (cond c (Err (of_supply TooManyStrings)) (fits_reply (table_rows known l t.rows) w s)) l) h),
          b ∙ sym (after_is ∙ ap (λ c. cond c s (fits_after (table_rows known l t.rows) w n s)) h),
        )
