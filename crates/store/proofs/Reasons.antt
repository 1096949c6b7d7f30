-- A call is refused exactly for the reasons that are listed, and a refusal changes nothing.
use Rattle.std.proofs.Common.{◌≡◌, ℕ, zero, suc, ◌+◌, ◌<◌, Bool, true, false, ◌⊎◌, List, [], ◌∷◌, length, get_or, Ok, Err, sym, refl, ap, ◌∙◌, subst, inl, inr, ⊎_elim, arith}
use Rattle.std.proofs.lemmas.Bool.{cases_lt, cases_Bool, false≢true, or_left, or_right, or_cases}
use Rattle.fault.specs.declared.rules.Rule.{Rule}
use Rattle.fault.specs.declared.rules.Rule.TheVariants.{NoCellsLeft, TooManyTables, WidthOutside, NoSuchPlace}
use Rattle.fault.specs.Limits as limits
use Rattle.store.specs.Meaning.{Row, Store, table_count, table_at, last_table, cells_left, row_for, repeats, has, same_row, refused_by}
use Rattle.store.specs.Calls.{Answered, answer, after, accepted_answer, number_answer, value_answer}
use Rattle.store.specs.Laws.{Among, Refuses, too_many, too_narrow, too_wide, none_to_add_to, none_to_drop, none_earlier, no_cells, no_table_wide, no_table_long, no_table, no_row, no_column, RefusedRightly}
use Rattle.store.specs.declared.calls.Call.{Call}
use Rattle.store.specs.declared.calls.Call.TheVariants.{Open, Add, Drop, Settle, Capacity, CellsLeft, TableCount, Width, RowCount, Cell}
use Rattle.store.proofs.Rows.{same_row_true, same_row_refl}
use Rattle.store.proofs.Cases.{open_many, open_outside, open_accepted, add_absent, add_repeat, add_full, add_new, drop_absent, drop_accepted, settle_absent, settle_accepted}
use Rattle.store.proofs.Cases.{width_absent, width_told, rows_absent, rows_told, cell_absent, cell_told}

-- a row that the test finds stands among the rows
pub found_among : (rows : List Row) (r : Row) → has rows r ≡ true → Among r rows
found_among [] r h = absurd (false≢true h)
found_among (x ∷ rows) r h = ⊎_elim (λ e. (0, omega arith, same_row_true x r e)) (λ e. later (found_among rows r e)) (or_cases (same_row x r) (has rows r) h)
  where
    later : Among r rows → Among r (x ∷ rows)
    later (i, l, e) = (suc i, omega arith, e)

-- and one that stands there is found
pub among_found : (rows : List Row) (r : Row) (i : ℕ) → i < length rows → get_or rows i [] ≡ r → has rows r ≡ true
among_found [] r i l e = absurd (omega arith)
among_found (x ∷ rows) r zero l e = or_left (same_row x r) (has rows r) (ap (λ y. same_row y r) e ∙ same_row_refl r)
among_found (x ∷ rows) r (suc i) l e = or_right (same_row x r) (has rows r) (among_found rows r i (omega arith) e)

not_found : (b : Bool) → (b ≡ true → ⊥) → b ≡ false
not_found true h = absurd (h refl)
not_found false h = refl

-- Every reason is met by its refusal, and nothing changes.
pub refused : (s : Store) (call : Call) (rule : Rule) → Refuses s call rule → (answer s call ≡ Err (refused_by rule)) × (after s call ≡ s)
refused s (Open w) _ (too_many h) = let p = open_many s w h in (ap accepted_answer (sym p.0), sym p.1)
refused s (Open w) _ (too_narrow h k) = let p = open_outside s w h (inl k) in (ap accepted_answer (sym p.0), sym p.1)
refused s (Open w) _ (too_wide h k) = let p = open_outside s w h (inr k) in (ap accepted_answer (sym p.0), sym p.1)
refused s (Add r) _ (none_to_add_to h) = let p = add_absent s r h in (ap accepted_answer (sym p.0), sym p.1)
refused s (Add r) _ (no_cells h k l) =
    let new : repeats s r ≡ false = not_found (repeats s r) (λ e. k (found_among (last_table s).rows (row_for s r) e)) in
    let p = add_full s r h new l in
    (ap accepted_answer (sym p.0), sym p.1)
refused s Drop _ (none_to_drop h) = let p = drop_absent s h in (ap accepted_answer (sym p.0), sym p.1)
refused s (Settle n) _ (none_earlier h) = let p = settle_absent s n h in (ap accepted_answer (sym p.0), sym p.1)
refused s Capacity rule h = elim h [ ]
refused s CellsLeft rule h = elim h [ ]
refused s TableCount rule h = elim h [ ]
refused s (Width t) _ (no_table_wide h) = (ap number_answer (sym (width_absent s t h)), refl)
refused s (RowCount t) _ (no_table_long h) = (ap number_answer (sym (rows_absent s t h)), refl)
refused s (Cell t r c) _ (no_table h) = (ap value_answer (sym (cell_absent s t r c (inl h))), refl)
refused s (Cell t r c) _ (no_row h) = (ap value_answer (sym (cell_absent s t r c (inr (inl h)))), refl)
refused s (Cell t r c) _ (no_column h) = (ap value_answer (sym (cell_absent s t r c (inr (inr h)))), refl)

-- Every refusal has its reason: a call has one, or its answer is none.

abbrev pub is_refused : Answered → Bool
is_refused (Ok a) = false
is_refused (Err f) = true

-- what a refusal names
abbrev pub rule_of : Answered → Rule
rule_of (Ok a) = NoSuchPlace
rule_of (Err f) = f.rule

-- a reason to refuse the call, or no refusal
abbrev pub Judged : Store → Call → Type 0
Judged s call = ((rule : Rule) × Refuses s call rule) ⊎ (is_refused (answer s call) ≡ false)

judge_open : (s : Store) (w : ℕ) → Judged s (Open w)
judge_open s w = ⊎_elim (λ h. ⊎_elim (λ k. inl (WidthOutside, too_narrow h k)) (λ k. ⊎_elim (λ l. inl (WidthOutside, too_wide h l)) (λ l. inr (ap (λ x. is_refused (accepted_answer x)) (sym (open_accepted s w h k l).0))) (cases_lt limits.columns w)) (cases_lt w 1)) (λ h. inl (TooManyTables, too_many h)) (cases_lt (table_count s) limits.tables)

judge_add : (s : Store) (r : Row) → Judged s (Add r)
judge_add s r = ⊎_elim some (λ h. inl (NoSuchPlace, none_to_add_to (omega arith))) (cases_lt 0 (table_count s))
  where
    taken : 0 < table_count s → repeats s r ≡ true → Judged s (Add r)
    taken h k = inr (ap (λ x. is_refused (accepted_answer x)) (sym (add_repeat s r h k).0))

    away : repeats s r ≡ false → Among (row_for s r) (last_table s).rows → ⊥
    away k (i, l, e) = false≢true (sym k ∙ among_found (last_table s).rows (row_for s r) i l e)

    new : 0 < table_count s → repeats s r ≡ false → Judged s (Add r)
    new h k = ⊎_elim (λ l. inl (NoCellsLeft, no_cells h (away k) l)) (λ l. inr (ap (λ x. is_refused (accepted_answer x)) (sym (add_new s r h k l).0))) (cases_lt (cells_left s) (last_table s).width)

    some : 0 < table_count s → Judged s (Add r)
    some h = ⊎_elim (taken h) (new h) (cases_Bool (repeats s r))

judge_cell : (s : Store) (t r c : ℕ) → Judged s (Cell t r c)
judge_cell s t r c = ⊎_elim (λ h. ⊎_elim (λ k. ⊎_elim (λ l. inr (ap (λ x. is_refused (value_answer x)) (sym (cell_told s t r c h k l)))) (λ l. inl (NoSuchPlace, no_column l)) (cases_lt c (table_at s t).width)) (λ k. inl (NoSuchPlace, no_row k)) (cases_lt r (length (table_at s t).rows))) (λ h. inl (NoSuchPlace, no_table h)) (cases_lt t (table_count s))

pub judge : (s : Store) (call : Call) → Judged s call
judge s (Open w) = judge_open s w
judge s (Add r) = judge_add s r
judge s Drop = ⊎_elim (λ h. inr (ap (λ x. is_refused (accepted_answer x)) (sym (drop_accepted s h).0))) (λ h. inl (NoSuchPlace, none_to_drop (omega arith))) (cases_lt 0 (table_count s))
judge s (Settle n) = ⊎_elim (λ h. inr (ap (λ x. is_refused (accepted_answer x)) (sym (settle_accepted s n h).0))) (λ h. inl (NoSuchPlace, none_earlier h)) (cases_lt (n + 1) (table_count s))
judge s Capacity = inr refl
judge s CellsLeft = inr refl
judge s TableCount = inr refl
judge s (Width t) = ⊎_elim (λ h. inr (ap (λ x. is_refused (number_answer x)) (sym (width_told s t h)))) (λ h. inl (NoSuchPlace, no_table_wide h)) (cases_lt t (table_count s))
judge s (RowCount t) = ⊎_elim (λ h. inr (ap (λ x. is_refused (number_answer x)) (sym (rows_told s t h)))) (λ h. inl (NoSuchPlace, no_table_long h)) (cases_lt t (table_count s))
judge s (Cell t r c) = judge_cell s t r c

pub refused_rightly : (s : Store) (call : Call) → RefusedRightly s call (answer s call) (after s call)
refused_rightly s call =
    record {
      reason = λ rule e. ⊎_elim (λ j. known rule e j) (λ n. absurd (false≢true (sym n ∙ ap is_refused e))) (judge s call);
      always = λ rule h. (refused s call rule h).0;
      nothing = λ rule h. (refused s call rule h).1;
    }
  where
    known : (rule : Rule) → answer s call ≡ Err (refused_by rule) → (why : Rule) × Refuses s call why → Refuses s call rule
    known rule e (why, h) = subst (λ x. Refuses s call x) (ap rule_of (sym (refused s call why h).0 ∙ e)) h

-- the same of an answer and a store that are those of the meaning
pub rightly : (s : Store) (call : Call) (a : Answered) (s' : Store) → a ≡ answer s call → s' ≡ after s call → RefusedRightly s call a s'
rightly s call a s' e f =
    record {
      reason = λ rule h. (refused_rightly s call).reason rule (sym e ∙ h);
      always = λ rule h. e ∙ (refused s call rule h).0;
      nothing = λ rule h. f ∙ (refused s call rule h).1;
    }
