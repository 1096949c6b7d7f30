-- Rows into a store's last table.
use Rattle.std.proofs.Common.{◌≡◌, ℕ, ◌-◌, ◌<◌, ◌≤◌, Bool, true, false, cond, ◌||◌, List, [], ◌∷◌, map, length, get_or, take, set, ℤ, Ok, Err, Result, sym, refl, ap, ◌∙◌, ap₂, true≢false, arith}
use Rattle.std.proofs.lemmas.List.{take_all, take-map, length-take, length-set, get_or-set_same}
use Rattle.std.specs.Result.{IsErr, is_ok}
use Rattle.fault.specs.declared.rules.Rule.TheVariants.{NoCellsLeft, NoSuchPlace}
use Rattle.domain.specs.declared.Domain.{Domain}
use Rattle.store.specs.Meaning.{Row, Table, Store, last_place, last_table, with_tables, has, inserted, has_table, row_for, repeats, fits, add_reply, added, accepted, add_after, no_table, refused_by}
use Rattle.texts.specs.Language.{Value}
use Rattle.texts.specs.Readers.{Reading.taken, first}
use Rattle.texts.specs.Reading.{next, read_row, read_body}
use Rattle.listing.specs.declared.cell.Cell.{Cell}
use Rattle.listing.specs.Seen.{value_in, values_in}
use Rattle.pool.specs.Learning.{cell_of}
use Rattle.take.proofs.Turns.{rows_behind, no_more}
use Rattle.take.specs.Taking.{cell_rows, Filled, add_all}

-- what is left to read and to add gives the whole
pub record Left (ds : List Domain) (strings : List (List ℕ)) (s q : List ℕ) (w : ℕ) (store : Store) (x : Filled) : Type 0 where
  pub rows : List (List Value)
  pub reads : read_body ds s ≡ taken rows q
  pub adds : add_all store (cell_rows strings rows) ≡ x
  pub width : (last_table store).width ≡ w

-- an answer that is a refusal is not fine
pub refused_is : {A E : Type 0} (r : Result A E) → IsErr r → is_ok r ≡ false
refused_is (Ok a) h = absurd (true≢false (sym h))
refused_is (Err e) h = refl

-- A store is asked by the first cells of a row alone.

reply_short : (s : Store) (r t : Row) → row_for s r ≡ row_for s t → add_reply s r ≡ add_reply s t
reply_short s r t e = ap (λ x. cond (has_table s) (cond (has (last_table s).rows x || fits s) (Ok tt) (Err (refused_by NoCellsLeft))) (Err (refused_by NoSuchPlace))) e

added_short : (s : Store) (r t : Row) → row_for s r ≡ row_for s t → added s r ≡ added s t
added_short s r t e = ap (λ x. with_tables s (set s.tables (last_place s) (inserted (last_table s) x))) e

accepted_has : (s : Store) (r : Row) → accepted (add_reply s r) ≡ true → has_table s ≡ true
accepted_has s r h = go (has_table s) h
  where
    go : (b : Bool) → accepted (cond b (cond (repeats s r || fits s) (Ok tt) (Err (refused_by NoCellsLeft))) (Err (refused_by NoSuchPlace))) ≡ true → b ≡ true
    go true k = refl
    go false k = k

-- the width of the last table stays
added_width : (s : Store) (r : Row) → has_table s ≡ true → (last_table (added s r)).width ≡ (last_table s).width
added_width s r h =
    let x : Table = inserted (last_table s) (row_for s r) in
    let count : length (set s.tables (last_place s) x) ≡ length s.tables = length-set s.tables (last_place s) x in
    let place : length (set s.tables (last_place s) x) - 1 ≡ last_place s = ap (λ n. n - 1) count in
    let there : last_place s < length s.tables = grind (arith, h) in
    ap (λ n. (get_or (set s.tables (last_place s) x) n no_table).width) place ∙ ap (λ t. t.width) (get_or-set_same s.tables (last_place s) x no_table there)

map_map : {A B D : Type 0} (f : B → D) (g : A → B) (xs : List A) → map (λ x. f (g x)) xs ≡ map f (map g xs)
map_map f g [] = refl
map_map f g (x ∷ xs) = ap (λ l. f (g x) ∷ l) (map_map f g xs)

-- the first cells of the row that is added are the row's values
pub row_cells : (strings : List (List ℕ)) (text u : List ℕ) (cells : List Cell) (w n : ℕ) → u ≡ text → w ≡ n →
    take w (map (λ c. cell_of strings (value_in text c)) cells) ≡ take w (map (cell_of strings) (values_in n u cells))
row_cells strings text u cells w n e h =
    let row : List ℤ = map (cell_of strings) (values_in n u cells) in
    let same : take w (map (λ c. cell_of strings (value_in text c)) cells) ≡ row =
    take-map (λ c. cell_of strings (value_in text c)) w cells ∙ (map_map (cell_of strings) (value_in text) (take w cells) ∙ ap₂ (λ k t. map (cell_of strings) (map (value_in t) (take k cells))) h (sym e)) in
    let short : length row ≤ w = (let a = ap length (sym same) in let b = length-take w (map (λ c. cell_of strings (value_in text c)) cells) in omega (arith, a, b)) in
    same ∙ sym (take_all w row short)

-- A turn: a row is read, and asked of the store.
module _ (ds : List Domain) (strings : List (List ℕ)) (s q : List ℕ) (w : ℕ) (m : Store) (x : Filled) (l : Left ds strings s q w m x) where
  module _ (vs : List Value) (r : List ℕ) (row : Row) (m' : Store) (another : next 40 (first s) ≡ true) (read : taken vs r ≡ read_row ds s)
      (cells : take (last_table m).width row ≡ take (last_table m).width (map (cell_of strings) vs)) (after : m' ≡ add_after m row) where
    adds_row : cond (accepted (add_reply m row)) (add_all (added m row) (cell_rows strings (rows_behind ds s l.rows q vs r another l.reads read).0)) (record { store = m; whole = false }) ≡ x
    adds_row =
        let b = rows_behind ds s l.rows q vs r another l.reads read in
        ap₂ (λ a t. cond (accepted a) (add_all t (cell_rows strings b.0)) (record { store = m; whole = false })) (reply_short m row (map (cell_of strings) vs) cells) (added_short m row (map (cell_of strings) vs) cells)
        ∙ (ap (λ rows. add_all m (cell_rows strings rows)) (sym b.1) ∙ l.adds)

    pub fill_on : accepted (add_reply m row) ≡ true → Left ds strings r q w m' x
    fill_on ok =
        let b = rows_behind ds s l.rows q vs r another l.reads read in
        let now : m' ≡ added m row = after ∙ ap (λ z. cond z (added m row) m) ok in
        record {
          rows = b.0;
          reads = b.2;
          adds = ap (λ t. add_all t (cell_rows strings b.0)) now ∙ (sym (ap (λ z. cond z (add_all (added m row) (cell_rows strings b.0)) (record { store = m; whole = false })) ok) ∙ adds_row);
          width = ap (λ t. (last_table t).width) now ∙ (added_width m row (accepted_has m row ok) ∙ l.width);
        }

    pub fill_stop : accepted (add_reply m row) ≡ false → (x.whole ≡ false) × (m' ≡ x.store)
    fill_stop bad =
        let is : record { store = m; whole = false } ≡ x = sym (ap (λ z. cond z (add_all (added m row) (cell_rows strings (rows_behind ds s l.rows q vs r another l.reads read).0)) (record { store = m; whole = false })) bad) ∙ adds_row in
        (sym (ap (λ f. f.whole) is), (after ∙ ap (λ z. cond z (added m row) m) bad) ∙ ap (λ f. f.store) is)

  pub fill_end : next 40 (first s) ≡ false → (x.whole ≡ true) × (m ≡ x.store)
  fill_end h =
      let is : record { store = m; whole = true } ≡ x = ap (λ rows. add_all m (cell_rows strings rows)) (sym (no_more ds s l.rows q h l.reads)) ∙ l.adds in
      (sym (ap (λ f. f.whole) is), ap (λ f. f.store) is)
