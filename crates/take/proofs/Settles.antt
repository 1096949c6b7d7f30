-- A new table behind those of a store: what its rows come to, and what settling or dropping it leaves.
use Rattle.std.proofs.Common.{◌≡◌, ℕ, ◌+◌, ◌-◌, ◌*◌, ◌<◌, ◌≤◌, Bool, true, false, cond, ◌||◌, ltb, leb, List, [], ◌∷◌, ◌++◌, length, get_or, take, set, Ok, Err, sym, refl, ap, ◌∙◌, subst, ap₂, true≢false, mul-le-mul_right, add-mul, one-mul, arith}
use Rattle.std.proofs.lemmas.List.{take_all, take_at, set_at, get_or_push, length_push}
use Rattle.fault.specs.declared.rules.Rule.TheVariants.{NoCellsLeft, NoSuchPlace, TooManyTables, WidthOutside}
use Rattle.fault.specs.Limits as limits
use Rattle.store.specs.Meaning.{Row, Table, Store, size, used, cells_left, table_count, last_place, last_table, with_tables, no_table, has, insert, inserted, opened, has_table, row_for, repeats, fits, refused_by, accepted, add_reply, added, dropped, settled, good_width, open_reply, open_after, leaves, settle_reply, settle_after, drop_reply, drop_after}
use Rattle.take.specs.Taking.{insert_all, Filled, add_all, replaced, ready}

-- the store with one table more
abbrev pub holding : Store → ℕ → List Row → Store
holding s w rows = with_tables s (s.tables ++ (record { width = w; rows = rows } ∷ []))

-- every row has so many cells
abbrev pub AllWide : ℕ → List Row → Type 0
AllWide w [] = Unit {0}
AllWide w (r ∷ rows) = (length r ≡ w) × AllWide w rows

used_more : (ts : List Table) (t : Table) → used (ts ++ (t ∷ [])) ≡ used ts + size t
used_more [] t = omega arith
used_more (x ∷ ts) t = let rest = used_more ts t in omega (arith, rest)

module _ (s : Store) (w : ℕ) (rows : List Row) where
  abbrev new : Table
  new = record { width = w; rows = rows }

  count : table_count (holding s w rows) ≡ length s.tables + 1
  count = length_push s.tables new

  place : last_place (holding s w rows) ≡ length s.tables
  place = let n = count in omega (arith, n)

  pub last_new : last_table (holding s w rows) ≡ new
  last_new = ap (λ n. get_or (s.tables ++ (new ∷ [])) n no_table) place ∙ get_or_push s.tables new no_table (length s.tables) refl

  left : cells_left (holding s w rows) ≡ s.capacity - (used s.tables + length rows * w)
  left = ap (λ n. s.capacity - n) (used_more s.tables new)

  some : has_table (holding s w rows) ≡ true
  some = let n = count in grind (arith, n)

  pub dropped_new : dropped (holding s w rows) ≡ with_tables s s.tables
  dropped_new = ap (with_tables s) (ap (λ n. take n (s.tables ++ (new ∷ []))) place ∙ take_at s.tables (new ∷ []) (length s.tables) refl)

  pub settled_new : (n : ℕ) → settled (holding s w rows) n ≡ replaced s n new
  settled_new n = ap₂ (λ ts t. with_tables s (set ts n t)) (ap (λ k. take k (s.tables ++ (new ∷ []))) place ∙ take_at s.tables (new ∷ []) (length s.tables) refl) last_new

  module _ (r : Row) (wide : length r ≡ w) where
    row_is : row_for (holding s w rows) r ≡ r
    row_is = ap (λ t. take t.width r) last_new ∙ take_all w r (omega (arith, wide))

    pub accepts : accepted (add_reply (holding s w rows) r) ≡ (has rows r || leb w (cells_left (holding s w rows)))
    accepts =
        ap (λ b. accepted (cond b (cond (repeats (holding s w rows) r || fits (holding s w rows)) (Ok tt) (Err (refused_by NoCellsLeft))) (Err (refused_by NoSuchPlace)))) some
        ∙ (go (repeats (holding s w rows) r || fits (holding s w rows))
        ∙ ap₂ (λ x y. x || y) (ap₂ (λ t x. has t.rows x) last_new row_is) (ap (λ t. leb t.width (cells_left (holding s w rows))) last_new))
      where
        go : (b : Bool) → accepted (cond b (Ok tt) (Err (refused_by NoCellsLeft))) ≡ b
        go true = refl
        go false = refl

    pub adds : added (holding s w rows) r ≡ holding s w (insert rows r)
    adds = ap (with_tables s)
        (ap₂ (λ n t. set (s.tables ++ (new ∷ [])) n t) place (ap₂ (λ t x. inserted t x) last_new row_is)
        ∙ set_at s.tables new [] (inserted new r) (length s.tables) refl)

-- rows that are inserted are never fewer
grows : (rows more : List Row) → length rows ≤ length (insert_all rows more)
grows rows [] = omega arith
grows rows (r ∷ more) = go (has rows r) (grows (insert rows r) more)
  where
    go : (b : Bool) → length (cond b rows (rows ++ (r ∷ []))) ≤ length (insert_all (cond b rows (rows ++ (r ∷ []))) more) → length rows ≤ length (insert_all (cond b rows (rows ++ (r ∷ []))) more)
    go true h = h
    go false h = let long = length_push rows r in omega (arith, h, long)

-- what adding comes to: all rows exactly if the different ones fit the cells left before
pub record Fills (s : Store) (w : ℕ) (all : List Row) (x : Filled) : Type 0 where
  pub fitting : x.whole ≡ leb (length all * w) (cells_left s)
  pub kept : List Row
  pub holds : x.store ≡ holding s w kept
  pub every : x.whole ≡ true → kept ≡ all

next_size : (rows : List Row) (r : Row) (w : ℕ) → length (rows ++ (r ∷ [])) * w ≡ length rows * w + w
next_size rows r w = ap (λ n. n * w) (length_push rows r) ∙ (add-mul (length rows) 1 w ∙ ap (λ n. length rows * w + n) (one-mul w))

-- room for one row more
room_for : (capacity used part w : ℕ) → leb w (capacity - (used + part)) ≡ true → part ≤ capacity - used → part + w ≤ capacity - used
room_for capacity used part w h k = let some : w ≤ capacity - (used + part) = grind (arith, h) in omega (arith, some, k)

-- no room for one row more, so none for all
no_room : (capacity used part w whole : ℕ) → leb w (capacity - (used + part)) ≡ false → part + w ≤ whole → false ≡ leb whole (capacity - used)
no_room capacity used part w whole h k = let less : capacity - (used + part) < w = grind (arith, h) in let over : capacity - used < whole = omega (arith, less, k) in grind (arith, over)

pub fills : (s : Store) (w : ℕ) (rows more : List Row) → AllWide w more → length rows * w ≤ cells_left s → Fills s w (insert_all rows more) (add_all (holding s w rows) more)
fills s w rows [] wide room = record { fitting = grind (arith, room); kept = rows; holds = refl; every = λ _. refl }
fills s w rows (r ∷ more) wide room =
    subst (Fills s w (insert_all (insert rows r) more))
    (sym (ap₂ (λ b t. cond b (add_all t more) (record { store = holding s w rows; whole = false })) (accepts s w rows r wide.0) (adds s w rows r wide.0)))
    (go (has rows r) (leb w (cells_left (holding s w rows))) refl refl (λ kept. fills s w kept more wide.1))
  where
    go : (b c : Bool) → has rows r ≡ b → leb w (cells_left (holding s w rows)) ≡ c →
        ((kept : List Row) → length kept * w ≤ cells_left s → Fills s w (insert_all kept more) (add_all (holding s w kept) more)) →
        Fills s w (insert_all (cond b rows (rows ++ (r ∷ []))) more) (cond (b || c) (add_all (holding s w (cond b rows (rows ++ (r ∷ [])))) more) (record { store = holding s w rows; whole = false }))
    go true c h k ih = ih rows room
    go false true h k ih = ih (rows ++ (r ∷ [])) (let b = next_size rows r w in let fit = room_for s.capacity (used s.tables) (length rows * w) w (ap (leb w) (sym (left s w rows)) ∙ k) room in omega (arith, b, fit))
    go false false h k ih =
        let a = left s w rows in
        let b = next_size rows r w in
        let more_rows = mul-le-mul_right w (grows (rows ++ (r ∷ [])) more) in
        record { fitting = no_room s.capacity (used s.tables) (length rows * w) w _ (ap (leb w) (sym a) ∙ k) (omega (arith, b, more_rows)); kept = rows; holds = refl; every = λ q. absurd (true≢false (sym q)) }

-- Whether a table can be taken: its width is a table's, it is there, and there is a place for one more.
module _ (s : Store) (n w : ℕ) (ok : ready s n w ≡ true) where
  pub is_there : n < table_count s
  is_there = grind (arith, ok)

  few : ltb (table_count s) limits.tables ≡ true
  few = grind (arith, ok)

  good : good_width w ≡ true
  good = grind (arith, ok)

  pub opens : open_reply s w ≡ Ok tt
  opens = ap (λ b. cond b (cond (good_width w) (Ok tt) (Err (refused_by WidthOutside))) (Err (refused_by TooManyTables))) few ∙ ap (λ b. cond b (Ok tt) (Err (refused_by WidthOutside))) good

  pub opened_is : open_after s w ≡ holding s w []
  opened_is = ap (λ r. leaves r (opened s w) s) opens

  module _ (all : List Row) (x : Filled) (f : Fills s w all x) where
    pub settles : x.whole ≡ true → (settle_reply x.store n ≡ Ok tt) × (settle_after x.store n ≡ replaced s n (record { width = w; rows = all })) × (leb (length all * w) (cells_left s) ≡ true)
    settles h =
        let held : x.store ≡ holding s w all = f.holds ∙ ap (holding s w) (f.every h) in
        let long = length_push s.tables (record { width = w; rows = all }) in
        let there = is_there in
        let fine : ltb (n + 1) (table_count (holding s w all)) ≡ true = grind (arith, long, there) in
        let reply : settle_reply (holding s w all) n ≡ Ok tt = ap (λ b. cond b (Ok tt) (Err (refused_by NoSuchPlace))) fine in (
          ap (λ z. settle_reply z n) held ∙ reply,
          ap (λ z. settle_after z n) held ∙ (ap (λ r. leaves r (settled (holding s w all) n) (holding s w all)) reply ∙ settled_new s w all n),
          sym f.fitting ∙ h,
        )

    pub drops : x.whole ≡ false → (drop_reply x.store ≡ Ok tt) × (drop_after x.store ≡ s) × (leb (length all * w) (cells_left s) ≡ false)
    drops h =
        let reply : drop_reply (holding s w f.kept) ≡ Ok tt = ap (λ b. cond b (Ok tt) (Err (refused_by NoSuchPlace))) (some s w f.kept) in (
          ap drop_reply f.holds ∙ reply,
          ap drop_after f.holds ∙ (ap (λ r. leaves r (dropped (holding s w f.kept)) (holding s w f.kept)) reply ∙ dropped_new s w f.kept),
          sym f.fitting ∙ h,
        )
