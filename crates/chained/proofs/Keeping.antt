-- What always holds of the chained store's fields, and that each call keeps it. What the directory says of a run does the rest.
use Rattle.std.proofs.Common.{◌≡◌, ℕ, ◌+◌, ◌-◌, ◌*◌, ◌<◌, ◌≤◌, true, List, [], ◌∷◌, ◌++◌, length, take, drop, ℤ, Result, Ok, Err, sym, refl, ap, ◌∙◌, subst, ap₂, add-mul, one-mul, zero-mul, arith}
use Rattle.std.specs.List.{range_with_len}
use Rattle.std.proofs.lemmas.List.FromFn.{length-range_with_len}
use Rattle.std.proofs.lemmas.List.{take_at, drop_at, length-append, append_assoc, append-nil}
use Rattle.fault.specs.declared.rules.Fault.{Fault}
use Rattle.fault.specs.Limits.{columns, tables, cells}
use Rattle.store.specs.Meaning.{Row}
use Rattle.store.specs.Sound.{sound_tables}
use Rattle.directory.specs.Run.{extent, extent_of, decode}
use Rattle.directory.specs.Tables.{Opened}
use Rattle.directory.specs.declared.entry.Entry.{Entry}
use Rattle.directory.proofs.Keeping.{Held, held_open, held_drop, extent_open, extent_drop}
use Rattle.chained.specs.Chains.{walk, step, places, chains, gather, run, distinct, under, put, head_of, joined}
use Rattle.chained.proofs.Walks.{walk_counting, distinct_counting, under_counting, length_walk, length_gather, walk_add, gather_append}
use Rattle.chained.proofs.Writing.{cross, gather_added, length_put, under_append}
use Rattle.chained.proofs.Stretches.{Four, four, cross_append}
use Rattle.chained.proofs.Joining.{places_append, length_places, length_joined, join_chain, join_walk, join_places}

-- the facts, of fields that are plain lists and numbers
pub record Kept (c u f : ℕ) (es : List Entry) (cs : List ℤ) (ns : List ℕ) : Type 0 where
  pub sound : sound_tables (decode es (run es cs ns)) ≡ true
  pub full : u ≡ extent es
  pub within : u ≤ c
  pub small : c ≤ cells
  pub few : length es ≤ tables
  pub room : length cs ≡ c
  pub linked : length ns ≡ c
  pub apart : distinct (chains ns es (c - u) f) ≡ true
  pub inside : under c (chains ns es (c - u) f) ≡ true

-- the run has the cells of the entries
pub length_run : (es : List Entry) (cs : List ℤ) (ns : List ℕ) → length (run es cs ns) ≡ extent es
length_run es cs ns = length_gather cs (places ns es) ∙ length_places ns es

-- so the directory and the run stand for a store
pub held_kept : {c u f : ℕ} {es : List Entry} {cs : List ℤ} {ns : List ℕ} → Kept c u f es cs ns → Held c es (run es cs ns)
held_kept {c} {u} {f} {es} {cs} {ns} k =
    record {
      sound = k.sound;
      full = sym (length_run es cs ns);
      within = omega (arith, length_run es cs ns, k.full, k.within);
      small = k.small;
      few = k.few;
    }

-- and a directory that stands for a store over the run is kept, if its chains are
pub kept_from : (c u f : ℕ) (es : List Entry) (cs G : List ℤ) (ns T : List ℕ) → Held c es G → run es cs ns ≡ G → u ≡ extent es → length cs ≡ c → length ns ≡ c → chains ns es (c - u) f ≡ T → distinct T ≡ true → under c T ≡ true → Kept c u f es cs ns
kept_from c u f es cs G ns T h is full room linked same apart inside =
    record {
      sound = ap (λ x. sound_tables (decode es x)) is ∙ h.sound;
      full = full;
      within = omega (arith, full, h.full, h.within);
      small = h.small;
      few = h.few;
      room = room;
      linked = linked;
      apart = ap distinct same ∙ apart;
      inside = ap (under c) same ∙ inside;
    }

-- a new store
pub kept_new : (n : ℕ) (es : List Entry) (cs : List ℤ) (ns : List ℕ) → es ≡ [] → ns ≡ range_with_len 1 n → length cs ≡ n → n ≤ cells → Kept n 0 0 es cs ns
kept_new n es cs ns e is l small =
    let whole : n - 0 ≡ n = omega arith in
    let order : chains ns es (n - 0) 0 ≡ range_with_len 0 n = ap₂ (λ x k. chains ns x k 0) e whole ∙ ap (λ x. walk x n 0) is ∙ walk_counting n n 0 (omega arith) in
    record {
      sound = ap (λ x. sound_tables (decode x (run x cs ns))) e;
      full = sym (ap extent e);
      within = omega arith;
      small = small;
      few = omega (arith, ap length e);
      room = l;
      linked = ap length is ∙ length-range_with_len 1 n;
      apart = ap distinct order ∙ distinct_counting 0 n;
      inside = ap (under n) order ∙ under_counting n 0 n (omega arith);
    }

-- Open.

places_open : (ns : List ℕ) (es fs : List Entry) (w : ℕ) → fs ≡ es ++ record { first = 0; width = w; count = 0 } ∷ [] → places ns fs ≡ places ns es
places_open ns es fs w is =
    ap (places ns) is ∙ places_append ns es (record { first = 0; width = w; count = 0 } ∷ []) ∙ ap (λ n. places ns es ++ (walk ns n 0 ++ [])) (zero-mul w) ∙ append-nil (places ns es)

-- an empty table has no cells
pub run_open : (es fs : List Entry) (cs : List ℤ) (ns : List ℕ) (w : ℕ) → fs ≡ es ++ record { first = 0; width = w; count = 0 } ∷ [] → run fs cs ns ≡ run es cs ns
run_open es fs cs ns w is = ap (gather cs) (places_open ns es fs w is)

-- opening a table
pub kept_open : {c u f : ℕ} {es : List Entry} {cs : List ℤ} {ns : List ℕ} (w : ℕ) (fs : List Entry) → Kept c u f es cs ns → length es < tables → 1 ≤ w → w ≤ columns → fs ≡ es ++ record { first = 0; width = w; count = 0 } ∷ [] → Kept c u f fs cs ns
kept_open {c} {u} {f} {es} {cs} {ns} w fs k l lo hi is =
    kept_from c u f fs cs (run es cs ns) ns (chains ns es (c - u) f) (held_open 0 w fs (held_kept k) l lo hi is) (run_open es fs cs ns w is) (k.full ∙ sym (extent_open es fs 0 w is)) k.room k.linked (ap (λ x. x ++ walk ns (c - u) f) (places_open ns es fs w is)) k.apart k.inside

-- the same, from what opening a table in the directory comes to
pub kept_opened : {c u f : ℕ} {es : List Entry} {cs : List ℤ} {ns : List ℕ} (w : ℕ) (r : Result (Unit {0}) Fault) (fs : List Entry) → Kept c u f es cs ns → Opened es w (record { first = 0; width = w; count = 0 }) r fs → Kept c u f fs cs ns
kept_opened w (Ok x) fs k o = kept_open w fs k o.0 o.1.0 o.1.1.0 o.1.1.1
kept_opened {c} {u} {f} {es} {cs} {ns} w (Err x) fs k o = subst (λ es. Kept c u f es cs ns) (sym o.0) k

pub run_opened : (es : List Entry) (w : ℕ) (r : Result (Unit {0}) Fault) (fs : List Entry) (cs : List ℤ) (ns : List ℕ) → Opened es w (record { first = 0; width = w; count = 0 }) r fs → run fs cs ns ≡ run es cs ns
run_opened es w (Ok x) fs cs ns o = run_open es fs cs ns w o.1.1.1
run_opened es w (Err x) fs cs ns o = ap (λ es. run es cs ns) o.0

-- The last table's chain joined to the free one: `ms` are the links then.
module _ {c u f : ℕ} {es : List Entry} {cs : List ℤ} {ns : List ℕ} (k : Kept c u f es cs ns) (fs : List Entry) (e : Entry) (is : es ≡ fs ++ e ∷ []) where
  abbrev E : List ℕ
  E = walk ns (extent_of e) e.first

  abbrev F : List ℕ
  F = walk ns (c - u) f

  places_last : places ns es ≡ places ns fs ++ E
  places_last = ap (places ns) is ∙ places_append ns fs (e ∷ []) ∙ ap (λ x. places ns fs ++ x) (append-nil E)

  whole : chains ns es (c - u) f ≡ places ns fs ++ (E ++ F)
  whole = ap (λ x. x ++ F) places_last ∙ append_assoc (places ns fs) E F

  parts : Four (places ns fs) E [] F
  parts = four (places ns fs) E [] F (ap distinct (sym whole) ∙ k.apart)

  inside_all : under c (places ns fs ++ (E ++ F)) ≡ true
  inside_all = ap (under c) (sym whole) ∙ k.inside

  -- its cells are within the store's
  pub last_inside : under c E ≡ true
  last_inside = (under_append c E F (under_append c (places ns fs) (E ++ F) inside_all).1).0

  -- so are the free ones
  pub free_inside : under c F ≡ true
  free_inside = (under_append c E F (under_append c (places ns fs) (E ++ F) inside_all).1).1

  last_low : under (length ns) E ≡ true
  last_low = ap (λ n. under n E) k.linked ∙ last_inside

  -- its cells are among those in use
  pub last_size : extent fs + extent_of e ≡ u
  last_size = omega (arith, k.full, extent_drop es fs e is)

  -- the run ends with its cells
  pub run_last : run es cs ns ≡ run fs cs ns ++ gather cs E
  run_last = ap (gather cs) places_last ∙ gather_append cs (places ns fs) E

  -- by where they begin
  pub run_rest : (from : ℕ) → from ≡ extent fs → gather cs E ≡ drop from (run es cs ns)
  run_rest from at = sym (ap (drop from) run_last ∙ drop_at (run fs cs ns) (gather cs E) from (length_run fs cs ns ∙ sym at))

  -- Drop: the joined chain is the free chain.
  module _ (ms : List ℕ) (u' f' : ℕ) (ms_is : ms ≡ joined ns (extent_of e) e.first f) (f'_is : f' ≡ head_of (extent_of e) e.first f) (u'_is : u' ≡ u - extent_of e) where
    before : places ms fs ≡ places ns fs
    before = ap (λ x. places x fs) ms_is ∙ join_places ns (extent_of e) e.first f fs parts.XP

    freed : walk ms (c - u') f' ≡ E ++ F
    freed =
        let n : c - u' ≡ extent_of e + (c - u) = omega (arith, u'_is, last_size, k.within) in
        ap₂ (λ x y. walk x (c - u') y) ms_is f'_is ∙ ap (λ n. walk (joined ns (extent_of e) e.first f) n (head_of (extent_of e) e.first f)) n ∙ join_chain ns (extent_of e) e.first (c - u) f parts.d_x parts.XR last_low

    -- the run without its last cells
    pub run_drop : run fs cs ms ≡ take (length (run es cs ns) - extent_of e) (run es cs ns)
    run_drop =
        let n : length (run fs cs ns) ≡ length (run es cs ns) - extent_of e = omega (arith, length_run fs cs ns, length_run es cs ns, k.full, last_size) in
        ap (gather cs) before ∙ sym (ap (take (length (run es cs ns) - extent_of e)) run_last ∙ take_at (run fs cs ns) (gather cs E) (length (run es cs ns) - extent_of e) n)

    -- dropping the last table
    pub kept_drop : Kept c u' f' fs cs ms
    kept_drop =
        kept_from c u' f' fs cs (run fs cs ms) ms (chains ns es (c - u) f) (held_drop fs e (run fs cs ms) (held_kept k) is run_drop) refl (omega (arith, u'_is, last_size)) k.room (ap length ms_is ∙ length_joined ns (extent_of e) e.first f ∙ k.linked) (ap₂ ◌++◌ before freed ∙ sym whole) k.apart k.inside

  -- Add: the table goes on with the first free cells.
  module _ (w : ℕ) (row : Row) (ms : List ℕ) (ds : List ℤ) (u' f' h : ℕ) (es' : List Entry) (fit : w ≤ c - u) (wide : length row ≡ w)
      (ms_is : ms ≡ joined ns (extent_of e) e.first f) (h_is : h ≡ head_of (extent_of e) e.first f)
      (ds_is : ds ≡ put cs (walk ms w f) row) (f'_is : f' ≡ step ms w f) (u'_is : u' ≡ u + w)
      (w_is : e.width ≡ w) (es'_is : es' ≡ fs ++ record { first = h; width = e.width; count = e.count + 1 } ∷ []) where
    abbrev W : List ℕ
    W = walk ns w f

    abbrev R : List ℕ
    R = walk ns (c - u') (step ns w f)

    two : F ≡ W ++ R
    two =
        let n : c - u ≡ w + (c - u') = omega (arith, u'_is) in
        ap (λ n. walk ns n f) n ∙ walk_add ns w (c - u') f

    apart_two : (cross E W ≡ true) × (cross E R ≡ true)
    apart_two = cross_append E W R (ap (cross E) (sym two) ∙ parts.XR)

    before_add : places ms fs ≡ places ns fs
    before_add = ap (λ x. places x fs) ms_is ∙ join_places ns (extent_of e) e.first f fs parts.XP

    -- the free cells are where they were
    pub write_walk : walk ms w f ≡ W
    write_walk = ap (λ x. walk x w f) ms_is ∙ (join_walk ns (extent_of e) e.first f w f apart_two.0).0

    left_free : walk ms (c - u') f' ≡ R
    left_free =
        let at : f' ≡ step ns w f = f'_is ∙ ap (λ x. step x w f) ms_is ∙ (join_walk ns (extent_of e) e.first f w f apart_two.0).1 in
        ap₂ (λ x y. walk x (c - u') y) ms_is at ∙ (join_walk ns (extent_of e) e.first f (c - u') (step ns w f) apart_two.1).0

    longer : walk ms ((e.count + 1) * e.width) h ≡ E ++ W
    longer =
        let n : (e.count + 1) * e.width ≡ extent_of e + w = add-mul e.count 1 e.width ∙ ap (λ n. extent_of e + n) (one-mul e.width ∙ w_is) in
        ap₂ (λ x y. walk x ((e.count + 1) * e.width) y) ms_is h_is ∙ ap (λ n. walk (joined ns (extent_of e) e.first f) n (head_of (extent_of e) e.first f)) n ∙ join_chain ns (extent_of e) e.first w f parts.d_x apart_two.0 last_low

    places_add : places ms es' ≡ places ns es ++ W
    places_add =
        ap (places ms) es'_is ∙ places_append ms fs (record { first = h; width = e.width; count = e.count + 1 } ∷ []) ∙ ap₂ (λ x y. x ++ (y ++ [])) before_add longer ∙ ap (λ x. places ns fs ++ x) (append-nil (E ++ W)) ∙ sym (append_assoc (places ns fs) E W) ∙ ap (λ x. x ++ W) (sym places_last)

    same_chains : chains ms es' (c - u') f' ≡ chains ns es (c - u) f
    same_chains = ap₂ ◌++◌ places_add left_free ∙ append_assoc (places ns es) W R ∙ ap (λ x. places ns es ++ x) (sym two)

    -- the run with the row at its end
    pub run_add : run es' ds ms ≡ run es cs ns ++ row
    run_add =
        let all : chains ns es (c - u) f ≡ (places ns es ++ W) ++ R = ap (λ x. places ns es ++ x) two ∙ sym (append_assoc (places ns es) W R) in
        let wrote : ds ≡ put cs W row = ds_is ∙ ap (λ x. put cs x row) write_walk in
        let g = gather_added cs (places ns es) W R row (ap distinct (sym all) ∙ k.apart) (ap (λ n. under n ((places ns es ++ W) ++ R)) k.room ∙ ap (under c) (sym all) ∙ k.inside) (wide ∙ sym (length_walk ns w f)) in
        ap₂ (λ x y. gather x y) wrote places_add ∙ gather_append (put cs W row) (places ns es) W ∙ ap₂ ◌++◌ g.0 g.1

    -- adding a row
    pub kept_add : Held c es' (run es cs ns ++ row) → Kept c u' f' es' ds ms
    kept_add held =
        kept_from c u' f' es' ds (run es cs ns ++ row) ms (chains ns es (c - u) f) held run_add (omega (arith, held.full, length-append (run es cs ns) row, length_run es cs ns, k.full, u'_is, wide)) (ap length ds_is ∙ length_put cs (walk ms w f) row ∙ k.room) (ap length ms_is ∙ length_joined ns (extent_of e) e.first f ∙ k.linked) same_chains k.apart k.inside
