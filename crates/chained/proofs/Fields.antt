-- The chained store's fields by name, and the facts that its ghost fields are.
use Rattle.std.proofs.Common.{◌≡◌, ℕ, ◌-◌, ◌≤◌, true, List, ◌++◌, length, take, drop, ℤ, sym, ap, ◌∙◌, ap₂}
use Rattle.std.proofs.lemmas.List.{take_at}
use Rattle.fault.specs.Limits as limits
use Rattle.store.specs.Meaning.{Row, Store}
use Rattle.store.specs.Sound.{sound_tables}
use Rattle.directory.specs.Run.{extent, extent_of, decode}
use Rattle.directory.specs.declared.entry.Entry.{Entry}
use Rattle.chained.specs.Chains as chain
use Rattle.chained.specs.Chains.{values, nexts, walk, chains, distinct, under, joined, put}
use Rattle.chained.specs.declared.links.Link.{Link}
use Rattle.chained.specs.declared.store_impl.Chained.{Chained}
use Rattle.chained.proofs.Projections.{length_values, length_nexts}
use Rattle.chained.proofs.Keeping.{Kept}

abbrev pub entries : Chained → List Entry
entries p = p.tables.entries.items

abbrev pub links : Chained → List Link
links p = p.links.items

abbrev pub run : Chained → List ℤ
run p = chain.run (entries p) (values (links p)) (nexts (links p))

abbrev pub meaning : Chained → Store
meaning p = chain.chained p.capacity (entries p) (values (links p)) (nexts (links p))

pub kept : (p : Chained) → Kept p.capacity p.used p.free (entries p) (values (links p)) (nexts (links p))
kept p =
    record {
      sound = p.sound;
      full = p.full;
      within = p.within;
      small = p.small;
      few = p.tables.few;
      room = length_values (links p) ∙ p.room;
      linked = length_nexts (links p) ∙ p.room;
      apart = p.apart;
      inside = p.inside;
    }

-- the facts as a function that changes the store owes them
abbrev pub Parts : ℕ → ℕ → ℕ → List Entry → List Link → Type 0
Parts c u f es ls =
    record {
      sound : sound_tables (decode es (chain.run es (values ls) (nexts ls))) ≡ true;
      full : u ≡ extent es;
      within : u ≤ c;
      small : c ≤ limits.cells;
      room : length ls ≡ c;
      apart : distinct (chains (nexts ls) es (c - u) f) ≡ true;
      inside : under c (chains (nexts ls) es (c - u) f) ≡ true;
    }

pub parts : {c u f : ℕ} {es : List Entry} {cs : List ℤ} (ls : List Link) → values ls ≡ cs → Kept c u f es cs (nexts ls) → Parts c u f es ls
parts {c} {u} {f} {es} ls is k =
    record {
      sound = ap (λ x. sound_tables (decode es (chain.run es x (nexts ls)))) is ∙ k.sound;
      full = k.full;
      within = k.within;
      small = k.small;
      room = sym (length_values ls) ∙ ap length is ∙ k.room;
      apart = k.apart;
      inside = k.inside;
    }

-- the cells after a slice of them was lent and came back as `new`
abbrev pub after_slice : ℕ → List Link → List Link → List Link
after_slice v new old = take v (new ++ drop (length new) old)

-- what a slice leaves of the list that it was lent from
pub refilled : {X : Type 0} (v : ℕ) (new slice old : List X) → length new ≡ length slice → slice ≡ old → v ≡ length old → take v (new ++ drop (length new) old) ≡ new
refilled v new slice old long is v_is = take_at new (drop (length new) old) v (long ∙ ap length is ∙ sym v_is)

-- the cells after a table's chain was joined to the free one
pub joined_as : (v : ℕ) (new slice old : List Link) (size : ℕ) (e : Entry) (next : ℕ) → length new ≡ length slice → slice ≡ old → v ≡ length old → nexts new ≡ joined (nexts slice) size e.first next → values new ≡ values slice → size ≡ extent_of e → (nexts (after_slice v new old) ≡ joined (nexts old) (extent_of e) e.first next) × (values (after_slice v new old) ≡ values old)
joined_as v new slice old size e next long is v_is nexts_are values_are size_is =
    let back = refilled v new slice old long is v_is in
    (ap nexts back ∙ nexts_are ∙ ap₂ (λ x n. joined (nexts x) n e.first next) is size_is, ap values back ∙ values_are ∙ ap values is)

-- the cells after a row was written into them
pub written_as : (v : ℕ) (new slice old : List Link) (row : Row) (from : ℕ) → length new ≡ length slice → slice ≡ old → v ≡ length old → values new ≡ put (values slice) (walk (nexts slice) (length row) from) row → nexts new ≡ nexts slice → (values (after_slice v new old) ≡ put (values old) (walk (nexts old) (length row) from) row) × (nexts (after_slice v new old) ≡ nexts old)
written_as v new slice old row from long is v_is values_are nexts_are =
    let back = refilled v new slice old long is v_is in
    (ap values back ∙ values_are ∙ ap (λ x. put (values x) (walk (nexts x) (length row) from) row) is, ap nexts back ∙ nexts_are ∙ ap nexts is)

-- a chain within the store's cells is within the slice of them
pub chain_low : (c size : ℕ) (e : Entry) (slice old : List Link) → slice ≡ old → length old ≡ c → size ≡ extent_of e → under c (walk (nexts old) (extent_of e) e.first) ≡ true → under (length slice) (walk (nexts slice) size e.first) ≡ true
chain_low c size e slice old is room size_is u =
    ap (λ x. under (length x) (walk (nexts x) size e.first)) is ∙ ap₂ (λ n k. under n (walk (nexts old) k e.first)) room size_is ∙ u
