-- The packed store's fields by name, and the facts that its ghost fields are.
use Rattle.std.proofs.Common.{◌≡◌, ℕ, ◌≤◌, true, List, length, ℤ, vec_items}
use Rattle.fault.specs.Limits.{cells}
use Rattle.store.specs.Meaning.{Store}
use Rattle.store.specs.Sound.{sound_tables}
use Rattle.directory.specs.Run.{extent, decode, laid}
use Rattle.directory.specs.declared.entry.Entry.{Entry}
use Rattle.directory.proofs.Keeping.{Held}
use Rattle.directory.specs.Starts.{starts}
use Rattle.packed.specs.declared.store_impl.Packed.{Packed}

abbrev pub entries : Packed → List Entry
entries p = vec_items p.tables.entries

abbrev pub run : Packed → List ℤ
run p = vec_items p.cells

abbrev pub meaning : Packed → Store
meaning p = laid p.capacity (entries p) (run p)

pub held : (p : Packed) → Held p.capacity (entries p) (run p)
held p = record { sound = p.sound; full = p.full; within = p.within; small = p.small; few = p.tables.few }

-- the facts as a function that changes the store owes them
abbrev pub Parts : ℕ → List Entry → List ℤ → ℕ → Type 0
Parts c es cs room =
    record {
      sound : sound_tables (decode es cs) ≡ true;
      full : extent es ≡ length cs;
      begun : starts 0 es ≡ true;
      within : length cs ≤ c;
      small : c ≤ cells;
      room : c ≤ room;
    }

pub parts : {c : ℕ} {es : List Entry} {cs : List ℤ} {room : ℕ} → Held c es cs → starts 0 es ≡ true → c ≤ room → Parts c es cs room
parts h b r = record { sound = h.sound; full = h.full; begun = b; within = h.within; small = h.small; room = r }
