-- The ledger's fields by name, and the facts that its ghost fields are. Soundness is the store's, carried over by the equation of each call.
use Rattle.std.proofs.Common.{◌≡◌, ℕ, ◌≤◌, true, List, length, vec_items, arith}
use Rattle.fault.specs.Limits.{cells}
use Rattle.store.specs.Meaning.{Store, used}
use Rattle.store.specs.Sound.{Sound, sound_tables}
use Rattle.ledger.specs.Lines.{tables_of, written, below}
use Rattle.ledger.specs.declared.line.Line.{Line}
use Rattle.ledger.specs.declared.store_impl.Ledger.{Ledger}
use Rattle.ledger.specs.WrittenSound.{written_sound}

abbrev pub widths : Ledger → List ℕ
widths p = vec_items p.widths.entries

abbrev pub lines : Ledger → List Line
lines p = vec_items p.lines

abbrev pub meaning : Ledger → Store
meaning p = written p.capacity (widths p) (lines p)

pub sound : (p : Ledger) → Sound (meaning p)
sound p = written_sound p.capacity p.used (widths p) (lines p) p.sound p.counted p.within p.small p.widths.few

-- the facts as a function that changes the ledger owes them
abbrev pub Parts : ℕ → ℕ → List ℕ → List Line → ℕ → Type 0
Parts c u ws ls room =
    record {
      sound : sound_tables (tables_of ws ls) ≡ true;
      counted : u ≡ used (tables_of ws ls);
      within : u ≤ c;
      small : c ≤ cells;
      owned : below (length ws) ls ≡ true;
      room : c ≤ room;
    }

pub parts : {c u : ℕ} (ws : List ℕ) (ls : List Line) {room : ℕ} → Sound (written c ws ls) → u ≡ used (tables_of ws ls) → below (length ws) ls ≡ true → c ≤ room → Parts c u ws ls room
parts {c} {u} ws ls s k b r =
    record {
      sound = s.right;
      counted = k;
      within = omega (arith, k, s.within);
      small = s.small;
      owned = b;
      room = r;
    }
