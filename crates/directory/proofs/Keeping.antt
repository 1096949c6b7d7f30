-- What always holds of a directory and its run of cells, and that opening and dropping keep it.
use Rattle.std.proofs.Common.{◌≡◌, ℕ, ◌+◌, ◌-◌, ◌<◌, ◌≤◌, ◌⊎◌, true, List, [], ◌∷◌, ◌++◌, length, take, ℤ, Result, Ok, Err, sym, refl, ap, ◌∙◌, subst, ⊎_elim, zero-mul, arith}
use Rattle.std.proofs.lemmas.List.{length-append, length-take-le, take_at}
use Rattle.std.proofs.lemmas.Bool.{and_from}
use Rattle.fault.specs.declared.rules.Fault.{Fault}
use Rattle.fault.specs.declared.rules.Rule.TheVariants.{TooManyTables, WidthOutside}
use Rattle.fault.specs.Limits.{columns, tables, cells}
use Rattle.store.specs.Meaning.{refused_by, open_reply, open_after}
use Rattle.store.proofs.Cases.{open_many, open_outside, open_accepted}
use Rattle.store.specs.Sound.{sound_tables}
use Rattle.store.proofs.Soundness.{sound_append, sound_take, sound_empty}
use Rattle.directory.specs.Run.{extent_of, extent, decode, laid}
use Rattle.directory.specs.Tables.{Opened}
use Rattle.directory.specs.declared.entry.Entry.{Entry}
use Rattle.directory.proofs.Decoding.{decode_append, decode_cut, extent_append, length_decode, take_decode}

-- a store of capacity c that this directory and this run can stand for
pub record Held (c : ℕ) (es : List Entry) (cs : List ℤ) : Type 0 where
  pub sound : sound_tables (decode es cs) ≡ true
  pub full : extent es ≡ length cs
  pub within : length cs ≤ c
  pub small : c ≤ cells
  pub few : length es ≤ tables

-- Open.

-- an entry without rows stands for an empty table, whatever its place
pub decode_open : (es : List Entry) (cs : List ℤ) (f w : ℕ) → decode (es ++ record { first = f; width = w; count = 0 } ∷ []) cs ≡ decode es cs ++ record { width = w; rows = [] } ∷ []
decode_open es cs f w = decode_append es (record { first = f; width = w; count = 0 } ∷ []) cs

-- and has no cells
pub extent_open : (es fs : List Entry) (f w : ℕ) → fs ≡ es ++ record { first = f; width = w; count = 0 } ∷ [] → extent fs ≡ extent es
extent_open es fs f w is = ap extent is ∙ extent_append es (record { first = f; width = w; count = 0 } ∷ []) ∙ omega (arith, zero-mul w)

pub held_open : {c : ℕ} {es : List Entry} {cs : List ℤ} (f w : ℕ) (fs : List Entry) → Held c es cs → length es < tables → 1 ≤ w → w ≤ columns → fs ≡ es ++ record { first = f; width = w; count = 0 } ∷ [] → Held c fs cs
held_open {c} {es} {cs} f w fs h l lo hi is =
    record {
      sound =
          let good : sound_tables (decode es cs ++ record { width = w; rows = [] } ∷ []) ≡ true = sound_append (decode es cs) (record { width = w; rows = [] } ∷ []) h.sound (and_from _ true (sound_empty w lo hi) refl) in
          ap (λ x. sound_tables (decode x cs)) is ∙ ap sound_tables (decode_open es cs f w) ∙ good;
      full = extent_open es fs f w is ∙ h.full;
      within = h.within;
      small = h.small;
      few = omega (arith, ap length is, length-append es (record { first = f; width = w; count = 0 } ∷ []));
    }

-- the same, from what opening a table in the directory comes to
pub held_opened : {c : ℕ} {es : List Entry} {cs : List ℤ} (f w : ℕ) (r : Result (Unit {0}) Fault) (fs : List Entry) → Held c es cs → Opened es w (record { first = f; width = w; count = 0 }) r fs → Held c fs cs
held_opened f w (Ok u) fs h o = held_open f w fs h o.0 o.1.0 o.1.1.0 o.1.1.1
held_opened {c} {es} {cs} f w (Err x) fs h o = subst (λ es. Held c es cs) (sym o.0) h

pub open_done : (c : ℕ) (es : List Entry) (cs : List ℤ) (f w : ℕ) (r : Result (Unit {0}) Fault) (fs : List Entry) → Opened es w (record { first = f; width = w; count = 0 }) r fs → (r ≡ open_reply (laid c es cs) w) × (laid c fs cs ≡ open_after (laid c es cs) w)
open_done c es cs f w (Ok u) fs o =
    let r = open_accepted (laid c es cs) w (omega (arith, o.0, length_decode es cs)) o.1.0 o.1.1.0 in
    (r.0, ap (λ ts. record { capacity = c; tables = ts }) (ap (λ x. decode x cs) o.1.1.1 ∙ decode_open es cs f w) ∙ r.1)
open_done c es cs f w (Err x) fs o = ⊎_elim many outside o.1
  where
    many : (tables ≤ length es) × (x ≡ refused_by TooManyTables) → (Err x ≡ open_reply (laid c es cs) w) × (laid c fs cs ≡ open_after (laid c es cs) w)
    many p =
        let r = open_many (laid c es cs) w (omega (arith, p.0, length_decode es cs)) in
        (ap Err p.1 ∙ r.0, ap (λ x. laid c x cs) o.0 ∙ r.1)

    outside : (length es < tables) × (((w < 1) ⊎ (columns < w)) × (x ≡ refused_by WidthOutside)) → (Err x ≡ open_reply (laid c es cs) w) × (laid c fs cs ≡ open_after (laid c es cs) w)
    outside p =
        let r = open_outside (laid c es cs) w (omega (arith, p.0, length_decode es cs)) p.1.0 in
        (ap Err p.1.1 ∙ r.0, ap (λ x. laid c x cs) o.0 ∙ r.1)

-- Drop.

-- the cells of a directory without its last entry
pub extent_drop : (es fs : List Entry) (e : Entry) → es ≡ fs ++ e ∷ [] → extent es ≡ extent fs + extent_of e
extent_drop es fs e is = ap extent is ∙ extent_append fs (e ∷ []) ∙ omega arith

-- without its last entry, and without the cells of that entry, a directory stands for all tables but the last
pub decode_drop : (es fs : List Entry) (e : Entry) (cs ds : List ℤ) → es ≡ fs ++ e ∷ [] → extent es ≡ length cs → ds ≡ take (length cs - extent_of e) cs → (decode fs ds ≡ take (length (decode es cs) - 1) (decode es cs)) × (extent fs ≡ length ds)
decode_drop es fs e cs ds is full cut =
    let sum = extent_drop es fs e is in
    let n : ℕ = length cs - extent_of e in
    let at : n ≡ extent fs = omega arith in
    let long : n ≤ length cs = omega arith in
    let len : length es ≡ length fs + 1 = ap length is ∙ length-append fs (e ∷ []) in
    let front : take (length (decode es cs) - 1) es ≡ fs = ap (take (length (decode es cs) - 1)) is ∙ take_at fs (e ∷ []) (length (decode es cs) - 1) (omega (arith, length_decode es cs)) in
    (ap (decode fs) cut ∙ decode_cut fs cs n (omega arith) long ∙ ap (λ x. decode x cs) (sym front) ∙ sym (take_decode (length (decode es cs) - 1) es cs), omega (arith, ap length cut, length-take-le n cs long))

pub held_drop : {c : ℕ} {es : List Entry} {cs : List ℤ} (fs : List Entry) (e : Entry) (ds : List ℤ) → Held c es cs → es ≡ fs ++ e ∷ [] → ds ≡ take (length cs - extent_of e) cs → Held c fs ds
held_drop {c} {es} {cs} fs e ds h is cut =
    let d = decode_drop es fs e cs ds is h.full cut in
    let sum = extent_drop es fs e is in
    let len : length es ≡ length fs + 1 = ap length is ∙ length-append fs (e ∷ []) in
    record {
      sound = ap sound_tables d.0 ∙ sound_take (length (decode es cs) - 1) (decode es cs) h.sound;
      full = d.1;
      within = omega (arith, d.1, h.within, h.full);
      small = h.small;
      few = omega (arith, h.few);
    }
