-- Whole texts: what the reply to one tells, by computation and in the words of the format.
use Rattle.std.specs.Prelude.{◌≡◌, ℕ, ◌-◌, cond, ◌↔◌, List, ◌++◌, length, Ok, Err, Result, nat_lt}
use Rattle.fault.specs.declared.rules.Fault.{Fault}
use Rattle.fault.specs.declared.rules.Rule.TheVariants.{TextTooLong}
use Rattle.fault.specs.Limits.{text_bytes}
use Rattle.fault.specs.Places.{nowhere}
use Rattle.schema.specs.Columns.{Column}
use Rattle.texts.specs.Readers.{Reading, Reading.taken, Reading.refused}
use Rattle.texts.specs.Language.{Value, TableText}
use Rattle.texts.specs.Reading.{read_table}
use Rattle.texts.specs.Promise.{Placed}
use Rattle.texts.specs.Layers.{TableLayer}
use Rattle.listing.specs.Seen.{fault_at}

abbrev pub too_long : Fault
too_long = record { rule = TextTooLong; place = nowhere }

-- how many rows were read
abbrev pub counted : {A : Type 0} → Reading (List A) → Reading ℕ
counted (taken rows r) = taken (length rows) r
counted (refused rule r) = refused rule r

-- a reading of a whole text as a reply: what is left tells the place
abbrev pub replied : {A : Type 0} → List ℕ → Reading A → Result A Fault
replied text (taken a r) = Ok a
replied text (refused rule r) = Err (fault_at rule text (length text - length r))

abbrev pub table_reply : List Column → List ℕ → Result ℕ Fault
table_reply cs text = cond (nat_lt text_bytes (length text)) (Err too_long) (replied text (counted (read_table cs text)))

-- A text of a table is accepted exactly if it is right, with as many rows as it stands for;
-- any other is refused with 52 at the first byte with which no right text goes on, by the layer of that place.
pub record TellsTable (cs : List Column) (text : List ℕ) (reply : Result ℕ Fault) : Type 0 where
  pub accepted : (n : ℕ) → (reply ≡ Ok n) ↔ ((rows : List (List Value)) × TableText cs rows text × (n ≡ length rows))
  pub refuses : (f : Fault) → reply ≡ Err f →
      (p : List ℕ) × (r : List ℕ) × (text ≡ p ++ r) × Placed (TableText cs) text r × (f ≡ fault_at f.rule text (length p)) × TableLayer cs text p r f.rule
