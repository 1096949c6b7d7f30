-- When a trial holds: the reply that the text format's definitions give for its text is the one that it names.
use Rattle.std.specs.Prelude.{◌≡◌, ℕ, List, [], ◌∷◌, codes, Ok, Err, Some, Result, Option, ◌<◌, length, MatchOption}
use Rattle.std.specs.List.{AllWithin, HoldsAt}
use Rattle.domain.specs.declared.Domain.TheVariants.{Integer, String}
use Rattle.fault.specs.declared.rules.Fault.{Fault}
use Rattle.fault.specs.Rules.{layer_of}
use Rattle.schema.specs.Columns.{Column}
use Rattle.listing.specs.Whole.{table_reply}
use Rattle.listing_trials.specs.declared.Refusal.{Refusal}
use Rattle.listing_trials.specs.declared.Trial.{Trial}

-- the columns that every trial reads a text for, as a heading would name them: `(a:i,b:s)`
abbrev pub columns : List Column
columns = record { name = Some (codes "a"); domain = Integer } ∷ (record { name = Some (codes "b"); domain = String } ∷ [])

-- a fault as a trial tells it
abbrev pub refusal_of : Fault → Refusal
refusal_of f = record { layer = layer_of f.rule; byte = f.place.byte }

abbrev pub told : Result ℕ Fault → Result ℕ Refusal
told (Ok rows) = Ok rows
told (Err f) = Err (refusal_of f)

abbrev pub Holds : Trial → Type 0
Holds t = told (table_reply columns t.text.now) ≡ t.expected

-- the first trial that does not hold: all before it do; if there is none, all do
abbrev pub FirstWrong : List Trial → Option ℕ → Type 0
FirstWrong ts r = MatchOption r (AllWithin Holds ts 0 (length ts)) (λ i. (i < length ts) × HoldsAt (λ t. Holds t → ⊥) ts i × AllWithin Holds ts 0 i)
