-- What the calls of a directory come to, for any kind of entry: the answer, and the entries afterwards. A refusal leaves them as they are.
use Rattle.std.specs.Prelude.{◌≡◌, ℕ, ◌+◌, ◌-◌, ◌<◌, ◌≤◌, ◌⊎◌, List, [], ◌∷◌, ◌++◌, Ok, Err, Result, length, slice_index_or}
use Rattle.std.specs.List.{swap_remove}
use Rattle.fault.specs.declared.rules.Fault.{Fault}
use Rattle.fault.specs.declared.rules.Rule.TheVariants.{TooManyTables, WidthOutside, NoSuchPlace}
use Rattle.fault.specs.Limits.{columns, tables}
use Rattle.store.specs.Meaning.{refused_by}

-- what is kept of table t, or that there is no such table
abbrev pub Found : {X : Type 0} → List X → ℕ → Result X Fault → Type 0
Found es t (Ok e) = (t < length es) × (e ≡ slice_index_or es t e)
Found es t (Err f) = (length es ≤ t) × (f ≡ refused_by NoSuchPlace)

-- what is kept of the last table, or that there is none
abbrev pub FoundLast : {X : Type 0} → List X → Result X Fault → Type 0
FoundLast es (Ok e) = (0 < length es) × (e ≡ slice_index_or es (length es - 1) e)
FoundLast es (Err f) = (length es ≡ 0) × (f ≡ refused_by NoSuchPlace)

-- why a table of width w is refused: all places are taken, or else no table is that wide
abbrev pub NotOpened : ℕ → ℕ → Fault → Type 0
NotOpened n w f =
    ((tables ≤ n) × (f ≡ refused_by TooManyTables)) ⊎ ((n < tables) × (((w < 1) ⊎ (columns < w)) × (f ≡ refused_by WidthOutside)))

-- a table of width w, of which e is kept, comes last
abbrev pub Opened : {X : Type 0} → List X → ℕ → X → Result (Unit {0}) Fault → List X → Type 0
Opened es w e (Ok u) es' = (length es < tables) × ((1 ≤ w) × ((w ≤ columns) × (es' ≡ es ++ e ∷ [])))
Opened es w e (Err f) es' = (es' ≡ es) × NotOpened (length es) w f

-- the last table goes
abbrev pub Popped : {X : Type 0} → List X → Result X Fault → List X → Type 0
Popped es (Ok e) es' = es ≡ es' ++ e ∷ []
Popped es (Err f) es' = (es' ≡ es) × ((length es ≡ 0) × (f ≡ refused_by NoSuchPlace))

-- table t goes, and the last one takes its place
abbrev pub Settled : {X : Type 0} → List X → ℕ → Result X Fault → List X → Type 0
Settled es t (Ok e) es' = (t + 1 < length es) × ((e ≡ slice_index_or es t e) × (es' ≡ swap_remove es t e))
Settled es t (Err f) es' = (es' ≡ es) × ((length es ≤ t + 1) × (f ≡ refused_by NoSuchPlace))
