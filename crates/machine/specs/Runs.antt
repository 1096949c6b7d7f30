-- A run to its end: steps while it goes, lines where it shows, texts where it waits.
use Rattle.std.specs.Prelude.{ℕ, zero, suc, ◌+◌, Bool, true, false, cond, List, [], ◌∷◌, ◌++◌, map, length, ℤ, pos, negsuc, ◌==◌, nat_lt, slice_index_or, slice_set}
use Rattle.std.proofs.Math.Option.{Option, none, some}
use Rattle.domain.specs.declared.Domain.{Domain}
use Rattle.domain.specs.declared.Domain.TheVariants.{Integer, String, Boolean}
use Rattle.code.specs.Generation.{Code, noted, number_in}
use Rattle.meaning.specs.Evaluation.{value_in, rows_in}
use Rattle.meaning.specs.Meaning.{lines_of, named, value_of_text}
use Rattle.meaning.specs.Values as values
use Rattle.meaning.specs.Values.{Datum}
use Rattle.schema.specs.Columns.{Column}
use Rattle.schema.specs.Kinds.{ValueType, ValueType.atom, ValueType.table}
use Rattle.store.specs.Meaning.{Row}
use Rattle.texts.specs.Language.{Value, Value.integer, Value.string, Value.boolean}
use Rattle.words.specs.Tokens.{Bytes}
use Rattle.machine.specs.State.{Operand, Operand.cell, Operand.table_at, Slot, Condition, Condition.going, Condition.waiting, Condition.showing, Condition.done, Condition.failed, State, with_variables, with_condition, disorder}
use Rattle.machine.specs.Steps.{nth, if_there, also, with_table, building, settling, dropping, step}

-- What cells stand for.

abbrev pub numbered : List Bytes → ℤ → Bytes
numbered strings (pos n) = slice_index_or strings n []
numbered strings (negsuc n) = []

abbrev pub is_one : ℤ → Bool
is_one (pos n) = n == 1
is_one (negsuc n) = false

abbrev pub value_of : List Bytes → Domain → ℤ → Value
value_of strings Integer z = integer z
value_of strings String z = string (numbered strings z)
value_of strings Boolean z = boolean (is_one z)

abbrev pub row_of : List Bytes → List Column → Row → List Value
row_of strings [] r = []
row_of strings (c ∷ cs) [] = []
row_of strings (c ∷ cs) (z ∷ r) = value_of strings c.domain z ∷ row_of strings cs r

-- the value of an operand of a type, if it is of its kind
abbrev pub datum_of : State → ValueType → Operand → Option Datum
datum_of s (atom d) (cell z) = some (values.atomic (value_of s.strings d z))
datum_of s (atom d) (table_at n) = none
datum_of s (table cs) (cell z) = none
datum_of s (table cs) (table_at n) = also (nth s.store.tables n) (λ t. some (values.table (map (row_of s.strings cs) t.rows)))

-- And the other way: strings that are read are numbered, each different one once.

abbrev pub cell_of : List Bytes → Value → ℤ
cell_of strings (integer z) = z
cell_of strings (string s) = pos (number_in strings s)
cell_of strings (boolean true) = pos 1
cell_of strings (boolean false) = pos 0

abbrev pub noted_value : List Bytes → Value → List Bytes
noted_value strings (integer z) = strings
noted_value strings (string s) = noted strings s
noted_value strings (boolean b) = strings

abbrev pub noted_row : List Bytes → List Value → List Bytes
noted_row strings [] = strings
noted_row strings (v ∷ vs) = noted_row (noted_value strings v) vs

abbrev pub noted_rows : List Bytes → List (List Value) → List Bytes
noted_rows strings [] = strings
noted_rows strings (r ∷ rows) = noted_rows (noted_row strings r) rows

abbrev pub with_strings : List Bytes → State → State
with_strings x s = record { counter = s.counter; operands = s.operands; variables = s.variables; contexts = s.contexts; store = s.store; strings = x; condition = s.condition }

-- the value of a text goes to its variable
abbrev pub supply_to : Slot → ℕ → Datum → State → State
supply_to (cell x) i d s =
    let strings = noted_value s.strings (value_in d) in
    with_strings strings (with_variables (slice_set s.variables i (cell (cell_of strings (value_in d)))) (with_condition going s))
supply_to (table_at n) i d s =
    let strings = noted_rows s.strings (rows_in d) in
    with_table n s (λ old. building old.width (map (map (cell_of strings)) (rows_in d)) (record { line = 1; byte = 0 }) (with_strings strings (with_condition going s)) (λ m t.
    settling n (record { line = 1; byte = 0 }) t (λ u. u)))

-- what is shown is collected to its last line, and a shown table is dropped
abbrev pub let_go : Operand → State → State
let_go (cell z) s = with_condition going s
let_go (table_at n) s = dropping (record { line = 0; byte = 0 }) (with_condition going s) (λ t. t)

pub record Run : Type 0 where
  pub state : State
  pub lines : List Bytes
  pub texts : List Bytes
  pub steps : ℕ

abbrev pub run : State → List Bytes → List Bytes → ℕ → Run
run s ls ts n = record { state = s; lines = ls; texts = ts; steps = n }

-- inside the code a step is counted, a failing one too
abbrev pub counted : Code → State → ℕ
counted code s = cond (nat_lt s.counter (length code)) 1 0

abbrev pub shown_by : Option Datum → Option Bytes → ValueType → Operand → State → Run → Run
shown_by none name t x s r = run (disorder s) r.lines r.texts r.steps
shown_by (some d) name t x s r = run (let_go x s) (r.lines ++ named name (lines_of t d)) r.texts r.steps

abbrev pub supplied_by : Option Datum → List Bytes → ℕ → State → Run → Run
supplied_by none texts i s r = run s r.lines r.texts r.steps
supplied_by (some d) texts i s r = run (if_there (nth s.variables i) s (λ v. supply_to v i d s)) r.lines texts r.steps

abbrev pub supplied_from : List Bytes → ValueType → ℕ → State → Run → Run
supplied_from [] t i s r = r
supplied_from (text ∷ texts) t i s r = supplied_by (value_of_text t text) texts i s r

-- one move: a step, all lines of what is shown, or a text that is accepted
abbrev pub move : Code → Condition → Run → Run
move code going r = run (step code r.state) r.lines r.texts (r.steps + counted code r.state)
move code (waiting name t i) r = supplied_from r.texts t i r.state r
move code (showing name t x n) r = shown_by (datum_of r.state t x) name t x r.state r
move code done r = r
move code (failed f) r = r

-- at most n moves
abbrev pub moves : ℕ → Code → Run → Run
moves zero code r = r
moves (suc n) code r = moves n code (move code r.state.condition r)

-- a run begins with the script's strings and an empty store
abbrev pub begin : ℕ → List Bytes → State
begin capacity strings =
    record { counter = 0; operands = []; variables = []; contexts = []; store = record { capacity = capacity; tables = [] }; strings = strings; condition = going }
