-- What a script means: the lines that it yields and how it ends, given the accepted texts and a number of loop passes in all.
-- There is no limit of cells here.
use Rattle.std.specs.Prelude.{ℕ, zero, suc, ◌+◌, ◌-◌, false, cond, List, [], ◌∷◌, ◌++◌, map, length, take, replicate, slice_set}
use Rattle.std.proofs.Math.Option.{Option, none, some}
use Rattle.domain.specs.declared.Domain.{Domain}
use Rattle.domain.specs.declared.Domain.TheVariants.{Integer, String, Boolean}
use Rattle.fault.specs.declared.rules.Rule.{Rule}
use Rattle.plan.specs.Plan as plan
use Rattle.plan.specs.Plan.{Term, type_of, Action, Actions, Actions.◌then◌, Body}
use Rattle.schema.specs.Kinds.{ValueType, ValueType.atom, ValueType.table}
use Rattle.texts.specs.Language.{Value, Value.integer, Value.string, Value.boolean}
use Rattle.texts.specs.Lines.{heading_line, row_line, end_line, atom_line, to_line}
use Rattle.texts.specs.Readers.{Reading, Reading.taken, Reading.refused}
use Rattle.texts.specs.Reading.{read_table, read_atom}
use Rattle.words.specs.Tokens.{Bytes, Place}
use Rattle.meaning.specs.Evaluation.{nothing, value_in, rows_in, truth_of, evaluate}
use Rattle.meaning.specs.Values.{Row, Datum, Computed, Computed.computed, Computed.fails, insert_all}
use Rattle.meaning.specs.Values as values

-- How it ends: done, with its variables and the texts that are left; with a fault; at a read without a text; where one more pass is needed.
pub data End : Type 0 where
  finished : List Datum → List Bytes → End
  failed : Rule → Place → End
  without_text : End
  without_pass : End

-- the lines, the loop passes that were entered, and the end
pub record Ran : Type 0 where
  pub lines : List Bytes
  pub passes : ℕ
  pub end : End

abbrev pub ran : List Bytes → ℕ → End → Ran
ran ls n e = record { lines = ls; passes = n; end = e }

-- what came before, and then this
abbrev pub behind : List Bytes → ℕ → Ran → Ran
behind ls n r = ran (ls ++ r.lines) (n + r.passes) r.end

-- go on where it is done, with the passes that are left of n
abbrev pub on_end : List Bytes → ℕ → End → ℕ → (ℕ → List Datum → List Bytes → Ran) → Ran
on_end ls k (finished vars texts) n more = behind ls k (more (n - k) vars texts)
on_end ls k (failed r p) n more = ran ls k (failed r p)
on_end ls k without_text n more = ran ls k without_text
on_end ls k without_pass n more = ran ls k without_pass

abbrev pub onward : Ran → ℕ → (ℕ → List Datum → List Bytes → Ran) → Ran
onward r n more = on_end r.lines r.passes r.end n more

-- with a value, or the fault
abbrev pub with_value : Computed Datum → (Datum → Ran) → Ran
with_value (computed d) f = f d
with_value (fails r p) f = ran [] 0 (failed r p)

-- what a variable starts with
abbrev pub zero_of : Domain → Value
zero_of Integer = nothing
zero_of String = string []
zero_of Boolean = boolean false

abbrev pub start_of : ValueType → Datum
start_of (atom d) = values.atomic (zero_of d)
start_of (table cs) = values.table []

-- the lines of a value
abbrev pub lines_of : ValueType → Datum → List Bytes
lines_of (atom d) x = atom_line (value_in x) ∷ []
lines_of (table cs) x = heading_line cs ∷ (map row_line (rows_in x) ++ (end_line ∷ []))

abbrev pub name_in : Value → Bytes
name_in (integer z) = []
name_in (string s) = s
name_in (boolean b) = []

-- the value of a text for a type; repeated rows are dropped
abbrev pub read_as : Reading Value → Option Datum
read_as (taken v rest) = some (values.atomic v)
read_as (refused rule rest) = none

abbrev pub read_rows : Reading (List Row) → Option Datum
read_rows (taken rows rest) = some (values.table (insert_all [] rows))
read_rows (refused rule rest) = none

abbrev pub value_of_text : ValueType → Bytes → Option Datum
value_of_text (atom d) text = read_as (read_atom d text)
value_of_text (table cs) text = read_rows (read_table cs text)

abbrev pub when_read : Option Datum → List Bytes → (Datum → List Bytes → Ran) → Ran
when_read none texts f = ran [] 0 without_text
when_read (some d) texts f = f d texts

-- with the value of the next text
abbrev pub with_text : List Bytes → ValueType → (Datum → List Bytes → Ran) → Ran
with_text [] t f = ran [] 0 without_text
with_text (text ∷ texts) t f = when_read (value_of_text t text) texts f

-- one pass more, if there is one
abbrev pub with_pass : ℕ → (ℕ → Ran) → Ran
with_pass zero f = ran [] 0 without_pass
with_pass (suc n) f = behind [] 1 (f n)

-- a loop; it is given a bound above n, which it never reaches, so that this is a recursion on the bound
abbrev pub turns : (List Datum → Computed Datum) → (ℕ → List Datum → List Bytes → Ran) → ℕ → ℕ → List Datum → List Bytes → Ran
turns test body zero n vars texts = ran [] 0 without_pass
turns test body (suc bound) n vars texts =
    with_value (test vars) (λ so. cond (truth_of so)
    (with_pass n (λ left. onward (body left vars texts) left (λ m vs ts. turns test body bound m vs ts)))
    (ran [] 0 (finished vars texts)))

-- the name of a print or a read, if it has one
abbrev pub with_name : Option Term → List Datum → (Option Bytes → Ran) → Ran
with_name none vars f = f none
with_name (some t) vars f = with_value (evaluate t vars []) (λ d. f (some (name_in (value_in d))))

abbrev pub named : Option Bytes → List Bytes → List Bytes
named none lines = lines
named (some name) lines = to_line name ∷ lines

-- a block's own variables end with it
abbrev pub closing : ℕ → ℕ → List Datum → List Bytes → Ran
closing k n vars texts = ran [] 0 (finished (take (length vars - k) vars) texts)

unfoldable mutual
  pub run : Action → ℕ → List Datum → List Bytes → Ran
  run (plan.define t places) n vars texts = ran [] 0 (finished (vars ++ replicate (length places) (start_of t)) texts)
  run (plan.assign t i p e) n vars texts = with_value (evaluate e vars []) (λ d. ran [] 0 (finished (slice_set vars i d) texts))
  run (plan.if_then p e b) n vars texts =
      with_value (evaluate e vars []) (λ so. cond (truth_of so) (run_body b n vars texts) (ran [] 0 (finished vars texts)))
  run (plan.if_then_else p e b c) n vars texts =
      with_value (evaluate e vars []) (λ so. cond (truth_of so) (run_body b n vars texts) (run_body c n vars texts))
  run (plan.while_do p e b) n vars texts = turns (λ vs. evaluate e vs []) (run_body b) (suc n) n vars texts
  run (plan.read_into s t i p) n vars texts =
      with_name s vars (λ name. with_text texts t (λ d left. ran [] 0 (finished (slice_set vars i d) left)))
  run (plan.write_out p s e) n vars texts =
      with_value (evaluate e vars []) (λ d. with_name s vars (λ name. ran (named name (lines_of (type_of e) d)) 0 (finished vars texts)))

  pub run_all : Actions → ℕ → List Datum → List Bytes → Ran
  run_all plan.nothing n vars texts = ran [] 0 (finished vars texts)
  run_all (a then rest) n vars texts = onward (run a n vars texts) n (λ m vs ts. run_all rest m vs ts)

  pub run_body : Body → ℕ → List Datum → List Bytes → Ran
  run_body (plan.body actions k p) n vars texts = onward (run_all actions n vars texts) n (closing k)

-- a script, given a number of passes in all and the accepted texts
abbrev pub meaning : Body → ℕ → List Bytes → Ran
meaning script passes texts = run_body script passes [] texts
