-- The calls of a store as values: the answer to each, the store after each, and the store after a list of them.
use Rattle.std.specs.Prelude.{ℕ, List, [], ◌∷◌, ℤ, Ok, Err, Result}
use Rattle.fault.specs.declared.rules.Fault.{Fault}
use Rattle.store.specs.Meaning.{Store, Reply, table_count, cells_left, width_reply, rows_reply, cell_reply}
use Rattle.store.specs.Meaning.{open_reply, open_after, add_reply, add_after, drop_reply, drop_after, settle_reply, settle_after}
use Rattle.store.specs.declared.calls.Call.{Call}
use Rattle.store.specs.declared.calls.Call.TheVariants.{Open, Add, Drop, Settle, Capacity, CellsLeft, TableCount, Width, RowCount, Cell}
use Rattle.store.specs.declared.calls.Answer.{Answer}
use Rattle.store.specs.declared.calls.Answer.TheVariants.{Accepted, Number, Value}

-- what a call is answered by: an answer if it is accepted, else the refusal
abbrev pub Answered : Type 0
Answered = Result Answer Fault

abbrev pub accepted_answer : Reply → Answered
accepted_answer (Ok u) = Ok Accepted
accepted_answer (Err f) = Err f

abbrev pub number_answer : Result ℕ Fault → Answered
number_answer (Ok n) = Ok (Number n)
number_answer (Err f) = Err f

abbrev pub value_answer : Result ℤ Fault → Answered
value_answer (Ok v) = Ok (Value v)
value_answer (Err f) = Err f

abbrev pub answer : Store → Call → Answered
answer s (Open w) = accepted_answer (open_reply s w)
answer s (Add r) = accepted_answer (add_reply s r)
answer s Drop = accepted_answer (drop_reply s)
answer s (Settle n) = accepted_answer (settle_reply s n)
answer s Capacity = Ok (Number s.capacity)
answer s CellsLeft = Ok (Number (cells_left s))
answer s TableCount = Ok (Number (table_count s))
answer s (Width t) = number_answer (width_reply s t)
answer s (RowCount t) = number_answer (rows_reply s t)
answer s (Cell t r c) = value_answer (cell_reply s t r c)

-- A question changes nothing.
abbrev pub after : Store → Call → Store
after s (Open w) = open_after s w
after s (Add r) = add_after s r
after s Drop = drop_after s
after s (Settle n) = settle_after s n
after s Capacity = s
after s CellsLeft = s
after s TableCount = s
after s (Width t) = s
after s (RowCount t) = s
after s (Cell t r c) = s

abbrev pub after_all : Store → List Call → Store
after_all s [] = s
after_all s (call ∷ calls) = after_all (after s call) calls
