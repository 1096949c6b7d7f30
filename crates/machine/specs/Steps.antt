-- One step of the machine: one clause for each instruction. An operand that is missing or of another kind, or a place outside code, store or
-- strings, is disorder; every other way on is written out.
use Rattle.std.specs.Prelude.{ℕ, zero, suc, ◌+◌, ◌-◌, ◌*◌, Bool, true, false, cond, not, ◌&&◌, List, [], ◌∷◌, ◌++◌, map, length, take, ℤ, pos, negsuc, ◌+ℤ◌, ◌-ℤ◌, ◌*ℤ◌, neg_ℤ, Ok, Err, ◌==◌, nat_lt, slice_index_or, slice_set}
use Rattle.std.proofs.Math.Option.{Option, none, some}
use Rattle.fault.specs.Rules.{number_of}
use Rattle.fault.specs.declared.rules.Rule.TheVariants.{OutOfRange, ZeroDivisor, NoCellsLeft}
use Rattle.meaning.specs.Values.{in_range, quotient, is_zero, less_integer, less_bytes, same_integer}
use Rattle.schema.specs.Kinds.{ValueType}
use Rattle.store.specs.Meaning.{Row, Table, Store, Reply, table_count, open_reply, open_after, add_reply, add_after, drop_reply, drop_after, settle_reply, settle_after, has}
use Rattle.words.specs.Tokens.{Bytes, Place}
use Rattle.code.specs.Generation.{Code}
use Rattle.code.specs.Instructions.{Operation, Instruction, Instruction.◌on◌}
use Rattle.code.specs.Instructions.{Operation.HALT, Operation.NEWATOM, Operation.NEWTAB, Operation.POP, Operation.LDINT, Operation.LDSTR, Operation.LDTAB, Operation.IATTR, Operation.SATTR, Operation.ENDTAB, Operation.LOB, Operation.STO, Operation.LAT, Operation.SKIP, Operation.SKIPF, Operation.EQU, Operation.NEQ, Operation.IGT, Operation.IGE, Operation.ILT, Operation.ILE, Operation.SGT, Operation.SGE, Operation.SLT, Operation.SLE, Operation.PLUS, Operation.MINUS, Operation.TIMES, Operation.DIV, Operation.UMI, Operation.NEG, Operation.JOIN, Operation.ENDJOIN, Operation.SEL, Operation.ENDSEL, Operation.EXS, Operation.ENDEXS, Operation.ALL, Operation.ENDALL, Operation.ENDUPD, Operation.ENDEXT, Operation.UPD, Operation.EXT, Operation.PROJ, Operation.ATTR, Operation.ENDPROJ, Operation.GET, Operation.FGET, Operation.PRINT, Operation.FPRINT}
use Rattle.machine.specs.State.{Operand, Operand.cell, Operand.table_at, Slot, Context, Context.over_one, Context.over_two, Condition.waiting, Condition.showing, Condition.done, State, with_store, with_operands, with_variables, with_contexts, with_condition, goto, fail, disorder}

-- Parts that may be missing.

abbrev pub nth : {A : Type 0} → List A → ℕ → Option A
nth [] n = none
nth (x ∷ xs) zero = some x
nth (x ∷ xs) (suc n) = nth xs n

abbrev pub if_there : {A : Type 0} → Option A → State → (A → State) → State
if_there none s f = disorder s
if_there (some a) s f = f a

abbrev pub also : {A B : Type 0} → Option A → (A → Option B) → Option B
also none f = none
also (some a) f = f a

-- Operands.

-- the last one, if it is a cell
abbrev pub pop_cell_of : List Operand → State → (ℤ → State → State) → State
pop_cell_of [] s f = disorder s
pop_cell_of (table_at n ∷ rest) s f = disorder s
pop_cell_of (cell x ∷ rest) s f = f x (with_operands rest s)

abbrev pub pop_cell : State → (ℤ → State → State) → State
pop_cell s f = pop_cell_of s.operands s f

-- the last one, if it is a table
abbrev pub pop_table_of : List Operand → State → (ℕ → State → State) → State
pop_table_of [] s f = disorder s
pop_table_of (cell x ∷ rest) s f = disorder s
pop_table_of (table_at n ∷ rest) s f = f n (with_operands rest s)

abbrev pub pop_table : State → (ℕ → State → State) → State
pop_table s f = pop_table_of s.operands s f

-- the last one as a boolean, which is 1 or 0
abbrev pub truth_from : ℤ → Option Bool
truth_from (pos zero) = some false
truth_from (pos (suc zero)) = some true
truth_from (pos (suc (suc n))) = none
truth_from (negsuc n) = none

abbrev pub pop_truth : State → (Bool → State → State) → State
pop_truth s f = pop_cell s (λ x t. if_there (truth_from x) t (λ b. f b t))

abbrev pub push : Operand → State → State
push x s = with_operands (x ∷ s.operands) s

abbrev pub bit : Bool → ℤ
bit true = pos 1
bit false = pos 0

abbrev pub push_truth : Bool → State → State
push_truth b s = push (cell (bit b)) s

abbrev pub next : State → State
next s = goto (suc s.counter) s

-- The store. What it refuses for want of cells fails the run with 43; what else it refuses is disorder.

abbrev pub replied : Reply → Store → Place → State → (State → State) → State
replied (Ok u) after p s f = f (with_store after s)
replied (Err f) after p s g = cond (number_of f.rule == 43) (fail NoCellsLeft p s) (disorder s)

abbrev pub opening : ℕ → Place → State → (State → State) → State
opening w p s f = replied (open_reply s.store w) (open_after s.store w) p s f

abbrev pub adding : Row → Place → State → (State → State) → State
adding r p s f = replied (add_reply s.store r) (add_after s.store r) p s f

abbrev pub dropping : Place → State → (State → State) → State
dropping p s f = replied (drop_reply s.store) (drop_after s.store) p s f

abbrev pub settling : ℕ → Place → State → (State → State) → State
settling n p s f = replied (settle_reply s.store n) (settle_after s.store n) p s f

abbrev pub adding_all : List Row → Place → State → (State → State) → State
adding_all [] p s f = f s
adding_all (r ∷ rows) p s f = adding r p s (λ t. adding_all rows p t f)

abbrev pub with_table : ℕ → State → (Table → State) → State
with_table n s f = if_there (nth s.store.tables n) s f

-- a new table with these rows, and its number
abbrev pub building : ℕ → List Row → Place → State → (ℕ → State → State) → State
building w rows p s f = let n = table_count s.store in opening w p s (λ t. adding_all rows p t (f n))

-- the row that a bracket is at
abbrev pub row_in : Store → ℕ → ℕ → Option Row
row_in store n r = also (nth store.tables n) (λ t. nth t.rows r)

abbrev pub row_of : Store → Context → Option Row
row_of store (over_one n r k) = row_in store n r
row_of store (over_two l i r j) = also (row_in store l i) (λ a. also (row_in store r j) (λ b. some (a ++ b)))

-- Variables.

abbrev pub last_of : {A : Type 0} → List A → Option A
last_of xs = nth xs (length xs - 1)

abbrev pub end_slot : Slot → Place → State → (State → State) → State
end_slot (cell x) p s f = f s
end_slot (table_at n) p s f = dropping p s f

-- the last k variables end, with their tables
abbrev pub ending : ℕ → Place → State → State
ending zero p s = next s
ending (suc k) p s =
    if_there (last_of s.variables) s (λ v. end_slot v p s (λ t. ending k p (with_variables (take (length t.variables - 1) t.variables) t)))

abbrev pub load_slot : Slot → Place → State → State
load_slot (cell x) p s = next (push (cell x) s)
load_slot (table_at n) p s = with_table n s (λ t. building t.width t.rows p s (λ m u. next (push (table_at m) u)))

-- storing settles a table over the variable's own
abbrev pub store_slot : Slot → ℕ → Place → State → State
store_slot (cell x) i p s = pop_cell s (λ y t. next (with_variables (slice_set t.variables i (cell y)) t))
store_slot (table_at n) i p s = pop_table s (λ m t. settling n p t next)

-- Jumps.

abbrev pub jumping : ℤ → State → State
jumping (pos n) s = goto (s.counter + n) s
jumping (negsuc n) s = cond (nat_lt n s.counter) (goto (s.counter - suc n) s) (disorder s)

-- Values.

abbrev pub ranged : ℤ → Place → State → State
ranged z p s = cond (in_range z) (next (push (cell z) s)) (fail OutOfRange p s)

abbrev pub two_cells : State → (ℤ → ℤ → State → State) → State
two_cells s f = pop_cell s (λ y t. pop_cell t (λ x u. f x y u))

abbrev pub number_from : ℤ → Option ℕ
number_from (pos n) = some n
number_from (negsuc n) = none

abbrev pub string_of : State → ℤ → Option Bytes
string_of s z = also (number_from z) (nth s.strings)

abbrev pub two_strings : State → (Bytes → Bytes → State → State) → State
two_strings s f = two_cells s (λ x y t. if_there (string_of t x) t (λ a. if_there (string_of t y) t (λ b. f a b t)))

abbrev pub contains_rows : List Row → List Row → Bool
contains_rows rows [] = true
contains_rows rows (r ∷ more) = has rows r && contains_rows rows more

abbrev pub same_rows : List Row → List Row → Bool
same_rows a b = contains_rows b a && contains_rows a b

-- two values of any type; two tables are dropped
abbrev pub comparing_of : List Operand → (Bool → Bool) → Place → State → State
comparing_of [] f p s = disorder s
comparing_of (cell y ∷ rest) f p s = two_cells s (λ x z t. next (push_truth (f (same_integer x z)) t))
comparing_of (table_at m ∷ rest) f p s =
    pop_table s (λ r t. pop_table t (λ l u. with_table l u (λ a. with_table r u (λ b.
    dropping p u (λ v. dropping p v (λ w. next (push_truth (f (same_rows a.rows b.rows)) w)))))))

-- Brackets over one table.

-- the first row, or past the bracket
abbrev pub entering : List Row → Context → ℕ → State → State → State
entering [] c gap s past = past
entering (r ∷ rows) c gap s past = next (with_contexts (c ∷ s.contexts) s)

-- the next row, or past the end
abbrev pub again : Table → ℕ → ℕ → ℕ → List Context → ℕ → State → State → State
again t n r k outer gap s past =
    cond (nat_lt (suc r) (length t.rows)) (goto (s.counter - gap) (with_contexts (over_one n (suc r) k ∷ outer) s)) past

abbrev pub when_one : List Context → State → (ℕ → ℕ → ℕ → List Context → State) → State
when_one [] s f = disorder s
when_one (over_two l i r j ∷ outer) s f = disorder s
when_one (over_one n r k ∷ outer) s f = f n r k outer

abbrev pub when_two : List Context → State → (ℕ → ℕ → ℕ → ℕ → List Context → State) → State
when_two [] s f = disorder s
when_two (over_one n r k ∷ outer) s f = disorder s
when_two (over_two l i r j ∷ outer) s f = f l i r j outer

-- select, update and extend make a table of a width; k is the column that is updated
abbrev pub making : (ℕ → ℕ) → ℕ → ℕ → Place → State → State
making widened k gap p s =
    pop_table s (λ n t. with_table n t (λ old. opening (widened old.width) p s (λ u.
    entering old.rows (over_one n 0 k) gap u (settling n p u (goto (s.counter + (gap + 2)))))))

-- the row of a bracket is treated: what it adds, if anything, goes to the last table
abbrev pub made_row : Option Row → ℕ → ℕ → ℕ → List Context → ℕ → Place → State → State
made_row none n r k outer gap p s = with_table n s (λ t. again t n r k outer gap s (settling n p (with_contexts outer s) next))
made_row (some row) n r k outer gap p s =
    with_table n s (λ t. adding row p s (λ u. again t n r k outer gap u (settling n p (with_contexts outer u) next)))

abbrev pub kept : Bool → Row → Option Row
kept true r = some r
kept false r = none

-- exists and all look for a row with a truth value, and drop the table when they know
abbrev pub deciding : Bool → Place → State → (State → State) → State
deciding b p s f = pop_table s (λ n t. dropping p t (λ u. f (push_truth b u)))

abbrev pub searching : Bool → ℕ → Place → State → State
searching without gap p s =
    pop_table s (λ n t. with_table n t (λ old. entering old.rows (over_one n 0 0) gap s (deciding without p s (goto (s.counter + (gap + 2))))))

abbrev pub hit : Bool → Bool → Bool
hit true b = b
hit false b = not b

-- `wanted` ends the search with its answer, else the next row, else the other answer
abbrev pub searched : Bool → ℕ → Place → State → State
searched wanted gap p s =
    pop_truth s (λ b t. when_one t.contexts t (λ n r k outer. with_table n t (λ old.
    cond (hit wanted b) (deciding wanted p (with_contexts outer t) next)
    (again old n r k outer gap t (deciding (not wanted) p (with_contexts outer t) next)))))

-- Join.

-- the result over the left table, the right one dropped, and the left one is the operand
abbrev pub joined_up : ℕ → Place → State → (State → State) → State
joined_up l p s f = settling l p s (λ t. dropping p t (λ u. f (push (table_at l) u)))

abbrev pub both_rows : List Row → List Row → Bool
both_rows [] b = false
both_rows (x ∷ a) [] = false
both_rows (x ∷ a) (y ∷ b) = true

abbrev pub joining : ℕ → Place → State → State
joining gap p s =
    pop_table s (λ r t. pop_table t (λ l u. with_table l u (λ a. with_table r u (λ b. opening (a.width + b.width) p u (λ v.
    cond (both_rows a.rows b.rows) (next (with_operands s.operands (with_contexts (over_two l 0 r 0 ∷ v.contexts) v)))
    (joined_up l p v (goto (s.counter + (gap + 2)))))))))

abbrev pub next_pair : Table → Table → ℕ → ℕ → ℕ → ℕ → List Context → ℕ → Place → State → State
next_pair a b l i r j outer gap p s =
    cond (nat_lt (suc j) (length b.rows)) (goto (s.counter - gap) (with_contexts (over_two l i r (suc j) ∷ outer) s))
    (cond (nat_lt (suc i) (length a.rows)) (goto (s.counter - gap) (with_contexts (over_two l (suc i) r 0 ∷ outer) s))
    (pop_table s (λ m t. pop_table t (λ n u. joined_up l p (with_contexts outer u) next))))

abbrev pub pair_added : Bool → Row → Place → State → (State → State) → State
pair_added true row p s f = adding row p s f
pair_added false row p s f = f s

abbrev pub pairing : ℕ → Place → State → State
pairing gap p s =
    pop_truth s (λ so t. when_two t.contexts t (λ l i r j outer. with_table l t (λ a. with_table r t (λ b.
    if_there (row_of t.store (over_two l i r j)) t (λ row. pair_added so row p t (λ u. next_pair a b l i r j outer gap p u))))))

-- Instructions that are taken together.

-- a cell of a table constant
abbrev pub constant_cell : Operation → Option ℤ
constant_cell HALT = none
constant_cell (NEWATOM x) = none
constant_cell (NEWTAB x) = none
constant_cell (POP x) = none
constant_cell (LDINT x) = none
constant_cell (LDSTR x) = none
constant_cell (LDTAB x y) = none
constant_cell (IATTR x) = some x
constant_cell (SATTR x) = some (pos x)
constant_cell ENDTAB = none
constant_cell (LOB x) = none
constant_cell (STO x) = none
constant_cell (LAT x y z) = none
constant_cell (SKIP x) = none
constant_cell (SKIPF x) = none
constant_cell EQU = none
constant_cell NEQ = none
constant_cell IGT = none
constant_cell IGE = none
constant_cell ILT = none
constant_cell ILE = none
constant_cell SGT = none
constant_cell SGE = none
constant_cell SLT = none
constant_cell SLE = none
constant_cell PLUS = none
constant_cell MINUS = none
constant_cell TIMES = none
constant_cell DIV = none
constant_cell UMI = none
constant_cell NEG = none
constant_cell (JOIN x) = none
constant_cell (ENDJOIN x) = none
constant_cell (SEL x) = none
constant_cell (ENDSEL x) = none
constant_cell (EXS x) = none
constant_cell (ENDEXS x) = none
constant_cell (ALL x) = none
constant_cell (ENDALL x) = none
constant_cell (ENDUPD x) = none
constant_cell (ENDEXT x) = none
constant_cell (UPD x y z) = none
constant_cell (EXT x y) = none
constant_cell (PROJ x) = none
constant_cell (ATTR x y) = none
constant_cell ENDPROJ = none
constant_cell (GET x y) = none
constant_cell (FGET x y) = none
constant_cell (PRINT x) = none
constant_cell (FPRINT x) = none

-- a column of a projection
abbrev pub kept_column : Operation → Option ℕ
kept_column HALT = none
kept_column (NEWATOM x) = none
kept_column (NEWTAB x) = none
kept_column (POP x) = none
kept_column (LDINT x) = none
kept_column (LDSTR x) = none
kept_column (LDTAB x y) = none
kept_column (IATTR x) = none
kept_column (SATTR x) = none
kept_column ENDTAB = none
kept_column (LOB x) = none
kept_column (STO x) = none
kept_column (LAT x y z) = none
kept_column (SKIP x) = none
kept_column (SKIPF x) = none
kept_column EQU = none
kept_column NEQ = none
kept_column IGT = none
kept_column IGE = none
kept_column ILT = none
kept_column ILE = none
kept_column SGT = none
kept_column SGE = none
kept_column SLT = none
kept_column SLE = none
kept_column PLUS = none
kept_column MINUS = none
kept_column TIMES = none
kept_column DIV = none
kept_column UMI = none
kept_column NEG = none
kept_column (JOIN x) = none
kept_column (ENDJOIN x) = none
kept_column (SEL x) = none
kept_column (ENDSEL x) = none
kept_column (EXS x) = none
kept_column (ENDEXS x) = none
kept_column (ALL x) = none
kept_column (ENDALL x) = none
kept_column (ENDUPD x) = none
kept_column (ENDEXT x) = none
kept_column (UPD x y z) = none
kept_column (EXT x y) = none
kept_column (PROJ x) = none
kept_column (ATTR x y) = some x
kept_column ENDPROJ = none
kept_column (GET x y) = none
kept_column (FGET x y) = none
kept_column (PRINT x) = none
kept_column (FPRINT x) = none

abbrev pub operation_of : Instruction → Operation
operation_of (o on p) = o

abbrev pub operation_at : Code → ℕ → Option Operation
operation_at code i = also (nth code i) (λ x. some (operation_of x))

-- n operands of the instructions from i on
abbrev pub gathered : {A : Type 0} → (Operation → Option A) → Code → ℕ → ℕ → Option (List A)
gathered view code i zero = some []
gathered view code i (suc n) =
    also (operation_at code i) (λ o. also (view o) (λ x. also (gathered view code (suc i) n) (λ xs. some (x ∷ xs))))

abbrev pub gathered_rows : Code → ℕ → ℕ → ℕ → Option (List Row)
gathered_rows code i w zero = some []
gathered_rows code i w (suc n) = also (gathered constant_cell code i w) (λ r. also (gathered_rows code (i + w) w n) (λ rs. some (r ∷ rs)))

abbrev pub picked : List ℕ → Row → Row
picked [] r = []
picked (k ∷ ks) r = slice_index_or r k (pos 0) ∷ picked ks r

abbrev pub projecting : List ℕ → Place → State → State
projecting ks p s =
    pop_table s (λ n t. with_table n t (λ old. building (length ks) (map (picked ks) old.rows) p s (λ m u.
    settling n p u (goto (s.counter + (length ks + 2))))))

-- the last operand is shown
abbrev pub printed : List Operand → Option Bytes → ValueType → State → State
printed [] name t s = disorder s
printed (x ∷ rest) name t s = next (with_condition (showing name t x 0) (with_operands rest s))

-- One clause for each instruction.

unfoldable pub execute : Code → Operation → Place → State → State
execute code HALT p s = with_condition done s
execute code (NEWATOM n) p s = next (with_variables (s.variables ++ (cell (pos 0) ∷ [])) s)
execute code (NEWTAB w) p s = let n = table_count s.store in opening w p s (λ t. next (with_variables (t.variables ++ (table_at n ∷ [])) t))
execute code (POP k) p s = ending k p s
execute code (LDINT z) p s = next (push (cell z) s)
execute code (LDSTR n) p s = next (push (cell (pos n)) s)
execute code (LDTAB w n) p s =
    if_there (gathered_rows code (suc s.counter) w n) s (λ rows. building w rows p s (λ m t. goto (s.counter + (n * w + 2)) (push (table_at m) t)))
execute code (IATTR z) p s = disorder s
execute code (SATTR n) p s = disorder s
execute code ENDTAB p s = disorder s
execute code (LOB i) p s = if_there (nth s.variables i) s (λ v. load_slot v p s)
execute code (STO i) p s = if_there (nth s.variables i) s (λ v. store_slot v i p s)
execute code (LAT c k n) p s =
    if_there (nth s.contexts c) s (λ x. if_there (row_of s.store x) s (λ r. if_there (nth r k) s (λ z. next (push (cell z) s))))
execute code (SKIP z) p s = jumping z s
execute code (SKIPF z) p s = pop_truth s (λ b t. cond b (next t) (jumping z t))
execute code EQU p s = comparing_of s.operands (λ b. b) p s
execute code NEQ p s = comparing_of s.operands not p s
execute code IGT p s = two_cells s (λ x y t. next (push_truth (less_integer y x) t))
execute code IGE p s = two_cells s (λ x y t. next (push_truth (not (less_integer x y)) t))
execute code ILT p s = two_cells s (λ x y t. next (push_truth (less_integer x y) t))
execute code ILE p s = two_cells s (λ x y t. next (push_truth (not (less_integer y x)) t))
execute code SGT p s = two_strings s (λ x y t. next (push_truth (less_bytes y x) t))
execute code SGE p s = two_strings s (λ x y t. next (push_truth (not (less_bytes x y)) t))
execute code SLT p s = two_strings s (λ x y t. next (push_truth (less_bytes x y) t))
execute code SLE p s = two_strings s (λ x y t. next (push_truth (not (less_bytes y x)) t))
execute code PLUS p s = two_cells s (λ x y t. ranged (x +ℤ y) p t)
execute code MINUS p s = two_cells s (λ x y t. ranged (x -ℤ y) p t)
execute code TIMES p s = two_cells s (λ x y t. ranged (x *ℤ y) p t)
execute code DIV p s = two_cells s (λ x y t. cond (is_zero y) (fail ZeroDivisor p t) (ranged (quotient x y) p t))
execute code UMI p s = pop_cell s (λ x t. ranged (neg_ℤ x) p t)
execute code NEG p s = pop_truth s (λ b t. next (push_truth (not b) t))
execute code (JOIN gap) p s = joining gap p s
execute code (ENDJOIN gap) p s = pairing gap p s
execute code (SEL gap) p s = making (λ w. w) 0 gap p s
execute code (ENDSEL gap) p s =
    pop_truth s (λ b t. when_one t.contexts t (λ n r k outer. if_there (row_in t.store n r) t (λ row. made_row (kept b row) n r k outer gap p t)))
execute code (EXS gap) p s = searching false gap p s
execute code (ENDEXS gap) p s = searched true gap p s
execute code (ALL gap) p s = searching true gap p s
execute code (ENDALL gap) p s = searched false gap p s
execute code (ENDUPD gap) p s =
    pop_cell s (λ x t. when_one t.contexts t (λ n r k outer. if_there (row_in t.store n r) t (λ row. made_row (some (slice_set row k x)) n r k outer gap p t)))
execute code (ENDEXT gap) p s =
    pop_cell s (λ x t. when_one t.contexts t (λ n r k outer. if_there (row_in t.store n r) t (λ row. made_row (some (row ++ (x ∷ []))) n r k outer gap p t)))
execute code (UPD k n gap) p s = making (λ w. w) k gap p s
execute code (EXT n gap) p s = making suc 0 gap p s
execute code (PROJ k) p s = if_there (gathered kept_column code (suc s.counter) k) s (λ ks. projecting ks p s)
execute code (ATTR k n) p s = disorder s
execute code ENDPROJ p s = disorder s
execute code (GET i t) p s = next (with_condition (waiting none t i) s)
execute code (FGET i t) p s = pop_cell s (λ z u. if_there (string_of u z) u (λ name. next (with_condition (waiting (some name) t i) u)))
execute code (PRINT t) p s = printed s.operands none t s
execute code (FPRINT t) p s = pop_cell s (λ z u. if_there (string_of u z) u (λ name. printed u.operands (some name) t u))

abbrev pub execute_at : Code → Instruction → State → State
execute_at code (o on p) s = execute code o p s

-- a step, where the run is going; outside the code there is nothing to execute
abbrev pub step : Code → State → State
step code s = if_there (nth code s.counter) s (λ i. execute_at code i s)
