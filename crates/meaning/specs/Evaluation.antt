-- What an expression means: its value, given the variables and the rows of the brackets around it.
use Rattle.std.specs.Prelude.{ℕ, Bool, true, false, cond, not, List, [], ◌∷◌, ◌++◌, map, ℤ, pos, neg_ℤ, slice_index_or, slice_set}
use Rattle.grammar.specs.Tree.{Constant, Constant.integer_constant, Constant.string_constant, Constant.truth_constant, Tuple, Tuple.tuple_of}
use Rattle.plan.specs.Plan.{Kept, Term}
use Rattle.plan.specs.Plan.{Term.constant, Term.variable, Term.attribute, Term.tuples, Term.logical, Term.compared, Term.summed, Term.multiplied, Term.negative, Term.negated, Term.joined, Term.projected, Term.renamed, Term.selected, Term.existing, Term.everywhere, Term.updated, Term.extended}
use Rattle.texts.specs.Language.{Value, Value.integer, Value.string, Value.boolean}
use Rattle.words.specs.declared.tokens.Logic.{Logic}
use Rattle.words.specs.declared.tokens.Logic.TheVariants.{And, Or}
use Rattle.meaning.specs.Values.{Row, Datum, Datum.atomic, Datum.table, insert, insert_all, compare, Computed, Computed.computed, bind, ranged, sum_of, product_of}

-- Parts of values. A typed script never asks for a part that is not there; the integer 0, false or no rows stand for it.

abbrev pub nothing : Value
nothing = integer (pos 0)

abbrev pub value_in : Datum → Value
value_in (atomic v) = v
value_in (table rows) = nothing

abbrev pub rows_in : Datum → List Row
rows_in (atomic v) = []
rows_in (table rows) = rows

abbrev pub integer_in : Value → ℤ
integer_in (integer z) = z
integer_in (string s) = pos 0
integer_in (boolean b) = pos 0

abbrev pub truth_in : Value → Bool
truth_in (integer z) = false
truth_in (string s) = false
truth_in (boolean b) = b

abbrev pub integer_of : Datum → ℤ
integer_of d = integer_in (value_in d)

abbrev pub truth_of : Datum → Bool
truth_of d = truth_in (value_in d)

abbrev pub truth : Bool → Computed Datum
truth b = computed (atomic (boolean b))

-- Constants.

abbrev pub value_of : Constant → Value
value_of (integer_constant z p) = integer z
value_of (string_constant s p) = string s
value_of (truth_constant b p) = boolean b

abbrev pub row_of : Tuple → Row
row_of (tuple_of cs p) = map value_of cs

-- Rows in turn.

-- a value is computed at each row, and says what the row adds to the result
abbrev pub gathered : (Row → Computed Datum) → (List Row → Row → Datum → List Row) → List Row → List Row → Computed (List Row)
gathered f add result [] = computed result
gathered f add result (r ∷ rows) = bind (f r) (λ d. gathered f add (add result r d) rows)

-- select keeps the row where the condition is true
abbrev pub keeping : List Row → Row → Datum → List Row
keeping result r d = cond (truth_of d) (insert result r) result

-- update puts the value into the row's column, computed from the old row
abbrev pub replacing : ℕ → List Row → Row → Datum → List Row
replacing k result r d = insert result (slice_set r k (value_in d))

-- extend puts the value behind the row
abbrev pub appending : List Row → Row → Datum → List Row
appending result r d = insert result (r ++ (value_in d ∷ []))

abbrev pub hits : Bool → Bool → Bool
hits true b = b
hits false b = not b

-- does the condition come out as `wanted` at some row; the first such row ends the search
abbrev pub some_row : Bool → (Row → Computed Datum) → List Row → Computed Bool
some_row wanted f [] = computed false
some_row wanted f (r ∷ rows) = bind (f r) (λ d. cond (hits wanted (truth_of d)) (computed true) (some_row wanted f rows))

-- each left row with each right row
abbrev pub pairs : List Row → List Row → List Row
pairs [] right = []
pairs (l ∷ left) right = map (λ r. l ++ r) right ++ pairs left right

abbrev pub picked : List Kept → Row → Row
picked [] r = []
picked (k ∷ ks) r = slice_index_or r k.column nothing ∷ picked ks r

abbrev pub as_table : List Row → Computed Datum
as_table rows = computed (table rows)

-- `and` and `or` skip a right side that cannot matter
abbrev pub connect : Logic → Datum → Computed Datum → Computed Datum
connect And x y = cond (truth_of x) y (truth false)
connect Or x y = cond (truth_of x) (truth true) y

-- operands from left to right; an operator's tables before its bracket
unfoldable pub evaluate : Term → List Datum → List Row → Computed Datum
evaluate (constant c) vars rows = computed (atomic (value_of c))
evaluate (variable t i p) vars rows = computed (slice_index_or vars i (atomic nothing))
evaluate (attribute d c k p) vars rows = computed (atomic (slice_index_or (slice_index_or rows c []) k nothing))
evaluate (tuples cs ts p) vars rows = as_table (insert_all [] (map row_of ts))
evaluate (logical o p a b) vars rows = bind (evaluate a vars rows) (λ x. connect o x (evaluate b vars rows))
evaluate (compared o t p a b) vars rows = bind (evaluate a vars rows) (λ x. bind (evaluate b vars rows) (λ y. truth (compare o x y)))
evaluate (summed o p a b) vars rows = bind (evaluate a vars rows) (λ x. bind (evaluate b vars rows) (λ y. sum_of o p (integer_of x) (integer_of y)))
evaluate (multiplied o p a b) vars rows = bind (evaluate a vars rows) (λ x. bind (evaluate b vars rows) (λ y. product_of o p (integer_of x) (integer_of y)))
evaluate (negative p a) vars rows = bind (evaluate a vars rows) (λ x. ranged p (neg_ℤ (integer_of x)))
evaluate (negated p a) vars rows = bind (evaluate a vars rows) (λ x. truth (not (truth_of x)))
evaluate (joined cs p a c b) vars rows =
    bind (evaluate a vars rows) (λ x. bind (evaluate b vars rows) (λ y.
    bind (gathered (λ r. evaluate c vars (r ∷ rows)) keeping [] (pairs (rows_in x) (rows_in y))) as_table))
evaluate (projected cs ks p a) vars rows = bind (evaluate a vars rows) (λ x. as_table (insert_all [] (map (picked ks) (rows_in x))))
evaluate (renamed cs a) vars rows = evaluate a vars rows
evaluate (selected cs p c a) vars rows =
    bind (evaluate a vars rows) (λ x. bind (gathered (λ r. evaluate c vars (r ∷ rows)) keeping [] (rows_in x)) as_table)
evaluate (existing cs p c a) vars rows =
    bind (evaluate a vars rows) (λ x. bind (some_row true (λ r. evaluate c vars (r ∷ rows)) (rows_in x)) truth)
evaluate (everywhere cs p c a) vars rows =
    bind (evaluate a vars rows) (λ x. bind (some_row false (λ r. evaluate c vars (r ∷ rows)) (rows_in x)) (λ b. truth (not b)))
evaluate (updated cs k d p x a) vars rows =
    bind (evaluate a vars rows) (λ t. bind (gathered (λ r. evaluate x vars (r ∷ rows)) (replacing k) [] (rows_in t)) as_table)
evaluate (extended cs d p x a) vars rows =
    bind (evaluate a vars rows) (λ t. bind (gathered (λ r. evaluate x vars (r ∷ rows)) appending [] (rows_in t)) as_table)
