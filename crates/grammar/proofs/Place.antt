-- Every stack has a completion, so a refused token is where no program goes on.
-- the shortest tokens of each kind, and of a stack
use mathlib.Core.Path.{◌≡◌, refl, sym, subst, ap, ◌∙◌}
use mathlib.Core.Logic.{◌⊎◌, inl, inr}
use native.Mathlib.Omega.{arith}
use native.Mathlib.Nat.{le_refl}
use Prim.Native.Nat.{ℕ, zero, suc, ◌≤◌, ◌+◌}
use mathlib.Core.List.{List, [], ◌∷◌, ◌++◌, append_assoc, append-nil}
use mathlib.Core.Bool.{Bool, true, false}
use mathlib.Core.Option.{Option, none, some}
use lib.ListN.{length}
use Rattle.words.specs.Tokens.{Token}
use Rattle.grammar.specs.Parts.{Part, Level, turn_in, turn_at, same_as, end_token, then_token, do_token, read_token, integer_token, left_parenthesis}
use Rattle.grammar.specs.Parts.{right_parenthesis, left_bracket, right_bracket, assign_token, some_name, some_integer, Level.statement_level, Level.name_level}
use Rattle.grammar.specs.Parts.{Level.type_level, Level.constant_level, Level.attribute_level, Level.tuple_level, Level.logic_level, Level.comparison_level}
use Rattle.grammar.specs.Parts.{Level.sum_level, Level.product_level, Level.compared_level, Between.no_operator, Turn.stop, Leaf.name_leaf, Leaf.type_leaf}
use Rattle.grammar.specs.Parts.{Leaf.constant_leaf, Argument.no_argument, Argument.names_argument, Argument.condition_argument, Argument.update_argument}
use Rattle.grammar.specs.Parts.{Argument.extend_argument}
use Rattle.grammar.proofs.Table.{TableSymbol, Reads, TableSymbol.prog, Reads.eats, Reads.atoms, Reads.first, Reads.done, Reads.next, Reads.joins}
use Rattle.grammar.proofs.Table.{Reads.brackets, Reads.no_arg, Reads.arg_ids, Reads.arg_expr, Reads.arg_upd, Reads.arg_ext, Reads.leafs, Reads.unaries}
use Rattle.grammar.proofs.Table.{Reads.parens, Reads.braces, Reads.inst_tuples, Reads.inst_types, Reads.tuples, Reads.attrs, Reads.assigns, Reads.defines}
use Rattle.grammar.proofs.Table.{Reads.tables, Reads.read1, Reads.read2, Reads.write1, Reads.write2, Reads.whilst, Reads.conds, Reads.ends, Reads.other}
use Rattle.grammar.proofs.Table.{Reads.whole}
use Rattle.grammar.specs.Grammar.{Leave}
use Rattle.grammar.specs.Readers.{wholly, Outcome, Outcome.found, Outcome.refused_at, program_at, Cause, Cause.cannot_follow, Cause.too_deep}
use Rattle.grammar.proofs.TablePromise.{Program, Begins, Within, check, Fault, AcceptsRight, FaultsRight, OneTree}
use Rattle.grammar.specs.Promise.{any_token, only_last, raise}
use Rattle.grammar.proofs.Sound.{sound}
use Rattle.grammar.proofs.Complete.{complete}
use Rattle.grammar.proofs.Machine.{Close, word, Kind, Sym.sy, Stack, Tm, Tm.here, Tm.below, push, Act, Act.refuse, Act.pass, Act.eat, Act.opens, acts, Out}
use Rattle.grammar.proofs.Machine.{gate, act, step, void, finish_on, finish, run_on, run, after, program_s, program_sim, Close.c_program, Close.c_end}
use Rattle.grammar.proofs.Machine.{Close.c_assign, Close.c_lpar, Close.c_rpar, Close.c_lbr, Close.c_rbr, Close.c_rbc, Kind.q_fac, Kind.q_bra, Kind.q_stt, Kind.q_els}
use Rattle.grammar.proofs.Machine.{Kind.q_thn, Kind.q_dow, Kind.q_attr, Kind.q_tup, Kind.q_ins, Kind.q_rd, Kind.q_wr, Kind.q_tl, Kind.q_tok, Kind.q_atom, Kind.q_arg}
use Rattle.grammar.proofs.Machine.{Out.to, Out.no, End.accept, End.reject}

words : Kind → List Token
words q_fac = some_integer ∷ []
words q_bra = left_bracket ∷ some_integer ∷ right_bracket ∷ []
words q_stt = read_token ∷ some_name ∷ []
words q_els = end_token ∷ []
words q_thn = then_token ∷ read_token ∷ some_name ∷ end_token ∷ []
words q_dow = do_token ∷ read_token ∷ some_name ∷ end_token ∷ []
words q_attr = integer_token ∷ some_name ∷ []
words q_tup = left_parenthesis ∷ some_integer ∷ right_parenthesis ∷ []
words q_ins = integer_token ∷ []
words q_rd = some_name ∷ []
words q_wr = some_integer ∷ []
words (q_tl l) = []
words (q_tok c) = word c ∷ []
words (q_atom name_leaf) = some_name ∷ []
words (q_atom type_leaf) = integer_token ∷ []
words (q_atom constant_leaf) = some_integer ∷ []
words (q_arg no_argument) = []
words (q_arg names_argument) = left_bracket ∷ some_name ∷ right_bracket ∷ []
words (q_arg condition_argument) = left_bracket ∷ some_integer ∷ right_bracket ∷ []
words (q_arg update_argument) = left_bracket ∷ some_name ∷ assign_token ∷ some_integer ∷ right_bracket ∷ []
words (q_arg extend_argument) = left_bracket ∷ integer_token ∷ some_name ∷ assign_token ∷ some_integer ∷ right_bracket ∷ []

comp : Stack → List Token
comp [] = []
comp (sy q n ∷ st) = words q ++ comp st

no_op : (l : Level) → turn_in l no_operator ≡ stop
no_op statement_level = refl
no_op name_level = refl
no_op type_level = refl
no_op constant_level = refl
no_op attribute_level = refl
no_op tuple_level = refl
no_op logic_level = refl
no_op comparison_level = refl
no_op sum_level = refl
no_op product_level = refl
no_op compared_level = refl

word_op : (w : Close) (l : Level) → turn_at l (word w) ≡ stop
word_op c_program l = no_op l
word_op c_end l = no_op l
word_op c_assign l = no_op l
word_op c_lpar l = no_op l
word_op c_rpar l = no_op l
word_op c_lbr l = no_op l
word_op c_rbr l = no_op l
word_op c_rbc l = no_op l

word_is : (w : Close) → same_as (word w) (word w) ≡ true
word_is c_program = refl
word_is c_end = refl
word_is c_assign = refl
word_is c_lpar = refl
word_is c_rpar = refl
word_is c_lbr = refl
word_is c_rbr = refl
word_is c_rbc = refl

-- more depths
up : ℕ → Stack → Stack
up e [] = []
up e (sy q n ∷ st) = sy q (raise e n) ∷ up e st

skip : (leave : Leave) (k : Token) (s : List Token) (l : Level) (n : ℕ) (st : Stack) → turn_at l k ≡ stop → run leave (k ∷ s) (sy (q_tl l) n ∷ st) ≡ run leave (k ∷ s) st
unfolding run step
skip leave k s l n st e = rw e

quiet : (leave : Leave) (st : Stack) (l : Level) (n : ℕ) (st' : Stack) → run leave (comp st) (sy (q_tl l) n ∷ st') ≡ run leave (comp st) st'
unfolding comp words
quiet leave [] l n st' = unfold run finish in refl
quiet leave (sy q_fac m ∷ st) l n st' = skip leave _ _ l n st' (no_op l)
quiet leave (sy q_bra m ∷ st) l n st' = skip leave _ _ l n st' (no_op l)
quiet leave (sy q_stt m ∷ st) l n st' = skip leave _ _ l n st' (no_op l)
quiet leave (sy q_els m ∷ st) l n st' = skip leave _ _ l n st' (no_op l)
quiet leave (sy q_thn m ∷ st) l n st' = skip leave _ _ l n st' (no_op l)
quiet leave (sy q_dow m ∷ st) l n st' = skip leave _ _ l n st' (no_op l)
quiet leave (sy q_attr m ∷ st) l n st' = skip leave _ _ l n st' (no_op l)
quiet leave (sy q_tup m ∷ st) l n st' = skip leave _ _ l n st' (no_op l)
quiet leave (sy q_ins m ∷ st) l n st' = skip leave _ _ l n st' (no_op l)
quiet leave (sy q_rd m ∷ st) l n st' = skip leave _ _ l n st' (no_op l)
quiet leave (sy q_wr m ∷ st) l n st' = skip leave _ _ l n st' (no_op l)
quiet leave (sy (q_tl j) m ∷ st) l n st' = quiet leave st l n st'
quiet leave (sy (q_tok c) m ∷ st) l n st' = skip leave _ _ l n st' (word_op c l)
quiet leave (sy (q_atom name_leaf) m ∷ st) l n st' = skip leave _ _ l n st' (no_op l)
quiet leave (sy (q_atom type_leaf) m ∷ st) l n st' = skip leave _ _ l n st' (no_op l)
quiet leave (sy (q_atom constant_leaf) m ∷ st) l n st' = skip leave _ _ l n st' (no_op l)
quiet leave (sy (q_arg no_argument) m ∷ st) l n st' = quiet leave st l n st'
quiet leave (sy (q_arg names_argument) m ∷ st) l n st' = skip leave _ _ l n st' (no_op l)
quiet leave (sy (q_arg condition_argument) m ∷ st) l n st' = skip leave _ _ l n st' (no_op l)
quiet leave (sy (q_arg update_argument) m ∷ st) l n st' = skip leave _ _ l n st' (no_op l)
quiet leave (sy (q_arg extend_argument) m ∷ st) l n st' = skip leave _ _ l n st' (no_op l)

no_arg_lem : (leave : Leave) (st : Stack) (n : ℕ) (st' : Stack) → run leave (comp st) (sy (q_arg no_argument) n ∷ st') ≡ run leave (comp st) st'
no_arg_lem leave st n st' = go (comp st)
  where
    go : (s : List Token) → run leave s (sy (q_arg no_argument) n ∷ st') ≡ run leave s st'
    go [] = unfold run finish in refl
    go (k ∷ s) = unfold run step in refl

-- where the tokens may open a depth, a stack with one depth more is emptied
completes : (leave : Leave) (x : ℕ) → ((n : ℕ) (s : List Token) → length s ≤ x → leave n s ≡ true) → (st : Stack) → length (comp st) ≤ x → run leave (comp st) (up 1 st) ≡ accept
unfolding comp words run step up finish
completes leave x h [] le = refl
completes leave x h (sy q_fac m ∷ st) le = completes leave x h st (omega arith)
completes leave x h (sy q_bra m ∷ st) le = rw (h m (comp (sy q_bra m ∷ st)) le) (completes leave x h st (omega arith))
completes leave x h (sy q_stt m ∷ st) le = completes leave x h st (omega arith)
completes leave x h (sy q_els m ∷ st) le = completes leave x h st (omega arith)
completes leave x h (sy q_thn m ∷ st) le = rw (h m (comp (sy q_thn m ∷ st)) le) (completes leave x h st (omega arith))
completes leave x h (sy q_dow m ∷ st) le = rw (h m (comp (sy q_dow m ∷ st)) le) (completes leave x h st (omega arith))
completes leave x h (sy q_attr m ∷ st) le = completes leave x h st (omega arith)
completes leave x h (sy q_tup m ∷ st) le = completes leave x h st (omega arith)
completes leave x h (sy q_ins m ∷ st) le = quiet leave st _ _ _ ∙ completes leave x h st (omega arith)
completes leave x h (sy q_rd m ∷ st) le = completes leave x h st (omega arith)
completes leave x h (sy q_wr m ∷ st) le = quiet leave st _ _ _ ∙ quiet leave st _ _ _ ∙ quiet leave st _ _ _ ∙ quiet leave st _ _ _ ∙ completes leave x h st (omega arith)
completes leave x h (sy (q_tl l) m ∷ st) le = quiet leave st l _ _ ∙ completes leave x h st (omega arith)
completes leave x h (sy (q_tok c) m ∷ st) le = rw (word_is c) (completes leave x h st (omega arith))
completes leave x h (sy (q_atom name_leaf) m ∷ st) le = completes leave x h st (omega arith)
completes leave x h (sy (q_atom type_leaf) m ∷ st) le = completes leave x h st (omega arith)
completes leave x h (sy (q_atom constant_leaf) m ∷ st) le = completes leave x h st (omega arith)
completes leave x h (sy (q_arg no_argument) m ∷ st) le = no_arg_lem leave st _ _ ∙ completes leave x h st (omega arith)
completes leave x h (sy (q_arg names_argument) m ∷ st) le = completes leave x h st (omega arith)
completes leave x h (sy (q_arg condition_argument) m ∷ st) le = completes leave x h st (omega arith)
completes leave x h (sy (q_arg update_argument) m ∷ st) le = completes leave x h st (omega arith)
completes leave x h (sy (q_arg extend_argument) m ∷ st) le = completes leave x h st (omega arith)

-- the machine over the tokens of p, with w after them
data Moves (leave : Leave) (w : List Token) : List Token → Stack → Stack → Type 0 where
  stay : {st : Stack} → Moves leave w [] st st
  move : {k : Token} {p : List Token} {a b c : Stack} → step leave k (p ++ w) a ≡ to b → Moves leave w p b c → Moves leave w (k ∷ p) a c

moves_run : {leave : Leave} {w p : List Token} {a b : Stack} → Moves leave w p a b → run leave (p ++ w) a ≡ run leave w b
unfolding run
moves_run stay = refl
moves_run (move e m) = rw e (moves_run m)

-- where the machine stops: the end with something due, or a token that does not go on
abbrev Stuck : Leave → Cause → List Token → Stack → Type 0
Stuck leave c [] st = finish st ≡ reject c []
Stuck leave c (k ∷ r) st = step leave k r st ≡ no c

abbrev Stopped : Leave → List Token → Stack → Cause → List Token → Type 0
Stopped leave s a c r = (p : List Token) × (b : Stack) × (s ≡ p ++ r) × Moves leave r p a b × Stuck leave c r b

finish_end : (st : Stack) (c : Cause) (r : List Token) → finish st ≡ reject c r → r ≡ []
unfolding finish
finish_end [] c r e = let z : accept ≡ reject c r = e in cc
finish_end (sy q n ∷ st) c r e = go (λ e. finish_end st c r e) (void q) e
  where
    go : (finish st ≡ reject c r → r ≡ []) → (b : Bool) → finish_on b (finish st) ≡ reject c r → r ≡ []
    go ih true e = ih e
    go ih false e = let z : reject cannot_follow [] ≡ reject c r = e in cc

stopped : (leave : Leave) (s : List Token) (a : Stack) (c : Cause) (r : List Token) → run leave s a ≡ reject c r → Stopped leave s a c r
unfolding run
stopped leave [] a c r e = let z = finish_end a c r e in subst (λ r. Stopped leave [] a c r) (sym z) ([], a, refl, stay, rw z at e)
stopped leave (k ∷ s) a c r e = go (λ b. stopped leave s b c r) (step leave k s a) refl e
  where
    go : ((b : Stack) → run leave s b ≡ reject c r → Stopped leave s b c r) → (x : Out) → step leave k s a ≡ x → run_on (run leave s) (k ∷ s) x ≡ reject c r → Stopped leave (k ∷ s) a c r
    go ih (to b) h e = let z = ih b e in (k ∷ z.0, z.1, ap (λ q. k ∷ q) z.2, move (rw z.2 at h) z.3, z.4)
    go ih (no d) h e =
        let i : d ≡ c = cc in
        let j : k ∷ s ≡ r = cc in
        subst (λ r. Stopped leave (k ∷ s) a c r) j ([], a, refl, stay, rw i at h)

raise_suc : (e n : ℕ) → raise e (suc n) ≡ suc (raise e n)
raise_suc zero n = refl
raise_suc (suc e) n = ap suc (raise_suc e n)

raise_add : (j n : ℕ) → raise j n ≡ j + n
raise_add zero n = omega arith
raise_add (suc j) n = let h = raise_add j n in omega arith

raise_comm : (j n : ℕ) → raise j n ≡ raise n j
raise_comm j n = let a = raise_add j n in let b = raise_add n j in omega arith

push_up : (e n m : ℕ) (ts : List Tm) (st : Stack) → push (raise e n) (raise e m) ts (up e st) ≡ up e (push n m ts st)
unfolding up
push_up e n m [] st = refl
push_up e n m (here q ∷ ts) st = ap (λ x. sy q (raise e n) ∷ x) (push_up e n m ts st)
push_up e n m (below q ∷ ts) st = ap (λ x. sy q (raise e m) ∷ x) (push_up e n m ts st)

-- a step of the machine with e depths more, under a rule that lets the n that were there be opened
abbrev Legit : ℕ → Leave → Type 0
Legit e leave = (n : ℕ) (s : List Token) → leave (raise e n) s ≡ true

gate_suc : (e : ℕ) (leave : Leave) → Legit e leave → (n : ℕ) (s : List Token) → gate leave (raise e (suc n)) s ≡ some (raise e n)
gate_suc e leave h n s = rw (raise_suc e n, h n s)

-- the same step, but where the depth was refused
abbrev Up : ℕ → Out → Out → Type 0
Up e (to x) y = y ≡ to (up e x)
Up e (no c) y = ((y ≡ no c) × (c ≡ cannot_follow)) ⊎ (c ≡ too_deep)

act_none : (e : ℕ) (a : Act) (g : Option ℕ) (n : ℕ) (st : Stack) (y z : Out) → Up e y z → Up e (act a none n st y) (act a g (raise e n) (up e st) z)
act_none e refuse g n st y z h = inl (refl, refl)
act_none e pass g n st y z h = h
act_none e (eat ts) g n st y z h = ap to (push_up e n n ts st)
act_none e (opens ts) g n st y z h = inr refl

act_some : (e : ℕ) (a : Act) (m n : ℕ) (st : Stack) (y z : Out) → Up e y z → Up e (act a (some m) n st y) (act a (some (raise e m)) (raise e n) (up e st) z)
act_some e refuse m n st y z h = inl (refl, refl)
act_some e pass m n st y z h = h
act_some e (eat ts) m n st y z h = ap to (push_up e n n ts st)
act_some e (opens ts) m n st y z h = ap to (push_up e n m ts st)

step_up : (e : ℕ) (leave : Leave) → Legit e leave → (k : Token) (s r : List Token) (st : Stack) → Up e (step any_token k s st) (step leave k r (up e st))
unfolding step up
step_up e leave h k s r [] = inl (refl, refl)
step_up e leave h k s r (sy q zero ∷ st) = act_none e (acts q k) _ zero st _ _ (step_up e leave h k s r st)
step_up e leave h k s r (sy q (suc n) ∷ st) = rw (gate_suc e leave h n (k ∷ r)) (act_some e (acts q k) n (suc n) st _ _ (step_up e leave h k s r st))

-- the same refusal, where e depths more may not be opened
abbrev Same : Out → Out → Type 0
Same (to x) y = Unit {0}
Same (no c) y = y ≡ no c

-- no refusal for the depth, where one more may be opened
abbrev Opened : Out → Out → Type 0
Opened (to x) y = Unit {0}
Opened (no c) y = (c ≡ cannot_follow) ⊎ ((x : Stack) × (y ≡ to x))

same_none : (a : Act) (n m : ℕ) (st st' : Stack) (y z : Out) → Same y z → Same (act a none n st y) (act a none m st' z)
same_none refuse n m st st' y z h = refl
same_none pass n m st st' y z h = h
same_none (eat ts) n m st st' y z h = tt
same_none (opens ts) n m st st' y z h = refl

same_some : (a : Act) (i j n m : ℕ) (st st' : Stack) (y z : Out) → Same y z → Same (act a (some i) n st y) (act a (some j) m st' z)
same_some refuse i j n m st st' y z h = refl
same_some pass i j n m st st' y z h = h
same_some (eat ts) i j n m st st' y z h = tt
same_some (opens ts) i j n m st st' y z h = tt

step_same : (e : ℕ) (leave : Leave) → Legit e leave → (k : Token) (s r : List Token) → gate leave (raise e zero) (k ∷ r) ≡ none → (st : Stack) → Same (step any_token k s st) (step leave k r (up e st))
unfolding step up
step_same e leave h k s r i [] = refl
step_same e leave h k s r i (sy q zero ∷ st) = rw i (same_none (acts q k) _ _ st _ _ _ (step_same e leave h k s r i st))
step_same e leave h k s r i (sy q (suc n) ∷ st) = rw (gate_suc e leave h n (k ∷ r)) (same_some (acts q k) _ _ _ _ st _ _ _ (step_same e leave h k s r i st))

open_any : (a : Act) (g : Option ℕ) (i n m : ℕ) (st st' : Stack) (y z : Out) → Opened y z → Opened (act a g n st y) (act a (some i) m st' z)
open_any refuse g i n m st st' y z h = inl refl
open_any pass g i n m st st' y z h = h
open_any (eat ts) g i n m st st' y z h = tt
open_any (opens ts) none i n m st st' y z h = inr (_, refl)
open_any (opens ts) (some j) i n m st st' y z h = tt

step_open : (k : Token) (s r : List Token) (st : Stack) → Opened (step any_token k s st) (step any_token k r (up 1 st))
unfolding step up
step_open k s r [] = inl refl
step_open k s r (sy q zero ∷ st) = open_any (acts q k) none _ _ _ st _ _ _ (step_open k s r st)
step_open k s r (sy q (suc n) ∷ st) = open_any (acts q k) (some n) _ _ _ st _ _ _ (step_open k s r st)

-- what is read with n depths is read with one more
lift : {S : TableSymbol} {n : ℕ} {s r : List Token} {t : Part} → Reads any_token S n s r t → Reads any_token S (suc n) s r t
lift (eats a) = eats a
lift (atoms a) = atoms a
lift (first a b) = first (lift a) (lift b)
lift done = done
lift (next a b c) = next a (lift b) (lift c)
lift (joins a b c d) = joins a (lift b) (lift c) (lift d)
lift (brackets a b c d) = brackets (lift a) refl (lift c) (lift d)
lift no_arg = no_arg
lift (arg_ids a b c) = arg_ids (lift a) (lift b) (lift c)
lift (arg_expr a b c) = arg_expr (lift a) (lift b) (lift c)
lift (arg_upd a b c d e) = arg_upd (lift a) (lift b) (lift c) (lift d) (lift e)
lift (arg_ext a b c d e f) = arg_ext (lift a) (lift b) (lift c) (lift d) (lift e) (lift f)
lift (leafs a) = leafs a
lift (unaries a b c d) = unaries a refl (lift c) (lift d)
lift (parens a b c d) = parens a refl (lift c) (lift d)
lift (braces a b c) = braces a (lift b) (lift c)
lift (inst_tuples a) = inst_tuples (lift a)
lift (inst_types a) = inst_types (lift a)
lift (tuples a b c) = tuples (lift a) (lift b) (lift c)
lift (attrs a b) = attrs (lift a) (lift b)
lift (assigns a b c) = assigns a (lift b) (lift c)
lift (defines a b) = defines a (lift b)
lift (tables a b c d e) = tables a (lift b) (lift c) (lift d) (lift e)
lift (read1 a b) = read1 a (lift b)
lift (read2 a b c) = read2 a (lift b) (lift c)
lift (write1 a b) = write1 a (lift b)
lift (write2 a b c) = write2 a (lift b) (lift c)
lift (whilst a b c d e f) = whilst a (lift b) (lift c) refl (lift e) (lift f)
lift (conds a b c d e f) = conds a (lift b) (lift c) refl (lift e) (lift f)
lift (ends a) = ends (lift a)
lift (other a b c) = other (lift a) (lift b) (lift c)
lift (whole a b c) = whole (lift a) (lift b) (lift c)

lifts : (j : ℕ) {n : ℕ} {s r : List Token} {t : Part} → Reads any_token prog n s r t → Reads any_token prog (raise j n) s r t
lifts zero a = a
lifts (suc j) a = lift (lifts j a)

moves_up : {w p : List Token} {a b : Stack} (e : ℕ) (leave : Leave) → Legit e leave → (v : List Token) → Moves any_token w p a b → Moves leave v p (up e a) (up e b)
moves_up e leave h v stay = stay
moves_up {w} e leave h v (move {k} {p} {a} i m) = move (rw i at (step_up e leave h k (p ++ w) (p ++ v) a)) (moves_up e leave h v m)

-- the machine and the grammar
accepted : (leave : Leave) (x : Outcome) → after leave x [] ≡ accept → (t : Part) × (x ≡ found t [])
unfolding run step
accepted leave (found t []) e = (t, refl)
accepted leave (found t (k ∷ r)) e = let z : reject cannot_follow (k ∷ r) ≡ accept = e in absurd (let y : ◌≡◌ {A = ℕ} 0 1 = cc in omega arith)
accepted leave (refused_at c r) e = let z : reject c r ≡ accept = e in absurd (let y : ◌≡◌ {A = ℕ} 0 1 = cc in omega arith)

machine_reads : (leave : Leave) (n : ℕ) (s : List Token) → run leave s (program_s n []) ≡ accept → (t : Part) × Reads leave prog n s [] t
machine_reads leave n s e = let h = accepted leave (program_at leave n s) (sym (program_sim leave n s []) ∙ e) in (h.0, sound leave n s h.0 [] h.1)

reads_machine : (leave : Leave) (n : ℕ) (s : List Token) (t : Part) → Reads leave prog n s [] t → run leave s (program_s n []) ≡ accept
unfolding run finish
reads_machine leave n s t a = program_sim leave n s [] ∙ ap (λ x. after leave x []) (complete leave a tt)

legit_held : (e x : ℕ) → Legit e (only_last e x)
legit_held e x n s = let h = raise_add e n in grind arith

legit_always : (e : ℕ) → Legit e any_token
legit_always e n s = refl

free_held : (e x n : ℕ) (s : List Token) → length s ≤ x → only_last e x n s ≡ true
free_held e x n s h = grind arith

closed_held : (e : ℕ) (k : Token) (w : List Token) → gate (only_last e (length w)) (raise e zero) (k ∷ w) ≡ none
closed_held zero k w = refl
closed_held (suc e) k w = let h = raise_add e zero in let i : only_last (suc e) (length w) (raise e zero) (k ∷ w) ≡ false = grind arith in rw i

-- every stack reached is the beginning of a program, in which the tokens so far open no more than n depths
so_far : (n : ℕ) (r p : List Token) (b : Stack) → Moves any_token r p (program_s n []) b → Within n p
unfolding up
so_far n r p b m =
    let v = comp b in
    let leave : Leave = only_last 1 (length v) in
    let e : run leave (p ++ v) (program_s (raise 1 n) []) ≡ accept =
    moves_run (moves_up 1 leave (legit_held 1 (length v)) v m) ∙ completes leave (length v) (free_held 1 (length v)) b (le_refl _) in
    let h = machine_reads leave (raise 1 n) (p ++ v) e in
    (1, v, h.0, h.1)

-- a refused token goes on in no program
stuck_not : (leave : Leave) (n : ℕ) (p : List Token) (b : Stack) (k : Token) (c : Cause) (w : List Token) (t : Part) → Moves leave (k ∷ w) p (program_s n []) b → step leave k w b ≡ no c →
    ¬ (Reads leave prog n ((p ++ (k ∷ [])) ++ w) [] t)
unfolding run
stuck_not leave n p b k c w t m e h =
    let a : Reads leave prog n (p ++ (k ∷ w)) [] t = rw append_assoc at h in
    let x = reads_machine leave n _ _ a in
    let y : run leave (k ∷ w) b ≡ reject c (k ∷ w) = rw e in
    let z : accept ≡ reject c (k ∷ w) = sym x ∙ moves_run m ∙ y in
    absurd (let y : ◌≡◌ {A = ℕ} 0 1 = cc in omega arith)

fin_up : (e : ℕ) (st : Stack) → finish st ≡ reject cannot_follow [] → finish (up e st) ≡ reject cannot_follow []
unfolding finish up
fin_up e [] h = h
fin_up e (sy q n ∷ st) h = go (fin_up e st) (void q) h
  where
    go : (finish st ≡ reject cannot_follow [] → finish (up e st) ≡ reject cannot_follow []) → (b : Bool) → finish_on b (finish st) ≡ reject cannot_follow [] → finish_on b (finish (up e st)) ≡ reject cannot_follow []
    go ih true h = ih h
    go ih false h = refl

finish_cannot_follow : (st : Stack) (c : Cause) → finish st ≡ reject c [] → c ≡ cannot_follow
unfolding finish
finish_cannot_follow [] c e = let z : accept ≡ reject c [] = e in cc
finish_cannot_follow (sy q n ∷ st) c e = go (finish_cannot_follow st c) (void q) e
  where
    go : (finish st ≡ reject c [] → c ≡ cannot_follow) → (b : Bool) → finish_on b (finish st) ≡ reject c [] → c ≡ cannot_follow
    go ih true e = ih e
    go ih false e = let z : reject cannot_follow [] ≡ reject c [] = e in cc

refused : (x : Outcome) (c : Cause) (r : List Token) → wholly x ≡ refused_at c r → after any_token x [] ≡ reject c r
unfolding run step
refused (found t []) c r e = let z : found t [] ≡ refused_at c r = e in cc
refused (found t (k ∷ q)) c r e = let z : refused_at cannot_follow (k ∷ q) ≡ refused_at c r = e in let i : cannot_follow ≡ c = cc in let j : k ∷ q ≡ r = cc in cc
refused (refused_at d q) c r e = let i : d ≡ c = cc in let j : q ≡ r = cc in cc

-- cannot_follow at the end: these tokens are no program at any depth
at_end : (n : ℕ) (p : List Token) (b : Stack) → Moves any_token [] p (program_s n []) b → finish b ≡ reject cannot_follow [] → (m : ℕ) (t : Part) → ¬ (Program m p t)
unfolding run up
at_end n p b m e j t a =
    let h = moves_up j any_token (legit_always j) [] m in
    let x = reads_machine any_token (raise j n) p t (rw (raise_comm j n) (lifts n a)) in
    let y : run any_token p (program_s (raise j n) []) ≡ finish (up j b) = rw append-nil at (moves_run h) in
    let z : accept ≡ reject cannot_follow [] = sym x ∙ y ∙ fin_up j b e in
    absurd (let y : ◌≡◌ {A = ℕ} 0 1 = cc in omega arith)

step_cannot_follow : (e : ℕ) (k : Token) (r w : List Token) (b : Stack) → step any_token k r b ≡ no cannot_follow → step any_token k w (up e b) ≡ no cannot_follow
step_cannot_follow e k r w b h = go (rw h at (step_up e any_token (legit_always e) k r w b))
  where
    go : Up e (no cannot_follow) (step any_token k w (up e b)) → step any_token k w (up e b) ≡ no cannot_follow
    go (inl i) = i.0
    go (inr i) = absurd (let y : ◌≡◌ {A = ℕ} 0 1 = cc in omega arith)

at_token : (n : ℕ) (p r : List Token) (b : Stack) (k : Token) → Moves any_token (k ∷ r) p (program_s n []) b → step any_token k r b ≡ no cannot_follow → ¬ (Begins (p ++ (k ∷ [])))
unfolding up
at_token n p r b k m e a =
    let j = a.0 in let w = a.1 in
    stuck_not any_token (raise j n) p (up j b) k cannot_follow w a.2 (moves_up j any_token (legit_always j) (k ∷ w) m) (step_cannot_follow j k r w b e) (rw (raise_comm j n) (lifts n a.3))

moves_one : {w : List Token} (k : Token) {p : List Token} {a b : Stack} → Moves any_token (k ∷ w) p a b → (c : Stack) → step any_token k w b ≡ to c → Moves any_token w (p ++ (k ∷ [])) a c
moves_one k stay c e = move e stay
moves_one {w} k (move {p} {a} h m) c e = move (rw (append_assoc p (k ∷ []) w) h) (moves_one k m c e)

too_deep_lem : (n : ℕ) (p r : List Token) (b : Stack) (k : Token) → Moves any_token (k ∷ r) p (program_s n []) b → step any_token k r b ≡ no too_deep → Begins (p ++ (k ∷ []))
unfolding up
too_deep_lem n p r b k m e = go (rw e at (step_open k r r b))
  where
    go : Opened (no too_deep) (step any_token k r (up 1 b)) → Begins (p ++ (k ∷ []))
    go (inl i) = absurd (let y : ◌≡◌ {A = ℕ} 0 1 = cc in omega arith)
    go (inr (c, i)) =
        let w = comp c in
        let m2 : Moves any_token (k ∷ w) p (program_s (raise 1 (raise 1 n)) []) (up 1 (up 1 b)) = moves_up 1 any_token (legit_always 1) (k ∷ w) (moves_up 1 any_token (legit_always 1) (k ∷ w) m) in
        let j : step any_token k w (up 1 (up 1 b)) ≡ to (up 1 c) = rw i at (step_up 1 any_token (legit_always 1) k r w (up 1 b)) in
        let x = moves_run (moves_one k m2 (up 1 c) j) ∙ completes any_token (length w) (λ n s _. refl) c (le_refl _) in
        let h = machine_reads any_token (raise 1 (raise 1 n)) ((p ++ (k ∷ [])) ++ w) x in
        (raise 1 (raise 1 n), w, h.0, h.1)

not_within : (n : ℕ) (p r : List Token) (b : Stack) (k : Token) → Moves any_token (k ∷ r) p (program_s n []) b → step any_token k r b ≡ no too_deep → ¬ (Within n (p ++ (k ∷ [])))
unfolding up
not_within n p r b k m e (j, w, t, a) =
    let leave : Leave = only_last j (length w) in
    let l = legit_held j (length w) in
    stuck_not leave (raise j n) p (up j b) k too_deep w t (moves_up j leave l (k ∷ w) m) (rw e at (step_same j leave l k r w (closed_held j k w) b)) a

only : (k : Token) (r : List Token) (a : Stack) (c : Cause) → step any_token k r a ≡ no c → (c ≡ cannot_follow) ⊎ (c ≡ too_deep)
only k r a c e = go (rw e at (step_up 0 any_token (legit_always 0) k r r a))
  where
    go : Up 0 (no c) (step any_token k r (up 0 a)) → (c ≡ cannot_follow) ⊎ (c ≡ too_deep)
    go (inl h) = inl h.1
    go (inr h) = inr h

why : (n : ℕ) (p : List Token) (b : Stack) (c : Cause) (r : List Token) → Moves any_token r p (program_s n []) b → Stuck any_token c r b → Fault n c p r
why n p b c [] m e = let i = finish_cannot_follow b c e in (i, at_end n p b m (rw i at e))
why n p b c (k ∷ r) m e = go (only k r b c e)
  where
    go : (c ≡ cannot_follow) ⊎ (c ≡ too_deep) → Fault n c p (k ∷ r)
    go (inl i) = inl (i, at_token n p r b k m (rw i at e))
    go (inr i) = inr (i, too_deep_lem n p r b k m (rw i at e), not_within n p r b k m (rw i at e))

pub faults_right : FaultsRight
unfolding check
faults_right n s c r e =
    let h = stopped any_token s (program_s n []) c r (program_sim any_token n s [] ∙ refused (program_at any_token n s) c r e) in
    (h.0, h.2, so_far n r h.0 h.1 h.3, why n h.0 h.1 c r h.3 h.4)

ok_only : (x : Outcome) (t : Part) → wholly x ≡ found t [] → x ≡ found t []
ok_only (found u []) t e = e
ok_only (found u (k ∷ q)) t e = let z : refused_at cannot_follow (k ∷ q) ≡ found t [] = e in cc
ok_only (refused_at d q) t e = e

pub accepts_right : AcceptsRight
unfolding check
accepts_right n s t = (λ e. sound any_token n s t [] (ok_only (program_at any_token n s) t e), λ a. ap wholly (complete any_token a tt))

pub one_tree : OneTree
one_tree n m s t u a b =
    let x : program_at any_token (raise m n) s ≡ found t [] = complete any_token (lifts m a) tt in
    let y : program_at any_token (raise m n) s ≡ found u [] = complete any_token (rw (raise_comm n m) at (lifts n b)) tt in
    cc
