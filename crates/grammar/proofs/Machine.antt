-- The grammar as a stack of what is still due, token by token; and the parser is that machine.
-- the tokens that are due by themselves: none is an operator
use mathlib.Core.Path.{◌≡◌, refl, subst, ◌∙◌}
use native.Mathlib.Omega.{arith}
use native.Mathlib.Nat.{le_refl}
use Prim.Native.Nat.{ℕ, zero, suc, ◌≤◌}
use mathlib.Core.List.{List, [], ◌∷◌}
use mathlib.Core.Bool.{Bool, true, false}
use mathlib.Core.Option.{Option, none, some}
use lib.ListN.{length}
use Rattle.words.specs.Tokens.{Token, Place}
use Rattle.grammar.specs.Parts.{Part, Level, Turn, Leaf, Argument, FactorStart, StatementStart, turn_at, level_after, leaf_of, argument_of, factor_start}
use Rattle.grammar.specs.Parts.{statement_start, same_as, program_token, end_token, then_token, else_token, do_token, left_parenthesis, right_parenthesis}
use Rattle.grammar.specs.Parts.{left_bracket, right_bracket, right_brace, assign_token, place_of, place_part, at_token, close_part, name_and_expression}
use Rattle.grammar.specs.Parts.{type_name_and_expression, combine, join_parts, apply, table_constant, tuple_constant, attribute_declaration, assignment, definition}
use Rattle.grammar.specs.Parts.{while_statement, if_else_statement, input_statement, output_statement, Level.statement_level, Level.name_level, Level.type_level}
use Rattle.grammar.specs.Parts.{Level.constant_level, Level.attribute_level, Level.tuple_level, Level.logic_level, Level.comparison_level, Level.sum_level}
use Rattle.grammar.specs.Parts.{Level.product_level, Level.compared_level, Turn.stop, Turn.take_join, Turn.take_operator, Leaf.name_leaf, Leaf.type_leaf}
use Rattle.grammar.specs.Parts.{Leaf.constant_leaf, Argument.no_argument, Argument.names_argument, Argument.condition_argument, Argument.update_argument}
use Rattle.grammar.specs.Parts.{Argument.extend_argument, FactorStart.leaf, FactorStart.unary, FactorStart.parenthesis, FactorStart.brace}
use Rattle.grammar.specs.Parts.{FactorStart.no_factor, StatementStart.assigning, StatementStart.defining, StatementStart.defining_table}
use Rattle.grammar.specs.Parts.{StatementStart.deciding, StatementStart.looping, StatementStart.reading, StatementStart.writing}
use Rattle.grammar.specs.Parts.{StatementStart.no_statement_here}
use Rattle.grammar.proofs.Table.{TableSymbol, item_of, TableSymbol.level, TableSymbol.factor, TableSymbol.bracket, TableSymbol.tuple_n, TableSymbol.attr}
use Rattle.grammar.proofs.Table.{TableSymbol.stat, TableSymbol.atom}
use Rattle.grammar.specs.Tree.{VariableType.of_domain, VariableType.of_table}
use Rattle.grammar.specs.Grammar.{Leave}
use Rattle.grammar.specs.Readers.{Outcome, Outcome.found, Outcome.refused_at, Reader, and_then, expect_if, expect_token, leaf_if, read_leaf, begins_with, take_turn}
use Rattle.grammar.specs.Readers.{take_turns, read_level, read_attribute, read_tuple, read_expression, read_instance_if, read_instance, read_argument, Opening}
use Rattle.grammar.specs.Readers.{open_if, where_opened, read_bracket, read_factor_if, read_factor, deeper_readers, openings, factors_at, brackets_at, expressions_at}
use Rattle.grammar.specs.Readers.{StatementOpening, read_else_if, read_else, read_then, read_do, read_read_if, read_write_if, read_statement_if, deeper_statements}
use Rattle.grammar.specs.Readers.{statements_at, program_at, Cause, Cause.cannot_follow, Cause.too_deep}
use Rattle.grammar.proofs.Sound.{Holds, Holds.good, Holds.fault, Sound, item_again, atom_sound, chain_sound, attr_sound, tuple_sound, deep_sound}
use Rattle.grammar.proofs.Sound.{stats_sound}
use Rattle.grammar.proofs.Complete.{shrinks}

pub data Close : Type 0 where
  c_program c_end c_assign c_lpar c_rpar c_lbr c_rbr c_rbc : Close

abbrev pub word : Close → Token
word c_program = program_token
word c_end = end_token
word c_assign = assign_token
word c_lpar = left_parenthesis
word c_rpar = right_parenthesis
word c_lbr = left_bracket
word c_rbr = right_bracket
word c_rbc = right_brace

-- what is due, and the depths left there
pub data Kind : Type 0 where
  q_fac q_bra q_stt q_els q_thn q_dow q_attr q_tup q_ins q_rd q_wr : Kind
  q_tl : Level → Kind
  q_tok : Close → Kind
  q_atom : Leaf → Kind
  q_arg : Argument → Kind

pub data Sym : Type 0 where
  sy : Kind → ℕ → Sym

abbrev pub Stack : Type 0
Stack = List Sym

-- what a token puts on the stack: at this depth, or one deeper
pub data Tm : Type 0 where
  here below : Kind → Tm

abbrev pub push : ℕ → ℕ → List Tm → Stack → Stack
push n m [] st = st
push n m (here q ∷ ts) st = sy q n ∷ push n m ts st
push n m (below q ∷ ts) st = sy q m ∷ push n m ts st

pub data Act : Type 0 where
  refuse pass : Act
  eat opens : List Tm → Act

abbrev pub item_t : (Kind → Tm) → Level → List Tm → List Tm
item_t a statement_level ts = a q_stt ∷ ts
item_t a name_level ts = a (q_atom name_leaf) ∷ ts
item_t a type_level ts = a (q_atom type_leaf) ∷ ts
item_t a constant_level ts = a (q_atom constant_leaf) ∷ ts
item_t a attribute_level ts = a q_attr ∷ ts
item_t a tuple_level ts = a q_tup ∷ ts
item_t a product_level ts = a q_fac ∷ ts
item_t a sum_level ts = a q_fac ∷ a (q_tl product_level) ∷ ts
item_t a comparison_level ts = a q_fac ∷ a (q_tl product_level) ∷ a (q_tl sum_level) ∷ ts
item_t a compared_level ts = a q_fac ∷ a (q_tl product_level) ∷ a (q_tl sum_level) ∷ ts
item_t a logic_level ts = a q_fac ∷ a (q_tl product_level) ∷ a (q_tl sum_level) ∷ a (q_tl comparison_level) ∷ ts

abbrev pub level_t : (Kind → Tm) → Level → List Tm → List Tm
level_t a l ts = item_t a l (a (q_tl l) ∷ ts)

abbrev pub item_s : Level → ℕ → Stack → Stack
item_s l n st = push n n (item_t here l []) st

abbrev pub level_s : Level → ℕ → Stack → Stack
level_s l n st = item_s l n (sy (q_tl l) n ∷ st)

abbrev pub fac_t : FactorStart → List Tm → Act
fac_t (leaf t) ts = eat ts
fac_t no_factor ts = refuse
fac_t brace ts = eat (here q_ins ∷ here (q_tok c_rbc) ∷ ts)
fac_t (unary o) ts = opens (below (q_arg (argument_of o)) ∷ below q_fac ∷ ts)
fac_t parenthesis ts = opens (level_t below logic_level (below (q_tok c_rpar) ∷ ts))

abbrev pub stt_t : StatementStart → Act
stt_t (assigning x) = eat (here (q_tok c_assign) ∷ level_t here logic_level [])
stt_t (defining y) = eat (level_t here name_level [])
stt_t defining_table = eat (here (q_tok c_lpar) ∷ level_t here attribute_level (here (q_tok c_rpar) ∷ level_t here name_level []))
stt_t deciding = eat (level_t here logic_level (here q_thn ∷ []))
stt_t looping = eat (level_t here logic_level (here q_dow ∷ []))
stt_t reading = eat (here q_rd ∷ [])
stt_t writing = eat (here q_wr ∷ [])
stt_t no_statement_here = refuse

abbrev pub if_t : Bool → Act → Act
if_t true a = a
if_t false a = refuse

abbrev pub some_t : Option Part → Act → Act
some_t (some t) a = a
some_t none a = refuse

abbrev pub els_t : Bool → Bool → Act
els_t true b = eat []
els_t false b = if_t b (eat (level_t here statement_level (here (q_tok c_end) ∷ [])))

abbrev pub tl_t : Level → Turn → Act
tl_t l stop = pass
tl_t l (take_operator o) = eat (item_t here l (here (q_tl (level_after l)) ∷ []))
tl_t l take_join = eat (here q_bra ∷ item_t here l (here (q_tl (level_after l)) ∷ []))

abbrev pub ins_t : Bool → Option Part → Act
ins_t true y = eat (level_t here constant_level (here (q_tok c_rpar) ∷ here (q_tl tuple_level) ∷ []))
ins_t false y = some_t y (eat (here (q_tl type_level) ∷ []))

abbrev pub rd_t : Bool → Option Part → Act
rd_t true y = opens (level_t below logic_level (below (q_tok c_rbr) ∷ here (q_atom name_leaf) ∷ []))
rd_t false y = some_t y (eat [])

abbrev pub wr_t : Bool → FactorStart → Act
wr_t true x = opens (level_t below logic_level (below (q_tok c_rbr) ∷ level_t here logic_level []))
wr_t false x = fac_t x (here (q_tl product_level) ∷ here (q_tl sum_level) ∷ here (q_tl comparison_level) ∷ here (q_tl logic_level) ∷ [])

abbrev pub arg_t : Argument → Bool → Act
arg_t no_argument b = pass
arg_t names_argument b = if_t b (eat (level_t here name_level (here (q_tok c_rbr) ∷ [])))
arg_t condition_argument b = if_t b (eat (level_t here logic_level (here (q_tok c_rbr) ∷ [])))
arg_t update_argument b = if_t b (eat (here (q_atom name_leaf) ∷ here (q_tok c_assign) ∷ level_t here logic_level (here (q_tok c_rbr) ∷ [])))
arg_t extend_argument b = if_t b (eat (here (q_atom type_leaf) ∷ here (q_atom name_leaf) ∷ here (q_tok c_assign) ∷ level_t here logic_level (here (q_tok c_rbr) ∷ [])))

abbrev pub acts : Kind → Token → Act
acts q_fac k = fac_t (factor_start k) []
acts q_bra k = if_t (same_as left_bracket k) (opens (level_t below logic_level (below (q_tok c_rbr) ∷ [])))
acts q_stt k = stt_t (statement_start k)
acts q_els k = els_t (same_as end_token k) (same_as else_token k)
acts q_thn k = if_t (same_as then_token k) (opens (level_t below statement_level (below q_els ∷ [])))
acts q_dow k = if_t (same_as do_token k) (opens (level_t below statement_level (below (q_tok c_end) ∷ [])))
acts q_attr k = some_t (leaf_of type_leaf k) (eat (here (q_atom name_leaf) ∷ []))
acts q_tup k = if_t (same_as left_parenthesis k) (eat (level_t here constant_level (here (q_tok c_rpar) ∷ [])))
acts q_ins k = ins_t (same_as left_parenthesis k) (leaf_of type_leaf k)
acts q_rd k = rd_t (same_as left_bracket k) (leaf_of name_leaf k)
acts q_wr k = wr_t (same_as left_bracket k) (factor_start k)
acts (q_tl l) k = tl_t l (turn_at l k)
acts (q_tok c) k = if_t (same_as (word c) k) (eat [])
acts (q_atom f) k = some_t (leaf_of f k) (eat [])
acts (q_arg a) k = arg_t a (same_as left_bracket k)

pub data Out : Type 0 where
  to : Stack → Out
  no : Cause → Out

-- the depths left behind a token that opens one
abbrev pub gate_if : Bool → ℕ → Option ℕ
gate_if true n = some n
gate_if false n = none

abbrev pub gate : Leave → ℕ → List Token → Option ℕ
gate leave zero s = none
gate leave (suc n) s = gate_if (leave n s) n

abbrev pub act : Act → Option ℕ → ℕ → Stack → Out → Out
act refuse g n st x = no cannot_follow
act pass g n st x = x
act (eat ts) g n st x = to (push n n ts st)
act (opens ts) none n st x = no too_deep
act (opens ts) (some m) n st x = to (push n m ts st)

unfoldable pub step : Leave → Token → List Token → Stack → Out
step leave k s [] = no cannot_follow
step leave k s (sy q n ∷ st) = act (acts q k) (gate leave n (k ∷ s)) n st (step leave k s st)

pub data End : Type 0 where
  accept : End
  reject : Cause → List Token → End

abbrev pub void : Kind → Bool
void q_fac = false
void q_bra = false
void q_stt = false
void q_els = false
void q_thn = false
void q_dow = false
void q_attr = false
void q_tup = false
void q_ins = false
void q_rd = false
void q_wr = false
void (q_tl l) = true
void (q_tok c) = false
void (q_atom f) = false
void (q_arg no_argument) = true
void (q_arg names_argument) = false
void (q_arg condition_argument) = false
void (q_arg update_argument) = false
void (q_arg extend_argument) = false

abbrev pub finish_on : Bool → End → End
finish_on true x = x
finish_on false x = reject cannot_follow []

unfoldable pub finish : Stack → End
finish [] = accept
finish (sy q n ∷ st) = finish_on (void q) (finish st)

abbrev pub run_on : (Stack → End) → List Token → Out → End
run_on go s (to st) = go st
run_on go s (no c) = reject c s

unfoldable pub run : Leave → List Token → Stack → End
run leave [] st = finish st
run leave (k ∷ s) st = run_on (run leave s) (k ∷ s) (step leave k s st)

abbrev pub program_s : ℕ → Stack → Stack
program_s n st = sy (q_tok c_program) n ∷ level_s statement_level n (sy (q_tok c_end) n ∷ st)

item_s_again : (l : Level) → item_s l ≡ item_s (level_after l)
item_s_again statement_level = refl
item_s_again name_level = refl
item_s_again type_level = refl
item_s_again constant_level = refl
item_s_again attribute_level = refl
item_s_again tuple_level = refl
item_s_again logic_level = refl
item_s_again comparison_level = refl
item_s_again sum_level = refl
item_s_again product_level = refl
item_s_again compared_level = refl

inst_item : (l : Level) (n : ℕ) (ts : List Tm) (st : Stack) → push n n (item_t here l ts) st ≡ item_s l n (push n n ts st)
inst_item statement_level n ts st = refl
inst_item name_level n ts st = refl
inst_item type_level n ts st = refl
inst_item constant_level n ts st = refl
inst_item attribute_level n ts st = refl
inst_item tuple_level n ts st = refl
inst_item logic_level n ts st = refl
inst_item comparison_level n ts st = refl
inst_item sum_level n ts st = refl
inst_item product_level n ts st = refl
inst_item compared_level n ts st = refl

abbrev One : Kind → ℕ → Stack → Stack
One q n st = sy q n ∷ st

module _ (leave : Leave) where
  -- a result of the parser, and the machine from there
  abbrev pub after : Outcome → Stack → End
  after (found t r) st = run leave r st
  after (refused_at c r) st = reject c r

  abbrev pub Sim : (Stack → Stack) → List Token → Outcome → Type 0
  Sim S s x = (st : Stack) → run leave s (S st) ≡ after x st

  abbrev Sims : (ℕ → Stack → Stack) → ℕ → Reader → Type 0
  Sims S n f = (s : List Token) → Sim (S n) s (f s)

  -- in turn
  sim_then : (S T : Stack → Stack) (s : List Token) (x : Outcome) (g : Part → List Token → Outcome) → Sim S s x → ((t : Part) (r : List Token) → Sim T r (g t r)) → Sim (λ st. S (T st)) s (and_then x g)
  sim_then S T s (found t r) g h j st = h (T st) ∙ j t r st
  sim_then S T s (refused_at c r) g h j st = h (T st)

  sim_with : {P : Part → List Token → Type 0} (S T : Stack → Stack) (s : List Token) (x : Outcome) (g : Part → List Token → Outcome) → Holds P x → Sim S s x →
      ((t : Part) (r : List Token) → P t r → Sim T r (g t r)) → Sim (λ st. S (T st)) s (and_then x g)
  sim_with S T s (found t r) g (good p) h j st = h (T st) ∙ j t r p st
  sim_with S T s (refused_at c r) g fault h j st = h (T st)

  -- the last part of a sequence leaves the tree only
  sim_end : (S : Stack → Stack) (s : List Token) (x : Outcome) (g : Part → Part) → Sim S s x → Sim S s (and_then x (λ t r. found (g t) r))
  sim_end S s (found t r) g h st = h st
  sim_end S s (refused_at c r) g h st = h st

  expect_sim : (w : Close) (n : ℕ) → Sims (One (q_tok w)) n (expect_token (word w))
  unfolding expect_token run step finish
  expect_sim w n [] st = refl
  expect_sim w n (k ∷ s) st = go (same_as (word w) k) refl
    where
      go : (b : Bool) → same_as (word w) k ≡ b → run leave (k ∷ s) (sy (q_tok w) n ∷ st) ≡ after (expect_if b k s) st
      go true e = rw e
      go false e = rw e

  atom_sim : (f : Leaf) (n : ℕ) → Sims (One (q_atom f)) n (read_leaf f)
  unfolding read_leaf run step finish
  atom_sim f n [] st = refl
  atom_sim f n (k ∷ s) st = go (leaf_of f k) refl
    where
      go : (x : Option Part) → leaf_of f k ≡ x → run leave (k ∷ s) (sy (q_atom f) n ∷ st) ≡ after (leaf_if x k s) st
      go (some t) e = rw e
      go none e = rw e

  -- the parsers that a level needs, right in both ways
  abbrev Both : TableSymbol → (ℕ → Stack → Stack) → ℕ → Reader → Type 0
  Both S Q n f = (Sound leave S n f) × Sims Q n f

  turns_sim : (n : ℕ) (f b : Reader) → Both bracket (One q_bra) n b → (m : ℕ) (l : Level) → Both (item_of l) (item_s l) n f → (t : Part) (s : List Token) → length s ≤ m → Sim (One (q_tl l) n) s (take_turns f b m l t s)
  unfolding take_turns run step finish
  turns_sim n f b hb zero l hf t [] le st = refl
  turns_sim n f b hb (suc m) l hf t [] le st = refl
  turns_sim n f b hb zero l hf t (k ∷ s) le st = absurd (let z : ⊥ = omega arith in z)
  turns_sim n f b hb (suc m) l hf t (k ∷ s) le st =
      go (turns_sim n f b hb m (level_after l) (subst (λ S. Sound leave S n f) (item_again l) hf.0, subst (λ S. Sims S n f) (item_s_again l) hf.1)) (turn_at l k) refl
    where
      go : ((u : Part) (r : List Token) → length r ≤ m → Sim (One (q_tl (level_after l)) n) r (take_turns f b m (level_after l) u r)) →
          (x : Turn) → turn_at l k ≡ x → run leave (k ∷ s) (sy (q_tl l) n ∷ st) ≡ after (take_turn (take_turns f b m) f b x l t k s) st
      go ih stop e = rw e
      go ih (take_operator o) e = rw (e, inst_item l n (here (q_tl (level_after l)) ∷ []) st)
          (sim_with (item_s l n) (One (q_tl (level_after l)) n) s (f s) _ (hf.0 s) (hf.1 s) (λ u r p. let sh = shrinks leave p in ih (combine o (place_of k) t u) r (omega arith)) st)
      go ih take_join e = rw (e, inst_item l n (here (q_tl (level_after l)) ∷ []) st)
          (sim_with (One q_bra n) (λ st. item_s l n (sy (q_tl (level_after l)) n ∷ st)) s (b s) _ (hb.0 s) (hb.1 s) (λ x r c. let sc = shrinks leave c in
          sim_with (item_s l n) (One (q_tl (level_after l)) n) r (f r) _ (hf.0 r) (hf.1 r) (λ u q p. let sh = shrinks leave p in ih (join_parts (place_of k) t x u) q (omega arith))) st)

  chain_both : (n : ℕ) (f b : Reader) (l : Level) → Both (item_of l) (item_s l) n f → Both bracket (One q_bra) n b → Both (level l) (level_s l) n (read_level f b l)
  unfolding read_level
  chain_both n f b l hf hb = (
    chain_sound leave n f b l hf.0 hb.0,
    λ s. sim_with (item_s l n) (One (q_tl l) n) s (f s) _ (hf.0 s) (hf.1 s) (λ t r p. turns_sim n f b hb (length r) l hf t r (le_refl _)),
  )

  atom_both : (f : Leaf) (n : ℕ) → Both (atom f) (One (q_atom f)) n (read_leaf f)
  atom_both f n = (atom_sound leave f n, atom_sim f n)

  alike : (a b : Stack) (k : Token) (s : List Token) → step leave k s a ≡ step leave k s b → run leave (k ∷ s) a ≡ run leave (k ∷ s) b
  unfolding run
  alike a b k s e = rw e

  attr_sim : (n : ℕ) → Sims (One q_attr) n read_attribute
  unfolding read_attribute
  attr_sim n s st = head s ∙ sim_then (One (q_atom type_leaf) n) (One (q_atom name_leaf) n) s (read_leaf type_leaf s) _ (atom_sim type_leaf n s) (λ t r. sim_end (One (q_atom name_leaf) n) r (read_leaf name_leaf r) (λ u. attribute_declaration t u) (atom_sim name_leaf n r)) st
    where
      one : (k : Token) (s : List Token) (x : Option Part) → act (some_t x (eat (here (q_atom name_leaf) ∷ []))) (gate leave n (k ∷ s)) n st (step leave k s st) ≡ act (some_t x (eat [])) (gate leave n (k ∷ s)) n (sy (q_atom name_leaf) n ∷ st) (step leave k s (sy (q_atom name_leaf) n ∷ st))
      one k s (some t) = refl
      one k s none = refl

      head : (s : List Token) → run leave s (sy q_attr n ∷ st) ≡ run leave s (sy (q_atom type_leaf) n ∷ sy (q_atom name_leaf) n ∷ st)
      head [] = unfold run finish in refl
      head (k ∷ s) = alike _ _ k s (unfold step in one k s (leaf_of type_leaf k))

  attr_both : (n : ℕ) → Both attr (One q_attr) n read_attribute
  attr_both n = (attr_sound leave n, attr_sim n)

  -- a part that begins with a token of its own: the same as that token, and then the rest
  led : (c : Close) (q : Kind) (n : ℕ) (ts : List Tm) (st : Stack) → void q ≡ false → ((k : Token) → acts q k ≡ if_t (same_as (word c) k) (eat ts)) → (s : List Token) → run leave s (sy q n ∷ st) ≡ run leave s (sy (q_tok c) n ∷ push n n ts st)
  led c q n ts st v h [] = unfold run finish in rw v
  led c q n ts st v h (k ∷ s) = alike _ _ k s (unfold step in rw (h k) (one (same_as (word c) k)))
    where
      one : (b : Bool) → act (if_t b (eat ts)) (gate leave n (k ∷ s)) n st (step leave k s st) ≡ act (if_t b (eat [])) (gate leave n (k ∷ s)) n (push n n ts st) (step leave k s (push n n ts st))
      one true = refl
      one false = refl

  tuple_both : (n : ℕ) (b : Reader) → Both bracket (One q_bra) n b → Both tuple_n (One q_tup) n (read_tuple b)
  unfolding read_tuple
  tuple_both n b hb = (
    tuple_sound leave n b hb.0,
    λ s st. led c_lpar q_tup n (level_t here constant_level (here (q_tok c_rpar) ∷ [])) st refl (λ k. refl) s ∙
        sim_then (One (q_tok c_lpar) n) (λ st. level_s constant_level n (sy (q_tok c_rpar) n ∷ st)) s (expect_token left_parenthesis s) _ (expect_sim c_lpar n s) (λ z r.
        sim_then (level_s constant_level n) (One (q_tok c_rpar) n) r (read_level (read_leaf constant_leaf) b constant_level r) _ ((chain_both n _ b constant_level (atom_both constant_leaf n) hb).1 r) (λ t q.
        sim_end (One (q_tok c_rpar) n) q (expect_token right_parenthesis q) (λ _. tuple_constant z t) (expect_sim c_rpar n q))) st,
  )

  expr_both : (n : ℕ) (f b : Reader) → Both factor (One q_fac) n f → Both bracket (One q_bra) n b → Both (level logic_level) (level_s logic_level) n (read_expression f b)
  unfolding read_expression
  expr_both n f b hf hb =
      let p1 : Both (level product_level) (level_s product_level) n (read_level f b product_level) = chain_both n f b product_level hf hb in
      let p2 : Both (level sum_level) (level_s sum_level) n (read_level (read_level f b product_level) b sum_level) = chain_both n _ b sum_level p1 hb in
      let p3 : Both (level comparison_level) (level_s comparison_level) n (read_level (read_level (read_level f b product_level) b sum_level) b comparison_level) = chain_both n _ b comparison_level p2 hb in
      chain_both n _ b logic_level p3 hb

  inst_sim : (n : ℕ) (b : Reader) → Both bracket (One q_bra) n b → Sims (One q_ins) n (read_instance b)
  unfolding read_instance
  inst_sim n b hb [] st = unfold run finish read_level read_leaf in refl
  inst_sim n b hb (k ∷ s) st = go (same_as left_parenthesis k) refl
    where
      types : (x : Option Part) → act (some_t x (eat (here (q_tl type_level) ∷ []))) (gate leave n (k ∷ s)) n st (step leave k s st) ≡ act (some_t x (eat [])) (gate leave n (k ∷ s)) n (sy (q_tl type_level) n ∷ st) (step leave k s (sy (q_tl type_level) n ∷ st))
      types (some t) = refl
      types none = refl

      go : (x : Bool) → same_as left_parenthesis k ≡ x → run leave (k ∷ s) (sy q_ins n ∷ st) ≡ after (read_instance_if b x (k ∷ s)) st
      go true e = alike (sy q_ins n ∷ st) (level_s tuple_level n st) k s (unfold step in rw e) ∙ (chain_both n _ b tuple_level (tuple_both n b hb) hb).1 (k ∷ s) st
      go false e = alike (sy q_ins n ∷ st) (level_s type_level n st) k s (unfold step in rw e (types (leaf_of type_leaf k))) ∙ (chain_both n _ b type_level (atom_both type_leaf n) hb).1 (k ∷ s) st

  arg_sim : (n : ℕ) (e b : Reader) → Sims (level_s logic_level) n e → Both bracket (One q_bra) n b → (a : Argument) → Sims (One (q_arg a)) n (read_argument e b a)
  unfolding read_argument
  arg_sim n e b he hb no_argument [] st = unfold run finish in refl
  arg_sim n e b he hb no_argument (k ∷ s) st = alike _ _ k s (unfold step in refl)
  arg_sim n e b he hb names_argument s st = led c_lbr (q_arg names_argument) n (level_t here name_level (here (q_tok c_rbr) ∷ [])) st refl (λ k. refl) s ∙
      sim_then (One (q_tok c_lbr) n) (λ st. level_s name_level n (sy (q_tok c_rbr) n ∷ st)) s (expect_token left_bracket s) _ (expect_sim c_lbr n s) (λ _ r.
      sim_then (level_s name_level n) (One (q_tok c_rbr) n) r (read_level (read_leaf name_leaf) b name_level r) _ ((chain_both n _ b name_level (atom_both name_leaf n) hb).1 r) (λ t q.
      sim_end (One (q_tok c_rbr) n) q (expect_token right_bracket q) (λ _. t) (expect_sim c_rbr n q))) st
  arg_sim n e b he hb condition_argument s st = led c_lbr (q_arg condition_argument) n (level_t here logic_level (here (q_tok c_rbr) ∷ [])) st refl (λ k. refl) s ∙
      sim_then (One (q_tok c_lbr) n) (λ st. level_s logic_level n (sy (q_tok c_rbr) n ∷ st)) s (expect_token left_bracket s) _ (expect_sim c_lbr n s) (λ _ r.
      sim_then (level_s logic_level n) (One (q_tok c_rbr) n) r (e r) _ (he r) (λ t q.
      sim_end (One (q_tok c_rbr) n) q (expect_token right_bracket q) (λ _. t) (expect_sim c_rbr n q))) st
  arg_sim n e b he hb update_argument s st = led c_lbr (q_arg update_argument) n (here (q_atom name_leaf) ∷ here (q_tok c_assign) ∷ level_t here logic_level (here (q_tok c_rbr) ∷ [])) st refl (λ k. refl) s ∙
      sim_then (One (q_tok c_lbr) n) (λ st. sy (q_atom name_leaf) n ∷ sy (q_tok c_assign) n ∷ level_s logic_level n (sy (q_tok c_rbr) n ∷ st)) s (expect_token left_bracket s) _ (expect_sim c_lbr n s) (λ _ r.
      sim_then (One (q_atom name_leaf) n) (λ st. sy (q_tok c_assign) n ∷ level_s logic_level n (sy (q_tok c_rbr) n ∷ st)) r (read_leaf name_leaf r) _ (atom_sim name_leaf n r) (λ x p.
      sim_then (One (q_tok c_assign) n) (λ st. level_s logic_level n (sy (q_tok c_rbr) n ∷ st)) p (expect_token assign_token p) _ (expect_sim c_assign n p) (λ _ o.
      sim_then (level_s logic_level n) (One (q_tok c_rbr) n) o (e o) _ (he o) (λ t q.
      sim_end (One (q_tok c_rbr) n) q (expect_token right_bracket q) (λ _. name_and_expression x t) (expect_sim c_rbr n q))))) st
  arg_sim n e b he hb extend_argument s st = led c_lbr (q_arg extend_argument) n (here (q_atom type_leaf) ∷ here (q_atom name_leaf) ∷ here (q_tok c_assign) ∷ level_t here logic_level (here (q_tok c_rbr) ∷ [])) st refl (λ k. refl) s ∙
      sim_then (One (q_tok c_lbr) n) (λ st. sy (q_atom type_leaf) n ∷ sy (q_atom name_leaf) n ∷ sy (q_tok c_assign) n ∷ level_s logic_level n (sy (q_tok c_rbr) n ∷ st)) s (expect_token left_bracket s) _ (expect_sim c_lbr n s) (λ _ i.
      sim_then (One (q_atom type_leaf) n) (λ st. sy (q_atom name_leaf) n ∷ sy (q_tok c_assign) n ∷ level_s logic_level n (sy (q_tok c_rbr) n ∷ st)) i (read_leaf type_leaf i) _ (atom_sim type_leaf n i) (λ y r.
      sim_then (One (q_atom name_leaf) n) (λ st. sy (q_tok c_assign) n ∷ level_s logic_level n (sy (q_tok c_rbr) n ∷ st)) r (read_leaf name_leaf r) _ (atom_sim name_leaf n r) (λ x p.
      sim_then (One (q_tok c_assign) n) (λ st. level_s logic_level n (sy (q_tok c_rbr) n ∷ st)) p (expect_token assign_token p) _ (expect_sim c_assign n p) (λ _ o.
      sim_then (level_s logic_level n) (One (q_tok c_rbr) n) o (e o) _ (he o) (λ t q.
      sim_end (One (q_tok c_rbr) n) q (expect_token right_bracket q) (λ _. type_name_and_expression y x t) (expect_sim c_rbr n q)))))) st

  -- brackets and factors, from those one deeper
  bracket_zero : Sims (One q_bra) zero (read_bracket (λ _. none))
  unfolding read_bracket expect_token run step finish
  bracket_zero [] st = refl
  bracket_zero (k ∷ s) st = go (same_as left_bracket k) refl
    where
      go : (a : Bool) → same_as left_bracket k ≡ a → run leave (k ∷ s) (sy q_bra zero ∷ st) ≡ after (and_then (expect_if a k s) (λ _ r. refused_at too_deep (k ∷ s))) st
      go true e = rw e
      go false e = rw e

  bracket_suc : (n : ℕ) (d : Opening) → Both factor (One q_fac) n (read_factor d) → Both bracket (One q_bra) n (read_bracket d) → Sims (One q_bra) (suc n) (read_bracket (λ s. open_if (leave n s) (deeper_readers d)))
  unfolding read_bracket expect_token run step finish
  bracket_suc n d hf hb [] st = refl
  bracket_suc n d hf hb (k ∷ s) st = go (same_as left_bracket k) (leave n (k ∷ s)) refl refl
    where
      go : (a m : Bool) → same_as left_bracket k ≡ a → leave n (k ∷ s) ≡ m → run leave (k ∷ s) (sy q_bra (suc n) ∷ st) ≡
          after (and_then (expect_if a k s) (λ _ r. where_opened (open_if m (deeper_readers d)) (k ∷ s) (λ i. and_then (read_expression i.factor_reader i.bracket_reader r) (λ t q. and_then (expect_token right_bracket q) (λ _ p. found t p))))) st
      go false m e h = rw e
      go true false e h = rw (e, h)
      go true true e h = rw (e, h) (sim_then (level_s logic_level n) (One (q_tok c_rbr) n) s (read_expression (read_factor d) (read_bracket d) s) _ ((expr_both n _ _ hf hb).1 s) (λ t q.
          sim_end (One (q_tok c_rbr) n) q (expect_token right_bracket q) (λ _. t) (expect_sim c_rbr n q)) st)

  brace_sim : (n : ℕ) (b : Reader) → Both bracket (One q_bra) n b → (y : Place) (s : List Token) (st : Stack) → run leave s (sy q_ins n ∷ sy (q_tok c_rbc) n ∷ st) ≡ after (and_then (read_instance b s) (λ t r. and_then (expect_token right_brace r) (λ _ q. found (table_constant y t) q))) st
  brace_sim n b hb y s st = sim_then (One q_ins n) (One (q_tok c_rbc) n) s (read_instance b s) _ (inst_sim n b hb s) (λ t q. sim_end (One (q_tok c_rbc) n) q (expect_token right_brace q) (λ _. table_constant y t) (expect_sim c_rbc n q)) st

  factor_zero : Both bracket (One q_bra) zero (read_bracket (λ _. none)) → Sims (One q_fac) zero (read_factor (λ _. none))
  unfolding run step finish
  factor_zero hb [] st = refl
  factor_zero hb (k ∷ s) st = go (factor_start k) refl
    where
      go : (x : FactorStart) → factor_start k ≡ x → run leave (k ∷ s) (sy q_fac zero ∷ st) ≡ after (read_factor_if (read_bracket (λ _. none)) none x k s) st
      go (leaf t) e = rw e
      go (unary o) e = rw e
      go parenthesis e = rw e
      go brace e = rw e (brace_sim zero _ hb (place_of k) s st)
      go no_factor e = rw e

  factor_suc : (n : ℕ) (d : Opening) → Both factor (One q_fac) n (read_factor d) → Both bracket (One q_bra) n (read_bracket d) → Both bracket (One q_bra) (suc n) (read_bracket (λ s. open_if (leave n s) (deeper_readers d))) →
      Sims (One q_fac) (suc n) (read_factor (λ s. open_if (leave n s) (deeper_readers d)))
  unfolding run step finish
  factor_suc n d hf hb hc [] st = refl
  factor_suc n d hf hb hc (k ∷ s) st = go (factor_start k) (leave n (k ∷ s)) refl refl
    where
      go : (x : FactorStart) (m : Bool) → factor_start k ≡ x → leave n (k ∷ s) ≡ m → run leave (k ∷ s) (sy q_fac (suc n) ∷ st) ≡ after (read_factor_if (read_bracket (λ s. open_if (leave n s) (deeper_readers d))) (open_if m (deeper_readers d)) x k s) st
      go (leaf t) m e h = rw e
      go (unary o) true e h = rw (e, h) (sim_then (One (q_arg (argument_of o)) n) (One q_fac n) s (read_argument (read_expression (read_factor d) (read_bracket d)) (read_bracket d) (argument_of o) s) _
          (arg_sim n _ _ (expr_both n _ _ hf hb).1 hb (argument_of o) s) (λ x r. sim_end (One q_fac n) r (read_factor d r) (λ t. apply o (place_of k) x t) (hf.1 r)) st)
      go parenthesis true e h = rw (e, h) (sim_then (level_s logic_level n) (One (q_tok c_rpar) n) s (read_expression (read_factor d) (read_bracket d) s) _ ((expr_both n _ _ hf hb).1 s) (λ t q.
          sim_end (One (q_tok c_rpar) n) q (expect_token right_parenthesis q) (λ _. t) (expect_sim c_rpar n q)) st)
      go brace m e h = rw e (brace_sim (suc n) _ hc (place_of k) s st)
      go (unary o) false e h = rw (e, h)
      go parenthesis false e h = rw (e, h)
      go no_factor m e h = rw e

  deep_both : (n : ℕ) → (Both factor (One q_fac) n (read_factor (openings leave n))) × Both bracket (One q_bra) n (read_bracket (openings leave n))
  unfolding openings
  deep_both zero = let s = deep_sound leave zero in ((s.0, factor_zero (s.1, bracket_zero)), (s.1, bracket_zero))
  deep_both (suc n) =
      let h = deep_both n in let s = deep_sound leave (suc n) in let c = bracket_suc n (openings leave n) h.0 h.1 in
      ((s.0, factor_suc n (openings leave n) h.0 h.1 (s.1, c)), (s.1, c))

  brackets_both : (n : ℕ) → Both bracket (One q_bra) n (brackets_at leave n)
  unfolding brackets_at
  brackets_both n = (deep_both n).1

  exprs_sim : (n : ℕ) → Sims (level_s logic_level) n (expressions_at leave n)
  unfolding expressions_at factors_at brackets_at
  exprs_sim n = (expr_both n _ _ (deep_both n).0 (deep_both n).1).1

  semi_sim : (n : ℕ) (g b : Reader) → Both stat (One q_stt) n g → Both bracket (One q_bra) n b → Sims (level_s statement_level) n (read_level g b statement_level)
  semi_sim n g b hg hb = (chain_both n g b statement_level hg hb).1

  elses_sim : (n : ℕ) (b g : Reader) → Both bracket (One q_bra) n b → Both stat (One q_stt) n g → (t u : Part) → Sims (One q_els) n (read_else b g t u)
  unfolding read_else run step finish
  elses_sim n b g hb hg t u [] st = refl
  elses_sim n b g hb hg t u (k ∷ s) st = go (same_as end_token k) (same_as else_token k) refl refl
    where
      go : (x y : Bool) → same_as end_token k ≡ x → same_as else_token k ≡ y → run leave (k ∷ s) (sy q_els n ∷ st) ≡ after (read_else_if b g t u x y k s) st
      go true y e h = rw e
      go false true e h = rw (e, h) (sim_then (level_s statement_level n) (One (q_tok c_end) n) s (read_level g b statement_level s) _ (semi_sim n g b hg hb s) (λ v r.
          sim_end (One (q_tok c_end) n) r (expect_token end_token r) (λ y. if_else_statement t u (place_part (place_of k)) v y) (expect_sim c_end n r)) st)
      go false false e h = rw (e, h)

  -- what follows a condition, where the statements one deeper are read by g
  thens_sim : (n : ℕ) (t : Part) (g b : Reader) → Both stat (One q_stt) n g → Both bracket (One q_bra) n b → Sims (One q_thn) (suc n) (read_then (λ s. open_if (leave n s) (deeper_statements g b)) t)
  unfolding run step finish expect_token
  thens_sim n t g b hg hb [] st = refl
  thens_sim n t g b hg hb (k ∷ q) st = go (same_as then_token k) (leave n (k ∷ q)) refl refl
    where
      go : (x m : Bool) → same_as then_token k ≡ x → leave n (k ∷ q) ≡ m →
          run leave (k ∷ q) (sy q_thn (suc n) ∷ st) ≡ after (and_then (expect_if x k q) (λ _ p. where_opened (open_if m (deeper_statements g b)) (k ∷ q) (λ i. and_then (read_level i.factor_reader i.bracket_reader statement_level p) (λ u p. read_else i.bracket_reader i.factor_reader t u p)))) st
      go false m e h = rw e
      go true false e h = rw (e, h)
      go true true e h = rw (e, h) (sim_then (level_s statement_level n) (One q_els n) q (read_level g b statement_level q) _ (semi_sim n g b hg hb q) (λ u p. elses_sim n b g hb hg t u p) st)

  dos_sim : (n : ℕ) (t : Part) (g b : Reader) → Both stat (One q_stt) n g → Both bracket (One q_bra) n b → Sims (One q_dow) (suc n) (read_do (λ s. open_if (leave n s) (deeper_statements g b)) t)
  unfolding run step finish expect_token
  dos_sim n t g b hg hb [] st = refl
  dos_sim n t g b hg hb (k ∷ q) st = go (same_as do_token k) (leave n (k ∷ q)) refl refl
    where
      go : (x m : Bool) → same_as do_token k ≡ x → leave n (k ∷ q) ≡ m →
          run leave (k ∷ q) (sy q_dow (suc n) ∷ st) ≡ after (and_then (expect_if x k q) (λ _ p. where_opened (open_if m (deeper_statements g b)) (k ∷ q) (λ i. and_then (read_level i.factor_reader i.bracket_reader statement_level p) (λ u p. and_then (expect_token end_token p) (λ z o. found (while_statement t u z) o))))) st
      go false m e h = rw e
      go true false e h = rw (e, h)
      go true true e h = rw (e, h) (sim_then (level_s statement_level n) (One (q_tok c_end) n) q (read_level g b statement_level q) _ (semi_sim n g b hg hb q) (λ u p.
          sim_end (One (q_tok c_end) n) p (expect_token end_token p) (λ z. while_statement t u z) (expect_sim c_end n p)) st)

  thens_none : (t : Part) → Sims (One q_thn) zero (read_then (λ _. none) t)
  unfolding run step finish expect_token
  thens_none t [] st = refl
  thens_none t (k ∷ q) st = go (same_as then_token k) refl
    where
      go : (a : Bool) → same_as then_token k ≡ a → run leave (k ∷ q) (sy q_thn zero ∷ st) ≡ after (and_then (expect_if a k q) (λ _ p. refused_at too_deep (k ∷ q))) st
      go false e = rw e
      go true e = rw e

  dos_none : (t : Part) → Sims (One q_dow) zero (read_do (λ _. none) t)
  unfolding run step finish expect_token
  dos_none t [] st = refl
  dos_none t (k ∷ q) st = go (same_as do_token k) refl
    where
      go : (a : Bool) → same_as do_token k ≡ a → run leave (k ∷ q) (sy q_dow zero ∷ st) ≡ after (and_then (expect_if a k q) (λ _ p. refused_at too_deep (k ∷ q))) st
      go false e = rw e
      go true e = rw e

  read_sim : (y : Place) (n : ℕ) (s : List Token) → Sim (One q_rd n) s (read_read_if y (brackets_at leave n) (begins_with left_bracket s) s)
  read_sim y n [] st = unfold run finish read_leaf in refl
  read_sim y n (k ∷ s) st = go (same_as left_bracket k) refl
    where
      opened : (g : Option ℕ) → act (rd_t true (leaf_of name_leaf k)) g n st (step leave k s st) ≡ act (if_t true (opens (level_t below logic_level (below (q_tok c_rbr) ∷ [])))) g n (sy (q_atom name_leaf) n ∷ st) (step leave k s (sy (q_atom name_leaf) n ∷ st))
      opened none = refl
      opened (some m) = refl

      go : (x : Bool) → same_as left_bracket k ≡ x → run leave (k ∷ s) (sy q_rd n ∷ st) ≡ after (read_read_if y (brackets_at leave n) x (k ∷ s)) st
      go true e = alike (sy q_rd n ∷ st) (sy q_bra n ∷ sy (q_atom name_leaf) n ∷ st) k s (unfold step in rw e (opened (gate leave n (k ∷ s)))) ∙
          sim_then (One q_bra n) (One (q_atom name_leaf) n) (k ∷ s) (brackets_at leave n (k ∷ s)) _ ((brackets_both n).1 (k ∷ s)) (λ x r. sim_end (One (q_atom name_leaf) n) r (read_leaf name_leaf r) (λ t. input_statement y (some x) t) (atom_sim name_leaf n r)) st
      go false e = alike (sy q_rd n ∷ st) (sy (q_atom name_leaf) n ∷ st) k s (unfold step in rw e) ∙ sim_end (One (q_atom name_leaf) n) (k ∷ s) (read_leaf name_leaf (k ∷ s)) (λ t. input_statement y none t) (atom_sim name_leaf n (k ∷ s)) st

  write_sim : (y : Place) (n : ℕ) (s : List Token) → Sim (One q_wr n) s (read_write_if y (expressions_at leave n) (brackets_at leave n) (begins_with left_bracket s) s)
  write_sim y n [] st = wnil ∙ sim_end (level_s logic_level n) [] (expressions_at leave n []) (λ t. output_statement y none t) (exprs_sim n []) st
    where
      wnil : run leave [] (sy q_wr n ∷ st) ≡ run leave [] (level_s logic_level n st)
      wnil = unfold run finish in refl
  write_sim y n (k ∷ s) st = go (same_as left_bracket k) refl
    where
      opened : (g : Option ℕ) → act (wr_t true (factor_start k)) g n st (step leave k s st) ≡ act (if_t true (opens (level_t below logic_level (below (q_tok c_rbr) ∷ [])))) g n (level_s logic_level n st) (step leave k s (level_s logic_level n st))
      opened none = refl
      opened (some m) = refl

      tails : Stack
      tails = sy (q_tl product_level) n ∷ sy (q_tl sum_level) n ∷ sy (q_tl comparison_level) n ∷ sy (q_tl logic_level) n ∷ st

      plain : (x : FactorStart) (g : Option ℕ) → act (wr_t false x) g n st (step leave k s st) ≡ act (fac_t x []) g n tails (step leave k s tails)
      plain (leaf t) g = refl
      plain no_factor g = refl
      plain brace g = refl
      plain (unary o) none = refl
      plain (unary o) (some m) = refl
      plain parenthesis none = refl
      plain parenthesis (some m) = refl

      go : (x : Bool) → same_as left_bracket k ≡ x → run leave (k ∷ s) (sy q_wr n ∷ st) ≡ after (read_write_if y (expressions_at leave n) (brackets_at leave n) x (k ∷ s)) st
      go true e = alike (sy q_wr n ∷ st) (sy q_bra n ∷ level_s logic_level n st) k s (unfold step in rw e (opened (gate leave n (k ∷ s)))) ∙
          sim_then (One q_bra n) (level_s logic_level n) (k ∷ s) (brackets_at leave n (k ∷ s)) _ ((brackets_both n).1 (k ∷ s)) (λ x r. sim_end (level_s logic_level n) r (expressions_at leave n r) (λ t. output_statement y (some x) t) (exprs_sim n r)) st
      go false e = alike (sy q_wr n ∷ st) (level_s logic_level n st) k s (unfold step in rw e (plain (factor_start k) (gate leave n (k ∷ s)))) ∙ sim_end (level_s logic_level n) (k ∷ s) (expressions_at leave n (k ∷ s)) (λ t. output_statement y none t) (exprs_sim n (k ∷ s)) st

  -- a statement's first token, and what it leaves due
  stat_sim : (n : ℕ) (d : StatementOpening) → ((t : Part) → Sims (One q_thn) n (read_then d t)) → ((t : Part) → Sims (One q_dow) n (read_do d t)) → (k : Token) (s : List Token) (st : Stack) (x : StatementStart) → statement_start k ≡ x →
      run leave (k ∷ s) (sy q_stt n ∷ st) ≡ after (read_statement_if (expressions_at leave n) (brackets_at leave n) d x k s) st
  unfolding run step
  stat_sim n d th dd k s st (assigning x) e = rw e (sim_then (One (q_tok c_assign) n) (level_s logic_level n) s (expect_token assign_token s) _ (expect_sim c_assign n s) (λ _ r. sim_end (level_s logic_level n) r (expressions_at leave n r) (λ t. assignment x t) (exprs_sim n r)) st)
  stat_sim n d th dd k s st (defining y) e = rw e (sim_end (level_s name_level n) s (read_level (read_leaf name_leaf) (brackets_at leave n) name_level s) (λ t. definition (of_domain y) t) ((chain_both n _ _ name_level (atom_both name_leaf n) (brackets_both n)).1 s) st)
  stat_sim n d th dd k s st defining_table e = rw e (sim_then (One (q_tok c_lpar) n) (λ st. level_s attribute_level n (sy (q_tok c_rpar) n ∷ level_s name_level n st)) s (expect_token left_parenthesis s) _ (expect_sim c_lpar n s) (λ _ r.
      sim_then (level_s attribute_level n) (λ st. sy (q_tok c_rpar) n ∷ level_s name_level n st) r (read_level read_attribute (brackets_at leave n) attribute_level r) _ ((chain_both n _ _ attribute_level (attr_both n) (brackets_both n)).1 r) (λ t q.
      sim_then (One (q_tok c_rpar) n) (level_s name_level n) q (expect_token right_parenthesis q) _ (expect_sim c_rpar n q) (λ _ p.
      sim_end (level_s name_level n) p (read_level (read_leaf name_leaf) (brackets_at leave n) name_level p) (λ u. definition (of_table t.attributes (place_of k)) u) ((chain_both n _ _ name_level (atom_both name_leaf n) (brackets_both n)).1 p)))) st)
  stat_sim n d th dd k s st deciding e = rw e (sim_then (level_s logic_level n) (One q_thn n) s (expressions_at leave n s) _ (exprs_sim n s) (λ t r. th (at_token k t) r) st)
  stat_sim n d th dd k s st looping e = rw e (sim_then (level_s logic_level n) (One q_dow n) s (expressions_at leave n s) _ (exprs_sim n s) (λ t r. dd (at_token k t) r) st)
  stat_sim n d th dd k s st reading e = rw e (read_sim (place_of k) n s st)
  stat_sim n d th dd k s st writing e = rw e (write_sim (place_of k) n s st)
  stat_sim n d th dd k s st no_statement_here e = rw e

  stats_sim : (n : ℕ) → Sims (One q_stt) n (statements_at leave n)
  unfolding statements_at
  stats_sim zero [] st = unfold run finish in refl
  stats_sim (suc n) [] st = unfold run finish in refl
  stats_sim zero (k ∷ s) st = stat_sim zero (λ _. none) (λ t. thens_none t) (λ t. dos_none t) k s st (statement_start k) refl
  stats_sim (suc n) (k ∷ s) st = let h = stats_sim n in
      stat_sim (suc n) (λ s. open_if (leave n s) (deeper_statements (statements_at leave n) (brackets_at leave n))) (λ t. thens_sim n t _ _ (stats_sound leave n, h) (brackets_both n)) (λ t. dos_sim n t _ _ (stats_sound leave n, h) (brackets_both n)) k s st (statement_start k) refl

  pub program_sim : (n : ℕ) → Sims program_s n (program_at leave n)
  unfolding program_at
  program_sim n s st =
      sim_then (One (q_tok c_program) n) (λ st. level_s statement_level n (sy (q_tok c_end) n ∷ st)) s (expect_token program_token s) _ (expect_sim c_program n s) (λ _ r.
      sim_then (level_s statement_level n) (One (q_tok c_end) n) r (read_level (statements_at leave n) (brackets_at leave n) statement_level r) _ (semi_sim n _ _ (stats_sound leave n, stats_sim n) (brackets_both n) r) (λ t q.
      sim_end (One (q_tok c_end) n) q (expect_token end_token q) (λ z. close_part t z) (expect_sim c_end n q))) st
