-- What the parser accepts, the grammar reads.
-- what holds of the tree and rest of a result, if it has them
use mathlib.Core.Path.{◌≡◌, refl, subst}
use Prim.Native.Nat.{ℕ, zero, suc}
use mathlib.Core.List.{List, [], ◌∷◌}
use mathlib.Core.Bool.{Bool, true, false}
use mathlib.Core.Option.{Option, none, some}
use lib.ListN.{length}
use Rattle.words.specs.Tokens.{Token}
use Rattle.grammar.specs.Parts.{Part, Level, Turn, Leaf, Argument, FactorStart, StatementStart, turn_at, level_after, leaf_of, argument_of, factor_start}
use Rattle.grammar.specs.Parts.{statement_start, same_as, program_token, end_token, then_token, else_token, do_token, left_parenthesis, right_parenthesis}
use Rattle.grammar.specs.Parts.{left_bracket, right_bracket, right_brace, assign_token, place_of, at_token, combine, join_parts, while_statement}
use Rattle.grammar.specs.Parts.{Level.statement_level, Level.name_level, Level.type_level, Level.constant_level, Level.attribute_level, Level.tuple_level}
use Rattle.grammar.specs.Parts.{Level.logic_level, Level.comparison_level, Level.sum_level, Level.product_level, Level.compared_level, Turn.stop, Turn.take_join}
use Rattle.grammar.specs.Parts.{Turn.take_operator, Leaf.name_leaf, Leaf.type_leaf, Leaf.constant_leaf, Argument.no_argument, Argument.names_argument}
use Rattle.grammar.specs.Parts.{Argument.condition_argument, Argument.update_argument, Argument.extend_argument, FactorStart.leaf, FactorStart.unary}
use Rattle.grammar.specs.Parts.{FactorStart.parenthesis, FactorStart.brace, FactorStart.no_factor, StatementStart.assigning, StatementStart.defining}
use Rattle.grammar.specs.Parts.{StatementStart.defining_table, StatementStart.deciding, StatementStart.looping, StatementStart.reading}
use Rattle.grammar.specs.Parts.{StatementStart.writing, StatementStart.no_statement_here}
use Rattle.grammar.proofs.Table.{TableSymbol, item_of, Reads, TableSymbol.level, TableSymbol.more, TableSymbol.factor, TableSymbol.bracket, TableSymbol.inst}
use Rattle.grammar.proofs.Table.{TableSymbol.tuple_n, TableSymbol.attr, TableSymbol.stat, TableSymbol.prog, TableSymbol.arg, TableSymbol.atom}
use Rattle.grammar.proofs.Table.{TableSymbol.elses, TableSymbol.tok, Reads.eats, Reads.atoms, Reads.first, Reads.done, Reads.next, Reads.joins}
use Rattle.grammar.proofs.Table.{Reads.brackets, Reads.no_arg, Reads.arg_ids, Reads.arg_expr, Reads.arg_upd, Reads.arg_ext, Reads.leafs, Reads.unaries}
use Rattle.grammar.proofs.Table.{Reads.parens, Reads.braces, Reads.inst_tuples, Reads.inst_types, Reads.tuples, Reads.attrs, Reads.assigns, Reads.defines}
use Rattle.grammar.proofs.Table.{Reads.tables, Reads.read1, Reads.read2, Reads.write1, Reads.write2, Reads.whilst, Reads.conds, Reads.ends, Reads.other}
use Rattle.grammar.proofs.Table.{Reads.whole}
use Rattle.grammar.specs.Grammar.{Leave}
use Rattle.grammar.specs.Readers.{Outcome, Outcome.found, Outcome.refused_at, Reader, and_then, expect_if, expect_token, leaf_if, read_leaf, begins_with, take_turn}
use Rattle.grammar.specs.Readers.{take_turns, read_level, read_attribute, read_tuple, read_expression, read_instance_if, read_instance, read_argument, Opening}
use Rattle.grammar.specs.Readers.{open_if, where_opened, read_bracket, read_factor_if, read_factor, deeper_readers, openings, factors_at, brackets_at, expressions_at}
use Rattle.grammar.specs.Readers.{StatementOpening, read_else_if, read_else, read_then, read_do, read_read_if, read_write_if, read_statement_if, deeper_statements}
use Rattle.grammar.specs.Readers.{statements_at, program_at, Cause}

pub data Holds (P : Part → List Token → Type 0) : Outcome → Type 0 where
  good : {t : Part} {r : List Token} → P t r → Holds P (found t r)
  fault : {c : Cause} {r : List Token} → Holds P (refused_at c r)

pub then : {P Q : Part → List Token → Type 0} {x : Outcome} {g : Part → List Token → Outcome} → Holds P x → ((t : Part) (r : List Token) → P t r → Holds Q (g t r)) → Holds Q (and_then x g)
then (good p) h = h _ _ p
then fault h = fault

pub weaken : {P Q : Part → List Token → Type 0} {x : Outcome} → ((t : Part) (r : List Token) → P t r → Q t r) → Holds P x → Holds Q x
weaken h (good p) = good (h _ _ p)
weaken h fault = fault

pub holds_ok : {P : Part → List Token → Type 0} {t : Part} {r : List Token} → Holds P (found t r) → P t r
holds_ok (good p) = p

nowhere : {P : Part → List Token → Type 0} (x : Outcome) {g : Part → List Token → Outcome} → ((t : Part) (r : List Token) → Holds P (g t r)) → Holds P (and_then x g)
nowhere (found t r) h = h t r
nowhere (refused_at c r) h = fault

pub item_again : (l : Level) → item_of l ≡ item_of (level_after l)
item_again statement_level = refl
item_again name_level = refl
item_again type_level = refl
item_again constant_level = refl
item_again attribute_level = refl
item_again tuple_level = refl
item_again logic_level = refl
item_again comparison_level = refl
item_again sum_level = refl
item_again product_level = refl
item_again compared_level = refl

module _ (leave : Leave) where
  abbrev pub Sound : TableSymbol → ℕ → Reader → Type 0
  Sound S n f = (s : List Token) → Holds (λ t r. Reads leave S n s r t) (f s)

  pub expect_sound : (w : Token) (n : ℕ) (s : List Token) → Holds (λ t r. Reads leave (tok w) n s r t) (expect_token w s)
  unfolding expect_token
  expect_sound w n [] = fault
  expect_sound w n (k ∷ s) = go (same_as w k) refl
    where
      go : (b : Bool) → same_as w k ≡ b → Holds (λ t r. Reads leave (tok w) n (k ∷ s) r t) (expect_if b k s)
      go true e = good (eats e)
      go false e = fault

  pub atom_sound : (f : Leaf) (n : ℕ) → Sound (atom f) n (read_leaf f)
  unfolding read_leaf
  atom_sound f n [] = fault
  atom_sound f n (k ∷ s) = go (leaf_of f k) refl
    where
      go : (x : Option Part) → leaf_of f k ≡ x → Holds (λ t r. Reads leave (atom f) n (k ∷ s) r t) (leaf_if x k s)
      go (some t) e = good (atoms e)
      go none e = fault

  turns_sound : (n : ℕ) (f b : Reader) → Sound bracket n b → (m : ℕ) (l : Level) → Sound (item_of l) n f → (t : Part) (s : List Token) → Holds (λ u r. Reads leave (more l t) n s r u) (take_turns f b m l t s)
  unfolding take_turns
  turns_sound n f b hb zero l hf t s = good done
  turns_sound n f b hb (suc m) l hf t [] = good done
  turns_sound n f b hb (suc m) l hf t (k ∷ s) = go (turns_sound n f b hb m (level_after l) (subst (λ S. Sound S n f) (item_again l) hf)) (turn_at l k) refl
    where
      go : ((u : Part) (r : List Token) → Holds (λ v q. Reads leave (more (level_after l) u) n r q v) (take_turns f b m (level_after l) u r)) →
          (x : Turn) → turn_at l k ≡ x → Holds (λ u r. Reads leave (more l t) n (k ∷ s) r u) (take_turn (take_turns f b m) f b x l t k s)
      go ih stop e = good done
      go ih (take_operator o) e = then (hf s) (λ u r p. weaken (λ v q h. next e p h) (ih (combine o (place_of k) t u) r))
      go ih take_join e = then (hb s) (λ x r c. then (hf r) (λ u q p. weaken (λ v i h. joins e c p h) (ih (join_parts (place_of k) t x u) q)))

  pub chain_sound : (n : ℕ) (f b : Reader) (l : Level) → Sound (item_of l) n f → Sound bracket n b → Sound (level l) n (read_level f b l)
  unfolding read_level
  chain_sound n f b l hf hb s = then (hf s) (λ t r p. weaken (λ u q h. first p h) (turns_sound n f b hb (length r) l hf t r))

  pub attr_sound : (n : ℕ) → Sound attr n read_attribute
  unfolding read_attribute
  attr_sound n s = then (atom_sound type_leaf n s) (λ t r p. then (atom_sound name_leaf n r) (λ u q h. good (attrs p h)))

  pub tuple_sound : (n : ℕ) (b : Reader) → Sound bracket n b → Sound tuple_n n (read_tuple b)
  unfolding read_tuple
  tuple_sound n b hb s = then (expect_sound left_parenthesis n s) (λ _ r a. then (chain_sound n _ b constant_level (atom_sound constant_leaf n) hb r) (λ t q p. then (expect_sound right_parenthesis n q) (λ _ o c. good (tuples a p c))))

  pub expr_sound : (n : ℕ) (f b : Reader) → Sound factor n f → Sound bracket n b → Sound (level logic_level) n (read_expression f b)
  unfolding read_expression
  expr_sound n f b hf hb = chain_sound n _ b logic_level (chain_sound n _ b comparison_level (chain_sound n _ b sum_level (chain_sound n f b product_level hf hb) hb) hb) hb

  inst_sound : (n : ℕ) (b : Reader) → Sound bracket n b → Sound inst n (read_instance b)
  unfolding read_instance
  inst_sound n b hb s = go (begins_with left_parenthesis s)
    where
      go : (x : Bool) → Holds (λ t r. Reads leave inst n s r t) (read_instance_if b x s)
      go true = weaken (λ t r p. inst_tuples p) (chain_sound n _ b tuple_level (tuple_sound n b hb) hb s)
      go false = weaken (λ t r p. inst_types p) (chain_sound n _ b type_level (atom_sound type_leaf n) hb s)

  arg_sound : (n : ℕ) (e b : Reader) → Sound (level logic_level) n e → Sound bracket n b → (a : Argument) → Sound (arg a) n (read_argument e b a)
  unfolding read_argument
  arg_sound n e b he hb no_argument s = good no_arg
  arg_sound n e b he hb names_argument s = then (expect_sound left_bracket n s) (λ _ r a. then (chain_sound n _ b name_level (atom_sound name_leaf n) hb r) (λ t q p. then (expect_sound right_bracket n q) (λ _ o c. good (arg_ids a p c))))
  arg_sound n e b he hb condition_argument s = then (expect_sound left_bracket n s) (λ _ r a. then (he r) (λ t q p. then (expect_sound right_bracket n q) (λ _ o c. good (arg_expr a p c))))
  arg_sound n e b he hb update_argument s = then (expect_sound left_bracket n s) (λ _ r a. then (atom_sound name_leaf n r) (λ x q i. then (expect_sound assign_token n q) (λ _ o d. then (he o) (λ t j p. then (expect_sound right_bracket n j) (λ _ o c. good (arg_upd a i d p c))))))
  arg_sound n e b he hb extend_argument s = then (expect_sound left_bracket n s) (λ _ r a. then (atom_sound type_leaf n r) (λ y z h. then (atom_sound name_leaf n z) (λ x q i. then (expect_sound assign_token n q) (λ _ o d. then (he o) (λ t j p. then (expect_sound right_bracket n j) (λ _ o c. good (arg_ext a h i d p c)))))))

  bracket_zero : Sound bracket zero (read_bracket (λ _. none))
  unfolding read_bracket
  bracket_zero s = nowhere (expect_token left_bracket s) (λ _ r. fault)

  bracket_suc : (n : ℕ) (d : Opening) → Sound factor n (read_factor d) → Sound bracket n (read_bracket d) → Sound bracket (suc n) (read_bracket (λ s. open_if (leave n s) (deeper_readers d)))
  unfolding read_bracket
  bracket_suc n d hf hb s = then (expect_sound left_bracket n s) (λ _ r a. on r a (leave n s) refl)
    where
      on : {z : Part} (r : List Token) → Reads leave (tok left_bracket) n s r z → (m : Bool) → leave n s ≡ m →
          Holds (λ t r. Reads leave bracket (suc n) s r t) (where_opened (open_if m (deeper_readers d)) s (λ i. and_then (read_expression i.factor_reader i.bracket_reader r) (λ t q. and_then (expect_token right_bracket q) (λ _ p. found t p))))
      on r a true m = then (expr_sound n _ _ hf hb r) (λ t q p. then (expect_sound right_bracket n q) (λ _ o c. good (brackets a m p c)))
      on r a false m = fault

  factor_zero : Sound factor zero (read_factor (λ _. none))
  factor_zero [] = fault
  factor_zero (k ∷ s) = go (factor_start k) refl
    where
      go : (x : FactorStart) → factor_start k ≡ x → Holds (λ t r. Reads leave factor zero (k ∷ s) r t) (read_factor_if (read_bracket (λ _. none)) none x k s)
      go (leaf t) e = good (leafs e)
      go (unary o) e = fault
      go parenthesis e = fault
      go brace e = then (inst_sound zero _ bracket_zero s) (λ t r p. then (expect_sound right_brace zero r) (λ _ q c. good (braces e p c)))
      go no_factor e = fault

  factor_suc : (n : ℕ) (d : Opening) → Sound factor n (read_factor d) → Sound bracket n (read_bracket d) → Sound factor (suc n) (read_factor (λ s. open_if (leave n s) (deeper_readers d)))
  factor_suc n d hf hb [] = fault
  factor_suc n d hf hb (k ∷ s) = go (factor_start k) (leave n (k ∷ s)) refl refl
    where
      go : (x : FactorStart) (m : Bool) → factor_start k ≡ x → leave n (k ∷ s) ≡ m → Holds (λ t r. Reads leave factor (suc n) (k ∷ s) r t) (read_factor_if (read_bracket (λ s. open_if (leave n s) (deeper_readers d))) (open_if m (deeper_readers d)) x k s)
      go (leaf t) m e h = good (leafs e)
      go (unary o) true e h = then (arg_sound n _ _ (expr_sound n _ _ hf hb) hb (argument_of o) s) (λ x r a. then (hf r) (λ t q p. good (unaries e h a p)))
      go parenthesis true e h = then (expr_sound n _ _ hf hb s) (λ t r p. then (expect_sound right_parenthesis n r) (λ _ q c. good (parens e h p c)))
      go brace m e h = then (inst_sound (suc n) _ (bracket_suc n d hf hb) s) (λ t r p. then (expect_sound right_brace (suc n) r) (λ _ q c. good (braces e p c)))
      go (unary o) false e h = fault
      go parenthesis false e h = fault
      go no_factor m e h = fault

  pub deep_sound : (n : ℕ) → (Sound factor n (read_factor (openings leave n))) × Sound bracket n (read_bracket (openings leave n))
  unfolding openings
  deep_sound zero = (factor_zero, bracket_zero)
  deep_sound (suc n) = let h = deep_sound n in (factor_suc n (openings leave n) h.0 h.1, bracket_suc n (openings leave n) h.0 h.1)

  pub factors_sound : (n : ℕ) → Sound factor n (factors_at leave n)
  unfolding factors_at
  factors_sound n = (deep_sound n).0

  pub brackets_sound : (n : ℕ) → Sound bracket n (brackets_at leave n)
  unfolding brackets_at
  brackets_sound n = (deep_sound n).1

  pub exprs_sound : (n : ℕ) → Sound (level logic_level) n (expressions_at leave n)
  unfolding expressions_at
  exprs_sound n = expr_sound n _ _ (factors_sound n) (brackets_sound n)

  elses_sound : (n : ℕ) (b g : Reader) → Sound bracket n b → Sound stat n g → (t u : Part) → Sound (elses t u) n (read_else b g t u)
  unfolding read_else
  elses_sound n b g hb hg t u [] = fault
  elses_sound n b g hb hg t u (k ∷ s) = go (same_as end_token k) (same_as else_token k) refl refl
    where
      go : (x y : Bool) → same_as end_token k ≡ x → same_as else_token k ≡ y → Holds (λ v r. Reads leave (elses t u) n (k ∷ s) r v) (read_else_if b g t u x y k s)
      go true y e h = good (ends (eats e))
      go false true e h = then (chain_sound n g b statement_level hg hb s) (λ v r p. then (expect_sound end_token n r) (λ _ q c. good (other (eats h) p c)))
      go false false e h = fault

  -- the statements that lie in one depth
  plain_sound : (n : ℕ) (d : StatementOpening) (k : Token) (s : List Token) →
      (statement_start k ≡ deciding → (t : Part) (r : List Token) → Reads leave (level logic_level) n s r t → Holds (λ t r. Reads leave stat n (k ∷ s) r t) (read_then d (at_token k t) r)) →
      (statement_start k ≡ looping → (t : Part) (r : List Token) → Reads leave (level logic_level) n s r t → Holds (λ t r. Reads leave stat n (k ∷ s) r t) (read_do d (at_token k t) r)) →
      (x : StatementStart) → statement_start k ≡ x → Holds (λ t r. Reads leave stat n (k ∷ s) r t) (read_statement_if (expressions_at leave n) (brackets_at leave n) d x k s)
  plain_sound n d k s th dd (assigning x) e = then (expect_sound assign_token n s) (λ _ r b. then (exprs_sound n r) (λ t q p. good (assigns e b p)))
  plain_sound n d k s th dd (defining y) e = then (chain_sound n _ _ name_level (atom_sound name_leaf n) (brackets_sound n) s) (λ t r p. good (defines e p))
  plain_sound n d k s th dd defining_table e = then (expect_sound left_parenthesis n s) (λ _ r a. then (chain_sound n _ _ attribute_level (attr_sound n) (brackets_sound n) r) (λ t q p. then (expect_sound right_parenthesis n q) (λ _ i c. then (chain_sound n _ _ name_level (atom_sound name_leaf n) (brackets_sound n) i) (λ u o h. good (tables e a p c h)))))
  plain_sound n d k s th dd deciding e = then (exprs_sound n s) (λ t r p. th e t r p)
  plain_sound n d k s th dd looping e = then (exprs_sound n s) (λ t r p. dd e t r p)
  plain_sound n d k s th dd reading e = go (begins_with left_bracket s)
    where
      go : (x : Bool) → Holds (λ t r. Reads leave stat n (k ∷ s) r t) (read_read_if (place_of k) (brackets_at leave n) x s)
      go true = then (brackets_sound n s) (λ x r b. then (atom_sound name_leaf n r) (λ t q p. good (read2 e b p)))
      go false = then (atom_sound name_leaf n s) (λ t q p. good (read1 e p))
  plain_sound n d k s th dd writing e = go (begins_with left_bracket s)
    where
      go : (x : Bool) → Holds (λ t r. Reads leave stat n (k ∷ s) r t) (read_write_if (place_of k) (expressions_at leave n) (brackets_at leave n) x s)
      go true = then (brackets_sound n s) (λ x r b. then (exprs_sound n r) (λ t q p. good (write2 e b p)))
      go false = then (exprs_sound n s) (λ t q p. good (write1 e p))
  plain_sound n d k s th dd no_statement_here e = fault

  pub stats_sound : (n : ℕ) → Sound stat n (statements_at leave n)
  unfolding statements_at
  stats_sound zero [] = fault
  stats_sound zero (k ∷ s) = plain_sound zero (λ _. none) k s (λ e t r p. nowhere (expect_token then_token r) (λ _ q. fault)) (λ e t r p. nowhere (expect_token do_token r) (λ _ q. fault)) (statement_start k) refl
  stats_sound (suc n) [] = fault
  stats_sound (suc n) (k ∷ s) = go (stats_sound n)
    where
      d : StatementOpening
      d = λ s. open_if (leave n s) (deeper_statements (statements_at leave n) (brackets_at leave n))

      th : {z : Part} → statement_start k ≡ deciding → Sound stat n (statements_at leave n) → (t : Part) (r q : List Token) → Reads leave (level logic_level) (suc n) s r t → Reads leave (tok then_token) n r q z → (m : Bool) → leave n r ≡ m →
          Holds (λ t r. Reads leave stat (suc n) (k ∷ s) r t) (where_opened (open_if m (deeper_statements (statements_at leave n) (brackets_at leave n))) r (λ i. and_then (read_level i.factor_reader i.bracket_reader statement_level q) (λ u p. read_else i.bracket_reader i.factor_reader (at_token k t) u p)))
      th e ih t r q p b true m = then (chain_sound n _ _ statement_level ih (brackets_sound n) q) (λ u o h. weaken (λ v i j. conds e p b m h j) (elses_sound n _ _ (brackets_sound n) ih (at_token k t) u o))
      th e ih t r q p b false m = fault

      dd : {z : Part} → statement_start k ≡ looping → Sound stat n (statements_at leave n) → (t : Part) (r q : List Token) → Reads leave (level logic_level) (suc n) s r t → Reads leave (tok do_token) n r q z → (m : Bool) → leave n r ≡ m →
          Holds (λ t r. Reads leave stat (suc n) (k ∷ s) r t) (where_opened (open_if m (deeper_statements (statements_at leave n) (brackets_at leave n))) r (λ i. and_then (read_level i.factor_reader i.bracket_reader statement_level q) (λ u p. and_then (expect_token end_token p) (λ y o. found (while_statement (at_token k t) u y) o))))
      dd e ih t r q p b true m = then (chain_sound n _ _ statement_level ih (brackets_sound n) q) (λ u o h. then (expect_sound end_token n o) (λ _ i c. good (whilst e p b m h c)))
      dd e ih t r q p b false m = fault

      go : Sound stat n (statements_at leave n) → Holds (λ t r. Reads leave stat (suc n) (k ∷ s) r t) (read_statement_if (expressions_at leave (suc n)) (brackets_at leave (suc n)) d (statement_start k) k s)
      go ih = plain_sound (suc n) d k s (λ e t r p. then (expect_sound then_token n r) (λ _ q b. th e ih t r q p b (leave n r) refl))
          (λ e t r p. then (expect_sound do_token n r) (λ _ q b. dd e ih t r q p b (leave n r) refl)) (statement_start k) refl

  program_sound : (n : ℕ) → Sound prog n (program_at leave n)
  unfolding program_at
  program_sound n s =
      then (expect_sound program_token n s) (λ _ r a. then (chain_sound n _ _ statement_level (stats_sound n) (brackets_sound n) r) (λ t q p. then (expect_sound end_token n q) (λ _ o c. good (whole a p c))))

  pub sound : (n : ℕ) (s : List Token) (t : Part) (r : List Token) → program_at leave n s ≡ found t r → Reads leave prog n s r t
  sound n s t r e = holds_ok (subst (λ x. Holds (λ u q. Reads leave prog n s q u) x) e (program_sound n s))
