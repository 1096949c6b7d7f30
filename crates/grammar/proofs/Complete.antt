-- What the grammar reads, the parser accepts, with the same tree.
-- where a level stops: at the end, or at a token that is no operator, or one of a looser level
use mathlib.Core.Path.{◌≡◌, refl, sym, subst, ap, ◌∙◌}
use native.Mathlib.Omega.{arith}
use native.Mathlib.Nat.{le_refl}
use Prim.Native.Nat.{ℕ, zero, suc, ◌≤◌, ◌<◌}
use mathlib.Core.List.{List, [], ◌∷◌}
use mathlib.Core.Bool.{Bool, true, false}
use mathlib.Core.Option.{none, some}
use lib.ListN.{length, get_or}
use Rattle.words.specs.Tokens.{Token, Place, Terminal, Terminal.word, Terminal.sign, Terminal.domain, Terminal.logic, Terminal.comparison}
use Rattle.words.specs.Tokens.{Terminal.sum, Terminal.product, Terminal.truth, Terminal.integer, Terminal.string, Terminal.name, Terminal.broken}
use Rattle.grammar.specs.Parts.{Operator, Unary, Part, Level, Between, Leaf, FactorStart, between_of, rank, turn_if, turn_in, turn_at, level_after, name_of}
use Rattle.grammar.specs.Parts.{type_of, leaf_of, argument_of, factor_start, statement_start, code_of, same_as, end_token, else_token, left_parenthesis}
use Rattle.grammar.specs.Parts.{right_parenthesis, left_bracket, right_bracket, right_brace, assign_token, terminal_of, place_of, between_in, name_in, type_in}
use Rattle.grammar.specs.Parts.{factor_start_in, code_in, place_part, combine, join_parts, apply, table_constant, assignment, definition, input_statement}
use Rattle.grammar.specs.Parts.{output_statement, Level.statement_level, Level.name_level, Level.type_level, Level.constant_level, Level.attribute_level}
use Rattle.grammar.specs.Parts.{Level.tuple_level, Level.logic_level, Level.comparison_level, Level.sum_level, Level.product_level, Level.compared_level}
use Rattle.grammar.specs.Parts.{Between.no_operator, Between.join_operator, Between.operator_of_rank, Turn.stop, Turn.take_join, Turn.take_operator, Leaf.name_leaf}
use Rattle.grammar.specs.Parts.{Leaf.type_leaf, Leaf.constant_leaf, FactorStart.leaf, FactorStart.unary, FactorStart.parenthesis, FactorStart.brace}
use Rattle.grammar.specs.Parts.{FactorStart.no_factor, StatementStart.assigning, StatementStart.defining, StatementStart.defining_table}
use Rattle.grammar.specs.Parts.{StatementStart.reading, StatementStart.writing}
use Rattle.grammar.proofs.Table.{TableSymbol, item_of, Reads, TableSymbol.level, TableSymbol.more, TableSymbol.factor, TableSymbol.bracket, TableSymbol.inst}
use Rattle.grammar.proofs.Table.{TableSymbol.tuple_n, TableSymbol.attr, TableSymbol.stat, TableSymbol.prog, TableSymbol.arg, TableSymbol.atom}
use Rattle.grammar.proofs.Table.{TableSymbol.elses, TableSymbol.tok, Reads.eats, Reads.atoms, Reads.first, Reads.done, Reads.next, Reads.joins}
use Rattle.grammar.proofs.Table.{Reads.brackets, Reads.no_arg, Reads.arg_ids, Reads.arg_expr, Reads.arg_upd, Reads.arg_ext, Reads.leafs, Reads.unaries}
use Rattle.grammar.proofs.Table.{Reads.parens, Reads.braces, Reads.inst_tuples, Reads.inst_types, Reads.tuples, Reads.attrs, Reads.assigns, Reads.defines}
use Rattle.grammar.proofs.Table.{Reads.tables, Reads.read1, Reads.read2, Reads.write1, Reads.write2, Reads.whilst, Reads.conds, Reads.ends, Reads.other}
use Rattle.grammar.proofs.Table.{Reads.whole}
use Rattle.words.specs.declared.tokens.Word.TheVariants.{Program, End, Table, If, Then, Else, While, Do, Read, Write, Join, Not, Project, Select, Exists}
use Rattle.words.specs.declared.tokens.Word.TheVariants.{All, Update, Extend, Rename}
use Rattle.words.specs.declared.tokens.Sign.TheVariants.{LeftParenthesis, RightParenthesis, LeftBracket, RightBracket, LeftBrace, RightBrace, Semicolon}
use Rattle.words.specs.declared.tokens.Sign.TheVariants.{Comma, Assign}
use Rattle.grammar.specs.Tree.{Name, AtomicType, VariableType.of_domain, VariableType.of_table}
use Rattle.grammar.specs.Grammar.{Leave}
use Rattle.grammar.specs.Readers.{Outcome, Outcome.found, Reader, expect_token, read_leaf, begins_with, take_turns, read_level, read_attribute, read_tuple}
use Rattle.grammar.specs.Readers.{read_item, read_expression, read_instance, read_argument, read_bracket, openings, factors_at, brackets_at, expressions_at}
use Rattle.grammar.specs.Readers.{StatementOpening, read_else, read_statement_if, statements_at, program_at}

unfoldable pub orank : Between → ℕ
orank no_operator = zero
orank join_operator = 6
orank (operator_of_rank m o) = suc m

abbrev pub Stop : ℕ → List Token → Type 0
Stop c [] = Unit {0}
Stop c (k ∷ s) = orank (between_of k) ≤ c

abbrev pub Stops : TableSymbol → List Token → Type 0
Stops (level l) r = Stop (rank l) r
Stops (more l t) r = Stop (rank l) r
Stops inst r = Stop 1 r
Stops stat r = Stop 1 r
Stops factor r = Unit {0}
Stops bracket r = Unit {0}
Stops tuple_n r = Unit {0}
Stops attr r = Unit {0}
Stops prog r = Unit {0}
Stops (arg a) r = Unit {0}
Stops (atom f) r = Unit {0}
Stops (elses t u) r = Unit {0}
Stops (tok w) r = Unit {0}

looser : (c : ℕ) (r : List Token) → Stop c r → Stop (suc c) r
looser c [] h = tt
looser c (k ∷ s) h = omega arith

item_stops : (l : Level) (r : List Token) → Stop (suc (rank l)) r → Stops (item_of l) r
item_stops statement_level r h = h
item_stops name_level r h = tt
item_stops type_level r h = tt
item_stops constant_level r h = tt
item_stops attribute_level r h = tt
item_stops tuple_level r h = tt
item_stops logic_level r h = h
item_stops comparison_level r h = h
item_stops sum_level r h = h
item_stops product_level r h = tt
item_stops compared_level r h = h

-- an operator of a level is where its items stop, and the level does not
some_if : (c : ℕ) (v : Between) (o : Operator) → turn_if c v ≡ take_operator o → orank v ≤ suc c
unfolding orank
some_if c no_operator o e = omega arith
some_if c join_operator o e = grind arith
some_if c (operator_of_rank m p) o e = grind arith

join_if : (c : ℕ) (v : Between) → turn_if c v ≡ take_join → orank v ≤ suc c
unfolding orank
join_if c no_operator e = omega arith
join_if c join_operator e = grind arith
join_if c (operator_of_rank m p) e = grind arith

none_if : (c : ℕ) (v : Between) → orank v ≤ c → turn_if c v ≡ stop
unfolding orank
none_if c no_operator h = refl
none_if c join_operator h = grind arith
none_if c (operator_of_rank m p) h = grind arith

some_op : (l : Level) (v : Between) (o : Operator) → turn_in l v ≡ take_operator o → orank v ≤ suc (rank l)
some_op statement_level v o e = some_if _ v o e
some_op name_level v o e = some_if _ v o e
some_op type_level v o e = some_if _ v o e
some_op constant_level v o e = some_if _ v o e
some_op attribute_level v o e = some_if _ v o e
some_op tuple_level v o e = some_if _ v o e
some_op logic_level v o e = some_if _ v o e
some_op comparison_level v o e = some_if _ v o e
some_op sum_level v o e = some_if _ v o e
some_op product_level v o e = some_if _ v o e
some_op compared_level v o e = let z : ◌≡◌ {A = ℕ} 0 1 = cc in omega arith

join_op : (l : Level) (v : Between) → turn_in l v ≡ take_join → orank v ≤ suc (rank l)
join_op statement_level v e = join_if _ v e
join_op name_level v e = join_if _ v e
join_op type_level v e = join_if _ v e
join_op constant_level v e = join_if _ v e
join_op attribute_level v e = join_if _ v e
join_op tuple_level v e = join_if _ v e
join_op logic_level v e = join_if _ v e
join_op comparison_level v e = join_if _ v e
join_op sum_level v e = join_if _ v e
join_op product_level v e = join_if _ v e
join_op compared_level v e = let z : ◌≡◌ {A = ℕ} 0 1 = cc in omega arith

none_op : (l : Level) (v : Between) → orank v ≤ rank l → turn_in l v ≡ stop
none_op statement_level v h = none_if _ v h
none_op name_level v h = none_if _ v h
none_op type_level v h = none_if _ v h
none_op constant_level v h = none_if _ v h
none_op attribute_level v h = none_if _ v h
none_op tuple_level v h = none_if _ v h
none_op logic_level v h = none_if _ v h
none_op comparison_level v h = none_if _ v h
none_op sum_level v h = none_if _ v h
none_op product_level v h = none_if _ v h
none_op compared_level v h = refl

rank_again : (l : Level) → rank (level_after l) ≡ rank l
rank_again statement_level = refl
rank_again name_level = refl
rank_again type_level = refl
rank_again constant_level = refl
rank_again attribute_level = refl
rank_again tuple_level = refl
rank_again logic_level = refl
rank_again comparison_level = refl
rank_again sum_level = refl
rank_again product_level = refl
rank_again compared_level = refl

items_again : (l : Level) (f b g : Reader) → read_item f b g (level_after l) ≡ read_item f b g l
unfolding read_item
items_again statement_level f b g = refl
items_again name_level f b g = refl
items_again type_level f b g = refl
items_again constant_level f b g = refl
items_again attribute_level f b g = refl
items_again tuple_level f b g = refl
items_again logic_level f b g = refl
items_again comparison_level f b g = refl
items_again sum_level f b g = refl
items_again product_level f b g = refl
items_again compared_level f b g = refl

turns_stop : (f b : Reader) (m : ℕ) (l : Level) (t : Part) (s : List Token) → Stop (rank l) s → take_turns f b m l t s ≡ found t s
unfolding take_turns
turns_stop f b zero l t s h = refl
turns_stop f b (suc m) l t [] h = refl
turns_stop f b (suc m) l t (k ∷ s) h = rw (none_op l (between_of k) h)

turns_next : (f b : Reader) (m : ℕ) (l : Level) (t u : Part) (k : Token) (s r : List Token) (o : Operator) (x : Outcome) → turn_at l k ≡ take_operator o → f s ≡ found u r →
    take_turns f b m (level_after l) (combine o (place_of k) t u) r ≡ x → take_turns f b (suc m) l t (k ∷ s) ≡ x
unfolding take_turns
turns_next f b m l t u k s r o x e h j = rw (e, h) j

turns_join : (f b : Reader) (m : ℕ) (l : Level) (t y u : Part) (k : Token) (s r q : List Token) (x : Outcome) → turn_at l k ≡ take_join → b s ≡ found y r → f r ≡ found u q →
    take_turns f b m (level_after l) (join_parts (place_of k) t y u) q ≡ x → take_turns f b (suc m) l t (k ∷ s) ≡ x
unfolding take_turns
turns_join f b m l t y u k s r q x e i h j = rw (e, i, h) j

-- a word or a sign is told by its code
fixed : List Terminal
fixed = word Program ∷ word End ∷ word Table ∷ word If ∷ word Then ∷ word Else ∷ word While ∷ word Do ∷ word Read ∷ word Write ∷ word Join ∷ word Not ∷ word Project ∷ word Select ∷ word Exists ∷ word All ∷ word Update ∷ word Extend ∷ word Rename ∷ sign LeftParenthesis ∷ sign RightParenthesis ∷ sign LeftBracket ∷ sign RightBracket ∷ sign LeftBrace ∷ sign RightBrace ∷ sign Semicolon ∷ sign Comma ∷ sign Assign ∷ []

decode : (k : Terminal) → code_in k < 28 → get_or fixed (code_in k) (word End) ≡ k
unfolding fixed
decode (word Program) h = refl
decode (word End) h = refl
decode (word Table) h = refl
decode (word If) h = refl
decode (word Then) h = refl
decode (word Else) h = refl
decode (word While) h = refl
decode (word Do) h = refl
decode (word Read) h = refl
decode (word Write) h = refl
decode (word Join) h = refl
decode (word Not) h = refl
decode (word Project) h = refl
decode (word Select) h = refl
decode (word Exists) h = refl
decode (word All) h = refl
decode (word Update) h = refl
decode (word Extend) h = refl
decode (word Rename) h = refl
decode (sign LeftParenthesis) h = refl
decode (sign RightParenthesis) h = refl
decode (sign LeftBracket) h = refl
decode (sign RightBracket) h = refl
decode (sign LeftBrace) h = refl
decode (sign RightBrace) h = refl
decode (sign Semicolon) h = refl
decode (sign Comma) h = refl
decode (sign Assign) h = refl
decode (domain d) h = absurd (let z : ⊥ = omega arith in z)
decode (logic o) h = absurd (let z : ⊥ = omega arith in z)
decode (comparison o) h = absurd (let z : ⊥ = omega arith in z)
decode (sum o) h = absurd (let z : ⊥ = omega arith in z)
decode (product o) h = absurd (let z : ⊥ = omega arith in z)
decode (truth b) h = absurd (let z : ⊥ = omega arith in z)
decode (integer x) h = absurd (let z : ⊥ = omega arith in z)
decode (string x) h = absurd (let z : ⊥ = omega arith in z)
decode (name x) h = absurd (let z : ⊥ = omega arith in z)
decode (broken c) h = absurd (let z : ⊥ = omega arith in z)

pub is_eq : (w k : Token) → code_of w < 28 → same_as w k ≡ true → terminal_of w ≡ terminal_of k
is_eq w k h e =
    let c : code_of w ≡ code_of k = grind arith in
    sym (decode (terminal_of w) h) ∙ ap (λ i. get_or fixed i (word End)) c ∙ decode (terminal_of k) (omega arith)

not_end : (k : Token) → same_as else_token k ≡ true → same_as end_token k ≡ false
not_end k e = grind arith

-- a token that starts a factor is no bracket, nor is a name; one that is a type is no parenthesis
start_lbr : (k : Token) → same_as left_bracket k ≡ true → factor_start k ≡ no_factor
start_lbr k e = ap (λ i. factor_start_in i (place_of k)) (sym (is_eq left_bracket k (omega arith) e))

id_lbr : (k : Token) → same_as left_bracket k ≡ true → name_of k ≡ none
id_lbr k e = ap (λ i. name_in i (place_of k)) (sym (is_eq left_bracket k (omega arith) e))

type_lpar : (k : Token) → same_as left_parenthesis k ≡ true → type_of k ≡ none
type_lpar k e = ap (λ i. type_in i (place_of k)) (sym (is_eq left_parenthesis k (omega arith) e))

sure : (b : Bool) → ¬ (b ≡ true) → b ≡ false
sure true h = absurd (h refl)
sure false h = refl

starts_not : (k : Token) (x : FactorStart) → factor_start k ≡ x → ¬ (x ≡ no_factor) → same_as left_bracket k ≡ false
starts_not k x e h = sure (same_as left_bracket k) (λ i. h (sym e ∙ start_lbr k i))

id_not : (k : Token) (t : Part) → name_of k ≡ some t → same_as left_bracket k ≡ false
id_not k t e = sure (same_as left_bracket k) (λ i. let j = id_lbr k i in let y : ◌≡◌ {A = ℕ} 0 1 = cc in omega arith)

type_not : (k : Token) (t : Part) → type_of k ≡ some t → same_as left_parenthesis k ≡ false
type_not k t e = sure (same_as left_parenthesis k) (λ i. let j = type_lpar k i in let y : ◌≡◌ {A = ℕ} 0 1 = cc in omega arith)

module _ (leave : Leave) where
  pub shrinks : {S : TableSymbol} {n : ℕ} {s r : List Token} {t : Part} → Reads leave S n s r t → length r ≤ length s
  shrinks (eats a) = omega arith
  shrinks (atoms a) = omega arith
  shrinks (first a b) = let a' = shrinks a in let b' = shrinks b in omega arith
  shrinks done = omega arith
  shrinks (next a b c) = let b' = shrinks b in let c' = shrinks c in omega arith
  shrinks (joins a b c d) = let b' = shrinks b in let c' = shrinks c in let d' = shrinks d in omega arith
  shrinks (brackets a b c d) = let a' = shrinks a in let c' = shrinks c in let d' = shrinks d in omega arith
  shrinks no_arg = omega arith
  shrinks (arg_ids a b c) = let a' = shrinks a in let b' = shrinks b in let c' = shrinks c in omega arith
  shrinks (arg_expr a b c) = let a' = shrinks a in let b' = shrinks b in let c' = shrinks c in omega arith
  shrinks (arg_upd a b c d e) = let a' = shrinks a in let b' = shrinks b in let c' = shrinks c in let d' = shrinks d in let e' = shrinks e in omega arith
  shrinks (arg_ext a b c d e f) = let a' = shrinks a in let b' = shrinks b in let c' = shrinks c in let d' = shrinks d in let e' = shrinks e in let f' = shrinks f in omega arith
  shrinks (leafs a) = omega arith
  shrinks (unaries a b c d) = let c' = shrinks c in let d' = shrinks d in omega arith
  shrinks (parens a b c d) = let c' = shrinks c in let d' = shrinks d in omega arith
  shrinks (braces a b c) = let b' = shrinks b in let c' = shrinks c in omega arith
  shrinks (inst_tuples a) = let a' = shrinks a in omega arith
  shrinks (inst_types a) = let a' = shrinks a in omega arith
  shrinks (tuples a b c) = let a' = shrinks a in let b' = shrinks b in let c' = shrinks c in omega arith
  shrinks (attrs a b) = let a' = shrinks a in let b' = shrinks b in omega arith
  shrinks (assigns a b c) = let b' = shrinks b in let c' = shrinks c in omega arith
  shrinks (defines a b) = let b' = shrinks b in omega arith
  shrinks (tables a b c d e) = let b' = shrinks b in let c' = shrinks c in let d' = shrinks d in let e' = shrinks e in omega arith
  shrinks (read1 a b) = let b' = shrinks b in omega arith
  shrinks (read2 a b c) = let b' = shrinks b in let c' = shrinks c in omega arith
  shrinks (write1 a b) = let b' = shrinks b in omega arith
  shrinks (write2 a b c) = let b' = shrinks b in let c' = shrinks c in omega arith
  shrinks (whilst a b c d e f) = let b' = shrinks b in let c' = shrinks c in let e' = shrinks e in let f' = shrinks f in omega arith
  shrinks (conds a b c d e f) = let b' = shrinks b in let c' = shrinks c in let e' = shrinks e in let f' = shrinks f in omega arith
  shrinks (ends a) = let a' = shrinks a in omega arith
  shrinks (other a b c) = let a' = shrinks a in let b' = shrinks b in let c' = shrinks c in omega arith
  shrinks (whole a b c) = let a' = shrinks a in let b' = shrinks b in let c' = shrinks c in omega arith

  -- where the rest of a level begins, its item stops
  more_stops : {l : Level} {t : Part} {n : ℕ} {s r : List Token} {u : Part} → Reads leave (more l t) n s r u → Stop (rank l) r → Stop (suc (rank l)) s
  more_stops {l} {s} done h = looser (rank l) s h
  more_stops {l} (next {k} {o} e a b) h = some_op l (between_of k) o e
  more_stops {l} (joins {k} e a b c) h = join_op l (between_of k) e

  abbrev Item : ℕ → Level → Reader
  Item n l = read_item (factors_at leave n) (brackets_at leave n) (statements_at leave n) l

  -- the parser's answer for each nonterminal
  abbrev pub Parses : TableSymbol → ℕ → List Token → Part → List Token → Type 0
  Parses (level l) n s t r = read_level (Item n l) (brackets_at leave n) l s ≡ found t r
  Parses (more l u) n s t r = (m : ℕ) → length s ≤ m → take_turns (Item n l) (brackets_at leave n) m l u s ≡ found t r
  Parses factor n s t r = factors_at leave n s ≡ found t r
  Parses bracket n s t r = brackets_at leave n s ≡ found t r
  Parses inst n s t r = read_instance (brackets_at leave n) s ≡ found t r
  Parses tuple_n n s t r = read_tuple (brackets_at leave n) s ≡ found t r
  Parses attr n s t r = read_attribute s ≡ found t r
  Parses stat n s t r = statements_at leave n s ≡ found t r
  Parses prog n s t r = program_at leave n s ≡ found t r
  Parses (arg a) n s t r = read_argument (expressions_at leave n) (brackets_at leave n) a s ≡ found t r
  Parses (atom f) n s t r = read_leaf f s ≡ found t r
  Parses (elses u v) n s t r = read_else (brackets_at leave n) (statements_at leave n) u v s ≡ found t r
  Parses (tok w) n s t r = expect_token w s ≡ found t r

  item_parses : (l : Level) (n : ℕ) (s : List Token) (t : Part) (r : List Token) → Parses (item_of l) n s t r → Item n l s ≡ found t r
  unfolding read_item
  item_parses statement_level n s t r h = h
  item_parses name_level n s t r h = h
  item_parses type_level n s t r h = h
  item_parses constant_level n s t r h = h
  item_parses attribute_level n s t r h = h
  item_parses tuple_level n s t r h = h
  item_parses logic_level n s t r h = h
  item_parses comparison_level n s t r h = h
  item_parses sum_level n s t r h = h
  item_parses product_level n s t r h = h
  item_parses compared_level n s t r h = h

  abbrev Plain : Token → Type 0
  Plain w = (code_of w < 28) × ((p : Place) → between_in (terminal_of w) p ≡ no_operator)

  tok_stops : {w : Token} {n : ℕ} {s r : List Token} {t : Part} → Plain w → (c : ℕ) → Reads leave (tok w) n s r t → Stop c s
  unfolding orank
  tok_stops {w} p c (eats {k} e) = let q = is_eq w k p.0 e in subst (λ i. orank (between_in i (place_of k)) ≤ c) q (rw (p.1 (place_of k)) (omega arith))

  elses_stop : {t u v : Part} {n : ℕ} {s r : List Token} → (c : ℕ) → Reads leave (elses t u) n s r v → Stop c s
  elses_stop c (ends a) = tok_stops (omega arith, λ p. refl) c a
  elses_stop c (other a b d) = tok_stops (omega arith, λ p. refl) c a

  -- the first token of an expression is no bracket
  abbrev First : TableSymbol → List Token → Type 0
  First (level logic_level) s = begins_with left_bracket s ≡ false
  First (level comparison_level) s = begins_with left_bracket s ≡ false
  First (level sum_level) s = begins_with left_bracket s ≡ false
  First (level product_level) s = begins_with left_bracket s ≡ false
  First (level statement_level) s = Unit {0}
  First (level name_level) s = Unit {0}
  First (level type_level) s = Unit {0}
  First (level constant_level) s = Unit {0}
  First (level attribute_level) s = Unit {0}
  First (level tuple_level) s = Unit {0}
  First (level compared_level) s = Unit {0}
  First factor s = begins_with left_bracket s ≡ false
  First (more l u) s = Unit {0}
  First inst s = Unit {0}
  First stat s = Unit {0}
  First bracket s = Unit {0}
  First tuple_n s = Unit {0}
  First attr s = Unit {0}
  First prog s = Unit {0}
  First (arg a) s = Unit {0}
  First (atom f) s = Unit {0}
  First (elses t u) s = Unit {0}
  First (tok w) s = Unit {0}

  first_level : (l : Level) (s : List Token) → First (item_of l) s → First (level l) s
  first_level statement_level s h = tt
  first_level name_level s h = tt
  first_level type_level s h = tt
  first_level constant_level s h = tt
  first_level attribute_level s h = tt
  first_level tuple_level s h = tt
  first_level logic_level s h = h
  first_level comparison_level s h = h
  first_level sum_level s h = h
  first_level product_level s h = h
  first_level compared_level s h = tt

  firsts : {S : TableSymbol} {n : ℕ} {s r : List Token} {t : Part} → Reads leave S n s r t → First S s
  firsts (eats a) = tt
  firsts (atoms a) = tt
  firsts (first {l} {n} {s} a b) = first_level l s (firsts a)
  firsts done = tt
  firsts (next a b c) = tt
  firsts (joins a b c d) = tt
  firsts (brackets a b c d) = tt
  firsts no_arg = tt
  firsts (arg_ids a b c) = tt
  firsts (arg_expr a b c) = tt
  firsts (arg_upd a b c d e) = tt
  firsts (arg_ext a b c d e f) = tt
  firsts (leafs {n} {s} {k} a) = starts_not k _ a (λ i. let y : ◌≡◌ {A = ℕ} 0 1 = cc in omega arith)
  firsts (unaries {n} {s} {k} a b c d) = starts_not k _ a (λ i. let y : ◌≡◌ {A = ℕ} 0 1 = cc in omega arith)
  firsts (parens {n} {s} {k} a b c d) = starts_not k _ a (λ i. let y : ◌≡◌ {A = ℕ} 0 1 = cc in omega arith)
  firsts (braces {n} {s} {k} a b c) = starts_not k _ a (λ i. let y : ◌≡◌ {A = ℕ} 0 1 = cc in omega arith)
  firsts (inst_tuples a) = tt
  firsts (inst_types a) = tt
  firsts (tuples a b c) = tt
  firsts (attrs a b) = tt
  firsts (assigns a b c) = tt
  firsts (defines a b) = tt
  firsts (tables a b c d e) = tt
  firsts (read1 a b) = tt
  firsts (read2 a b c) = tt
  firsts (write1 a b) = tt
  firsts (write2 a b c) = tt
  firsts (whilst a b c d e f) = tt
  firsts (conds a b c d e f) = tt
  firsts (ends a) = tt
  firsts (other a b c) = tt
  firsts (whole a b c) = tt

  id_first : {n : ℕ} {s r : List Token} {t : Part} → Reads leave (atom name_leaf) n s r t → begins_with left_bracket s ≡ false
  id_first (atoms {k} {t} e) = id_not k t e

  bra_first : {n : ℕ} {s r : List Token} {t : Part} → Reads leave bracket n s r t → begins_with left_bracket s ≡ true
  bra_first (brackets (eats e) m a b) = e

  tuples_first : {n : ℕ} {s r : List Token} {t : Part} → Reads leave (level tuple_level) n s r t → begins_with left_parenthesis s ≡ true
  tuples_first (first (tuples (eats e) a b) c) = e

  types_first : {n : ℕ} {s r : List Token} {t : Part} → Reads leave (level type_level) n s r t → begins_with left_parenthesis s ≡ false
  types_first (first (atoms {k} {t} e) c) = type_not k t e

  -- the same parser under its two names
  expr_eq : (n : ℕ) (s r : List Token) (t : Part) → Parses (level logic_level) n s t r → expressions_at leave n s ≡ found t r
  unfolding expressions_at read_expression read_item
  expr_eq n s r t h = h

  semi_eq : (n : ℕ) (s r : List Token) (t : Part) → Parses (level statement_level) n s t r → read_level (statements_at leave n) (brackets_at leave n) statement_level s ≡ found t r
  unfolding read_item
  semi_eq n s r t h = h

  ids_eq : (n : ℕ) (s r : List Token) (t : Part) → Parses (level name_level) n s t r → read_level (read_leaf name_leaf) (brackets_at leave n) name_level s ≡ found t r
  unfolding read_item
  ids_eq n s r t h = h

  types_eq : (n : ℕ) (s r : List Token) (t : Part) → Parses (level type_level) n s t r → read_level (read_leaf type_leaf) (brackets_at leave n) type_level s ≡ found t r
  unfolding read_item
  types_eq n s r t h = h

  consts_eq : (n : ℕ) (s r : List Token) (t : Part) → Parses (level constant_level) n s t r → read_level (read_leaf constant_leaf) (brackets_at leave n) constant_level s ≡ found t r
  unfolding read_item
  consts_eq n s r t h = h

  attrs_eq : (n : ℕ) (s r : List Token) (t : Part) → Parses (level attribute_level) n s t r → read_level read_attribute (brackets_at leave n) attribute_level s ≡ found t r
  unfolding read_item
  attrs_eq n s r t h = h

  tuples_eq : (n : ℕ) (s r : List Token) (t : Part) → Parses (level tuple_level) n s t r → read_level (read_tuple (brackets_at leave n)) (brackets_at leave n) tuple_level s ≡ found t r
  unfolding read_item
  tuples_eq n s r t h = h

  expect_eq : (w k : Token) (s : List Token) → same_as w k ≡ true → expect_token w (k ∷ s) ≡ found (place_part (place_of k)) s
  unfolding expect_token
  expect_eq w k s e = rw e

  atom_eq : (f : Leaf) (k : Token) (s : List Token) (t : Part) → leaf_of f k ≡ some t → read_leaf f (k ∷ s) ≡ found t s
  unfolding read_leaf
  atom_eq f k s t e = rw e

  chain_eq : (f b : Reader) (l : Level) (s r q : List Token) (t u : Part) → f s ≡ found t r → take_turns f b (length r) l t r ≡ found u q → read_level f b l s ≡ found u q
  unfolding read_level
  chain_eq f b l s r q t u e h = rw e h

  leaf_eq : (n : ℕ) (k : Token) (s : List Token) (t : Part) → factor_start k ≡ leaf t → factors_at leave n (k ∷ s) ≡ found t s
  unfolding factors_at
  leaf_eq n k s t e = rw e

  brace_eq : (n : ℕ) (k : Token) (s r q : List Token) (t : Part) {z : Part} → factor_start k ≡ brace → read_instance (brackets_at leave n) s ≡ found t r → expect_token right_brace r ≡ found z q → factors_at leave n (k ∷ s) ≡ found (table_constant (place_of k) t) q
  unfolding factors_at brackets_at
  brace_eq n k s r q t e a b = rw (e, a, b)

  unary_eq : (n : ℕ) (k : Token) (s r q : List Token) (o : Unary) (x t : Part) → factor_start k ≡ unary o → leave n (k ∷ s) ≡ true → read_argument (expressions_at leave n) (brackets_at leave n) (argument_of o) s ≡ found x r → factors_at leave n r ≡ found t q →
      factors_at leave (suc n) (k ∷ s) ≡ found (apply o (place_of k) x t) q
  unfolding factors_at brackets_at openings expressions_at
  unary_eq n k s r q o x t e m a b = rw (e, m, a, b)

  paren_eq : (n : ℕ) (k : Token) (s r q : List Token) (t : Part) {z : Part} → factor_start k ≡ parenthesis → leave n (k ∷ s) ≡ true → expressions_at leave n s ≡ found t r → expect_token right_parenthesis r ≡ found z q → factors_at leave (suc n) (k ∷ s) ≡ found t q
  unfolding factors_at brackets_at openings expressions_at
  paren_eq n k s r q t e m a b = rw (e, m, a, b)

  bracket_eq : (n : ℕ) (s r q p : List Token) (t : Part) {z y : Part} → expect_token left_bracket s ≡ found z r → leave n s ≡ true → expressions_at leave n r ≡ found t q → expect_token right_bracket q ≡ found y p → brackets_at leave (suc n) s ≡ found t p
  unfolding factors_at brackets_at read_bracket openings expressions_at
  bracket_eq n s r q p t a m b c = rw (a, m, b, c)

  plain_eq : (n : ℕ) (k : Token) (s : List Token) (x : Outcome) → ((d : StatementOpening) → read_statement_if (expressions_at leave n) (brackets_at leave n) d (statement_start k) k s ≡ x) → statements_at leave n (k ∷ s) ≡ x
  unfolding statements_at
  plain_eq zero k s x h = h (λ _. none)
  plain_eq (suc n) k s x h = h _

  assign_eq : (n : ℕ) (k : Token) (s r q : List Token) (x : Name) (t : Part) {z : Part} → statement_start k ≡ assigning x → expect_token assign_token s ≡ found z r → expressions_at leave n r ≡ found t q → statements_at leave n (k ∷ s) ≡ found (assignment x t) q
  assign_eq n k s r q x t e a b = plain_eq n k s _ (λ d. rw (e, a, b))

  define_eq : (n : ℕ) (k : Token) (s r : List Token) (y : AtomicType) (t : Part) → statement_start k ≡ defining y → read_level (read_leaf name_leaf) (brackets_at leave n) name_level s ≡ found t r → statements_at leave n (k ∷ s) ≡ found (definition (of_domain y) t) r
  define_eq n k s r y t e a = plain_eq n k s _ (λ d. rw (e, a))

  table_eq : (n : ℕ) (k : Token) (s r q p o : List Token) (t u : Part) {z y : Part} → statement_start k ≡ defining_table → expect_token left_parenthesis s ≡ found z r → read_level read_attribute (brackets_at leave n) attribute_level r ≡ found t q → expect_token right_parenthesis q ≡ found y p →
      read_level (read_leaf name_leaf) (brackets_at leave n) name_level p ≡ found u o → statements_at leave n (k ∷ s) ≡ found (definition (of_table t.attributes (place_of k)) u) o
  table_eq n k s r q p o t u e a b c d = plain_eq n k s _ (λ i. rw (e, a, b, c, d))

  read1_eq : (n : ℕ) (k : Token) (s r : List Token) (t : Part) → statement_start k ≡ reading → begins_with left_bracket s ≡ false → read_leaf name_leaf s ≡ found t r → statements_at leave n (k ∷ s) ≡ found (input_statement (place_of k) none t) r
  read1_eq n k s r t e f a = plain_eq n k s _ (λ d. rw (e, f, a))

  read2_eq : (n : ℕ) (k : Token) (s r q : List Token) (x t : Part) → statement_start k ≡ reading → begins_with left_bracket s ≡ true → brackets_at leave n s ≡ found x r → read_leaf name_leaf r ≡ found t q → statements_at leave n (k ∷ s) ≡ found (input_statement (place_of k) (some x) t) q
  read2_eq n k s r q x t e f a b = plain_eq n k s _ (λ d. rw (e, f, a, b))

  write1_eq : (n : ℕ) (k : Token) (s r : List Token) (t : Part) → statement_start k ≡ writing → begins_with left_bracket s ≡ false → expressions_at leave n s ≡ found t r → statements_at leave n (k ∷ s) ≡ found (output_statement (place_of k) none t) r
  write1_eq n k s r t e f a = plain_eq n k s _ (λ d. rw (e, f, a))

  write2_eq : (n : ℕ) (k : Token) (s r q : List Token) (x t : Part) → statement_start k ≡ writing → begins_with left_bracket s ≡ true → brackets_at leave n s ≡ found x r → expressions_at leave n r ≡ found t q → statements_at leave n (k ∷ s) ≡ found (output_statement (place_of k) (some x) t) q
  write2_eq n k s r q x t e f a b = plain_eq n k s _ (λ d. rw (e, f, a, b))

  pub complete : {S : TableSymbol} {n : ℕ} {s r : List Token} {t : Part} → Reads leave S n s r t → Stops S r → Parses S n s t r
  unfolding statements_at program_at read_else read_instance read_tuple read_attribute read_argument
  complete (eats {w} {k} {n} {s} e) h = expect_eq w k s e
  complete (atoms {f} {k} {n} {s} {t} e) h = atom_eq f k s t e
  complete (first {l} {n} {s} {r} {q} {t} {u} a b) h =
      chain_eq (Item n l) (brackets_at leave n) l s r q t u (item_parses l n s t r (complete a (item_stops l r (more_stops b h)))) (complete b h (length r) (le_refl _))
  complete (done {l} {n} {s} {t}) h = λ m le. turns_stop _ _ m l t s h
  complete (next {l} {n} {s} {r} {q} {t} {u} {v} {k} {o} e a b) h = go (complete a) (complete b) h
    where
      go : (Stops (item_of l) r → Parses (item_of l) n s u r) → (Stops (more (level_after l) (combine o (place_of k) t u)) q → Parses (more (level_after l) (combine o (place_of k) t u)) n r v q) → Stop (rank l) q → Parses (more l t) n (k ∷ s) v q
      go ia ib h zero le = absurd (let z : ⊥ = omega arith in z)
      go ia ib h (suc m) le =
          let h' : Stop (rank (level_after l)) q = rw (rank_again l) h in
          let st : Stop (suc (rank l)) r = rw (rank_again l) at (more_stops b h') in
          let sh = shrinks a in
          turns_next (Item n l) (brackets_at leave n) m l t u k s r o (found v q) e (item_parses l n s u r (ia (item_stops l r st)))
          (rw (items_again l (factors_at leave n) (brackets_at leave n) (statements_at leave n)) at (ib h' m (omega arith)))
  complete (joins {l} {n} {s} {r} {q} {p} {t} {x} {u} {v} {k} e c a b) h = go (complete c tt) (complete a) (complete b) h
    where
      go : Parses bracket n s x r → (Stops (item_of l) q → Parses (item_of l) n r u q) → (Stops (more (level_after l) (join_parts (place_of k) t x u)) p → Parses (more (level_after l) (join_parts (place_of k) t x u)) n q v p) → Stop (rank l) p → Parses (more l t) n (k ∷ s) v p
      go ic ia ib h zero le = absurd (let z : ⊥ = omega arith in z)
      go ic ia ib h (suc m) le =
          let h' : Stop (rank (level_after l)) p = rw (rank_again l) h in
          let st : Stop (suc (rank l)) q = rw (rank_again l) at (more_stops b h') in
          let sh = shrinks a in
          let sc = shrinks c in
          turns_join (Item n l) (brackets_at leave n) m l t x u k s r q (found v p) e ic (item_parses l n r u q (ia (item_stops l q st)))
          (rw (items_again l (factors_at leave n) (brackets_at leave n) (statements_at leave n)) at (ib h' m (omega arith)))
  complete (brackets {n} {s} {r} {q} {p} {t} a m b c) h = bracket_eq n s r q p t (complete a tt) m (expr_eq n r q t (complete b (tok_stops (omega arith, λ p. refl) 2 c))) (complete c tt)
  complete no_arg h = refl
  complete (arg_ids {n} {s} {r} {q} {p} {t} a b c) h = rw (complete a tt, ids_eq n r q t (complete b (tok_stops (omega arith, λ p. refl) 1 c)), complete c tt)
  complete (arg_expr {n} {s} {r} {q} {p} {t} a b c) h = rw (complete a tt, expr_eq n r q t (complete b (tok_stops (omega arith, λ p. refl) 2 c)), complete c tt)
  complete (arg_upd {n} {s} {r} {q} {p} {o} {i} {x} {t} a b c d e) h = rw (complete a tt, complete b tt, complete c tt, expr_eq n p o t (complete d (tok_stops (omega arith, λ p. refl) 2 e)), complete e tt)
  complete (arg_ext {n} {s} {r} {q} {p} {o} {i} {j} {y} {x} {t} a b c d e f) h =
      rw (complete a tt, complete b tt, complete c tt, complete d tt, expr_eq n o i t (complete e (tok_stops (omega arith, λ p. refl) 2 f)), complete f tt)
  complete (leafs {n} {s} {k} {t} e) h = leaf_eq n k s t e
  complete (unaries {n} {s} {r} {q} {k} {o} {x} {t} e m a b) h = unary_eq n k s r q o x t e m (complete a tt) (complete b tt)
  complete (parens {n} {s} {r} {q} {k} {t} e m a b) h = paren_eq n k s r q t e m (expr_eq n s r t (complete a (tok_stops (omega arith, λ p. refl) 2 b))) (complete b tt)
  complete (braces {n} {s} {r} {q} {k} {t} e a b) h = brace_eq n k s r q t e (complete a (tok_stops (omega arith, λ p. refl) 1 b)) (complete b tt)
  complete (inst_tuples {n} {s} {r} {t} a) h = rw (tuples_first a) (tuples_eq n s r t (complete a h))
  complete (inst_types {n} {s} {r} {t} a) h = rw (types_first a) (types_eq n s r t (complete a h))
  complete (tuples {n} {s} {r} {q} {p} {t} a b c) h = rw (complete a tt, consts_eq n r q t (complete b (tok_stops (omega arith, λ p. refl) 1 c)), complete c tt)
  complete (attrs a b) h = rw (complete a tt, complete b tt)
  complete (assigns {n} {s} {r} {q} {k} {x} {t} e a b) h = assign_eq n k s r q x t e (complete a tt) (expr_eq n r q t (complete b (looser 1 q h)))
  complete (defines {n} {s} {r} {k} {y} {t} e a) h = define_eq n k s r y t e (ids_eq n s r t (complete a h))
  complete (tables {n} {s} {r} {q} {p} {o} {k} {t} {u} e a b c d) h =
      table_eq n k s r q p o t u e (complete a tt) (attrs_eq n r q t (complete b (tok_stops (omega arith, λ p. refl) 1 c))) (complete c tt) (ids_eq n p o u (complete d h))
  complete (read1 {n} {s} {r} {k} {t} e a) h = read1_eq n k s r t e (id_first a) (complete a tt)
  complete (read2 {n} {s} {r} {q} {k} {x} {t} e a b) h = read2_eq n k s r q x t e (bra_first a) (complete a tt) (complete b tt)
  complete (write1 {n} {s} {r} {k} {t} e a) h = write1_eq n k s r t e (firsts a) (expr_eq n s r t (complete a (looser 1 r h)))
  complete (write2 {n} {s} {r} {q} {k} {x} {t} e a b) h = write2_eq n k s r q x t e (bra_first a) (complete a tt) (expr_eq n r q t (complete b (looser 1 q h)))
  complete (whilst {n} {s} {r} {q} {p} {o} {k} {t} {u} e a b m c d) h =
      rw (e, expr_eq (suc n) s r t (complete a (tok_stops (omega arith, λ p. refl) 2 b)), complete b tt, m, semi_eq n q p u (complete c (tok_stops (omega arith, λ p. refl) 0 d)), complete d tt)
  complete (conds {n} {s} {r} {q} {p} {o} {k} {t} {u} {v} e a b m c d) h =
      rw (e, expr_eq (suc n) s r t (complete a (tok_stops (omega arith, λ p. refl) 2 b)), complete b tt, m, semi_eq n q p u (complete c (elses_stop 0 d))) (complete d tt)
  complete (ends (eats e)) h = rw e
  complete (other {n} {s} {r} {q} {p} {t} {u} {v} (eats {k} e) b c) h = rw (not_end k e, e, semi_eq n _ q v (complete b (tok_stops (omega arith, λ p. refl) 0 c)), complete c tt)
  complete (whole {n} {s} {r} {q} {p} {t} a b c) h = rw (complete a tt, semi_eq n r q t (complete b (tok_stops (omega arith, λ p. refl) 0 c)), complete c tt)
