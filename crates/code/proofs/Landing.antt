-- Jumps land: the code of each scheme keeps to itself, and the code of a script is such code and HALT.
use Rattle.std.proofs.Common.{◌≡◌, ℕ, zero, suc, ◌+◌, ◌-◌, ◌≤◌, List, [], ◌∷◌, ◌++◌, map, length, pos, neg_ℤ, sym, subst, arith}
use mathlib.Core.Option.{Option, none, some}
use Rattle.std.proofs.lemmas.List.{length-append}
use Rattle.grammar.specs.Tree.{Constant, Constant.integer_constant, Constant.string_constant, Constant.truth_constant, Tuple, Tuple.tuple_of}
use Rattle.plan.specs.Plan as plan
use Rattle.plan.specs.Plan.{Term, Kept, type_of, Action, Actions, Actions.◌then◌, Body}
use Rattle.schema.specs.Columns.{Column}
use Rattle.schema.specs.Kinds.{ValueType, ValueType.atom, ValueType.table}
use Rattle.domain.specs.declared.Domain.TheVariants.{Integer, String, Boolean}
use Rattle.words.specs.Tokens.{Bytes, Place}
use Rattle.words.specs.declared.tokens.Comparison.{Comparison}
use Rattle.words.specs.declared.tokens.Comparison.TheVariants.{Equal, NotEqual, Greater, GreaterEqual, Less, LessEqual}
use Rattle.words.specs.declared.tokens.Logic.{Logic}
use Rattle.words.specs.declared.tokens.Logic.TheVariants.{And, Or}
use Rattle.words.specs.declared.tokens.Product.{Product}
use Rattle.words.specs.declared.tokens.Product.TheVariants.{Times, Divide}
use Rattle.words.specs.declared.tokens.Sum.{Sum}
use Rattle.words.specs.declared.tokens.Sum.TheVariants.{Plus, Minus}
use Rattle.code.specs.Generation.{Code, strings_of, comparing, summing, multiplying, connecting, bracket, keeping, new_variables, ending, loading, cell, cells, generated, reading, printing, looping, generated_action, generated_actions, generated_body, code_of}
use Rattle.code.specs.Instructions.{Operation, Instruction, Instruction.◌on◌}
use Rattle.code.specs.Instructions.{Operation.HALT, Operation.NEWATOM, Operation.NEWTAB, Operation.POP, Operation.LDINT, Operation.LDTAB, Operation.ENDTAB, Operation.LOB, Operation.STO, Operation.LAT, Operation.SKIP, Operation.SKIPF, Operation.UMI, Operation.NEG, Operation.JOIN, Operation.ENDJOIN, Operation.SEL, Operation.ENDSEL, Operation.EXS, Operation.ENDEXS, Operation.ALL, Operation.ENDALL, Operation.ENDUPD, Operation.ENDEXT, Operation.UPD, Operation.EXT, Operation.PROJ, Operation.ATTR, Operation.ENDPROJ, Operation.GET, Operation.FGET, Operation.PRINT, Operation.FPRINT}
use Rattle.code.specs.Laws.{Jumps, Lands, AllLand, JumpsLand}

-- code that keeps to itself: wherever it stands, it leads no further than right behind it
abbrev Keeps : Code → Type 0
Keeps c = (i last : ℕ) → i + length c ≤ last → AllLand i last c

-- one piece of code behind another
land_append : (i last : ℕ) (a b : Code) → AllLand i last a → AllLand (i + length a) last b → AllLand i last (a ++ b)
land_append i last [] b x y = let e : i + 0 ≡ i = omega arith in subst (λ k. AllLand k last b) e y
land_append i last ((o on p) ∷ a) b x y =
    let e : i + suc (length a) ≡ suc i + length a = omega arith in
    (x.0, land_append (suc i) last a b x.1 (subst (λ k. AllLand k last b) e y))

keeps_append : (a b : Code) → Keeps a → Keeps b → Keeps (a ++ b)
keeps_append a b x y i last h =
    let size = length-append a b in land_append i last a b (x i last (omega arith)) (y (i + length a) last (omega arith))

keeps_none : Keeps []
keeps_none i last h = tt

-- an instruction that leads nowhere else
keeps_plain : (o : Operation) (p : Place) → ((i last : ℕ) → Lands o i last) → Keeps ((o on p) ∷ [])
keeps_plain o p plain i last h = (plain i last, tt)

keeps_then : (o : Operation) (p : Place) (rest : Code) → ((i last : ℕ) → Lands o i last) → Keeps rest → Keeps ((o on p) ∷ rest)
keeps_then o p rest plain x i last h = (plain i last, x (suc i) last (omega arith))

-- operators without a jump
plain_comparing : (c : Comparison) (t : ValueType) (i last : ℕ) → Lands (comparing c t) i last
plain_comparing Equal t i last = tt
plain_comparing NotEqual t i last = tt
plain_comparing Greater (atom Integer) i last = tt
plain_comparing Greater (atom String) i last = tt
plain_comparing Greater (atom Boolean) i last = tt
plain_comparing Greater (table cs) i last = tt
plain_comparing GreaterEqual (atom Integer) i last = tt
plain_comparing GreaterEqual (atom String) i last = tt
plain_comparing GreaterEqual (atom Boolean) i last = tt
plain_comparing GreaterEqual (table cs) i last = tt
plain_comparing Less (atom Integer) i last = tt
plain_comparing Less (atom String) i last = tt
plain_comparing Less (atom Boolean) i last = tt
plain_comparing Less (table cs) i last = tt
plain_comparing LessEqual (atom Integer) i last = tt
plain_comparing LessEqual (atom String) i last = tt
plain_comparing LessEqual (atom Boolean) i last = tt
plain_comparing LessEqual (table cs) i last = tt

plain_summing : (o : Sum) (i last : ℕ) → Lands (summing o) i last
plain_summing Plus i last = tt
plain_summing Minus i last = tt

plain_multiplying : (o : Product) (i last : ℕ) → Lands (multiplying o) i last
plain_multiplying Times i last = tt
plain_multiplying Divide i last = tt

keeps_loading : (strings : List Bytes) (c : Constant) → Keeps (loading strings c ∷ [])
keeps_loading strings (integer_constant z p) i last h = (tt, tt)
keeps_loading strings (string_constant s p) i last h = (tt, tt)
keeps_loading strings (truth_constant b p) i last h = (tt, tt)

keeps_cell : (strings : List Bytes) (c : Constant) (rest : Code) → Keeps rest → Keeps (cell strings c ∷ rest)
keeps_cell strings (integer_constant z p) rest x i last h = (tt, x (suc i) last (omega arith))
keeps_cell strings (string_constant s p) rest x i last h = (tt, x (suc i) last (omega arith))
keeps_cell strings (truth_constant b p) rest x i last h = (tt, x (suc i) last (omega arith))

keeps_row : (strings : List Bytes) (cs : List Constant) → Keeps (map (cell strings) cs)
keeps_row strings [] = keeps_none
keeps_row strings (c ∷ cs) = keeps_cell strings c (map (cell strings) cs) (keeps_row strings cs)

keeps_cells : (strings : List Bytes) (ts : List Tuple) → Keeps (cells strings ts)
keeps_cells strings [] = keeps_none
keeps_cells strings (tuple_of cs p ∷ ts) = keeps_append (map (cell strings) cs) (cells strings ts) (keeps_row strings cs) (keeps_cells strings ts)

keeps_keeping : (ks : List Kept) → Keeps (keeping ks)
keeps_keeping [] = keeps_none
keeps_keeping (k ∷ ks) = keeps_then (ATTR k.column 1) k.place (keeping ks) (λ i last. tt) (keeps_keeping ks)

keeps_new : (t : ValueType) (places : List Place) → Keeps (new_variables t places)
keeps_new t [] = keeps_none
keeps_new (atom d) (p ∷ places) = keeps_then (NEWATOM 1) p (new_variables (atom d) places) (λ i last. tt) (keeps_new (atom d) places)
keeps_new (table cs) (p ∷ places) = keeps_then (NEWTAB (length cs)) p (new_variables (table cs) places) (λ i last. tt) (keeps_new (table cs) places)

keeps_ending : (k : ℕ) (p : Place) → Keeps (ending k p)
keeps_ending zero p = keeps_none
keeps_ending (suc k) p = keeps_plain (POP (suc k)) p (λ i last. tt)

-- code, then one instruction
keeps_last : (a : Code) (o : Operation) (p : Place) → ((i last : ℕ) → Lands o i last) → Keeps a → Keeps (a ++ ((o on p) ∷ []))
keeps_last a o p plain x = keeps_append a ((o on p) ∷ []) x (keeps_plain o p plain)

keeps_two : (a b : Code) (o : Operation) (p : Place) → ((i last : ℕ) → Lands o i last) → Keeps a → Keeps b → Keeps (a ++ (b ++ ((o on p) ∷ [])))
keeps_two a b o p plain x y = keeps_append a (b ++ ((o on p) ∷ [])) x (keeps_last b o p plain y)

-- `and` and `or`
keeps_connecting : (o : Logic) (p : Place) (a b : Code) → Keeps a → Keeps b → Keeps (connecting o p a b)
keeps_connecting And p a b x y i last h =
    let rest : Code = b ++ ((SKIP (pos 2) on p) ∷ (LDINT (pos 0) on p) ∷ []) in
    let size = length-append a ((SKIPF (pos (length b + 2)) on p) ∷ rest) in
    let inner = length-append b ((SKIP (pos 2) on p) ∷ (LDINT (pos 0) on p) ∷ []) in
    land_append i last a _ (x i last (omega arith))
    (omega arith, land_append (suc (i + length a)) last b _ (y (suc (i + length a)) last (omega arith)) (omega arith, (tt, tt)))
keeps_connecting Or p a b x y i last h =
    let size = length-append a ((SKIPF (pos 3) on p) ∷ (LDINT (pos 1) on p) ∷ (SKIP (pos (length b + 1)) on p) ∷ b) in
    land_append i last a _ (x i last (omega arith))
    (omega arith, (tt, (omega arith, y (suc (suc (suc (i + length a)))) last (omega arith))))

-- an operator with a bracket
keeps_bracket : (a c : Code) (first final : ℕ → Operation) (p : Place) →
    ((i last : ℕ) → i + (length c + 2) ≤ last → Lands (first (length c)) i last) → ((i last : ℕ) → length c ≤ i → Lands (final (length c)) i last) →
    Keeps a → Keeps c → Keeps (bracket a first c final p)
keeps_bracket a c first final p enters returns x y i last h =
    let rest : Code = c ++ ((final (length c) on p) ∷ []) in
    let size = length-append a ((first (length c) on p) ∷ rest) in
    let inner = length-append c ((final (length c) on p) ∷ []) in
    land_append i last a _ (x i last (omega arith)) (
      enters (i + length a) last (omega arith),
      land_append (suc (i + length a)) last c _ (y (suc (i + length a)) last (omega arith)) (returns (suc (i + length a) + length c) last (omega arith), tt),
    )

module _ (strings : List Bytes) where
  keeps_tuples : (cs : List Column) (ts : List Tuple) (p : Place) → Keeps (generated strings (plan.tuples cs ts p))
  unfolding generated
  keeps_tuples cs ts p =
      keeps_then (LDTAB (length cs) (length ts)) p (cells strings ts ++ ((ENDTAB on p) ∷ [])) (λ i last. tt) (keeps_last (cells strings ts) ENDTAB p (λ i last. tt) (keeps_cells strings ts))

  keeps_term : (t : Term) → Keeps (generated strings t)
  unfolding generated
  keeps_term (plan.constant c) = keeps_loading strings c
  keeps_term (plan.variable t i p) = keeps_plain (LOB i) p (λ i last. tt)
  keeps_term (plan.attribute d c k p) = keeps_plain (LAT c k 1) p (λ i last. tt)
  keeps_term (plan.tuples cs ts p) = keeps_tuples cs ts p
  keeps_term (plan.logical o p a b) = keeps_connecting o p _ _ (keeps_term a) (keeps_term b)
  keeps_term (plan.compared o t p a b) = keeps_two _ _ (comparing o t) p (plain_comparing o t) (keeps_term a) (keeps_term b)
  keeps_term (plan.summed o p a b) = keeps_two _ _ (summing o) p (plain_summing o) (keeps_term a) (keeps_term b)
  keeps_term (plan.multiplied o p a b) = keeps_two _ _ (multiplying o) p (plain_multiplying o) (keeps_term a) (keeps_term b)
  keeps_term (plan.negative p a) = keeps_last _ UMI p (λ i last. tt) (keeps_term a)
  keeps_term (plan.negated p a) = keeps_last _ NEG p (λ i last. tt) (keeps_term a)
  keeps_term (plan.joined cs p a c b) =
      keeps_bracket (generated strings a ++ generated strings b) (generated strings c) JOIN ENDJOIN p (λ i last h. h) (λ i last h. h) (keeps_append _ _ (keeps_term a) (keeps_term b)) (keeps_term c)
  keeps_term (plan.projected cs ks p a) =
      keeps_append _ _ (keeps_term a) (keeps_then (PROJ (length ks)) p (keeping ks ++ ((ENDPROJ on p) ∷ [])) (λ i last. tt) (keeps_last (keeping ks) ENDPROJ p (λ i last. tt) (keeps_keeping ks)))
  keeps_term (plan.renamed cs a) = keeps_term a
  keeps_term (plan.selected cs p c a) = keeps_bracket (generated strings a) (generated strings c) SEL ENDSEL p (λ i last h. h) (λ i last h. h) (keeps_term a) (keeps_term c)
  keeps_term (plan.existing cs p c a) = keeps_bracket (generated strings a) (generated strings c) EXS ENDEXS p (λ i last h. h) (λ i last h. h) (keeps_term a) (keeps_term c)
  keeps_term (plan.everywhere cs p c a) = keeps_bracket (generated strings a) (generated strings c) ALL ENDALL p (λ i last h. h) (λ i last h. h) (keeps_term a) (keeps_term c)
  keeps_term (plan.updated cs k d p x a) = keeps_bracket (generated strings a) (generated strings x) (UPD k 1) ENDUPD p (λ i last h. h) (λ i last h. h) (keeps_term a) (keeps_term x)
  keeps_term (plan.extended cs d p x a) = keeps_bracket (generated strings a) (generated strings x) (EXT 1) ENDEXT p (λ i last h. h) (λ i last h. h) (keeps_term a) (keeps_term x)

  keeps_reading : (s : Option Term) (i : ℕ) (t : ValueType) (p : Place) → Keeps (reading strings s i t p)
  keeps_reading none i t p = keeps_plain (GET i t) p (λ i last. tt)
  keeps_reading (some s) i t p = keeps_last _ (FGET i t) p (λ i last. tt) (keeps_term s)

  keeps_printing : (s : Option Term) (e : Term) (p : Place) → Keeps (printing strings s e p)
  keeps_printing none e p = keeps_last _ (PRINT (type_of e)) p (λ i last. tt) (keeps_term e)
  keeps_printing (some s) e p = keeps_two _ _ (FPRINT (type_of e)) p (λ i last. tt) (keeps_term e) (keeps_term s)

  -- a jump back by as many as there are before it
  back_lands : (n i last : ℕ) → suc n ≤ i → Jumps (neg_ℤ (pos (suc n))) i last
  back_lands n i last h = h

  keeps_looping : (test inner : Code) (p : Place) → Keeps test → Keeps inner → Keeps (looping strings test inner p)
  keeps_looping test inner p x y i last h =
      let n = length test + length inner in
      let back : length test + (length inner + 1) ≡ suc n = omega arith in
      let jump : Instruction = SKIP (neg_ℤ (pos (length test + (length inner + 1)))) on p in
      let size = length-append test ((SKIPF (pos (length inner + 2)) on p) ∷ (inner ++ (jump ∷ []))) in
      let within = length-append inner (jump ∷ []) in
      land_append i last test _ (x i last (omega arith)) (
        omega arith,
        land_append (suc (i + length test)) last inner _ (y (suc (i + length test)) last (omega arith))
            (subst (λ m. Jumps (neg_ℤ (pos m)) (suc (i + length test) + length inner) last) (sym back) (back_lands n (suc (i + length test) + length inner) last (omega arith)), tt),
      )

  keeps_if : (test c : Code) (p : Place) → Keeps test → Keeps c → Keeps (test ++ ((SKIPF (pos (length c + 1)) on p) ∷ c))
  keeps_if test c p x y i last h =
      let size = length-append test ((SKIPF (pos (length c + 1)) on p) ∷ c) in
      land_append i last test _ (x i last (omega arith)) (omega arith, y (suc (i + length test)) last (omega arith))

  keeps_else : (test c f : Code) (p : Place) → Keeps test → Keeps c → Keeps f →
      Keeps (test ++ ((SKIPF (pos (length c + 2)) on p) ∷ (c ++ ((SKIP (pos (length f + 1)) on p) ∷ f))))
  keeps_else test c f p x y z i last h =
      let size = length-append test ((SKIPF (pos (length c + 2)) on p) ∷ (c ++ ((SKIP (pos (length f + 1)) on p) ∷ f))) in
      let inner = length-append c ((SKIP (pos (length f + 1)) on p) ∷ f) in
      land_append i last test _ (x i last (omega arith)) (
        omega arith,
        land_append (suc (i + length test)) last c _ (y (suc (i + length test)) last (omega arith))
            (omega arith, z (suc (suc (i + length test) + length c)) last (omega arith)),
      )

  mutual
    unfolding generated_action

    keeps_action : (a : Action) → Keeps (generated_action strings a)
    keeps_action (plan.define t places) = keeps_new t places
    keeps_action (plan.assign t i p e) = keeps_last _ (STO i) p (λ i last. tt) (keeps_term e)
    keeps_action (plan.if_then p e b) = keeps_if _ _ p (keeps_term e) (keeps_body b)
    keeps_action (plan.if_then_else p e b c) = keeps_else _ _ _ p (keeps_term e) (keeps_body b) (keeps_body c)
    keeps_action (plan.while_do p e b) = keeps_looping _ _ p (keeps_term e) (keeps_body b)
    keeps_action (plan.read_into s t i p) = keeps_reading s i t p
    keeps_action (plan.write_out p s e) = keeps_printing s e p

    pub keeps_actions : (rest : Actions) → Keeps (generated_actions strings rest)
    keeps_actions plan.nothing = keeps_none
    keeps_actions (a then rest) = keeps_append _ _ (keeps_action a) (keeps_actions rest)

    keeps_body : (b : Body) → Keeps (generated_body strings b)
    keeps_body (plan.body actions k p) = keeps_append _ _ (keeps_actions actions) (keeps_ending k p)

pub jumps_land : JumpsLand
unfolding code_of
jumps_land (plan.body actions k p) =
    let c = generated_actions (strings_of (plan.body actions k p)) actions in
    let size = length-append c ((HALT on p) ∷ []) in
    let end : length (c ++ ((HALT on p) ∷ [])) - 1 ≡ length c = omega arith in
    subst (λ last. AllLand 0 last (c ++ ((HALT on p) ∷ []))) (sym end)
    (land_append 0 (length c) c ((HALT on p) ∷ []) (keeps_actions (strings_of (plan.body actions k p)) actions 0 (length c) (omega arith)) (tt, tt))
