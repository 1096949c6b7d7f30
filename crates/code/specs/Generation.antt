-- The code of a plan, scheme by scheme. `strings` are the script's strings by number, the empty one first.
use Rattle.std.specs.Prelude.{ℕ, zero, suc, ◌+◌, Bool, true, false, cond, List, [], ◌∷◌, ◌++◌, map, length, ℤ, pos, neg_ℤ}
use Rattle.std.proofs.Math.Option.{Option, none, some}
use Rattle.std.specs.Str.{bytes_eq}
use Rattle.domain.specs.declared.Domain.TheVariants.{Integer, String, Boolean}
use Rattle.grammar.specs.Tree.{Constant, Constant.integer_constant, Constant.string_constant, Constant.truth_constant, Tuple, Tuple.tuple_of}
use Rattle.plan.specs.Plan as plan
use Rattle.plan.specs.Plan.{Term, Kept, type_of, Action, Actions, Actions.◌then◌, Body}
use Rattle.schema.specs.Kinds.{ValueType, ValueType.atom, ValueType.table}
use Rattle.words.specs.Tokens.{Bytes, Place}
use Rattle.words.specs.declared.tokens.Comparison.{Comparison}
use Rattle.words.specs.declared.tokens.Comparison.TheVariants.{Equal, NotEqual, Greater, GreaterEqual, Less, LessEqual}
use Rattle.words.specs.declared.tokens.Logic.{Logic}
use Rattle.words.specs.declared.tokens.Logic.TheVariants.{And, Or}
use Rattle.words.specs.declared.tokens.Product.{Product}
use Rattle.words.specs.declared.tokens.Product.TheVariants.{Times, Divide}
use Rattle.words.specs.declared.tokens.Sum.{Sum}
use Rattle.words.specs.declared.tokens.Sum.TheVariants.{Plus, Minus}
use Rattle.code.specs.Instructions.{Operation, Instruction, Instruction.◌on◌}
use Rattle.code.specs.Instructions.{Operation.HALT, Operation.NEWATOM, Operation.NEWTAB, Operation.POP, Operation.LDINT, Operation.LDSTR, Operation.LDTAB, Operation.IATTR, Operation.SATTR, Operation.ENDTAB, Operation.LOB, Operation.STO, Operation.LAT, Operation.SKIP, Operation.SKIPF}
use Rattle.code.specs.Instructions.{Operation.EQU, Operation.NEQ, Operation.IGT, Operation.IGE, Operation.ILT, Operation.ILE, Operation.SGT, Operation.SGE, Operation.SLT, Operation.SLE, Operation.PLUS, Operation.MINUS, Operation.TIMES, Operation.DIV, Operation.UMI, Operation.NEG}
use Rattle.code.specs.Instructions.{Operation.JOIN, Operation.ENDJOIN, Operation.SEL, Operation.ENDSEL, Operation.EXS, Operation.ENDEXS, Operation.ALL, Operation.ENDALL, Operation.ENDUPD, Operation.ENDEXT, Operation.UPD, Operation.EXT, Operation.PROJ, Operation.ATTR, Operation.ENDPROJ, Operation.GET, Operation.FGET, Operation.PRINT, Operation.FPRINT}

abbrev pub Code : Type 0
Code = List Instruction

-- Strings: each different one once, by first appearance in the text, which is the plan's order, parent first. The empty one is number 0.

abbrev pub is_among : List Bytes → Bytes → Bool
is_among [] s = false
is_among (t ∷ known) s = cond (bytes_eq t s) true (is_among known s)

abbrev pub noted : List Bytes → Bytes → List Bytes
noted known s = cond (is_among known s) known (known ++ (s ∷ []))

-- the number of a string among those that are known
abbrev pub number_in : List Bytes → Bytes → ℕ
number_in [] s = 0
number_in (t ∷ known) s = cond (bytes_eq t s) 0 (suc (number_in known s))

abbrev pub noted_constant : List Bytes → Constant → List Bytes
noted_constant known (integer_constant z p) = known
noted_constant known (string_constant s p) = noted known s
noted_constant known (truth_constant b p) = known

abbrev pub noted_constants : List Bytes → List Constant → List Bytes
noted_constants known [] = known
noted_constants known (c ∷ cs) = noted_constants (noted_constant known c) cs

abbrev pub noted_tuples : List Bytes → List Tuple → List Bytes
noted_tuples known [] = known
noted_tuples known (tuple_of cs p ∷ ts) = noted_tuples (noted_constants known cs) ts

unfoldable pub noted_term : List Bytes → Term → List Bytes
noted_term known (plan.constant c) = noted_constant known c
noted_term known (plan.variable t i p) = known
noted_term known (plan.attribute d c k p) = known
noted_term known (plan.tuples cs ts p) = noted_tuples known ts
noted_term known (plan.logical o p a b) = noted_term (noted_term known a) b
noted_term known (plan.compared o t p a b) = noted_term (noted_term known a) b
noted_term known (plan.summed o p a b) = noted_term (noted_term known a) b
noted_term known (plan.multiplied o p a b) = noted_term (noted_term known a) b
noted_term known (plan.negative p a) = noted_term known a
noted_term known (plan.negated p a) = noted_term known a
noted_term known (plan.joined cs p a c b) = noted_term (noted_term (noted_term known a) c) b
noted_term known (plan.projected cs ks p a) = noted_term known a
noted_term known (plan.renamed cs a) = noted_term known a
noted_term known (plan.selected cs p c a) = noted_term (noted_term known c) a
noted_term known (plan.existing cs p c a) = noted_term (noted_term known c) a
noted_term known (plan.everywhere cs p c a) = noted_term (noted_term known c) a
noted_term known (plan.updated cs k d p x a) = noted_term (noted_term known x) a
noted_term known (plan.extended cs d p x a) = noted_term (noted_term known x) a

abbrev pub noted_name : List Bytes → Option Term → List Bytes
noted_name known none = known
noted_name known (some t) = noted_term known t

unfoldable mutual
  pub noted_action : List Bytes → Action → List Bytes
  noted_action known (plan.define t places) = known
  noted_action known (plan.assign t i p e) = noted_term known e
  noted_action known (plan.if_then p e b) = noted_body (noted_term known e) b
  noted_action known (plan.if_then_else p e b c) = noted_body (noted_body (noted_term known e) b) c
  noted_action known (plan.while_do p e b) = noted_body (noted_term known e) b
  noted_action known (plan.read_into s t i p) = noted_name known s
  noted_action known (plan.write_out p s e) = noted_term (noted_name known s) e

  pub noted_actions : List Bytes → Actions → List Bytes
  noted_actions known plan.nothing = known
  noted_actions known (a then rest) = noted_actions (noted_action known a) rest

  pub noted_body : List Bytes → Body → List Bytes
  noted_body known (plan.body actions k p) = noted_actions known actions

-- the strings of a script by number
abbrev pub strings_of : Body → List Bytes
strings_of script = noted_body ([] ∷ []) script

-- Schemes.

abbrev pub bit : Bool → ℤ
bit true = pos 1
bit false = pos 0

-- the instruction that compares two values of a type
abbrev pub comparing : Comparison → ValueType → Operation
comparing Equal t = EQU
comparing NotEqual t = NEQ
comparing Greater (atom Integer) = IGT
comparing Greater (atom String) = SGT
comparing Greater (atom Boolean) = IGT
comparing Greater (table cs) = IGT
comparing GreaterEqual (atom Integer) = IGE
comparing GreaterEqual (atom String) = SGE
comparing GreaterEqual (atom Boolean) = IGE
comparing GreaterEqual (table cs) = IGE
comparing Less (atom Integer) = ILT
comparing Less (atom String) = SLT
comparing Less (atom Boolean) = ILT
comparing Less (table cs) = ILT
comparing LessEqual (atom Integer) = ILE
comparing LessEqual (atom String) = SLE
comparing LessEqual (atom Boolean) = ILE
comparing LessEqual (table cs) = ILE

abbrev pub summing : Sum → Operation
summing Plus = PLUS
summing Minus = MINUS

abbrev pub multiplying : Product → Operation
multiplying Times = TIMES
multiplying Divide = DIV

-- a jump n instructions on
abbrev pub ahead : ℕ → ℤ
ahead n = pos n

-- `and`: a false left side is the answer; `or`: a true one is
abbrev pub connecting : Logic → Place → Code → Code → Code
connecting And p a b = a ++ ((SKIPF (ahead (length b + 2)) on p) ∷ (b ++ ((SKIP (ahead 2) on p) ∷ (LDINT (pos 0) on p) ∷ [])))
connecting Or p a b = a ++ ((SKIPF (ahead 3) on p) ∷ (LDINT (pos 1) on p) ∷ (SKIP (ahead (length b + 1)) on p) ∷ b)

-- an operator with a bracket: its tables, its instruction, the bracket, its end
abbrev pub bracket : Code → (ℕ → Operation) → Code → (ℕ → Operation) → Place → Code
bracket tables first inner last p = tables ++ ((first (length inner) on p) ∷ (inner ++ ((last (length inner) on p) ∷ [])))

abbrev pub keeping : List Kept → Code
keeping [] = []
keeping (k ∷ ks) = (ATTR k.column 1 on k.place) ∷ keeping ks

abbrev pub new_variable : ValueType → Operation
new_variable (atom d) = NEWATOM 1
new_variable (table cs) = NEWTAB (length cs)

abbrev pub new_variables : ValueType → List Place → Code
new_variables t [] = []
new_variables t (p ∷ places) = (new_variable t on p) ∷ new_variables t places

-- a block that defined variables ends them
abbrev pub ending : ℕ → Place → Code
ending zero p = []
ending (suc k) p = (POP (suc k) on p) ∷ []

module _ (strings : List Bytes) where
  abbrev pub loading : Constant → Instruction
  loading (integer_constant z p) = LDINT z on p
  loading (string_constant s p) = LDSTR (number_in strings s) on p
  loading (truth_constant b p) = LDINT (bit b) on p

  abbrev pub cell : Constant → Instruction
  cell (integer_constant z p) = IATTR z on p
  cell (string_constant s p) = SATTR (number_in strings s) on p
  cell (truth_constant b p) = IATTR (bit b) on p

  abbrev pub cells : List Tuple → Code
  cells [] = []
  cells (tuple_of cs p ∷ ts) = map cell cs ++ cells ts

  unfoldable pub generated : Term → Code
  generated (plan.constant c) = loading c ∷ []
  generated (plan.variable t i p) = (LOB i on p) ∷ []
  generated (plan.attribute d c k p) = (LAT c k 1 on p) ∷ []
  generated (plan.tuples cs ts p) = (LDTAB (length cs) (length ts) on p) ∷ (cells ts ++ ((ENDTAB on p) ∷ []))
  generated (plan.logical o p a b) = connecting o p (generated a) (generated b)
  generated (plan.compared o t p a b) = generated a ++ (generated b ++ ((comparing o t on p) ∷ []))
  generated (plan.summed o p a b) = generated a ++ (generated b ++ ((summing o on p) ∷ []))
  generated (plan.multiplied o p a b) = generated a ++ (generated b ++ ((multiplying o on p) ∷ []))
  generated (plan.negative p a) = generated a ++ ((UMI on p) ∷ [])
  generated (plan.negated p a) = generated a ++ ((NEG on p) ∷ [])
  generated (plan.joined cs p a c b) = bracket (generated a ++ generated b) JOIN (generated c) ENDJOIN p
  generated (plan.projected cs ks p a) = generated a ++ ((PROJ (length ks) on p) ∷ (keeping ks ++ ((ENDPROJ on p) ∷ [])))
  generated (plan.renamed cs a) = generated a
  generated (plan.selected cs p c a) = bracket (generated a) SEL (generated c) ENDSEL p
  generated (plan.existing cs p c a) = bracket (generated a) EXS (generated c) ENDEXS p
  generated (plan.everywhere cs p c a) = bracket (generated a) ALL (generated c) ENDALL p
  generated (plan.updated cs k d p x a) = bracket (generated a) (UPD k 1) (generated x) ENDUPD p
  generated (plan.extended cs d p x a) = bracket (generated a) (EXT 1) (generated x) ENDEXT p

  -- a read, without and with a name; a print, likewise: the value comes before the name
  abbrev pub reading : Option Term → ℕ → ValueType → Place → Code
  reading none i t p = (GET i t on p) ∷ []
  reading (some s) i t p = generated s ++ ((FGET i t on p) ∷ [])

  abbrev pub printing : Option Term → Term → Place → Code
  printing none e p = generated e ++ ((PRINT (type_of e) on p) ∷ [])
  printing (some s) e p = generated e ++ (generated s ++ ((FPRINT (type_of e) on p) ∷ []))

  -- the test of a loop, then its body, then the jump back to the test
  abbrev pub looping : Code → Code → Place → Code
  looping test inner p =
      test ++ ((SKIPF (ahead (length inner + 2)) on p) ∷ (inner ++ ((SKIP (neg_ℤ (pos (length test + (length inner + 1)))) on p) ∷ [])))

  unfoldable mutual
    pub generated_action : Action → Code
    generated_action (plan.define t places) = new_variables t places
    generated_action (plan.assign t i p e) = generated e ++ ((STO i on p) ∷ [])
    generated_action (plan.if_then p e b) = let c = generated_body b in generated e ++ ((SKIPF (ahead (length c + 1)) on p) ∷ c)
    generated_action (plan.if_then_else p e b d) =
        let c = generated_body b in
        let f = generated_body d in
        generated e ++ ((SKIPF (ahead (length c + 2)) on p) ∷ (c ++ ((SKIP (ahead (length f + 1)) on p) ∷ f)))
    generated_action (plan.while_do p e b) = looping (generated e) (generated_body b) p
    generated_action (plan.read_into s t i p) = reading s i t p
    generated_action (plan.write_out p s e) = printing s e p

    pub generated_actions : Actions → Code
    generated_actions plan.nothing = []
    generated_actions (a then rest) = generated_action a ++ generated_actions rest

    pub generated_body : Body → Code
    generated_body (plan.body actions k p) = generated_actions actions ++ ending k p

-- the code of a script: the program's own variables need no POP, since it ends with HALT
unfoldable pub code_of : Body → Code
code_of (plan.body actions k p) = generated_actions (strings_of (plan.body actions k p)) actions ++ ((HALT on p) ∷ [])
