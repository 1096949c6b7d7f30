-- Small programs by their trees, and what the checker answers: the examples of the documentation, and some that are accepted.
use Rattle.std.specs.Prelude.{◌≡◌, ℕ, true, List, [], ◌∷◌, pos, Ok, Err, codes}
use Rattle.std.proofs.Math.Option.{none}
use Rattle.domain.specs.declared.Domain.TheVariants.{Integer, Boolean}
use Rattle.fault.specs.declared.rules.Rule.TheVariants.{RepeatedName, NameNotFound, OperandMismatch, StatementMismatch}
use Rattle.words.specs.Tokens.{Bytes, Place}
use Rattle.words.specs.declared.tokens.Sum.TheVariants.{Plus}
use Rattle.words.specs.declared.tokens.Comparison.TheVariants.{Greater}
use Rattle.grammar.specs.Tree.{Name, Name.named, Constant.integer_constant, Constant.truth_constant, Tuple.tuple_of, AtomicType.typed, Attribute.attribute, VariableType.of_domain, VariableType.of_table}
use Rattle.grammar.specs.Tree.{Expression, Expression.variable, Expression.literal, Expression.table_of_tuples, Expression.compared, Expression.summed, Expression.joined, Expression.projected, Expression.renamed, Expression.selected, Expression.existing}
use Rattle.grammar.specs.Tree.{Statement, Statement.define, Statement.assign, Statement.if_then, Statement.write_out, Statements, Statements.no_statement, Statements.◌followed_by◌, Block, Block.closed_at}
use Rattle.typing.specs.Environments.{fault}
use Rattle.typing.specs.Checker.{Answer, check_program}

-- a place of the first line
abbrev at : ℕ → Place
at b = record { line = 1; byte = b }

abbrev name : Bytes → ℕ → Name
name x b = named x (at b)

abbrev one : ℕ → Expression
one b = literal (integer_constant (pos 1) (at b))

abbrev truth : ℕ → Expression
truth b = literal (truth_constant true (at b))

-- `table(integer a) t;` from byte 8 on
abbrev table_t : Statement
table_t = define (of_table (attribute (typed Integer (at 14)) (name (codes "a") 22) ∷ []) (at 8)) (name (codes "t") 25 ∷ [])

abbrev written : ℕ → Expression → Statement
written b e = write_out (at b) none e

-- the table `t`, named at a byte
abbrev t : ℕ → Expression
t b = variable (name (codes "t") b)

pub record Specimen : Type 0 where
  pub tree : Block
  pub answer : Answer (Unit {0})

abbrev answering : Statements → Answer (Unit {0}) → Specimen
answering ss r = record { tree = closed_at ss (at 0); answer = r }

abbrev pub specimens : List Specimen
specimens =
    -- program integer a; a = true end
    answering (define (of_domain (typed Integer (at 8))) (name (codes "a") 16 ∷ []) followed_by assign (name (codes "a") 19) (truth 23) followed_by no_statement)
    (Err (fault StatementMismatch (at 19)))
    -- program write q end
    ∷ answering (written 8 (variable (name (codes "q") 14)) followed_by no_statement) (Err (fault NameNotFound (at 14)))
    -- program integer a, a end
    ∷ answering (define (of_domain (typed Integer (at 8))) (name (codes "a") 16 ∷ name (codes "a") 19 ∷ []) followed_by no_statement) (Err (fault RepeatedName (at 19)))
    -- program write 1 + true end
    ∷ answering (written 8 (summed Plus (at 16) (one 14) (truth 18)) followed_by no_statement) (Err (fault OperandMismatch (at 16)))
    -- program write {(1), (true)} end
    ∷ answering (written 8 (table_of_tuples (tuple_of (integer_constant (pos 1) (at 16) ∷ []) (at 15) ∷ tuple_of (truth_constant true (at 21) ∷ []) (at 20) ∷ []) (at 14)) followed_by no_statement)
    (Err (fault OperandMismatch (at 20)))
    -- program table(integer a) t; write project [a, a] t end
    ∷ answering (table_t followed_by written 28 (projected (at 34) (name (codes "a") 43 ∷ name (codes "a") 46 ∷ []) (t 49)) followed_by no_statement) (Err (fault RepeatedName (at 46)))
    -- program table(integer a) t; write t join [true] t end
    ∷ answering (table_t followed_by written 28 (joined (at 36) (t 34) (truth 42) (t 48)) followed_by no_statement) (Err (fault RepeatedName (at 36)))
    -- program table(integer a) t; write rename [a, a] t end
    ∷ answering (table_t followed_by written 28 (renamed (at 34) (name (codes "a") 42 ∷ name (codes "a") 45 ∷ []) (t 48)) followed_by no_statement) (Err (fault OperandMismatch (at 34)))
    -- program write {(1)} join [true] {(1)} end: nameless columns do not meet
    ∷ answering (written 8 (joined (at 20) (table_of_tuples (tuple_of (integer_constant (pos 1) (at 16) ∷ []) (at 15) ∷ []) (at 14)) (truth 26) (table_of_tuples (tuple_of (integer_constant (pos 1) (at 34) ∷ []) (at 33) ∷ []) (at 32))) followed_by no_statement)
    (Ok tt)
    -- program table(integer a) t; boolean a; write select [exists [a > 1] t] t end: the nearest bracket's a, an integer
    ∷ answering (table_t followed_by define (of_domain (typed Boolean (at 28))) (name (codes "a") 36 ∷ []) followed_by written 39 (selected (at 45) (existing (at 53) (compared Greater (at 63) (variable (name (codes "a") 61)) (one 65)) (t 68)) (t 71)) followed_by no_statement)
    (Ok tt)
    -- program integer a; if true then boolean a; a = true end end: a block hides a name
    ∷ answering (define (of_domain (typed Integer (at 8))) (name (codes "a") 16 ∷ []) followed_by if_then (at 19) (truth 22) (closed_at (define (of_domain (typed Boolean (at 32))) (name (codes "a") 40 ∷ []) followed_by assign (name (codes "a") 43) (truth 47) followed_by no_statement) (at 52)) followed_by no_statement)
    (Ok tt)
    -- program if true then integer a end; a = 1 end: what a block defines is seen in it alone
    ∷ answering (if_then (at 8) (truth 11) (closed_at (define (of_domain (typed Integer (at 21))) (name (codes "a") 29 ∷ []) followed_by no_statement) (at 31)) followed_by assign (name (codes "a") 36) (one 40) followed_by no_statement)
    (Err (fault NameNotFound (at 36)))
    ∷ []

abbrev pub Stand : List Specimen → Type 0
Stand [] = Unit {0}
Stand (s ∷ rest) = (check_program s.tree ≡ s.answer) × Stand rest

-- the checker answers so
abbrev pub SpecimensStand : Type 0
SpecimensStand = Stand specimens
