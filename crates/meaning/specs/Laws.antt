-- What holds of the meaning of every script, for every list of texts.
use Rattle.std.specs.Prelude.{◌≡◌, ℕ, ◌+◌, ◌≤◌, false, List, [], ◌∷◌, ◌++◌}
use Rattle.domain.specs.declared.Domain.{Domain}
use Rattle.plan.specs.Plan.{Term, Term.updated, Body}
use Rattle.schema.specs.Columns.{Column}
use Rattle.words.specs.Tokens.{Bytes, Place}
use Rattle.meaning.specs.Evaluation.{evaluate}
use Rattle.meaning.specs.Meaning.{End.without_pass, meaning}
use Rattle.meaning.specs.Values.{Row, Datum, Datum.table, has, Computed.computed}

-- these lines are a beginning of those
abbrev pub Begins : List Bytes → List Bytes → Type 0
Begins front whole = (rest : List Bytes) × (front ++ rest ≡ whole)

-- more passes only add lines
abbrev pub MorePassesAddLines : Type 0
MorePassesAddLines =
    (script : Body) (n k : ℕ) (texts : List Bytes) → Begins (meaning script n texts).lines (meaning script (n + k) texts).lines

-- once it ends otherwise than for want of a pass, more passes change nothing
abbrev pub EndingsStay : Type 0
EndingsStay =
    (script : Body) (n k : ℕ) (texts : List Bytes) → ¬ ((meaning script n texts).end ≡ without_pass) → meaning script (n + k) texts ≡ meaning script n texts

-- no more passes are entered than are given, and it lacks one only where all are used
pub record PassesAreCounted : Type 0 where
  pub within : (script : Body) (n : ℕ) (texts : List Bytes) → (meaning script n texts).passes ≤ n
  pub used : (script : Body) (n : ℕ) (texts : List Bytes) → (meaning script n texts).end ≡ without_pass → (meaning script n texts).passes ≡ n

-- no row stands twice
pub data Distinct : List Row → Type 0 where
  no_rows : Distinct []
  another : (rows : List Row) (r : Row) → Distinct rows → has rows r ≡ false → Distinct (rows ++ (r ∷ []))

-- an update may make rows fall together, and then they are one
abbrev pub UpdatesHaveNoRepeats : Type 0
UpdatesHaveNoRepeats =
    (columns : List Column) (k : ℕ) (d : Domain) (p : Place) (value operand : Term) (vars : List Datum) (around rows : List Row) →
    evaluate (updated columns k d p value operand) vars around ≡ computed (table rows) → Distinct rows
