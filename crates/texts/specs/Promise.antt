-- What a reader of whole texts promises, for any format: it takes just the right texts,
-- and refuses any other at the first byte with which no right text goes on.
use Rattle.std.specs.Prelude.{◌≡◌, ℕ, ◌↔◌, List, [], ◌∷◌, ◌++◌}
use Rattle.fault.specs.declared.rules.Rule.{Rule}
use Rattle.domain.specs.declared.Domain.{Domain}
use Rattle.schema.specs.Columns.{Column}
use Rattle.texts.specs.Formats.{Format}
use Rattle.texts.specs.Readers.{Reading.taken, Reading.refused, Reader}
use Rattle.texts.specs.Language.{TableText, AtomText}
use Rattle.texts.specs.Reading.{read_table, read_atom}

-- p is the beginning of a right text
abbrev pub Begins : {A : Type 0} → Format A → List ℕ → Type 0
Begins {A = A} F p = (rest : List ℕ) × (a : A) × F a (p ++ rest)

-- with the first byte of r, or with the text's end if r is empty, p is no such beginning
abbrev pub Ends : {A : Type 0} → Format A → List ℕ → List ℕ → Type 0
Ends {A = A} F p [] = (a : A) → F a p → ⊥
Ends F p (b ∷ r) = Begins F (p ++ (b ∷ [])) → ⊥

-- r is what is left of s from the first byte on with which no right text goes on
abbrev pub Placed : {A : Type 0} → Format A → List ℕ → List ℕ → Type 0
Placed F s r = (p : List ℕ) × (s ≡ p ++ r) × Begins F p × Ends F p r

pub record Exact {A : Type 0} (F : Format A) (f : Reader A) : Type 0 where
  -- accepted is just what is right, as the value that it stands for
  pub accepts : (s : List ℕ) (a : A) → (f s ≡ taken a []) ↔ F a s
  -- and nothing but the whole of it
  pub whole : (s : List ℕ) (a : A) (r : List ℕ) → f s ≡ taken a r → r ≡ []
  -- refused is all else, at that place
  pub refuses : (s r : List ℕ) → ((rule : Rule) × (f s ≡ refused rule r)) ↔ Placed F s r

abbrev pub TablesExact : Type 0
TablesExact = (cs : List Column) → Exact (TableText cs) (read_table cs)

abbrev pub AtomsExact : Type 0
AtomsExact = (d : Domain) → Exact (AtomText d) (read_atom d)
