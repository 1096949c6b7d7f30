-- When two types are the same. A name that is missing agrees with every name, so sameness is not transitive.
use Rattle.std.specs.Prelude.{◌≡◌, Bool, true, false, ◌&&◌, List, [], ◌∷◌, Some, None, Option, ◌==◌}
use Rattle.std.specs.Str.{bytes_eq}
use Rattle.domain.specs.declared.Domain.{Domain}
use Rattle.domain.specs.Domains.{letter_of}
use Rattle.words.specs.Tokens.{Bytes}
use Rattle.schema.specs.Columns.{Column}
use Rattle.schema.specs.Kinds.{ValueType, ValueType.atom, ValueType.table}

-- two names agree if they are equal or one is missing
pub data Agree : Option Bytes → Option Bytes → Type 0 where
  left_nameless : {b : Option Bytes} → Agree None b
  right_nameless : {a : Option Bytes} → Agree a None
  equal : {name : Bytes} → Agree (Some name) (Some name)

-- equally many columns; one by one the domains are equal and the names agree
pub data Same : List Column → List Column → Type 0 where
  ended : Same [] []
  further : {a b : Column} {left right : List Column} → a.domain ≡ b.domain → Agree a.name b.name → Same left right → Same (a ∷ left) (b ∷ right)

-- two types are the same: atoms of one domain, or tables of the same columns; an atom is never a table
pub data SameType : ValueType → ValueType → Type 0 where
  atoms : {d : Domain} → SameType (atom d) (atom d)
  tables : {left right : List Column} → Same left right → SameType (table left) (table right)

-- The tests. A domain is told by its letter, so that one more domain is no more case here.

abbrev pub same_domain : Domain → Domain → Bool
same_domain a b = letter_of a == letter_of b

abbrev pub agree : Option Bytes → Option Bytes → Bool
agree None b = true
agree (Some a) None = true
agree (Some a) (Some b) = bytes_eq a b

abbrev pub same_column : Column → Column → Bool
same_column a b = same_domain a.domain b.domain && agree a.name b.name

abbrev pub same_columns : List Column → List Column → Bool
same_columns [] [] = true
same_columns [] (b ∷ right) = false
same_columns (a ∷ left) [] = false
same_columns (a ∷ left) (b ∷ right) = same_column a b && same_columns left right

abbrev pub same_type : ValueType → ValueType → Bool
same_type (atom d) (atom e) = same_domain d e
same_type (atom d) (table right) = false
same_type (table left) (atom e) = false
same_type (table left) (table right) = same_columns left right
