-- Columns as the operators see and change them.
use Rattle.std.specs.Prelude.{◌≡◌, Bool, true, false, cond, ◌&&◌, ◌||◌, List, [], ◌∷◌, map, Some, None, Option}
use Rattle.std.specs.Str.{bytes_eq}
use Rattle.domain.specs.declared.Domain.{Domain}
use Rattle.domain.specs.declared.Domain.TheVariants.{Integer, String, Boolean}
use Rattle.words.specs.Tokens.{Bytes}
use Rattle.words.specs.declared.tokens.Comparison.{Comparison}
use Rattle.words.specs.declared.tokens.Comparison.TheVariants.{Equal, NotEqual, Greater, GreaterEqual, Less, LessEqual}
use Rattle.grammar.specs.Tree.{Name, Name.named, Constant, Constant.integer_constant, Constant.string_constant, Constant.truth_constant}
use Rattle.grammar.specs.Tree.{Tuple, Tuple.tuple_of, AtomicType, AtomicType.typed}
use Rattle.schema.specs.Columns.{Column}
use Rattle.schema.specs.Kinds.{ValueType, ValueType.atom, ValueType.table}
use Rattle.schema.specs.Sameness.{same_domain, same_type, SameType}
use Rattle.scope.specs.Chains.{any}
use Rattle.typing.specs.Environments.{Variable, is_column, is_variable}

abbrev pub bytes_in : Name → Bytes
bytes_in (named n p) = n

abbrev pub domain_in : AtomicType → Domain
domain_in (typed d p) = d

-- the domain of a constant
abbrev pub domain_of : Constant → Domain
domain_of (integer_constant i p) = Integer
domain_of (string_constant s p) = String
domain_of (truth_constant b p) = Boolean

abbrev pub tuple_domains : Tuple → List Domain
tuple_domains (tuple_of constants p) = map domain_of constants

-- the domains of a table constant are those of its first tuple
abbrev pub first_domains : List Tuple → List Domain
first_domains [] = []
first_domains (t ∷ rest) = tuple_domains t

-- the columns of a table constant have no names
abbrev pub nameless : List Domain → List Column
nameless = map (λ d. record { name = None; domain = d })

abbrev pub column_named : Bytes → Domain → Column
column_named n d = record { name = Some n; domain = d }

-- a column has the name
abbrev pub has : List Column → Bytes → Bool
has columns n = any (is_column n) columns

-- the name is among these
abbrev pub among : List Bytes → Bytes → Bool
among [] n = false
among (m ∷ rest) n = bytes_eq m n || among rest n

-- a variable of the list has the name
abbrev pub defines : List Variable → Bytes → Bool
defines variables n = any (is_variable n) variables

-- a name of a column on the left is one of a column on the right; what has no name meets nothing
abbrev pub meets_in : List Column → Option Bytes → Bool
meets_in right None = false
meets_in right (Some n) = has right n

abbrev pub meet : List Column → List Column → Bool
meet [] right = false
meet (c ∷ left) right = meets_in right c.name || meet left right

-- project keeps the columns that are among the names, in the columns' order
abbrev pub chosen : List Bytes → Option Bytes → Bool
chosen names None = false
chosen names (Some n) = among names n

abbrev pub kept : List Bytes → List Column → List Column
kept names [] = []
kept names (c ∷ columns) = cond (chosen names c.name) (c ∷ kept names columns) (kept names columns)

-- rename gives the columns these names, one by one
abbrev pub renaming : List Bytes → List Column → List Column
renaming [] columns = []
renaming (n ∷ names) [] = []
renaming (n ∷ names) (c ∷ columns) = column_named n c.domain ∷ renaming names columns

-- integers and strings have an order
abbrev pub ordered : Domain → Bool
ordered Integer = true
ordered String = true
ordered Boolean = false

-- `==` and `!=`, which take any two values of the same type; the others ask for an order
abbrev pub is_equality : Comparison → Bool
is_equality Equal = true
is_equality NotEqual = true
is_equality Greater = false
is_equality GreaterEqual = false
is_equality Less = false
is_equality LessEqual = false

pub data Comparable (o : Comparison) : ValueType → ValueType → Type 0 where
  by_sameness : {t u : ValueType} → is_equality o ≡ true → SameType t u → Comparable o t u
  by_order : {d : Domain} → is_equality o ≡ false → ordered d ≡ true → Comparable o (atom d) (atom d)

-- The tests.

abbrev pub is_atom : Domain → ValueType → Bool
is_atom d (atom e) = same_domain e d
is_atom d (table columns) = false

abbrev pub both_atoms : Domain → ValueType → ValueType → Bool
both_atoms d t u = is_atom d t && is_atom d u

abbrev pub both_ordered : ValueType → ValueType → Bool
both_ordered (atom d) u = ordered d && is_atom d u
both_ordered (table columns) u = false

abbrev pub comparable : Comparison → ValueType → ValueType → Bool
comparable o t u = cond (is_equality o) (same_type t u) (both_ordered t u)

abbrev pub same_domains : List Domain → List Domain → Bool
same_domains [] [] = true
same_domains [] (e ∷ right) = false
same_domains (d ∷ left) [] = false
same_domains (d ∷ left) (e ∷ right) = same_domain d e && same_domains left right
