-- How schemas grow.
use Rattle.std.specs.Prelude.{ℕ, ◌+◌, cond, List, [], ◌∷◌, ◌++◌, length, Some, None, Option, nat_le, nat_lt, slice_index_or}
use Rattle.domain.specs.declared.Domain.TheVariants.{Integer}
use Rattle.fault.specs.Limits.{columns}
use Rattle.schema.specs.declared.attributes.Attribute.{Attribute}

-- what a cleared buffer holds
abbrev pub blank : Attribute
blank = record { name = None; domain = Integer }

-- one more at the end, while there are fewer than `most`
abbrev pub with_one : {A : Type 0} → ℕ → List A → A → Option (List A)
with_one most before a = cond (nat_lt (length before) most) (Some (before ++ (a ∷ []))) None

-- the others behind them, while there is room
abbrev pub with_all : List Attribute → List Attribute → Option (List Attribute)
with_all before more = cond (nat_le (length before + length more) columns) (Some (before ++ more)) None

-- the attribute at a position, if there is one
abbrev pub nth : List Attribute → ℕ → Option Attribute
nth held position = cond (nat_lt position (length held)) (Some (slice_index_or held position blank)) None
