-- Texts that are accepted, and others with the place where they are refused, by computation.
use Rattle.std.proofs.Common.{◌≡◌, List, [], ◌∷◌, pos, negsuc, Some, codes, refl}
use Rattle.fault.specs.declared.rules.Rule.TheVariants.{WrongHeading, WrongRow, WrongCell}
use Rattle.domain.specs.declared.Domain.TheVariants.{Integer, String}
use Rattle.schema.specs.Columns.{Column}
use Rattle.texts.specs.Language.{Value.integer, Value.string}
use Rattle.texts.specs.Readers.{Reading.taken, Reading.refused}
use Rattle.texts.specs.Reading.{read_quoted, read_integer, read_table, read_atom}

-- (a:i,b:s)
abbrev two : List Column
two = record { name = Some (codes "a"); domain = Integer } ∷ record { name = Some (codes "b"); domain = String } ∷ []

table_read : read_table two (codes "(a:i,?:s)\n(3,\"x\")\n(4,\"x\")\nend\n") ≡ taken ((integer (pos 3) ∷ string (codes "x") ∷ []) ∷ (integer (pos 4) ∷ string (codes "x") ∷ []) ∷ []) []
unfolding read_quoted
table_read = refl

other_name : read_table two (codes "(b:i,b:s)\nend\n") ≡ refused WrongHeading (codes "b:i,b:s)\nend\n")
other_name = refl

behind_a_value : read_table two (codes "(a:i,?:s)\n(3;\"x\")\nend\n") ≡ refused WrongRow (codes ";\"x\")\nend\n")
unfolding read_quoted
behind_a_value = refl

least_integer : read_integer (codes "-9223372036854775808,") ≡ taken (negsuc 9223372036854775807) (codes ",")
least_integer = refl

over_the_range : read_integer (codes "9223372036854775808,") ≡ refused WrongCell (codes "8,")
over_the_range = refl

needless_zero : read_atom Integer (codes "01\n") ≡ refused WrongCell (codes "1\n")
needless_zero = refl

minus_zero : read_atom Integer (codes "-0\n") ≡ refused WrongCell (codes "0\n")
minus_zero = refl

no_line_feed : read_atom Integer (codes "7") ≡ refused WrongRow []
no_line_feed = refl
