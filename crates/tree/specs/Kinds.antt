-- The 29 kinds of nodes by number, in the order of their names; cases that differ in a detail share a kind.
use Rattle.std.specs.Prelude.{ℕ}
use Rattle.tree.specs.declared.nodes.What.{What}
use Rattle.tree.specs.declared.nodes.What.TheVariants as what

abbrev pub kind_of : What → ℕ
kind_of what.Nothing = 0
kind_of (what.Assign x e) = 1
kind_of (what.AtomicType d) = 2
kind_of (what.Attribute t x) = 3
kind_of (what.Truth b) = 4
kind_of (what.Compared o a b) = 5
kind_of (what.Define t x) = 6
kind_of (what.Extended t x v a) = 7
kind_of (what.Name s) = 8
kind_of (what.IfThen c a) = 9
kind_of (what.IfThenElse c a b) = 9
kind_of (what.Integer v) = 10
kind_of (what.Joined a c b) = 11
kind_of (what.Logical o a b) = 12
kind_of (what.Summed o a b) = 13
kind_of (what.Multiplied o a b) = 13
kind_of (what.Negative a) = 14
kind_of (what.Negated a) = 14
kind_of (what.Program a) = 15
kind_of (what.Projected x a) = 16
kind_of (what.Read s x) = 17
kind_of (what.Renamed x a) = 18
kind_of (what.Selected c a) = 19
kind_of (what.Existing c a) = 19
kind_of (what.Everywhere c a) = 19
kind_of what.NoSpecifier = 20
kind_of (what.Specifier e) = 20
kind_of (what.Statements a) = 21
kind_of (what.Text s) = 22
kind_of (what.TableOfTuples x) = 23
kind_of (what.TableOfTypes x) = 23
kind_of (what.TableType x) = 24
kind_of (what.Tuple x) = 25
kind_of (what.Type t) = 26
kind_of (what.Updated x v a) = 27
kind_of (what.While c a) = 28
kind_of (what.Write s e) = 29
