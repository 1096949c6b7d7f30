-- The names that nodes have.
use Rattle.std.specs.Prelude.{◌<◌, not, List, [], ◌∷◌, ◌++◌, length, Some, None, Ok, Option, ◌≡◌}
use Rattle.domain.specs.declared.Domain.{Domain}
use Rattle.words.specs.declared.spans.Span.{Span}
use Rattle.fault.specs.Limits.{columns}
use Rattle.fault.specs.declared.rules.Rule.TheVariants.{RepeatedName}
use Rattle.words.specs.Tokens.{Bytes, Place}
use Rattle.grammar.specs.Tree.{Name.named}
use Rattle.schema.specs.Columns.{Column}
use Rattle.typing.specs.Environments.{fault}
use Rattle.typing.specs.Tables.{has, column_named}
use Rattle.typing.specs.Checker.{Answer, ask}
use Rattle.tree.specs.Holds.{Said}
use Rattle.lists.specs.Elements.{IsName}
use Rattle.tree.specs.declared.nodes.What.{What}
use Rattle.tree.specs.declared.nodes.What.TheVariants as what

-- the part of the text that a name's node has
abbrev pub span_said : What → Option Span
span_said what.Nothing = None
span_said (what.Program a) = None
span_said (what.Statements a) = None
span_said (what.Define a b) = None
span_said (what.Type a) = None
span_said (what.AtomicType d) = None
span_said (what.TableType a) = None
span_said (what.Attribute a b) = None
span_said (what.Assign a b) = None
span_said (what.IfThen a b) = None
span_said (what.IfThenElse a b c) = None
span_said (what.While a b) = None
span_said (what.Read a b) = None
span_said (what.Write a b) = None
span_said what.NoSpecifier = None
span_said (what.Specifier a) = None
span_said (what.Name s) = Some s
span_said (what.Integer v) = None
span_said (what.Text s) = None
span_said (what.Truth b) = None
span_said (what.Tuple a) = None
span_said (what.TableOfTuples a) = None
span_said (what.TableOfTypes a) = None
span_said (what.Logical o a b) = None
span_said (what.Compared o a b) = None
span_said (what.Summed o a b) = None
span_said (what.Multiplied o a b) = None
span_said (what.Joined a b c) = None
span_said (what.Negative a) = None
span_said (what.Negated a) = None
span_said (what.Projected a b) = None
span_said (what.Renamed a b) = None
span_said (what.Selected a b) = None
span_said (what.Existing a b) = None
span_said (what.Everywhere a b) = None
span_said (what.Updated a b c) = None
span_said (what.Extended a b c d) = None

-- `RenamesOne text s d fresh r`: a node that says s names a column of the domain d, where fresh are those renamed so far; r is the answer
abbrev pub RenamesOne : Bytes → Said → Domain → List Column → Answer (List Column) → Type 0
RenamesOne text s d fresh r =
    (n : Bytes) (p : Place) → IsName text s (named n p) → length fresh < columns →
    r ≡ ask (not (has fresh n)) (fault RepeatedName p) (Ok (fresh ++ (column_named n d ∷ [])))
