-- What the elements of lists are.
use Rattle.std.specs.Prelude.{◌≡◌, ℕ, List, map, Some, None, Option}
use Rattle.domain.specs.declared.Domain.{Domain}
use Rattle.domain.specs.declared.Domain.TheVariants as domain
use Rattle.words.specs.Tokens.{Bytes}
use Rattle.words.specs.Spans.{part_of}
use Rattle.words.specs.declared.spans.Span.{Span}
use Rattle.grammar.specs.Tree.{Name, Name.named, Tuple, Tuple.tuple_of, AtomicType.typed, Attribute, Attribute.attribute}
use Rattle.schema.specs.declared.attributes.Attribute.{Attribute as Entry}
use Rattle.typing.specs.Tables.{domain_of}
use Rattle.tree.specs.declared.nodes.Node.{Node}
use Rattle.tree.specs.declared.nodes.What.{What}
use Rattle.tree.specs.declared.nodes.What.TheVariants as what
use Rattle.tree.specs.Holds.{node_at, Said, said, says}
use Rattle.lists.specs.Links.{Linked}

-- an attribute without a name
abbrev pub unnamed : Domain → Entry
unnamed d = record { name = None; domain = d }

-- the domain of a type or a constant
abbrev pub domain_said : What → Option Domain
domain_said what.Nothing = None
domain_said (what.Program a) = None
domain_said (what.Statements a) = None
domain_said (what.Define a b) = None
domain_said (what.Type a) = None
domain_said (what.AtomicType d) = Some d
domain_said (what.TableType a) = None
domain_said (what.Attribute a b) = None
domain_said (what.Assign a b) = None
domain_said (what.IfThen a b) = None
domain_said (what.IfThenElse a b c) = None
domain_said (what.While a b) = None
domain_said (what.Read a b) = None
domain_said (what.Write a b) = None
domain_said what.NoSpecifier = None
domain_said (what.Specifier a) = None
domain_said (what.Name s) = None
domain_said (what.Integer v) = Some domain.Integer
domain_said (what.Text s) = Some domain.String
domain_said (what.Truth b) = Some domain.Boolean
domain_said (what.Tuple a) = None
domain_said (what.TableOfTuples a) = None
domain_said (what.TableOfTypes a) = None
domain_said (what.Logical o a b) = None
domain_said (what.Compared o a b) = None
domain_said (what.Summed o a b) = None
domain_said (what.Multiplied o a b) = None
domain_said (what.Joined a b c) = None
domain_said (what.Negative a) = None
domain_said (what.Negated a) = None
domain_said (what.Projected a b) = None
domain_said (what.Renamed a b) = None
domain_said (what.Selected a b) = None
domain_said (what.Existing a b) = None
domain_said (what.Everywhere a b) = None
domain_said (what.Updated a b c) = None
domain_said (what.Extended a b c d) = None

abbrev pub IsDomain : Said → Domain → Type 0
IsDomain s d = domain_said s.what ≡ Some d

-- a tuple, with its constants by their domains
abbrev pub IsTuple : List Node → Said → Tuple → Type 0
IsTuple ns s (tuple_of cs p) = (first : ℕ) × (s ≡ says (what.Tuple first) p) × Linked IsDomain ns first (map domain_of cs)

-- a name of the text
abbrev pub IsName : Bytes → Said → Name → Type 0
IsName text s (named n p) = (span : Span) × (s ≡ says (what.Name span) p) × (part_of span text ≡ Some n)

-- an attribute of a table type: its type and its name are nodes of the arena
abbrev pub IsAttribute : Bytes → List Node → Said → Attribute → Type 0
IsAttribute text ns s (attribute (typed d q) (named n p)) =
    (type : ℕ) × (name : ℕ) × (s ≡ says (what.Attribute type name) q) × (said (node_at ns type) ≡ says (what.AtomicType d) q) × IsName text (said (node_at ns name)) (named n p)
