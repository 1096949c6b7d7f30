-- How an arena holds the part of each level.
use Rattle.std.specs.Prelude.{◌≡◌, ℕ, suc, List, []}
use Rattle.words.specs.Tokens.{Bytes}
use Rattle.grammar.specs.Parts.{Part, Level, Leaf, Leaf.name_leaf, Leaf.type_leaf, Leaf.constant_leaf}
use Rattle.grammar.specs.Parts.{Level.statement_level, Level.name_level, Level.type_level, Level.constant_level, Level.attribute_level, Level.tuple_level}
use Rattle.grammar.specs.Parts.{Level.logic_level, Level.comparison_level, Level.sum_level, Level.product_level, Level.compared_level}
use Rattle.tree.specs.Holds.{Holder, Chained, HoldsName, HoldsType, HoldsConstant, HoldsAttribute, HoldsTuple, HoldsExpression, HoldsStatements}
use Rattle.tree.specs.declared.nodes.Node.{Node}

-- a list in the entries from one number up to another, by the root of its first element
abbrev pub ListHeld : {A : Type 0} → Holder A → List Node → ℕ → ℕ → ℕ → List A → Type 0
ListHeld H ns from upto first xs = (l : ℕ) × (upto ≡ suc l) × Chained H ns from l first xs

-- an expression, by its root
abbrev pub ExpressionHeld : Bytes → List Node → ℕ → ℕ → ℕ → Part → Type 0
ExpressionHeld text ns from upto i t = (upto ≡ suc i) × HoldsExpression text ns from i t.expression

unfoldable pub Held : Level → Bytes → List Node → ℕ → ℕ → ℕ → Part → Type 0
Held statement_level text ns from upto i t = (l : ℕ) × (upto ≡ suc l) × HoldsStatements text ns from l i t.statements
Held name_level text ns from upto i t = ListHeld (HoldsName text) ns from upto i t.names
Held type_level text ns from upto i t = (ListHeld (HoldsType text) ns from upto i t.types) × (t.tuples ≡ [])
Held constant_level text ns from upto i t = ListHeld (HoldsConstant text) ns from upto i t.constants
Held attribute_level text ns from upto i t = ListHeld (HoldsAttribute text) ns from upto i t.attributes
Held tuple_level text ns from upto i t = ListHeld (HoldsTuple text) ns from upto i t.tuples
Held logic_level text ns from upto i t = ExpressionHeld text ns from upto i t
Held comparison_level text ns from upto i t = ExpressionHeld text ns from upto i t
Held compared_level text ns from upto i t = ExpressionHeld text ns from upto i t
Held sum_level text ns from upto i t = ExpressionHeld text ns from upto i t
Held product_level text ns from upto i t = ExpressionHeld text ns from upto i t

-- the level of lists that such leaves make
abbrev pub leaf_level : Leaf → Level
leaf_level name_leaf = name_level
leaf_level type_leaf = type_level
leaf_level constant_leaf = constant_level
