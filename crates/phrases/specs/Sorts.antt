-- The sorts of the code as those of the grammar.
use Rattle.grammar.specs.Parts.{Leaf, Leaf.name_leaf, Leaf.type_leaf, Leaf.constant_leaf, Level}
use Rattle.grammar.specs.Parts.{Level.name_level, Level.type_level, Level.constant_level, Level.attribute_level, Level.tuple_level}
use Rattle.std.specs.Prelude.{ℕ, Some}
use Rattle.grammar.specs.Promise.{any_token}
use Rattle.grammar.specs.Readers.{Reader, read_leaf, read_attribute, read_tuple, brackets_at}
use Rattle.tree.specs.declared.nodes.Node.{Node}
use Rattle.words.specs.Tokens.{Terminal, Terminal.word, Terminal.sign}
use Rattle.phrases.specs.declared.sorts.Wanted.{Wanted}
use Rattle.phrases.specs.declared.sorts.Wanted.TheVariants as wanted
use Rattle.phrases.specs.declared.sorts.Leaf.{Leaf as Sort}
use Rattle.phrases.specs.declared.sorts.Leaf.TheVariants as sort
use Rattle.phrases.specs.declared.sorts.Listed.{Listed}
use Rattle.phrases.specs.declared.sorts.Listed.TheVariants as listed

-- the terminal that is wanted
abbrev pub wanted_of : Wanted → Terminal
wanted_of (wanted.Word w) = word w
wanted_of (wanted.Sign g) = sign g

-- what a leaf pays for: the node of a type and two more
abbrev pub leaf_pays : Leaf → ℕ
leaf_pays name_leaf = 1
leaf_pays type_leaf = 3
leaf_pays constant_leaf = 1

abbrev pub leaf_of : Sort → Leaf
leaf_of sort.Name = name_leaf
leaf_of sort.Type = type_leaf
leaf_of sort.Constant = constant_leaf

abbrev pub level_of : Listed → Level
level_of listed.Names = name_level
level_of listed.Types = type_level
level_of listed.Constants = constant_level
level_of listed.Attributes = attribute_level
level_of listed.Tuples = tuple_level

-- what reads an element of a list, where n depths are left
abbrev pub item_reader : ℕ → Listed → Reader
item_reader n listed.Names = read_leaf name_leaf
item_reader n listed.Types = read_leaf type_leaf
item_reader n listed.Constants = read_leaf constant_leaf
item_reader n listed.Attributes = read_attribute
item_reader n listed.Tuples = read_tuple (brackets_at any_token n)

-- a node with another one behind it
abbrev pub relinked : Node → ℕ → Node
relinked n next = record { what = n.what; place = n.place; next = Some next }
