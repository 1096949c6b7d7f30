-- The tokens that are a node by themselves, and what that node says.
use Rattle.std.specs.Prelude.{ℕ, ◌+◌, cond, length, ℤ, pos, Some, None, Option, nat_le}
use Rattle.fault.specs.Limits.{integer_max}
use Rattle.words.specs.Numbers.{value_of}
use Rattle.words.specs.Tokens.{Bytes, Terminal, Terminal.word, Terminal.sign, Terminal.domain, Terminal.logic, Terminal.comparison}
use Rattle.words.specs.Tokens.{Terminal.sum, Terminal.product, Terminal.truth, Terminal.integer, Terminal.string, Terminal.name, Terminal.broken}
use Rattle.words.specs.declared.spans.Span.{Span}
use Rattle.grammar.specs.Parts.{Leaf, Leaf.name_leaf, Leaf.type_leaf, Leaf.constant_leaf}
use Rattle.tree.specs.declared.nodes.What.{What}
use Rattle.tree.specs.declared.nodes.What.TheVariants as what

-- a number of a text, which is in range for every text
abbrev pub within : ℕ → ℕ → ℕ
within limit n = cond (nat_le n limit) n 0

abbrev pub span_of : ℕ → Bytes → Span
span_of at x = record { start = within 65535 at; len = within 255 (length x) }

abbrev pub integer_of : Bytes → ℤ
integer_of x = pos (within integer_max (value_of x))

-- the node of a name that begins at this byte
abbrev pub name_node : Terminal → ℕ → Option What
name_node (word w) at = None
name_node (sign g) at = None
name_node (domain d) at = None
name_node (logic o) at = None
name_node (comparison o) at = None
name_node (sum o) at = None
name_node (product o) at = None
name_node (truth b) at = None
name_node (integer x) at = None
name_node (string x) at = None
name_node (name x) at = Some (what.Name (span_of at x))
name_node (broken r) at = None

abbrev pub type_node : Terminal → ℕ → Option What
type_node (word w) at = None
type_node (sign g) at = None
type_node (domain d) at = Some (what.AtomicType d)
type_node (logic o) at = None
type_node (comparison o) at = None
type_node (sum o) at = None
type_node (product o) at = None
type_node (truth b) at = None
type_node (integer x) at = None
type_node (string x) at = None
type_node (name x) at = None
type_node (broken r) at = None

-- a string begins behind its quote
abbrev pub constant_node : Terminal → ℕ → Option What
constant_node (word w) at = None
constant_node (sign g) at = None
constant_node (domain d) at = None
constant_node (logic o) at = None
constant_node (comparison o) at = None
constant_node (sum o) at = None
constant_node (product o) at = None
constant_node (truth b) at = Some (what.Truth b)
constant_node (integer x) at = Some (what.Integer (integer_of x))
constant_node (string x) at = Some (what.Text (span_of (at + 1) x))
constant_node (name x) at = None
constant_node (broken r) at = None

abbrev pub leaf_node : Leaf → Option Terminal → ℕ → Option What
leaf_node l None at = None
leaf_node name_leaf (Some t) at = name_node t at
leaf_node type_leaf (Some t) at = type_node t at
leaf_node constant_leaf (Some t) at = constant_node t at
