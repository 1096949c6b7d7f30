-- Where a scanner stands in a text, and what a token there stands for.
use Rattle.std.specs.Prelude.{◌≡◌, ℕ, ◌+◌, ◌≤◌, List, length, take, drop, Some, None, Option}
use Rattle.fault.specs.Limits.{script_bytes, name_bytes, string_bytes, integer_max}
use Rattle.words.specs.declared.tokens.Word.{Word}
use Rattle.words.specs.declared.tokens.Word.TheVariants.{Program, End, Table, If, Then, Else, While, Do, Read, Write, Join, Not, Project, Select, Exists}
use Rattle.words.specs.declared.tokens.Word.TheVariants.{All, Update, Extend, Rename}
use Rattle.words.specs.Tokens.{Bytes, Place, Terminal, Token, Terminal.word, Terminal.sign, Terminal.domain, Terminal.logic, Terminal.comparison}
use Rattle.words.specs.Tokens.{Terminal.sum, Terminal.product, Terminal.truth, Terminal.integer, Terminal.string, Terminal.name, Terminal.broken}
use Rattle.words.specs.Numbers.{value_of}
use Rattle.words.specs.Lexing.{Spot, tokens_from, end_from, end_of}

-- how many nodes a word pays for at most: a definition has a type and that an atomic or table type; each statement list,
-- each specifier is a node. No word pays for more than it has bytes.
abbrev pub word_pays : Word → ℕ
word_pays Program = 2
word_pays End = 1
word_pays Table = 3
word_pays If = 1
word_pays Then = 1
word_pays Else = 1
word_pays While = 1
word_pays Do = 1
word_pays Read = 2
word_pays Write = 2
word_pays Join = 1
word_pays Not = 1
word_pays Project = 1
word_pays Select = 1
word_pays Exists = 1
word_pays All = 1
word_pays Update = 1
word_pays Extend = 1
word_pays Rename = 1

abbrev pub pays : Terminal → ℕ
pays (word w) = word_pays w
pays (domain d) = 3
pays (sign g) = 1
pays (logic o) = 1
pays (comparison o) = 1
pays (sum o) = 1
pays (product o) = 1
pays (truth b) = 1
pays (integer x) = 1
pays (string x) = 1
pays (name x) = 1
pays (broken r) = 1

abbrev pub pays_ahead : Option Terminal → ℕ
pays_ahead (Some t) = pays t
pays_ahead None = 0

-- how many nodes a token pays for, and the bytes behind it
abbrev pub worth_of : Option Terminal → Spot → ℕ
worth_of t s = pays_ahead t + length s.rest

-- the tokens of what is left
unfoldable pub following : Spot → List Token
following s = tokens_from s

-- the spot lies in the text, and what is left of it ends where the text ends
pub record Lies (text : Bytes) (s : Spot) : Type 0 where
  pub small : length text ≤ script_bytes
  pub inside : s.here.byte + length s.rest ≡ length text
  pub behind : s.rest ≡ drop s.here.byte text
  pub ending : end_from s.rest s.here.line s.here.byte ≡ end_of text

-- the bytes of the text from one number on are these
pub record Spells (text : Bytes) (from limit : ℕ) (x : Bytes) : Type 0 where
  pub bytes : take (length x) (drop from text) ≡ x
  pub inside : from + length x ≤ length text
  pub short : length x ≤ limit

-- what a token tells of its place: names and strings are parts of the text, integers are in range
abbrev pub Tells : Bytes → Terminal → Place → Type 0
Tells text (name x) p = Spells text p.byte name_bytes x
Tells text (string x) p = Spells text (p.byte + 1) string_bytes x
Tells text (integer x) p = value_of x ≤ integer_max
Tells text (word w) p = Unit {0}
Tells text (sign g) p = Unit {0}
Tells text (domain d) p = Unit {0}
Tells text (logic o) p = Unit {0}
Tells text (comparison o) p = Unit {0}
Tells text (sum o) p = Unit {0}
Tells text (product o) p = Unit {0}
Tells text (truth b) p = Unit {0}
Tells text (broken r) p = Unit {0}

abbrev pub TellsAhead : Bytes → Option Terminal → Place → Type 0
TellsAhead text (Some t) p = Tells text t p
TellsAhead text None p = p ≡ end_of text
