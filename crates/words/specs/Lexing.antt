-- The next token of a text, as a function: separators are passed, then the longest token is taken or refused.
use Rattle.std.specs.Prelude.{ℕ, zero, suc, ◌+◌, ◌-◌, true, false, cond, List, [], ◌∷◌, length, take, drop, Some, None, Option, ◌==◌, nat_le, slice_index}
use Rattle.fault.specs.Limits.{name_bytes, string_bytes, integer_max}
use Rattle.fault.specs.declared.rules.Rule.{Rule}
use Rattle.fault.specs.declared.rules.Rule.TheVariants.{NoToken, TokenTooLarge}
use Rattle.words.specs.declared.keywords.Keyword.{Keyword}
use Rattle.words.specs.declared.keywords.Keyword.TheVariants as keyword
use Rattle.words.specs.declared.symbols.Symbol.{Symbol}
use Rattle.words.specs.declared.symbols.Symbol.TheVariants as symbol
use Rattle.words.specs.Letters.{letter, digit, name_byte, plain, feed, blank, run}
use Rattle.words.specs.Numbers.{value_of}
use Rattle.words.specs.Spelling.{keyword_of, Front, Front.sign_then, Front.no_sign, symbol_at}
use Rattle.words.specs.Tokens.{Bytes, Place, Terminal, Token, Token.◌at◌}
use Rattle.words.specs.Tokens.{Terminal.word, Terminal.domain, Terminal.logic, Terminal.truth, Terminal.sign, Terminal.comparison, Terminal.sum, Terminal.product, Terminal.name, Terminal.integer, Terminal.string, Terminal.broken}

-- a rest of the text, and the place where it begins
pub record Spot : Type 0 where
  pub rest : Bytes
  pub here : Place

abbrev pub place : ℕ → ℕ → Place
place l b = record { line = l; byte = b }

-- the first byte of a text
abbrev pub start : Bytes → Spot
start text = record { rest = text; here = place 1 0 }

-- n bytes further on the same line
abbrev pub further : ℕ → Spot → Spot
further n s = record { rest = drop n s.rest; here = place s.here.line (s.here.byte + n) }

-- behind the separators: a line feed begins a line
abbrev pub skipped : Bytes → ℕ → ℕ → Spot
skipped [] l b = record { rest = []; here = place l b }
skipped (x ∷ rest) l b =
    elim (feed x) [
      | true ↦ skipped rest (l + 1) (b + 1)
      | false ↦ elim (blank x) [ true ↦ skipped rest l (b + 1) | false ↦ record { rest = x ∷ rest; here = place l b } ]
    ]

-- what a scanner finds, and the spot behind it: a token, or the end of the text with its place; else the rule that is broken
pub data Scan : Type 0 where
  found : Token → Spot → Scan
  ended : Place → Spot → Scan
  faulty : Rule → Place → Scan

-- the first n bytes are this terminal
abbrev pub taken : Terminal → ℕ → Spot → Scan
taken t n s = found (t at s.here) (further n s)

abbrev pub keyword_terminal : Keyword → Terminal
keyword_terminal (keyword.Word w) = word w
keyword_terminal (keyword.Domain d) = domain d
keyword_terminal (keyword.Logic o) = logic o
keyword_terminal (keyword.Truth b) = truth b

abbrev pub symbol_terminal : Symbol → Terminal
symbol_terminal (symbol.Sign x) = sign x
symbol_terminal (symbol.Comparison o) = comparison o
symbol_terminal (symbol.Sum o) = sum o
symbol_terminal (symbol.Product o) = product o

-- a keyword, or else a name
abbrev pub word_or_name : Option Keyword → Bytes → Terminal
word_or_name (Some k) s = keyword_terminal k
word_or_name None s = name s

-- a letter begins a word or a name, as far as name bytes go
abbrev pub name_at : Spot → Scan
name_at s =
    let n = run name_byte s.rest in
    let bytes = take n s.rest in
    cond (nat_le n name_bytes) (taken (word_or_name (keyword_of bytes) bytes) n s) (faulty TokenTooLarge s.here)

-- a digit begins an integer, as far as digits go
abbrev pub integer_at : ℕ → Spot → Scan
integer_at limit s =
    let n = run digit s.rest in
    let bytes = take n s.rest in
    cond (nat_le (value_of bytes) limit) (taken (integer bytes) n s) (faulty TokenTooLarge s.here)

-- a quote begins a string, up to the next quote; a barred byte or the end before that is no token, whatever the size
abbrev pub string_at : Spot → Scan
string_at s =
    let inside = drop 1 s.rest in
    let n = run plain inside in
    cond (slice_index inside n == 34)
    (cond (nat_le n string_bytes) (taken (string (take n inside)) (n + 2) s) (faulty TokenTooLarge s.here))
    (faulty NoToken s.here)

-- anything else is a sign or no token
abbrev pub symbol_scan : Front → Spot → Scan
symbol_scan (sign_then x rest) s = taken (symbol_terminal x) (length s.rest - length rest) s
symbol_scan no_sign s = faulty NoToken s.here

abbrev pub sign_at : Spot → Scan
sign_at s = symbol_scan (symbol_at s.rest) s

-- by the first byte
abbrev pub token_by : Bytes → Spot → Scan
token_by [] s = ended s.here s
token_by (b ∷ rest) s =
    cond (b == 34) (string_at s) (cond (letter b) (name_at s) (cond (digit b) (integer_at integer_max s) (sign_at s)))

abbrev pub token_at : Spot → Scan
token_at s = token_by s.rest s

-- the next token of what is left
abbrev pub next : Spot → Scan
next s = token_at (skipped s.rest s.here.line s.here.byte)

-- a scan, and what the tokens behind it are
abbrev pub followed : (Spot → List Token) → Scan → List Token
followed more (found t s) = t ∷ more s
followed more (ended p s) = []
followed more (faulty r p) = (broken r at p) ∷ []

-- the tokens of what is left, at most n; what is no token comes last
abbrev pub tokens_in : ℕ → Spot → List Token
tokens_in zero = λ s. []
tokens_in (suc n) = λ s. followed (tokens_in n) (next s)

-- the tokens of what is left: a token takes a byte at least
abbrev pub tokens_from : Spot → List Token
tokens_from s = tokens_in (suc (length s.rest)) s

-- the tokens of a text
abbrev pub tokens : Bytes → List Token
tokens text = tokens_from (start text)

-- the place behind the last byte
abbrev pub end_from : Bytes → ℕ → ℕ → Place
end_from [] l b = place l b
end_from (x ∷ rest) l b = elim (feed x) [ true ↦ end_from rest (l + 1) (b + 1) | false ↦ end_from rest l (b + 1) ]

abbrev pub end_of : Bytes → Place
end_of text = end_from text 1 0
