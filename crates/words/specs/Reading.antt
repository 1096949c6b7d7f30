-- What the words of a text are, in the subject's own terms: spelling, the longest token, the limits.
-- The scanner of Lexing.antt is proved to find exactly what this page says.
use Rattle.std.specs.Prelude.{◌≡◌, ℕ, ◌+◌, ◌<◌, ◌≤◌, true, false, ◌||◌, List, [], ◌∷◌, ◌++◌, length, codes}
use Rattle.domain.specs.Domains as domains
use Rattle.fault.specs.Limits.{name_bytes, string_bytes, integer_max}
use Rattle.fault.specs.declared.rules.Rule.TheVariants.{NoToken, TokenTooLarge}
use Rattle.words.specs.declared.tokens.Word.{Word}
use Rattle.words.specs.declared.tokens.Word.TheVariants.{Program, End, Table, If, Then, Else, While, Do, Read, Write, Join, Not, Project, Select, Exists, All, Update, Extend, Rename}
use Rattle.words.specs.declared.tokens.Logic.TheVariants.{And, Or}
use Rattle.words.specs.declared.tokens.Comparison.TheVariants.{Equal, NotEqual, Greater, GreaterEqual, Less, LessEqual}
use Rattle.words.specs.declared.tokens.Sum.TheVariants.{Plus, Minus}
use Rattle.words.specs.declared.tokens.Product.TheVariants.{Times, Divide}
use Rattle.words.specs.declared.tokens.Sign.TheVariants.{LeftParenthesis, RightParenthesis, LeftBracket, RightBracket, LeftBrace, RightBrace, Semicolon, Comma, Assign}
use Rattle.words.specs.declared.keywords.Keyword.{Keyword}
use Rattle.words.specs.declared.keywords.Keyword.TheVariants as keyword
use Rattle.words.specs.declared.symbols.Symbol.{Symbol}
use Rattle.words.specs.declared.symbols.Symbol.TheVariants as symbol
use Rattle.words.specs.Letters.{letter, digit, name_byte, plain, feed, blank, every}
use Rattle.words.specs.Lexing.{place, tokens}
use Rattle.words.specs.Numbers.{value_of}
use Rattle.words.specs.Tokens.{Bytes, Place, Terminal, Token, Token.◌at◌}
use Rattle.words.specs.Tokens.{Terminal.word, Terminal.domain, Terminal.logic, Terminal.truth, Terminal.sign, Terminal.comparison, Terminal.sum, Terminal.product, Terminal.name, Terminal.integer, Terminal.string, Terminal.broken}

abbrev pub word_spelling : Word → Bytes
word_spelling Program = codes "program"
word_spelling End = codes "end"
word_spelling Table = codes "table"
word_spelling If = codes "if"
word_spelling Then = codes "then"
word_spelling Else = codes "else"
word_spelling While = codes "while"
word_spelling Do = codes "do"
word_spelling Read = codes "read"
word_spelling Write = codes "write"
word_spelling Join = codes "join"
word_spelling Not = codes "not"
word_spelling Project = codes "project"
word_spelling Select = codes "select"
word_spelling Exists = codes "exists"
word_spelling All = codes "all"
word_spelling Update = codes "update"
word_spelling Extend = codes "extend"
word_spelling Rename = codes "rename"

-- the 26 words
abbrev pub keyword_spelling : Keyword → Bytes
keyword_spelling (keyword.Word w) = word_spelling w
keyword_spelling (keyword.Domain d) = domains.word_of d
keyword_spelling (keyword.Logic And) = codes "and"
keyword_spelling (keyword.Logic Or) = codes "or"
keyword_spelling (keyword.Truth true) = codes "true"
keyword_spelling (keyword.Truth false) = codes "false"

-- the 19 signs
abbrev pub symbol_spelling : Symbol → Bytes
symbol_spelling (symbol.Sign LeftParenthesis) = codes "("
symbol_spelling (symbol.Sign RightParenthesis) = codes ")"
symbol_spelling (symbol.Sign LeftBracket) = codes "["
symbol_spelling (symbol.Sign RightBracket) = codes "]"
symbol_spelling (symbol.Sign LeftBrace) = codes "{"
symbol_spelling (symbol.Sign RightBrace) = codes "}"
symbol_spelling (symbol.Sign Semicolon) = codes ";"
symbol_spelling (symbol.Sign Comma) = codes ","
symbol_spelling (symbol.Sign Assign) = codes "="
symbol_spelling (symbol.Comparison Equal) = codes "=="
symbol_spelling (symbol.Comparison NotEqual) = codes "!="
symbol_spelling (symbol.Comparison Greater) = codes ">"
symbol_spelling (symbol.Comparison GreaterEqual) = codes ">="
symbol_spelling (symbol.Comparison Less) = codes "<"
symbol_spelling (symbol.Comparison LessEqual) = codes "<="
symbol_spelling (symbol.Sum Plus) = codes "+"
symbol_spelling (symbol.Sum Minus) = codes "-"
symbol_spelling (symbol.Product Times) = codes "*"
symbol_spelling (symbol.Product Divide) = codes "/"

-- a name is a letter, then letters, digits and underscores, and none of the 26 words
abbrev pub Named : Bytes → Type 0
Named [] = ⊥
Named (b ∷ s) = (letter b ≡ true) × (every name_byte s ≡ true) × ((k : Keyword) → ¬ (b ∷ s ≡ keyword_spelling k))

-- the bytes that spell a terminal, whatever their number; a double quote is 34
abbrev pub Spells : Terminal → Bytes → Type 0
Spells (word w) s = s ≡ keyword_spelling (keyword.Word w)
Spells (domain d) s = s ≡ keyword_spelling (keyword.Domain d)
Spells (logic o) s = s ≡ keyword_spelling (keyword.Logic o)
Spells (truth b) s = s ≡ keyword_spelling (keyword.Truth b)
Spells (sign x) s = s ≡ symbol_spelling (symbol.Sign x)
Spells (comparison o) s = s ≡ symbol_spelling (symbol.Comparison o)
Spells (sum o) s = s ≡ symbol_spelling (symbol.Sum o)
Spells (product o) s = s ≡ symbol_spelling (symbol.Product o)
Spells (name n) s = (s ≡ n) × Named n
Spells (integer ds) s = (s ≡ ds) × (0 < length ds) × (every digit ds ≡ true)
Spells (string bs) s = (s ≡ 34 ∷ (bs ++ 34 ∷ [])) × (every plain bs ≡ true)
Spells (broken r) s = ⊥

-- the limits of a token
abbrev pub Fits : Terminal → Type 0
Fits (word w) = Unit {0}
Fits (domain d) = Unit {0}
Fits (logic o) = Unit {0}
Fits (truth b) = Unit {0}
Fits (sign x) = Unit {0}
Fits (comparison o) = Unit {0}
Fits (sum o) = Unit {0}
Fits (product o) = Unit {0}
Fits (name n) = length n ≤ name_bytes
Fits (integer ds) = value_of ds ≤ integer_max
Fits (string bs) = length bs ≤ string_bytes
Fits (broken r) = Unit {0}

-- no token is longer than these bytes in front of the rest
abbrev pub Longest : Bytes → Bytes → Type 0
Longest front rest =
    (more tail : Bytes) (t : Terminal) → rest ≡ more ++ tail → 0 < length more → ¬ (Spells t (front ++ more))

-- no token begins these bytes
abbrev pub NoneBegins : Bytes → Type 0
NoneBegins s = (front tail : Bytes) (t : Terminal) → s ≡ front ++ tail → ¬ (Spells t front)

-- t is the longest token that begins these bytes, and rest are the bytes behind it
pub record Begins (s : Bytes) (t : Terminal) (front rest : Bytes) : Type 0 where
  pub cut : s ≡ front ++ rest
  pub spelt : Spells t front
  pub longest : Longest front rest

-- n bytes on, on the same line, and the first byte of the next line
abbrev pub along : ℕ → Place → Place
along n p = place p.line (p.byte + n)

abbrev pub newline : Place → Place
newline p = place (p.line + 1) (p.byte + 1)

-- `Scanned p s ts`: the bytes s, which begin at p, are the tokens ts with separators between them.
-- What is no token ends the list: the first place where no token begins, or where the longest one is too large.
pub data Scanned : Place → Bytes → List Token → Type 0 where
  finished : {p : Place} → Scanned p [] []
  line_passed : {p : Place} {s : Bytes} {ts : List Token} → Scanned (newline p) s ts → Scanned p (10 ∷ s) ts
  blank_passed : {p : Place} {b : ℕ} {s : Bytes} {ts : List Token} → blank b ≡ true → Scanned (along 1 p) s ts → Scanned p (b ∷ s) ts
  token_read : {p : Place} {s : Bytes} {ts : List Token} (t : Terminal) (front rest : Bytes) →
      Begins s t front rest → Fits t → Scanned (along (length front) p) rest ts → Scanned p s ((t at p) ∷ ts)
  token_too_large : {p : Place} {s : Bytes} (t : Terminal) (front rest : Bytes) →
      Begins s t front rest → ¬ (Fits t) → Scanned p s ((broken TokenTooLarge at p) ∷ [])
  no_token : {p : Place} {b : ℕ} {s : Bytes} →
      (feed b || blank b) ≡ false → NoneBegins (b ∷ s) → Scanned p (b ∷ s) ((broken NoToken at p) ∷ [])

-- every text is scanned, and its tokens are those that the scanner gives
abbrev pub EveryTextIsScanned : Type 0
EveryTextIsScanned = (text : Bytes) → Scanned (place 1 0) text (tokens text)

-- a text has one list of tokens
abbrev pub OneListOfTokens : Type 0
OneListOfTokens = (p : Place) (s : Bytes) (ts us : List Token) → Scanned p s ts → Scanned p s us → ts ≡ us
