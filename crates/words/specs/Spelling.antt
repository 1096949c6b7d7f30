-- How words and signs are spelt: the 26 words and the 19 signs, each once.
use Rattle.std.specs.Prelude.{ℕ, true, false, cond, ◌&&◌, List, [], ◌∷◌, Some, None, codes, Option, ◌==◌}
use Rattle.std.specs.Str.{bytes_eq}
use Rattle.domain.specs.declared.Domain.TheVariants.{Integer, String, Boolean}
use Rattle.words.specs.declared.tokens.Word.TheVariants.{Program, End, Table, If, Then, Else, While, Do, Read, Write, Join, Not, Project, Select, Exists, All, Update, Extend, Rename}
use Rattle.words.specs.declared.tokens.Logic.TheVariants.{And, Or}
use Rattle.words.specs.declared.tokens.Comparison.TheVariants.{Equal, NotEqual, Greater, GreaterEqual, Less, LessEqual}
use Rattle.words.specs.declared.tokens.Sum.TheVariants.{Plus, Minus}
use Rattle.words.specs.declared.tokens.Product.TheVariants.{Times, Divide}
use Rattle.words.specs.declared.tokens.Sign.TheVariants.{LeftParenthesis, RightParenthesis, LeftBracket, RightBracket, LeftBrace, RightBrace, Semicolon, Comma, Assign}
use Rattle.words.specs.declared.keywords.Keyword.{Keyword}
use Rattle.words.specs.declared.keywords.Keyword.TheVariants as keyword
use Rattle.words.specs.declared.symbols.Symbol.{Symbol}
use Rattle.words.specs.declared.symbols.Symbol.TheVariants as symbol
use Rattle.words.specs.Tokens.{Bytes}

-- the 26 words: of programs and statements, of operators, of domains, connectives and truth values
abbrev pub spellings : List (Bytes × Keyword)
spellings =
    (codes "program", keyword.Word Program) ∷
    (codes "end", keyword.Word End) ∷
    (codes "table", keyword.Word Table) ∷
    (codes "if", keyword.Word If) ∷
    (codes "then", keyword.Word Then) ∷
    (codes "else", keyword.Word Else) ∷
    (codes "while", keyword.Word While) ∷
    (codes "do", keyword.Word Do) ∷
    (codes "read", keyword.Word Read) ∷
    (codes "write", keyword.Word Write) ∷
    (codes "join", keyword.Word Join) ∷
    (codes "not", keyword.Word Not) ∷
    (codes "project", keyword.Word Project) ∷
    (codes "select", keyword.Word Select) ∷
    (codes "exists", keyword.Word Exists) ∷
    (codes "all", keyword.Word All) ∷
    (codes "update", keyword.Word Update) ∷
    (codes "extend", keyword.Word Extend) ∷
    (codes "rename", keyword.Word Rename) ∷
    (codes "integer", keyword.Domain Integer) ∷
    (codes "string", keyword.Domain String) ∷
    (codes "boolean", keyword.Domain Boolean) ∷
    (codes "and", keyword.Logic And) ∷
    (codes "or", keyword.Logic Or) ∷
    (codes "true", keyword.Truth true) ∷
    (codes "false", keyword.Truth false) ∷ []

-- the first of these words that is spelt so
abbrev pub spelt_among : List (Bytes × Keyword) → Bytes → Option Keyword
spelt_among [] s = None
spelt_among (w ∷ ws) s = cond (bytes_eq s w.0) (Some w.1) (spelt_among ws s)

-- the word that is spelt so, if it is one of the 26
unfoldable pub keyword_of : Bytes → Option Keyword
keyword_of s = spelt_among spellings s

-- two bytes that are one sign: == != >= <=
abbrev pub pair_of : ℕ → ℕ → Option Symbol
pair_of a b =
    cond (a == 61 && b == 61) (Some (symbol.Comparison Equal))
    (cond (a == 33 && b == 61) (Some (symbol.Comparison NotEqual))
    (cond (a == 62 && b == 61) (Some (symbol.Comparison GreaterEqual))
    (cond (a == 60 && b == 61) (Some (symbol.Comparison LessEqual)) None)))

-- one byte that is a sign: = > < + - * / ( ) [ ] { } ; ,
abbrev pub single_of : ℕ → Option Symbol
single_of a =
    cond (a == 61) (Some (symbol.Sign Assign))
    (cond (a == 62) (Some (symbol.Comparison Greater))
    (cond (a == 60) (Some (symbol.Comparison Less))
    (cond (a == 43) (Some (symbol.Sum Plus))
    (cond (a == 45) (Some (symbol.Sum Minus))
    (cond (a == 42) (Some (symbol.Product Times))
    (cond (a == 47) (Some (symbol.Product Divide))
    (cond (a == 40) (Some (symbol.Sign LeftParenthesis))
    (cond (a == 41) (Some (symbol.Sign RightParenthesis))
    (cond (a == 91) (Some (symbol.Sign LeftBracket))
    (cond (a == 93) (Some (symbol.Sign RightBracket))
    (cond (a == 123) (Some (symbol.Sign LeftBrace))
    (cond (a == 125) (Some (symbol.Sign RightBrace))
    (cond (a == 59) (Some (symbol.Sign Semicolon))
    (cond (a == 44) (Some (symbol.Sign Comma)) None))))))))))))))

-- a sign at the front of a text, and what follows it
pub data Front : Type 0 where
  sign_then : Symbol → Bytes → Front
  no_sign : Front

abbrev pub before : Option Symbol → Bytes → Front → Front
before (Some x) rest other = sign_then x rest
before None rest other = other

-- two bytes and the rest, then one and the rest
abbrev pub symbol_at : Bytes → Front
symbol_at [] = no_sign
symbol_at (a ∷ []) = before (single_of a) [] no_sign
symbol_at (a ∷ b ∷ rest) = before (pair_of a b) rest (before (single_of a) (b ∷ rest) no_sign)
