-- Tokens by what they say: the bytes of a name, an integer or a string, apart from where they lie.
use Rattle.std.specs.Prelude.{ℕ, Bool, List}
use Rattle.domain.specs.declared.Domain.{Domain}
use Rattle.fault.specs.declared.places.Place.{Place as AnyPlace}
use Rattle.fault.specs.declared.rules.Rule.{Rule}
use Rattle.words.specs.declared.tokens.Word.{Word}
use Rattle.words.specs.declared.tokens.Logic.{Logic}
use Rattle.words.specs.declared.tokens.Comparison.{Comparison}
use Rattle.words.specs.declared.tokens.Sum.{Sum}
use Rattle.words.specs.declared.tokens.Product.{Product}
use Rattle.words.specs.declared.tokens.Sign.{Sign}

abbrev pub Bytes : Type 0
Bytes = List ℕ

-- a line, from 1, and a byte, from 0, counted from the start of the text
abbrev pub Place : Type 0
Place = AnyPlace

-- what a token stands for in the grammar; `broken` is no token, with the rule that it breaks
pub data Terminal : Type 0 where
  word : Word → Terminal
  domain : Domain → Terminal
  logic : Logic → Terminal
  truth : Bool → Terminal
  sign : Sign → Terminal
  comparison : Comparison → Terminal
  sum : Sum → Terminal
  product : Product → Terminal
  name integer string : Bytes → Terminal
  broken : Rule → Terminal

infix 70 ◌at◌
-- a token of a text, and the place where it begins
pub data Token : Type 0 where
  ◌at◌ : Terminal → Place → Token
