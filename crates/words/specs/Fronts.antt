-- What `take_symbol` answers, apart from where the bytes lie.
use Rattle.std.specs.Prelude.{Some, None, Option}
use Rattle.words.specs.declared.symbols.Signed.{Signed}
use Rattle.words.specs.Spelling.{Front, Front.sign_then, Front.no_sign}

abbrev pub front_of : Option Signed → Front
front_of (Some s) = sign_then s.symbol s.rest.now
front_of None = no_sign
