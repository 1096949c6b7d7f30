-- What the code's values say, apart from where their bytes lie. References are compared through these views alone.
use Rattle.std.specs.Prelude.{◌≡◌, ℕ, ◌+◌, ◌≤◌, length, Some, None, Ok, Err, Option, Result}
use Rattle.fault.specs.declared.rules.Fault.{Fault}
use Rattle.words.specs.declared.cursors.Cursor.{Cursor}
use Rattle.words.specs.declared.cursors.Found.{Found}
use Rattle.words.specs.declared.scanners.Scanner.{Scanner}
use Rattle.words.specs.declared.tokens.Lexeme.{Lexeme}
use Rattle.words.specs.declared.tokens.Token.{Token as Borrowed}
use Rattle.words.specs.declared.tokens.Token.TheVariants as borrowed
use Rattle.words.specs.Lexing.{Spot, Scan, Scan.found, Scan.ended, Scan.faulty}
use Rattle.words.specs.Tokens.{Place, Terminal, Token.◌at◌}
use Rattle.words.specs.Tokens.{Terminal.word, Terminal.domain, Terminal.logic, Terminal.truth, Terminal.sign, Terminal.comparison, Terminal.sum, Terminal.product, Terminal.name, Terminal.integer, Terminal.string}

abbrev pub spot_of : Cursor → Spot
spot_of c = record { rest = c.rest.now; here = c.place }

abbrev pub standing : Scanner → Spot
standing s = spot_of s.at

-- the terminal that a token says; the end of the text says none
abbrev pub spoken : Borrowed → Option Terminal
spoken borrowed.End = None
spoken (borrowed.Word w) = Some (word w)
spoken (borrowed.Domain d) = Some (domain d)
spoken (borrowed.Logic o) = Some (logic o)
spoken (borrowed.Truth b) = Some (truth b)
spoken (borrowed.Sign x) = Some (sign x)
spoken (borrowed.Comparison o) = Some (comparison o)
spoken (borrowed.Sum o) = Some (sum o)
spoken (borrowed.Product o) = Some (product o)
spoken (borrowed.Name b) = Some (name b.now)
spoken (borrowed.Integer b) = Some (integer b.now)
spoken (borrowed.Text b) = Some (string b.now)

-- a terminal at a place with the spot behind it, or the end
abbrev pub heard : Option Terminal → Place → Spot → Scan
heard (Some t) p s = found (t at p) s
heard None p s = ended p s

-- 1 for a token, which takes bytes of the text, and 0 for its end
abbrev pub weight : Option Terminal → ℕ
weight (Some t) = 1
weight None = 0

-- what reading one token at a spot answers
abbrev pub found_at : Spot → Result Found Fault → Scan
found_at s (Ok f) = heard (spoken f.token) s.here (spot_of f.after)
found_at s (Err f) = faulty f.rule f.place

-- the token takes its bytes from what is left
abbrev pub Onward : Spot → Result Found Fault → Type 0
Onward s (Ok f) = length f.after.rest.now + weight (spoken f.token) ≤ length s.rest
Onward s (Err f) = Unit {0}

-- reading one token at a cursor answers what the scan of its spot does, and a token takes its bytes
pub record Scans (scan : Spot → Scan) (from : Cursor) (reply : Result Found Fault) : Type 0 where
  pub value : found_at (spot_of from) reply ≡ scan (spot_of from)
  pub onward : Onward (spot_of from) reply

-- what a scanner answers, by where it stands then
abbrev pub answer : Spot → Result Lexeme Fault → Scan
answer s (Ok l) = heard (spoken l.token) l.place s
answer s (Err f) = faulty f.rule f.place

-- a token leaves less of the text; a fault leaves the scanner where it was
abbrev pub Moved : Spot → Spot → Result Lexeme Fault → Type 0
Moved before after (Ok l) = length after.rest + weight (spoken l.token) ≤ length before.rest
Moved before after (Err f) = after ≡ before
