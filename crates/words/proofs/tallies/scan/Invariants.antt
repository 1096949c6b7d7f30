-- The tokens that are left, counted on, give the whole tally; a token has a byte at least.
use Rattle.std.proofs.Common.{◌≡◌, ◌+◌, ◌≤◌, length}
use Rattle.fault.specs.Limits.{script_bytes}
use Rattle.words.specs.Lexing.{tokens, tokens_from}
use Rattle.words.specs.Sizes.{text_bytes}
use Rattle.words.specs.Tallies.{nothing, total, tallied}
use Rattle.words.specs.Views.{standing}
use Rattle.words.proofs.tallies.scan.Given as goal

abbrev pub invariant-loop-lexeme : goal.invariant-loop-lexeme
invariant-loop-lexeme l =
    (total l.tally + length (standing l.scanner).rest ≤ script_bytes)
    × (tallied l.tally (tokens_from (standing l.scanner)) ≡ tallied nothing (tokens (text_bytes l.text)))

abbrev pub decreases-loop-lexeme : goal.decreases-loop-lexeme
decreases-loop-lexeme l = length (standing l.scanner).rest
