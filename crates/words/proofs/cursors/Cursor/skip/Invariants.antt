-- What is left of the text gives the whole answer.
use Rattle.std.proofs.Common.{◌≡◌, ◌+◌, ◌≤◌, length}
use Rattle.words.specs.Lexing.{skipped}
use Rattle.words.proofs.cursors.Cursor.skip.Given as goal

abbrev pub invariant-loop-rest : goal.invariant-loop-rest
invariant-loop-rest l =
    (l.byte + length l.rest ≡ l.self.place.byte + length l.self.rest.now)
    × (l.line ≤ l.byte + 1)
    × (length l.rest ≤ length l.self.rest.now)
    × (skipped l.rest l.line l.byte ≡ skipped l.self.rest.now l.self.place.line l.self.place.byte)

abbrev pub decreases-loop-rest : goal.decreases-loop-rest
decreases-loop-rest l = length l.rest
