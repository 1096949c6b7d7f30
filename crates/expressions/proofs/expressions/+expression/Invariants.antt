use Rattle.std.proofs.Common.{ℕ, ◌+◌, ◌*◌}
use Rattle.phrases.specs.States.{worth}
use Rattle.expressions.specs.declared.sorts.Level.{Level}
use Rattle.expressions.specs.declared.sorts.Level.TheVariants as rank
use Rattle.expressions.proofs.expressions.+expression.Given as goal

abbrev height : Level → ℕ
height rank.Logic = 26
height rank.Comparison = 23
height rank.Compared = 23
height rank.Sum = 20
height rank.Product = 17

abbrev pub decreases-assigned : goal.decreases-assigned
decreases-assigned l = 32 * worth l.parser.now + 8

abbrev pub decreases-bool_term : goal.decreases-bool_term
decreases-bool_term l = 32 * worth l.parser.now + 25

abbrev pub decreases-bracket : goal.decreases-bracket
decreases-bracket l = 32 * worth l.parser.now + 4

abbrev pub decreases-comp_term : goal.decreases-comp_term
decreases-comp_term l = 32 * worth l.parser.now + 22

abbrev pub decreases-enclosed : goal.decreases-enclosed
decreases-enclosed l = 32 * worth l.parser.now + 2

abbrev pub decreases-expr : goal.decreases-expr
decreases-expr l = 32 * worth l.parser.now + 28

abbrev pub decreases-extended : goal.decreases-extended
decreases-extended l = 32 * worth l.parser.now + 29

abbrev pub decreases-factor : goal.decreases-factor
decreases-factor l = 32 * worth l.parser.now + 16

abbrev pub decreases-inside : goal.decreases-inside
decreases-inside l = 32 * worth l.parser.now + 30

abbrev pub decreases-low_term : goal.decreases-low_term
decreases-low_term l = 32 * worth l.parser.now + 19

abbrev pub decreases-negation : goal.decreases-negation
decreases-negation l = 32 * worth l.parser.now + 2

abbrev pub decreases-unary : goal.decreases-unary
decreases-unary l = 32 * worth l.parser.now + 2

abbrev pub decreases-more : goal.decreases-more
decreases-more l = 32 * worth l.parser.now + 1

abbrev pub decreases-operated : goal.decreases-operated
decreases-operated l = 32 * worth l.parser.now + 0

abbrev pub decreases-joined : goal.decreases-joined
decreases-joined l = 32 * worth l.parser.now + 0

abbrev pub decreases-operand : goal.decreases-operand
decreases-operand l = 32 * worth l.parser.now + height l.level

abbrev pub decreases-level : goal.decreases-level
decreases-level l = 32 * worth l.parser.now + (height l.level + 1)
