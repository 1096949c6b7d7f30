use Rattle.std.proofs.Common.{ap, sym, ◌∙◌, get_or, drop, suc, drop-cons, arith}
use Rattle.words.specs.Numbers.{value_on}
use Rattle.words.proofs.Values.{past_the_limit}
use Rattle.words.proofs.numbers.value_within.Goals as goal

pub returns-in_err-value : goal.returns-in_err-value
returns-in_err-value c =
    let i = c.loop-digit.digit-index in
    let ds = c.args.digits.now in
    let v = c.loop-digit.value in
    let whole = ap (value_on v) (sym (drop-cons ds i 0 (omega arith))) ∙ c.loop-digit.invariant.2 in
    rw c.from_residual.ensures (past_the_limit c.args.limit v (get_or ds i 0) (drop (suc i) ds) ds whole c.in_err-value.ensures)
