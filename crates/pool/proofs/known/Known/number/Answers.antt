use Rattle.std.proofs.Common.{None, sym, ◌∙◌}
use Rattle.pool.proofs.Positions.{number_literal, number_entry}
use Rattle.pool.proofs.known.Known.number.Goals as goal

pub returns-in-Some-clause-value : goal.returns-in-Some-clause-value
returns-in-Some-clause-value c = number_literal c.args.self c.args.wanted.now c.in-Some.i (sym c.is_empty.ensures ∙ c.if-is_empty.false) c.in-Some.ensures.value

pub returns-in_err-i-clause-value : goal.returns-in_err-i-clause-value
returns-in_err-i-clause-value c = c.from_residual.ensures ∙ number_entry c.args.self c.args.wanted.now None (sym c.is_empty.ensures ∙ c.if-is_empty.false) c.in_default.ensures.value c.in_err-i.ensures.value

pub returns-clause-value : goal.returns-clause-value
returns-clause-value c = number_entry c.args.self c.args.wanted.now _ (sym c.is_empty.ensures ∙ c.if-is_empty.false) c.in_default.ensures.value c.in_ok-i.ensures.value
