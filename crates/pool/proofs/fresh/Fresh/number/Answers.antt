use Rattle.std.proofs.Common.{None, ap, ◌∙◌}
use Rattle.pool.specs.Strings.{position, numbered, parts}
use Rattle.pool.proofs.Positions.{in_first, number_new}
use Rattle.pool.proofs.fresh.Fresh.number.Goals as goal

pub returns-in-Some-clause-value : goal.returns-in-Some-clause-value
returns-in-Some-clause-value c = in_first (numbered c.args.source.known) (parts c.args.source.text.now c.args.self.now.spans.items) c.args.wanted.now c.in-Some.number c.in-Some.ensures.value

pub returns-in_err-i-clause-value : goal.returns-in_err-i-clause-value
returns-in_err-i-clause-value c =
    let items = ap (λ z. position (parts c.args.source.text.now z) c.args.wanted.now) c.as_slice.ensures.value in
    c.from_residual.ensures ∙ number_new c.args.source.known (parts c.args.source.text.now c.args.self.now.spans.items) c.args.wanted.now None c.in_default.ensures.value (c.in_err-i.ensures.value ∙ items)

pub returns-clause-value : goal.returns-clause-value
returns-clause-value c =
    let items = ap (λ z. position (parts c.args.source.text.now z) c.args.wanted.now) c.as_slice.ensures.value in
    number_new c.args.source.known (parts c.args.source.text.now c.args.self.now.spans.items) c.args.wanted.now _ c.in_default.ensures.value (c.in_ok-i.ensures.value ∙ items)
