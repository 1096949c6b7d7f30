use Rattle.std.proofs.Common.{◌-◌, ◌≤◌, refl, sym, ◌∙◌, inl, inr, arith}
use Rattle.std.proofs.lemmas.Bool.{eqb-true, eq-eqb}
use Rattle.excerpt.proofs.Slices.{rest_length, rest_byte, byte_behind}
use Rattle.excerpt.proofs.line_end.Goals as goal

pub returns-in-Some : goal.returns-in-Some
returns-in-Some c =
    let f = c.in-Some.ensures in
    let text = c.args.text.now in
    let start = c.min-start.result in
    let long = rest_length text start in
    record {
      behind = omega (arith, c.min-start.ensures);
      within = omega (arith, long, f.0.high, c.min-start.ensures);
      ends = inr (sym (rest_byte text start c.in-Some.feed) ∙ eqb-true _ _ f.1);
      none = λ k low high feed.
          let from : start ≤ k = omega (arith, low, c.min-start.ensures) in
          f.0.before (k - start) (omega arith) (omega (arith, high, from)) (eq-eqb _ _ (byte_behind text start k from ∙ feed));
    }

pub returns-in-None : goal.returns-in-None
returns-in-None c =
    let f = c.in-None.ensures in
    let text = c.args.text.now in
    let start = c.min-start.result in
    let long = rest_length text start in
    record {
      behind = omega arith;
      within = omega arith;
      ends = inl refl;
      none = λ k low high feed.
          let from : start ≤ k = omega (arith, low, c.min-start.ensures) in
          f (k - start) (omega arith) (omega (arith, high, from, long)) (eq-eqb _ _ (byte_behind text start k from ∙ feed));
    }
