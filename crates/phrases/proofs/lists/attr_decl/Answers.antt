use Rattle.std.proofs.Common.{rules, arith}
use Rattle.std.proofs.lemmas.Result.{err_from_is_err_and}
use Rattle.phrases.proofs.LeafNodes.{type_read, name_read}
use Rattle.phrases.proofs.ListSteps.{attribute_first, attribute_second, attribute_found, attribute_held}
use Rattle.phrases.proofs.Puts.{done_put, answered, refusal}
use Rattle.phrases.proofs.Steps.{answers_err}
use Rattle.tree.proofs.Grown.{below_then, beyond_then}
use Rattle.phrases.proofs.lists.attr_decl.Goals as goal

pub returns-in_err-domain : goal.returns-in_err-domain
returns-in_err-domain c =
    record {
      lent = search rules;
      numbers = search rules;
      answer = λ text xs g. answers_err _ _ _ _ _ _ _ _ _ _ (err_from_is_err_and c.from_residual.result c.from_residual.ensures.1) (attribute_first _ _ _ (refusal _ _ _ _ _ _ _ _ _ (c.in_err-domain.ensures.follows.answer text _ g)));
    }

pub returns-in_err-name : goal.returns-in_err-name
returns-in_err-name c =
    record {
      lent = search rules;
      numbers = search rules;
      answer = λ text xs g.
          let d = answered _ _ _ _ _ _ _ _ _ (c.in_ok-domain.ensures.follows.answer text _ g) in
          answers_err _ _ _ _ _ _ _ _ _ _ (err_from_is_err_and c.from_residual-in_err-name.result c.from_residual-in_err-name.ensures.1) (attribute_second _ _ _ _ _ d.value (refusal _ _ _ _ _ _ _ _ _ (c.in_err-name.ensures.follows.answer text _ d.grounded)));
    }

pub returns : goal.returns
returns c =
    let n = c.in_ok-domain.ensures in
    let m = c.in_ok-name.ensures in
    record {
      lent = search rules;
      numbers = search rules;
      answer = λ text xs g.
          let d = answered _ _ _ _ _ _ _ _ _ (n.follows.answer text _ g) in
          let e = answered _ _ _ _ _ _ _ _ _ (m.follows.answer text _ d.grounded) in
          let (k, t) = type_read _ _ _ _ _ d.value in
          let (x, u) = name_read _ _ _ _ _ e.value in
          done_put _ _ _ _ _ _ _ _ _ _ _ _ _ c.put.ensures.state c.put.ensures.nodes c.put.ensures.root
          (attribute_found _ _ _ _ _ d.value e.value) e.grounded
          (below_then _ _ _ _ _ (omega (arith, n.follows.numbers.grown)) d.below e.below)
          (beyond_then _ _ _ _ _ (omega (arith, m.follows.numbers.grown)) d.beyond e.beyond)
          (omega (arith, n.follows.numbers.grown, m.follows.numbers.grown)) (omega (arith, n.spare, m.follows.numbers.thrifty, c.args.parser.now.room))
          (λ below says next. attribute_held text _ _ _ _ _ _ _ _ _ _ _ _ _ _ t u d.holds e.holds e.below below says next);
    }
