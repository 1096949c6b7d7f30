use Rattle.std.proofs.Common.{rules, sym, subst, arith}
use Rattle.std.proofs.lemmas.Result.{err_from_is_err_and}
use Rattle.words.specs.Lexing.{end_of}
use Rattle.grammar.specs.Parts.{tuple_constant, place_part, Level.constant_level}
use Rattle.phrases.specs.Held.{Held}
use Rattle.phrases.specs.declared.sorts.Listed.TheVariants as listed
use Rattle.phrases.specs.States.{ahead_at}
use Rattle.phrases.proofs.ListSteps.{tuple_first, tuple_second, tuple_third, tuple_found, tuple_held}
use Rattle.phrases.proofs.Puts.{done_put, answered, refusal}
use Rattle.phrases.proofs.Steps.{answers_err, expected_ok, expected_broken}
use Rattle.phrases.proofs.lists.tuple_const.Goals as goal

pub returns-in_err-expect : goal.returns-in_err-expect
returns-in_err-expect c =
    λ n. record {
      lent = search rules;
      numbers = search rules;
      answer = λ text xs g. answers_err _ text _ _ _ _ _ _ _ _ (err_from_is_err_and c.from_residual.result c.from_residual.ensures.1) (tuple_first (end_of text) n _ _ (expected_broken text _ _ c.args.parser.now c.expect.new.self _ (c.in_err-expect.ensures.step text xs g)));
    }

pub returns-in_err-first : goal.returns-in_err-first
returns-in_err-first c =
    let a = c.args.parser.now in
    let b = c.expect.new.self in
    λ n. record {
      lent = search rules;
      numbers = search rules;
      answer = λ text xs g.
          let k = expected_ok text _ _ a b _ (c.in_ok-expect.ensures.step text xs g) in
          answers_err _ text _ _ _ _ _ _ _ _ (err_from_is_err_and c.from_residual-in_err-first.result c.from_residual-in_err-first.ensures.1)
          (tuple_second (end_of text) n _ _ _ _ k.1 (refusal _ text _ _ b c.list.new.parser xs c.list.new.parser.nodes.now _ (c.in_err-first.ensures.answer listed.Constants (record { follows = λ p q r e n. search rules }) n text _ k.0)));
    }

pub returns-in_err-expect-2 : goal.returns-in_err-expect-2
returns-in_err-expect-2 c =
    let a = c.args.parser.now in
    let b = c.expect.new.self in
    let d = c.list.new.parser in
    λ n. record {
      lent = search rules;
      numbers = search rules;
      answer = λ text xs g.
          let k = expected_ok text _ _ a b _ (c.in_ok-expect.ensures.step text xs g) in
          let v = answered _ text _ _ b d xs c.list.new.parser.nodes.now _ (c.in_ok-first.ensures.answer listed.Constants (record { follows = λ p q r e n. search rules }) n text _ k.0) in
          answers_err _ text _ _ _ _ _ _ _ _ (err_from_is_err_and c.from_residual-in_err-expect-2.result c.from_residual-in_err-expect-2.ensures.1)
          (tuple_third (end_of text) n _ _ _ _ _ _ k.1 v.value (expected_broken text _ _ d c.expect-2.new.self _ (c.in_err-expect-2.ensures.step text _ v.grounded)));
    }

pub returns : goal.returns
returns c =
    let a = c.args.parser.now in
    let b = c.expect.new.self in
    let d = c.list.new.parser in
    let e = c.expect-2.new.self in
    let s = c.in_ok-expect.ensures in
    let i = c.in_ok-first.ensures in
    let z = c.in_ok-expect-2.ensures in
    λ n. record {
      lent = search rules;
      numbers = search rules;
      answer = λ text xs g.
          let k = expected_ok text _ _ a b _ (s.step text xs g) in
          let v = answered _ text _ _ b d xs c.list.new.parser.nodes.now _ (i.answer listed.Constants (record { follows = λ p q r e n. search rules }) n text _ k.0) in
          let w = expected_ok text _ _ d e _ (z.step text _ v.grounded) in
          done_put _ text _ _ a e c.put.new.self xs c.list.new.parser.nodes.now _ (ahead_at a) (tuple_constant (place_part (ahead_at a)) v.part) _
          c.put.ensures.state c.put.ensures.nodes c.put.ensures.root (tuple_found n _ _ _ _ _ _ _ k.1 v.value w.1) w.0
          (λ j l. v.below j (omega (arith, l, s.count))) (λ j l. v.beyond j (omega (arith, l, z.count)))
          (omega (arith, s.count, i.numbers.grown, z.count)) (omega (arith, a.room, s.count, s.paid, i.numbers.thrifty, z.count, z.paid))
          (λ below says next. tuple_held text c.list.new.parser.nodes.now c.put.new.self.nodes.now a.count e.count _ v.part (ahead_at a)
          (subst (λ m. Held constant_level text c.list.new.parser.nodes.now m e.count c.in_ok-first.first v.part) s.count
          (subst (λ m. Held constant_level text c.list.new.parser.nodes.now b.count m c.in_ok-first.first v.part) (sym z.count) v.holds)) below says next);
    }
