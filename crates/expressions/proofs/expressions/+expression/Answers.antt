use Rattle.std.proofs.Common.{◌≡◌, ℕ, sym, refl, ap, ◌∙◌, subst, arith, rules}
use Rattle.phrases.specs.declared.sorts.Wanted.TheVariants as wanted
use Rattle.phrases.specs.declared.sorts.Listed.TheVariants as listed
use Rattle.phrases.specs.Sorts.{wanted_of}
use Rattle.std.proofs.lemmas.Result.{err_from_is_err_and}
use Rattle.words.specs.Lexing.{end_of}
use Rattle.words.specs.Tokens.{Token.◌at◌}
use Rattle.words.specs.Views.{spoken}
use Rattle.grammar.specs.Parts.{apply, nothing, combine, join_parts, argument_of, origin}
use Rattle.grammar.specs.Promise.{any_token}
use Rattle.grammar.specs.Readers.{brackets_at}
use Rattle.tree.specs.Holds.{Says}
use Rattle.tree.proofs.Grown.{beyond_then}
use Rattle.phrases.specs.States.{ahead_at, behind, tokens_ahead, refused_by, Answers}
use Rattle.phrases.proofs.LeafNodes.{type_read, name_read}
use Rattle.phrases.proofs.Puts.{put_kept, done_put, answered, answer, answers_here, counted_tokens, refusal, to_refusal, answers_later}
use Rattle.phrases.proofs.Steps.{answers_err, expected_ok, expected_broken, stepped_ok, stepped_broken, opened_ok, opened_err, opened_is, refused_at_lem, read_at, refuses}
use Rattle.expressions.specs.declared.sorts.Bracketed.TheVariants as bracketed
use Rattle.expressions.specs.declared.sorts.Turn.TheVariants as turn
use Rattle.expressions.specs.Starts.{level_behind, unary_node}
use Rattle.expressions.specs.Shapes.{Expressed, Inside, negation_of, unary_of, operand_reader, inside_reader, negation_behind, unary_behind, enclosed_behind}
use Rattle.expressions.proofs.Readings.{onward, sort_of, negation_halts, negation_first, negation_found, enclosed_halts, enclosed_first, enclosed_second, enclosed_found, assigned_first, assigned_second, extend_first}
use Rattle.expressions.proofs.Readings.{unary_halts, unary_first, unary_second, unary_third, unary_fourth, unary_found, level_first, level_found, expression_is, more_stops, take_halts, take_first, take_found, join_halts, join_first, join_second, join_found, turn_pays}
use Rattle.expressions.proofs.Factors.{factor_name, factor_constant, factor_negation, factor_parenthesis, factor_unary, factor_brace, factor_nothing, bracket_there, bracket_else}
use Rattle.expressions.proofs.Nodes.{expressed_some, negation_held, operator_held, join_held, unary_held}
use Rattle.expressions.proofs.Calls.{onward_answers, argument_of_lem, sign_code, answers_same, done_passed, opened_refused, assigned_answers, extended_answers, inside_names, inside_condition, inside_update}
use Rattle.expressions.proofs.expressions.+expression.Goals as goal

pub assigned-returns-in_err-leaf : goal.assigned-returns-in_err-leaf
assigned-returns-in_err-leaf t c =
    let a = c.args.parser.now in
    record {
      lent = search rules;
      numbers = search rules;
      answer = λ text xs g.
          answers_err _ text _ _ _ _ _ _ _ _ (err_from_is_err_and c.from_residual.result c.from_residual.ensures.1)
          (assigned_first (end_of text) c.args.depth (tokens_ahead a) _ (refusal _ text _ _ a c.leaf.new.parser xs c.leaf.new.parser.nodes.now _ (c.in_err-leaf.ensures.follows.answer text _ g)));
    }

pub assigned-returns-in_err-expect : goal.assigned-returns-in_err-expect
assigned-returns-in_err-expect t c =
    let a = c.args.parser.now in
    record {
      lent = search rules;
      numbers = search rules;
      answer = λ text xs g.
          let v = answered _ text _ _ a c.leaf.new.parser xs c.leaf.new.parser.nodes.now _ (c.in_ok-leaf.ensures.follows.answer text _ g) in
          answers_err _ text _ _ _ _ _ _ _ _ (err_from_is_err_and c.from_residual-in_err-expect.result c.from_residual-in_err-expect.ensures.1)
          (assigned_second (end_of text) c.args.depth (tokens_ahead a) v.part _ _ v.value (expected_broken text _ _ c.leaf.new.parser c.expect.new.self _ (c.in_err-expect.ensures.step text _ v.grounded)));
    }

pub assigned-returns : goal.assigned-returns
assigned-returns t c =
    let a = c.args.parser.now in
    let b = c.leaf.new.parser in
    let e = c.expect.new.self in
    let z = c.expr.new.parser in
    let i = c.in_ok-leaf.ensures.follows in
    let s = c.in_ok-expect.ensures in
    let m = c.expr.ensures in
    record {
      lent = search rules;
      numbers = search rules;
      answer = λ text xs g.
          let v = answered _ text _ _ a b xs c.leaf.new.parser.nodes.now _ (i.answer text _ g) in
          let (x, u) = name_read (spoken a.ahead.token) (ahead_at a) (behind a) v.part _ v.value in
          let k = expected_ok text _ _ b e _ (s.step text _ v.grounded) in
          assigned_answers text c.args.depth a b e z xs c.leaf.new.parser.nodes.now c.expr.new.parser.nodes.now _ x (ahead_at a) _ v c.expr.result u i.numbers.grown s.count k.1 m.numbers (m.answer text _ k.0);
    }

pub extended-returns-in_err-leaf : goal.extended-returns-in_err-leaf
extended-returns-in_err-leaf t c =
    let a = c.args.parser.now in
    record {
      lent = search rules;
      numbers = search rules;
      answer = λ text xs g.
          answers_err _ text _ _ _ _ _ _ _ _ (err_from_is_err_and c.from_residual.result c.from_residual.ensures.1)
          (extend_first (end_of text) c.args.depth (tokens_ahead a) _ (refusal _ text _ _ a c.leaf.new.parser xs c.leaf.new.parser.nodes.now _ (c.in_err-leaf.ensures.follows.answer text _ g)));
    }

pub extended-returns : goal.extended-returns
extended-returns t c =
    let a = c.args.parser.now in
    let b = c.leaf.new.parser in
    let z = c.assigned.new.parser in
    let i = c.in_ok-leaf.ensures.follows in
    let m = c.assigned.ensures in
    record {
      lent = search rules;
      numbers = search rules;
      answer = λ text xs g.
          let v = answered _ text _ _ a b xs c.leaf.new.parser.nodes.now _ (i.answer text _ g) in
          let (k, u) = type_read (spoken a.ahead.token) (ahead_at a) (behind a) v.part _ v.value in
          extended_answers text c.args.depth a b z xs c.leaf.new.parser.nodes.now c.assigned.new.parser.nodes.now _ k (ahead_at a) v c.assigned.result u i.numbers.grown m.numbers (m.answer text _ v.grounded);
    }

pub inside-returns-in-Names : goal.inside-returns-in-Names
inside-returns-in-Names t c =
    let a = c.args.parser.now in
    record {
      lent = search rules;
      numbers = search rules;
      answer = λ text xs g. subst (λ w. Answers (Inside w) text (inside_reader c.args.depth w (tokens_ahead a)) a.count a c.list.new.parser xs c.list.new.parser.nodes.now c.list.result)
          (argument_of_lem c.args.operator bracketed.Names c.in-Names.ensures) (inside_names text c.args.depth (tokens_ahead a) a.count a c.list.new.parser xs c.list.new.parser.nodes.now c.list.result (c.list.ensures.answer listed.Names (record { follows = λ p q r e n. search rules }) c.args.depth text _ g));
    }

pub inside-returns-in-Condition : goal.inside-returns-in-Condition
inside-returns-in-Condition t c =
    let a = c.args.parser.now in
    record {
      lent = search rules;
      numbers = search rules;
      answer = λ text xs g. subst (λ w. Answers (Inside w) text (inside_reader c.args.depth w (tokens_ahead a)) a.count a c.expr.new.parser xs c.expr.new.parser.nodes.now c.expr.result)
          (argument_of_lem c.args.operator bracketed.Condition c.in-Condition.ensures) (inside_condition text c.args.depth (tokens_ahead a) a.count a c.expr.new.parser xs c.expr.new.parser.nodes.now c.expr.result (c.expr.ensures.answer text _ g));
    }

pub inside-returns-in-Update : goal.inside-returns-in-Update
inside-returns-in-Update t c =
    let a = c.args.parser.now in
    record {
      lent = search rules;
      numbers = search rules;
      answer = λ text xs g. subst (λ w. Answers (Inside w) text (inside_reader c.args.depth w (tokens_ahead a)) a.count a c.assigned.new.parser xs c.assigned.new.parser.nodes.now c.assigned.result)
          (argument_of_lem c.args.operator bracketed.Update c.in-Update.ensures) (inside_update text c.args.depth (tokens_ahead a) a.count a c.assigned.new.parser xs c.assigned.new.parser.nodes.now c.assigned.result (c.assigned.ensures.answer text _ g));
    }

pub bracket-returns-then-not-sees : goal.bracket-returns-then-not-sees
bracket-returns-then-not-sees t c =
    let a = c.args.parser.now in
    record {
      lent = search rules;
      numbers = search rules;
      answer = λ text xs g. to_refusal _ text _ _ a a xs _ _ _ c.refuse.ensures
          (ap (refused_by (end_of text)) (bracket_else c.args.depth (spoken a.ahead.token) (ahead_at a) (behind a) (sym c.sees.ensures ∙ c.if-not-sees.true)) ∙ refuses text _ a g);
    }

pub bracket-returns : goal.bracket-returns
bracket-returns t c =
    let a = c.args.parser.now in
    record {
      lent = search rules;
      numbers = search rules;
      answer = λ text xs g. answers_same _ text _ _ a.count a c.enclosed.new.parser xs c.enclosed.new.parser.nodes.now c.enclosed.result
          (bracket_there c.args.depth (spoken a.ahead.token) (ahead_at a) (behind a) (sym c.sees.ensures ∙ c.if-not-sees.false)) (c.enclosed.ensures.answer text _ g);
    }

pub enclosed-returns-in_err-below : goal.enclosed-returns-in_err-below
enclosed-returns-in_err-below t c =
    let a = c.args.parser.now in
    record {
      lent = search rules;
      numbers = search rules;
      answer = λ text xs g.
          answers_err _ text _ _ _ _ _ _ _ _ (err_from_is_err_and c.from_residual.result c.from_residual.ensures.1)
          (opened_err text _ c.args.depth a c.open.new.self _ (enclosed_behind (wanted_of (wanted.Sign c.args.closing) at origin)) (enclosed_halts (end_of text) (wanted_of (wanted.Sign c.args.closing) at origin)) (c.in_err-below.ensures.step text xs g));
    }

pub enclosed-returns-in_err-inner : goal.enclosed-returns-in_err-inner
enclosed-returns-in_err-inner t c =
    let a = c.args.parser.now in
    record {
      lent = search rules;
      numbers = search rules;
      answer = λ text xs g.
          let k = opened_ok text _ c.args.depth c.in_ok-below.below a c.open.new.self (c.in_ok-below.ensures.step text xs g) in
          answers_err _ text _ _ _ _ _ _ _ _ (err_from_is_err_and c.from_residual-in_err-inner.result c.from_residual-in_err-inner.ensures.1)
          (opened_refused (end_of text) c.args.depth c.in_ok-below.below (enclosed_behind (wanted_of (wanted.Sign c.args.closing) at origin)) a c.open.new.self _ k.0 c.requires.token k.2
          (enclosed_first (end_of text) (wanted_of (wanted.Sign c.args.closing) at origin) _ _ _ _ (sign_code c.args.closing) (refusal _ text _ _ c.open.new.self c.expr.new.parser xs c.expr.new.parser.nodes.now _ (c.in_err-inner.ensures.answer text _ k.1))));
    }

pub enclosed-returns-in_err-expect : goal.enclosed-returns-in_err-expect
enclosed-returns-in_err-expect t c =
    let a = c.args.parser.now in
    record {
      lent = search rules;
      numbers = search rules;
      answer = λ text xs g.
          let k = opened_ok text _ c.args.depth c.in_ok-below.below a c.open.new.self (c.in_ok-below.ensures.step text xs g) in
          let v = answered _ text _ _ c.open.new.self c.expr.new.parser xs c.expr.new.parser.nodes.now _ (c.in_ok-inner.ensures.answer text _ k.1) in
          answers_err _ text _ _ _ _ _ _ _ _ (err_from_is_err_and c.from_residual-in_err-expect.result c.from_residual-in_err-expect.ensures.1)
          (opened_refused (end_of text) c.args.depth c.in_ok-below.below (enclosed_behind (wanted_of (wanted.Sign c.args.closing) at origin)) a c.open.new.self _ k.0 c.requires.token k.2
          (enclosed_second (end_of text) (wanted_of (wanted.Sign c.args.closing) at origin) _ _ _ v.part _ _ v.value (expected_broken text _ _ c.expr.new.parser c.expect.new.self _ (c.in_err-expect.ensures.step text _ v.grounded))));
    }

pub enclosed-returns : goal.enclosed-returns
enclosed-returns t c =
    let a = c.args.parser.now in
    let b = c.open.new.self in
    let d = c.expr.new.parser in
    let e = c.expect.new.self in
    let s = c.in_ok-below.ensures in
    let z = c.in_ok-expect.ensures in
    record {
      lent = search rules;
      numbers = search rules;
      answer = λ text xs g.
          let k = opened_ok text _ c.args.depth c.in_ok-below.below a c.open.new.self (c.in_ok-below.ensures.step text xs g) in
          let v = answered _ text _ _ c.open.new.self c.expr.new.parser xs c.expr.new.parser.nodes.now _ (c.in_ok-inner.ensures.answer text _ k.1) in
          let w = expected_ok text _ _ d e _ (z.step text _ v.grounded) in
          done_passed _ text _ _ a.count a b d e xs c.expr.new.parser.nodes.now _ v s.count z.count w.0
          (opened_is c.args.depth c.in_ok-below.below (enclosed_behind (wanted_of (wanted.Sign c.args.closing) at origin)) a (tokens_ahead b) k.0 c.requires.token k.2 ∙ enclosed_found (wanted_of (wanted.Sign c.args.closing) at origin) _ _ _ v.part _ _ _ v.value w.1);
    }

pub expr-returns : goal.expr-returns
expr-returns t c =
    let a = c.args.parser.now in
    record {
      lent = search rules;
      numbers = search rules;
      answer = λ text xs g. answers_same _ text _ _ a.count a c.level.new.parser xs c.level.new.parser.nodes.now c.level.result (expression_is c.args.depth (tokens_ahead a)) (c.level.ensures.answer text _ g);
    }

pub level-returns-in_err-first : goal.level-returns-in_err-first
level-returns-in_err-first t c =
    let a = c.args.parser.now in
    record {
      lent = search rules;
      numbers = search rules;
      answer = λ text xs g.
          answers_err _ text _ _ _ _ _ _ _ _ (err_from_is_err_and c.from_residual.result c.from_residual.ensures.1)
          (level_first (end_of text) c.args.depth c.args.level (tokens_ahead a) _ (refusal _ text _ _ a c.operand.new.parser xs c.operand.new.parser.nodes.now _ (c.in_err-first.ensures.answer text _ g)));
    }

pub level-returns : goal.level-returns
level-returns t c =
    let a = c.args.parser.now in
    let b = c.operand.new.parser in
    let z = c.more.new.parser in
    let i = c.in_ok-first.ensures in
    let m = c.more.ensures in
    record {
      lent = search rules;
      numbers = search rules;
      answer = λ text xs g.
          let v = answered _ text _ _ a b xs c.operand.new.parser.nodes.now _ (i.answer text _ g) in
          answers_later _ text _ _ _ a b z xs c.operand.new.parser.nodes.now c.more.new.parser.nodes.now c.more.result
          (level_found c.args.depth c.args.level (tokens_ahead a) v.part _ v.value) v.below v.beyond m.numbers (m.answer text _ v.grounded _ v.part v.holds);
    }

pub more-returns-in-Stop : goal.more-returns-in-Stop
more-returns-in-Stop t c =
    let a = c.args.parser.now in
    record {
      lent = search rules;
      numbers = search rules;
      answer = λ text xs g from u h. answers_here _ text _ from a xs _ g (answer _ text _ _ a a xs xs _ (record {
        part = u;
        value = more_stops c.args.depth c.args.level u (spoken a.ahead.token) (ahead_at a) (behind a) c.in-Stop.ensures;
        grounded = g;
        below = λ i l. refl;
        beyond = λ i l. refl;
        holds = h;
      }));
    }

pub operated-returns-in_err-advance : goal.operated-returns-in_err-advance
operated-returns-in_err-advance t c =
    let a = c.args.parser.now in
    record {
      lent = search rules;
      numbers = search rules;
      answer = λ text xs g from u h.
          answers_err _ text _ _ _ _ _ _ _ _ (err_from_is_err_and c.from_residual.result c.from_residual.ensures.1)
          (take_halts (end_of text) c.args.depth c.args.level c.args.operator u (spoken a.ahead.token) (ahead_at a) (behind a) _ c.requires.takes (stepped_broken text _ a c.advance.new.self _ (c.in_err-advance.ensures.step text xs g)));
    }

pub operated-returns-in_err-right : goal.operated-returns-in_err-right
operated-returns-in_err-right t c =
    let a = c.args.parser.now in
    record {
      lent = search rules;
      numbers = search rules;
      answer = λ text xs g from u h.
          let k = stepped_ok text _ a c.advance.new.self _ (c.in_ok-advance.ensures.step text xs g) in
          answers_err _ text _ _ _ _ _ _ _ _ (err_from_is_err_and c.from_residual-in_err-right.result c.from_residual-in_err-right.ensures.1)
          (take_first (end_of text) c.args.depth c.args.level c.args.operator u (spoken a.ahead.token) (ahead_at a) (behind a) _ c.requires.takes
          (refused_at_lem (end_of text) (operand_reader c.args.depth c.args.level) _ _ _ k.1 (refusal _ text _ _ c.advance.new.self c.operand.new.parser xs c.operand.new.parser.nodes.now _ (c.in_err-right.ensures.answer text _ k.0))));
    }

pub operated-returns : goal.operated-returns
operated-returns t c =
    let a = c.args.parser.now in
    let b = c.advance.new.self in
    let d = c.operand.new.parser in
    let e = c.put-root.new.self in
    let z = c.more.new.parser in
    let ys = c.operand.new.parser.nodes.now in
    let zs = c.put-root.new.self.nodes.now in
    let s = c.in_ok-advance.ensures in
    let i = c.in_ok-right.ensures in
    let q = c.put-root.ensures in
    let m = c.more.ensures in
    let live = turn_pays c.args.level (spoken a.ahead.token) (turn.Take c.args.operator) c.requires.takes (λ w. absurd (let y : ◌≡◌ {A = ℕ} 0 1 = cc in omega (arith, y))) in
    record {
      lent = search rules;
      numbers = search rules;
      answer = λ text xs g from u h.
          let k = stepped_ok text _ a c.advance.new.self _ (c.in_ok-advance.ensures.step text xs g) in
          let v = answered _ text _ _ b d xs ys _ (i.answer text _ k.0) in
          let low = expressed_some text xs from a.count c.args.left u h in
          let o = put_kept Expressed text from d e xs ys c.node.result (ahead_at a) (combine (sort_of c.args.operator) (ahead_at a) u v.part) c.put-root.result
          q.state q.nodes q.root v.grounded (λ j l. v.below j (omega (arith, l, low, s.count))) v.beyond (omega (arith, low, s.count, i.numbers.grown))
          (omega (arith, a.room, s.count, s.paid, live, i.numbers.thrifty))
          (λ below says next. operator_held c.args.operator text xs ys zs from a.count d.count c.args.left c.in_ok-right.right u v.part (ahead_at a) h
          (subst (λ n. Expressed text ys n d.count c.in_ok-right.right v.part) s.count v.holds) (λ j l. v.below j (omega (arith, l, s.count))) below
          (subst (λ w. Says zs d.count w (ahead_at a)) c.node.ensures says)) in
          answers_later _ text _ _ from a e z xs zs c.more.new.parser.nodes.now c.more.result
          (take_found c.args.depth c.args.level c.args.operator u (spoken a.ahead.token) (ahead_at a) (behind a) v.part _ c.requires.takes (read_at (operand_reader c.args.depth c.args.level) _ _ _ _ k.1 v.value) ∙ ap (onward c.args.depth (level_behind c.args.level) (combine (sort_of c.args.operator) (ahead_at a) u v.part)) (sym (counted_tokens d e q.state)))
          o.1 o.2 m.numbers
          (onward_answers c.args.depth text c.after.result (level_behind c.args.level) (combine (sort_of c.args.operator) (ahead_at a) u v.part) (tokens_ahead e) from e z zs c.more.new.parser.nodes.now c.more.result c.after.ensures
          (m.answer text _ o.0 from (combine (sort_of c.args.operator) (ahead_at a) u v.part) o.3));
    }

pub joined-returns-in_err-advance : goal.joined-returns-in_err-advance
joined-returns-in_err-advance t c =
    let a = c.args.parser.now in
    record {
      lent = search rules;
      numbers = search rules;
      answer = λ text xs g from u h.
          answers_err _ text _ _ _ _ _ _ _ _ (err_from_is_err_and c.from_residual.result c.from_residual.ensures.1)
          (join_halts (end_of text) c.args.depth c.args.level u (spoken a.ahead.token) (ahead_at a) (behind a) _ c.requires.takes (stepped_broken text _ a c.advance.new.self _ (c.in_err-advance.ensures.step text xs g)));
    }

pub joined-returns-in_err-condition : goal.joined-returns-in_err-condition
joined-returns-in_err-condition t c =
    let a = c.args.parser.now in
    record {
      lent = search rules;
      numbers = search rules;
      answer = λ text xs g from u h.
          let k = stepped_ok text _ a c.advance.new.self _ (c.in_ok-advance.ensures.step text xs g) in
          answers_err _ text _ _ _ _ _ _ _ _ (err_from_is_err_and c.from_residual-in_err-condition.result c.from_residual-in_err-condition.ensures.1)
          (join_first (end_of text) c.args.depth c.args.level u (spoken a.ahead.token) (ahead_at a) (behind a) _ c.requires.takes
          (refused_at_lem (end_of text) (brackets_at any_token c.args.depth) _ _ _ k.1 (refusal _ text _ _ c.advance.new.self c.bracket.new.parser xs c.bracket.new.parser.nodes.now _ (c.in_err-condition.ensures.answer text _ k.0))));
    }

pub joined-returns-in_err-right : goal.joined-returns-in_err-right
joined-returns-in_err-right t c =
    let a = c.args.parser.now in
    record {
      lent = search rules;
      numbers = search rules;
      answer = λ text xs g from u h.
          let k = stepped_ok text _ a c.advance.new.self _ (c.in_ok-advance.ensures.step text xs g) in
          let w = answered _ text _ _ c.advance.new.self c.bracket.new.parser xs c.bracket.new.parser.nodes.now _ (c.in_ok-condition.ensures.answer text _ k.0) in
          answers_err _ text _ _ _ _ _ _ _ _ (err_from_is_err_and c.from_residual-in_err-right.result c.from_residual-in_err-right.ensures.1)
          (join_second (end_of text) c.args.depth c.args.level u (spoken a.ahead.token) (ahead_at a) (behind a) w.part _ _ c.requires.takes (read_at (brackets_at any_token c.args.depth) _ _ _ _ k.1 w.value)
          (refusal _ text _ _ c.bracket.new.parser c.operand.new.parser c.bracket.new.parser.nodes.now c.operand.new.parser.nodes.now _ (c.in_err-right.ensures.answer text _ w.grounded)));
    }

pub joined-returns : goal.joined-returns
joined-returns t c =
    let a = c.args.parser.now in
    let f = c.bracket.new.parser in
    let d = c.operand.new.parser in
    let e = c.put-root.new.self in
    let z = c.more.new.parser in
    let ws = c.bracket.new.parser.nodes.now in
    let ys = c.operand.new.parser.nodes.now in
    let zs = c.put-root.new.self.nodes.now in
    let s = c.in_ok-advance.ensures in
    let j = c.in_ok-condition.ensures in
    let i = c.in_ok-right.ensures in
    let q = c.put-root.ensures in
    let m = c.more.ensures in
    let live = turn_pays c.args.level (spoken a.ahead.token) turn.Join c.requires.takes (λ w. absurd (let y : ◌≡◌ {A = ℕ} 0 1 = cc in omega (arith, y))) in
    record {
      lent = search rules;
      numbers = search rules;
      answer = λ text xs g from u h.
          let k = stepped_ok text _ a c.advance.new.self _ (c.in_ok-advance.ensures.step text xs g) in
          let w = answered _ text _ _ c.advance.new.self c.bracket.new.parser xs c.bracket.new.parser.nodes.now _ (c.in_ok-condition.ensures.answer text _ k.0) in
          let v = answered _ text _ _ f d ws ys _ (i.answer text _ w.grounded) in
          let low = expressed_some text xs from a.count c.args.left u h in
          let o = put_kept Expressed text from d e xs ys _ (ahead_at a) (join_parts (ahead_at a) u w.part v.part) c.put-root.result
          q.state q.nodes q.root v.grounded (λ n l. v.below n (omega (arith, l, low, s.count, j.numbers.grown)) ∙ w.below n (omega (arith, l, low, s.count)))
          (beyond_then f.count d.count xs ws ys (omega (arith, i.numbers.grown)) w.beyond v.beyond) (omega (arith, low, s.count, j.numbers.grown, i.numbers.grown))
          (omega (arith, a.room, s.count, s.paid, live, j.numbers.thrifty, i.numbers.thrifty))
          (λ below says next. join_held text xs ws ys zs from a.count f.count d.count c.args.left c.in_ok-condition.condition c.in_ok-right.right u w.part v.part (ahead_at a) h
          (subst (λ n. Expressed text ws n f.count c.in_ok-condition.condition w.part) s.count w.holds) v.holds (λ n l. w.below n (omega (arith, l, s.count))) v.below below says) in
          answers_later _ text _ _ from a e z xs zs c.more.new.parser.nodes.now c.more.result
          (join_found c.args.depth c.args.level u (spoken a.ahead.token) (ahead_at a) (behind a) w.part _ v.part _ c.requires.takes (read_at (brackets_at any_token c.args.depth) _ _ _ _ k.1 w.value) v.value ∙ ap (onward c.args.depth (level_behind c.args.level) (join_parts (ahead_at a) u w.part v.part)) (sym (counted_tokens d e q.state)))
          o.1 o.2 m.numbers
          (onward_answers c.args.depth text c.after.result (level_behind c.args.level) (join_parts (ahead_at a) u w.part v.part) (tokens_ahead e) from e z zs c.more.new.parser.nodes.now c.more.result c.after.ensures
          (m.answer text _ o.0 from (join_parts (ahead_at a) u w.part v.part) o.3));
    }

pub negation-returns-in_err-below : goal.negation-returns-in_err-below
negation-returns-in_err-below t c =
    let a = c.args.parser.now in
    record {
      lent = search rules;
      numbers = search rules;
      answer = λ text xs g.
          answers_err _ text _ _ _ _ _ _ _ _ (err_from_is_err_and c.from_residual.result c.from_residual.ensures.1)
          (opened_err text _ c.args.depth a c.open.new.self _ (negation_behind (negation_of c.args.sign)) (negation_halts (end_of text) (negation_of c.args.sign)) (c.in_err-below.ensures.step text xs g));
    }

pub negation-returns-in_err-operand : goal.negation-returns-in_err-operand
negation-returns-in_err-operand t c =
    let a = c.args.parser.now in
    record {
      lent = search rules;
      numbers = search rules;
      answer = λ text xs g.
          let k = opened_ok text _ c.args.depth c.in_ok-below.below a c.open.new.self (c.in_ok-below.ensures.step text xs g) in
          answers_err _ text _ _ _ _ _ _ _ _ (err_from_is_err_and c.from_residual-in_err-operand.result c.from_residual-in_err-operand.ensures.1)
          (opened_refused (end_of text) c.args.depth c.in_ok-below.below (negation_behind (negation_of c.args.sign)) a c.open.new.self _ k.0 c.requires.token k.2
          (negation_first (end_of text) (negation_of c.args.sign) _ _ _ _ (refusal _ text _ _ c.open.new.self c.factor.new.parser xs c.factor.new.parser.nodes.now _ (c.in_err-operand.ensures.answer text _ k.1))));
    }

pub negation-returns : goal.negation-returns
negation-returns t c =
    let a = c.args.parser.now in
    let b = c.open.new.self in
    let d = c.factor.new.parser in
    let ys = c.factor.new.parser.nodes.now in
    let s = c.in_ok-below.ensures in
    let i = c.in_ok-operand.ensures in
    let q = c.put.ensures in
    record {
      lent = search rules;
      numbers = search rules;
      answer = λ text xs g.
          let k = opened_ok text _ c.args.depth c.in_ok-below.below a c.open.new.self (c.in_ok-below.ensures.step text xs g) in
          let v = answered _ text _ _ b d xs ys _ (i.answer text _ k.1) in
          done_put _ text _ _ a d c.put.new.self xs ys c.node.result (ahead_at a) (apply (negation_of c.args.sign) (ahead_at a) nothing v.part) _ q.state q.nodes q.root
          (opened_is c.args.depth c.in_ok-below.below (negation_behind (negation_of c.args.sign)) a (tokens_ahead b) k.0 c.requires.token k.2 ∙ negation_found (negation_of c.args.sign) _ _ _ v.part _ v.value) v.grounded
          (λ j l. v.below j (omega (arith, l, s.count))) v.beyond (omega (arith, s.count, i.numbers.grown))
          (omega (arith, c.requires.token, a.room, s.count, s.paid, i.numbers.thrifty))
          (λ below says next. negation_held c.args.sign text ys c.put.new.self.nodes.now a.count d.count c.in_ok-operand.operand v.part (ahead_at a) (subst (λ n. Expressed text ys n d.count c.in_ok-operand.operand v.part) s.count v.holds) below (subst (λ n. Says c.put.new.self.nodes.now d.count n (ahead_at a)) c.node.ensures says));
    }

pub unary-returns-in_err-below : goal.unary-returns-in_err-below
unary-returns-in_err-below t c =
    let a = c.args.parser.now in
    record {
      lent = search rules;
      numbers = search rules;
      answer = λ text xs g.
          answers_err _ text _ _ _ _ _ _ _ _ (err_from_is_err_and c.from_residual.result c.from_residual.ensures.1)
          (opened_err text _ c.args.depth a c.open.new.self _ (unary_behind (unary_of c.args.operator)) (unary_halts (end_of text) (unary_of c.args.operator)) (c.in_err-below.ensures.step text xs g));
    }

pub unary-returns-in_err-expect : goal.unary-returns-in_err-expect
unary-returns-in_err-expect t c =
    let a = c.args.parser.now in
    record {
      lent = search rules;
      numbers = search rules;
      answer = λ text xs g.
          let k = opened_ok text _ c.args.depth c.in_ok-below.below a c.open.new.self (c.in_ok-below.ensures.step text xs g) in
          answers_err _ text _ _ _ _ _ _ _ _ (err_from_is_err_and c.from_residual-in_err-expect.result c.from_residual-in_err-expect.ensures.1)
          (opened_refused (end_of text) c.args.depth c.in_ok-below.below (unary_behind (unary_of c.args.operator)) a c.open.new.self _ k.0 c.requires.token k.2
          (unary_first (end_of text) c.args.operator _ _ _ _ (expected_broken text _ _ c.open.new.self c.expect.new.self _ (c.in_err-expect.ensures.step text xs k.1))));
    }

pub unary-returns-in_err-argument : goal.unary-returns-in_err-argument
unary-returns-in_err-argument t c =
    let a = c.args.parser.now in
    record {
      lent = search rules;
      numbers = search rules;
      answer = λ text xs g.
          let k = opened_ok text _ c.args.depth c.in_ok-below.below a c.open.new.self (c.in_ok-below.ensures.step text xs g) in
          let x = expected_ok text _ _ c.open.new.self c.expect.new.self _ (c.in_ok-expect.ensures.step text xs k.1) in
          answers_err _ text _ _ _ _ _ _ _ _ (err_from_is_err_and c.from_residual-in_err-argument.result c.from_residual-in_err-argument.ensures.1)
          (opened_refused (end_of text) c.args.depth c.in_ok-below.below (unary_behind (unary_of c.args.operator)) a c.open.new.self _ k.0 c.requires.token k.2
          (unary_second (end_of text) (unary_of c.args.operator) _ _ _ _ _ _ x.1 (refusal _ text _ _ c.expect.new.self c.inside.new.parser xs c.inside.new.parser.nodes.now _ (c.in_err-argument.ensures.answer text _ x.0))));
    }

pub unary-returns-in_err-expect-2 : goal.unary-returns-in_err-expect-2
unary-returns-in_err-expect-2 t c =
    let a = c.args.parser.now in
    record {
      lent = search rules;
      numbers = search rules;
      answer = λ text xs g.
          let k = opened_ok text _ c.args.depth c.in_ok-below.below a c.open.new.self (c.in_ok-below.ensures.step text xs g) in
          let x = expected_ok text _ _ c.open.new.self c.expect.new.self _ (c.in_ok-expect.ensures.step text xs k.1) in
          let v = answered _ text _ _ c.expect.new.self c.inside.new.parser xs c.inside.new.parser.nodes.now _ (c.in_ok-argument.ensures.answer text _ x.0) in
          answers_err _ text _ _ _ _ _ _ _ _ (err_from_is_err_and c.from_residual-in_err-expect-2.result c.from_residual-in_err-expect-2.ensures.1)
          (opened_refused (end_of text) c.args.depth c.in_ok-below.below (unary_behind (unary_of c.args.operator)) a c.open.new.self _ k.0 c.requires.token k.2
          (unary_third (end_of text) (unary_of c.args.operator) _ _ _ _ _ v.part _ _ x.1 v.value (expected_broken text _ _ c.inside.new.parser c.expect-2.new.self _ (c.in_err-expect-2.ensures.step text _ v.grounded))));
    }

pub unary-returns-in_err-operand : goal.unary-returns-in_err-operand
unary-returns-in_err-operand t c =
    let a = c.args.parser.now in
    record {
      lent = search rules;
      numbers = search rules;
      answer = λ text xs g.
          let k = opened_ok text _ c.args.depth c.in_ok-below.below a c.open.new.self (c.in_ok-below.ensures.step text xs g) in
          let x = expected_ok text _ _ c.open.new.self c.expect.new.self _ (c.in_ok-expect.ensures.step text xs k.1) in
          let v = answered _ text _ _ c.expect.new.self c.inside.new.parser xs c.inside.new.parser.nodes.now _ (c.in_ok-argument.ensures.answer text _ x.0) in
          let w = expected_ok text _ _ c.inside.new.parser c.expect-2.new.self _ (c.in_ok-expect-2.ensures.step text _ v.grounded) in
          answers_err _ text _ _ _ _ _ _ _ _ (err_from_is_err_and c.from_residual-in_err-operand.result c.from_residual-in_err-operand.ensures.1)
          (opened_refused (end_of text) c.args.depth c.in_ok-below.below (unary_behind (unary_of c.args.operator)) a c.open.new.self _ k.0 c.requires.token k.2
          (unary_fourth (end_of text) (unary_of c.args.operator) _ _ _ _ _ v.part _ _ _ _ x.1 v.value w.1 (refusal _ text _ _ c.expect-2.new.self c.factor.new.parser c.inside.new.parser.nodes.now c.factor.new.parser.nodes.now _ (c.in_err-operand.ensures.answer text _ w.0))));
    }

pub unary-returns : goal.unary-returns
unary-returns t c =
    let a = c.args.parser.now in
    let b = c.open.new.self in
    let d = c.inside.new.parser in
    let f = c.expect-2.new.self in
    let z = c.factor.new.parser in
    let ws = c.inside.new.parser.nodes.now in
    let ys = c.factor.new.parser.nodes.now in
    let zs = c.put.new.self.nodes.now in
    let s = c.in_ok-below.ensures in
    let s1 = c.in_ok-expect.ensures in
    let j = c.in_ok-argument.ensures in
    let s2 = c.in_ok-expect-2.ensures in
    let i = c.in_ok-operand.ensures in
    let q = c.put.ensures in
    record {
      lent = search rules;
      numbers = search rules;
      answer = λ text xs g.
          let k = opened_ok text _ c.args.depth c.in_ok-below.below a c.open.new.self (c.in_ok-below.ensures.step text xs g) in
          let x = expected_ok text _ _ c.open.new.self c.expect.new.self _ (c.in_ok-expect.ensures.step text xs k.1) in
          let v = answered _ text _ _ c.expect.new.self c.inside.new.parser xs c.inside.new.parser.nodes.now _ (c.in_ok-argument.ensures.answer text _ x.0) in
          let w = expected_ok text _ _ c.inside.new.parser c.expect-2.new.self _ (c.in_ok-expect-2.ensures.step text _ v.grounded) in
          let r = answered _ text _ _ f z ws ys _ (i.answer text _ w.0) in
          done_put _ text _ _ a z c.put.new.self xs ys c.node.result (ahead_at a) (apply (unary_of c.args.operator) (ahead_at a) v.part r.part) _ q.state q.nodes q.root
          (opened_is c.args.depth c.in_ok-below.below (unary_behind (unary_of c.args.operator)) a (tokens_ahead b) k.0 c.requires.token k.2 ∙ unary_found (unary_of c.args.operator) _ _ _ _ _ v.part _ _ _ r.part _ x.1 v.value w.1 r.value) r.grounded
          (λ n l. r.below n (omega (arith, l, s.count, s1.count, j.numbers.grown, s2.count)) ∙ v.below n (omega (arith, l, s.count, s1.count)))
          (λ n l. r.beyond n l ∙ v.beyond n (omega (arith, l, s2.count, i.numbers.grown)))
          (omega (arith, s.count, s1.count, j.numbers.grown, s2.count, i.numbers.grown))
          (omega (arith, c.requires.token, a.room, s.count, s.paid, s1.count, s1.paid, j.numbers.thrifty, s2.count, s2.paid, i.numbers.thrifty))
          (λ below says next. unary_held c.args.operator text ws ys zs a.count d.count z.count c.in_ok-argument.argument c.in_ok-operand.operand v.part r.part (ahead_at a)
          (subst (λ n. Inside (argument_of (unary_of c.args.operator)) text ws n d.count c.in_ok-argument.argument v.part) (s1.count ∙ s.count) v.holds)
          (subst (λ n. Expressed text ys n z.count c.in_ok-operand.operand r.part) s2.count r.holds) (λ n l. r.below n (omega (arith, l, s2.count))) below
          (subst (λ n. Says zs z.count (unary_node c.args.operator n c.in_ok-argument.argument c.in_ok-operand.operand) (ahead_at a)) (s1.count ∙ s.count) (subst (λ n. Says zs z.count n (ahead_at a)) c.node.ensures says)));
    }

pub factor-returns-in-Name : goal.factor-returns-in-Name
factor-returns-in-Name t c =
    let a = c.args.parser.now in
    record {
      lent = search rules;
      numbers = search rules;
      answer = λ text xs g. factor_name c.args.depth text (spoken a.ahead.token) (ahead_at a) (behind a) a.count a c.leaf.new.parser xs c.leaf.new.parser.nodes.now c.leaf.result c.in-Name.ensures (c.leaf.ensures.follows.answer text _ g);
    }

pub factor-returns-in-Constant : goal.factor-returns-in-Constant
factor-returns-in-Constant t c =
    let a = c.args.parser.now in
    record {
      lent = search rules;
      numbers = search rules;
      answer = λ text xs g. factor_constant c.args.depth text (spoken a.ahead.token) (ahead_at a) (behind a) a.count a c.leaf-in-Constant.new.parser xs c.leaf-in-Constant.new.parser.nodes.now c.leaf-in-Constant.result c.in-Constant.ensures (c.leaf-in-Constant.ensures.follows.answer text _ g);
    }

pub factor-returns-in-Negation : goal.factor-returns-in-Negation
factor-returns-in-Negation t c =
    let a = c.args.parser.now in
    record {
      lent = search rules;
      numbers = search rules;
      answer = λ text xs g. answers_same _ text _ _ a.count a c.negation.new.parser xs c.negation.new.parser.nodes.now c.negation.result (factor_negation c.args.depth c.in-Negation.sign (spoken a.ahead.token) (ahead_at a) (behind a) c.in-Negation.ensures) (c.negation.ensures.answer text _ g);
    }

pub factor-returns-in-Unary : goal.factor-returns-in-Unary
factor-returns-in-Unary t c =
    let a = c.args.parser.now in
    record {
      lent = search rules;
      numbers = search rules;
      answer = λ text xs g. answers_same _ text _ _ a.count a c.unary.new.parser xs c.unary.new.parser.nodes.now c.unary.result (factor_unary c.args.depth c.in-Unary.operator (spoken a.ahead.token) (ahead_at a) (behind a) c.in-Unary.ensures) (c.unary.ensures.answer text _ g);
    }

pub factor-returns-in-Parenthesis : goal.factor-returns-in-Parenthesis
factor-returns-in-Parenthesis t c =
    let a = c.args.parser.now in
    record {
      lent = search rules;
      numbers = search rules;
      answer = λ text xs g. answers_same _ text _ _ a.count a c.enclosed.new.parser xs c.enclosed.new.parser.nodes.now c.enclosed.result (factor_parenthesis c.args.depth (spoken a.ahead.token) (ahead_at a) (behind a) c.in-Parenthesis.ensures) (c.enclosed.ensures.answer text _ g);
    }

pub factor-returns-in-Brace : goal.factor-returns-in-Brace
factor-returns-in-Brace t c =
    let a = c.args.parser.now in
    record {
      lent = search rules;
      numbers = search rules;
      answer = λ text xs g. answers_same _ text _ _ a.count a c.table_const.new.parser xs c.table_const.new.parser.nodes.now c.table_const.result (factor_brace c.args.depth (spoken a.ahead.token) (ahead_at a) (behind a) c.in-Brace.ensures) (c.table_const.ensures.answer text _ g);
    }

pub factor-returns-in-Nothing : goal.factor-returns-in-Nothing
factor-returns-in-Nothing t c =
    let a = c.args.parser.now in
    record {
      lent = search rules;
      numbers = search rules;
      answer = λ text xs g. to_refusal _ text _ _ a a xs _ _ _ c.refuse.ensures (ap (refused_by (end_of text)) (factor_nothing c.args.depth (spoken a.ahead.token) (ahead_at a) (behind a) c.in-Nothing.ensures) ∙ refuses text _ a g);
    }
