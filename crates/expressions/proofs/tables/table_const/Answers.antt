use Rattle.std.proofs.Common.{rules, eqb, sym, ap, ◌∙◌, subst, arith}
use Rattle.std.proofs.lemmas.Result.{err_from_is_err_and}
use Rattle.words.specs.Lexing.{end_of}
use Rattle.words.specs.Views.{spoken}
use Rattle.words.specs.Tokens.{Terminal.sign}
use Rattle.words.specs.declared.tokens.Sign.TheVariants.{LeftParenthesis}
use Rattle.grammar.specs.Parts.{table_constant, left_parenthesis, code_in}
use Rattle.grammar.specs.Readers.{begins_with, brackets_at, read_level}
use Rattle.grammar.specs.Promise.{any_token}
use Rattle.tree.specs.Holds.{Says}
use Rattle.phrases.specs.Held.{Held}
use Rattle.phrases.specs.Sorts.{item_reader, level_of as list_level}
use Rattle.phrases.specs.States.{code_ahead, ahead_at, behind, tokens_ahead}
use Rattle.phrases.proofs.Puts.{done_put, answered, refusal}
use Rattle.phrases.proofs.Steps.{answers_err, expected_ok, expected_broken, stepped_ok, stepped_broken, refused_at_lem, read_at}
use Rattle.expressions.specs.Starts.{instance_of, listed_of, table_node}
use Rattle.expressions.proofs.Nodes.{table_halts, table_first, table_second, table_found, table_held, begins_is}
use Rattle.expressions.proofs.Calls.{instance_answers}
use Rattle.expressions.proofs.tables.table_const.Goals as goal

pub returns-in_err-advance : goal.returns-in_err-advance
returns-in_err-advance c =
    let a = c.args.parser.now in
    record {
      lent = search rules;
      numbers = search rules;
      answer = λ text xs g.
          answers_err _ text _ _ _ _ _ _ _ _ (err_from_is_err_and c.from_residual.result c.from_residual.ensures.1)
          (table_halts (end_of text) c.args.depth (spoken a.ahead.token) (ahead_at a) (behind a) _ c.requires.token (stepped_broken text _ a c.advance.new.self _ (c.in_err-advance.ensures.step text xs g)));
    }

pub returns-in_err-first : goal.returns-in_err-first
returns-in_err-first c =
    let a = c.args.parser.now in
    let i = c.in_err-first.ensures c.args.depth in
    record {
      lent = search rules;
      numbers = search rules;
      answer = λ text xs g.
          let k = stepped_ok text _ a c.advance.new.self _ (c.in_ok-advance.ensures.step text xs g) in
          answers_err _ text _ _ _ _ _ _ _ _ (err_from_is_err_and c.from_residual-in_err-first.result c.from_residual-in_err-first.ensures.1)
          (table_first (end_of text) c.args.depth (spoken a.ahead.token) (ahead_at a) (behind a) (eqb (code_in (sign LeftParenthesis)) (code_ahead (spoken c.advance.new.self.ahead.token))) _ c.requires.token (begins_is (spoken c.advance.new.self.ahead.token) (ahead_at c.advance.new.self) (behind c.advance.new.self) ∙ ap (begins_with left_parenthesis) k.1) (refused_at_lem (end_of text) (read_level (item_reader c.args.depth (listed_of (instance_of (eqb (code_in (sign LeftParenthesis)) (code_ahead (spoken c.advance.new.self.ahead.token)))))) (brackets_at any_token c.args.depth) (list_level (listed_of (instance_of (eqb (code_in (sign LeftParenthesis)) (code_ahead (spoken c.advance.new.self.ahead.token))))))) _ _ _ k.1 (refusal _ text _ _ c.advance.new.self c.elements.new.parser xs c.elements.new.parser.nodes.now _ (instance_answers c.args.depth text (listed_of c.instance-instance.result) (listed_of (instance_of (eqb (code_in (sign LeftParenthesis)) (code_ahead (spoken c.advance.new.self.ahead.token))))) (tokens_ahead c.advance.new.self) c.advance.new.self.count c.advance.new.self c.elements.new.parser xs c.elements.new.parser.nodes.now _ (ap listed_of c.instance-instance.ensures) (i.answer text _ k.0)))));
    }

pub returns-in_err-expect : goal.returns-in_err-expect
returns-in_err-expect c =
    let a = c.args.parser.now in
    let i = c.in_ok-first.ensures c.args.depth in
    record {
      lent = search rules;
      numbers = search rules;
      answer = λ text xs g.
          let k = stepped_ok text _ a c.advance.new.self _ (c.in_ok-advance.ensures.step text xs g) in
          let v = answered _ text _ _ c.advance.new.self c.elements.new.parser xs c.elements.new.parser.nodes.now _ (instance_answers c.args.depth text (listed_of c.instance-instance.result) (listed_of (instance_of (eqb (code_in (sign LeftParenthesis)) (code_ahead (spoken c.advance.new.self.ahead.token))))) (tokens_ahead c.advance.new.self) c.advance.new.self.count c.advance.new.self c.elements.new.parser xs c.elements.new.parser.nodes.now _ (ap listed_of c.instance-instance.ensures) (i.answer text _ k.0)) in
          answers_err _ text _ _ _ _ _ _ _ _ (err_from_is_err_and c.from_residual-in_err-expect.result c.from_residual-in_err-expect.ensures.1)
          (table_second (end_of text) c.args.depth (spoken a.ahead.token) (ahead_at a) (behind a) (eqb (code_in (sign LeftParenthesis)) (code_ahead (spoken c.advance.new.self.ahead.token))) v.part _ _ c.requires.token (begins_is (spoken c.advance.new.self.ahead.token) (ahead_at c.advance.new.self) (behind c.advance.new.self) ∙ ap (begins_with left_parenthesis) k.1) (read_at (read_level (item_reader c.args.depth (listed_of (instance_of (eqb (code_in (sign LeftParenthesis)) (code_ahead (spoken c.advance.new.self.ahead.token)))))) (brackets_at any_token c.args.depth) (list_level (listed_of (instance_of (eqb (code_in (sign LeftParenthesis)) (code_ahead (spoken c.advance.new.self.ahead.token))))))) _ _ _ _ k.1 v.value) (expected_broken text _ _ c.elements.new.parser c.expect.new.self _ (c.in_err-expect.ensures.step text _ v.grounded)));
    }

pub returns : goal.returns
returns c =
    let a = c.args.parser.now in
    let b = c.advance.new.self in
    let d = c.elements.new.parser in
    let e = c.expect.new.self in
    let ys = c.elements.new.parser.nodes.now in
    let s = c.in_ok-advance.ensures in
    let i = c.in_ok-first.ensures c.args.depth in
    let z = c.in_ok-expect.ensures in
    let q = c.put.ensures in
    record {
      lent = search rules;
      numbers = search rules;
      answer = λ text xs g.
          let k = stepped_ok text _ a c.advance.new.self _ (c.in_ok-advance.ensures.step text xs g) in
          let v = answered _ text _ _ c.advance.new.self c.elements.new.parser xs c.elements.new.parser.nodes.now _ (instance_answers c.args.depth text (listed_of c.instance-instance.result) (listed_of (instance_of (eqb (code_in (sign LeftParenthesis)) (code_ahead (spoken c.advance.new.self.ahead.token))))) (tokens_ahead c.advance.new.self) c.advance.new.self.count c.advance.new.self c.elements.new.parser xs c.elements.new.parser.nodes.now _ (ap listed_of c.instance-instance.ensures) (i.answer text _ k.0)) in
          let w = expected_ok text _ _ d e _ (z.step text _ v.grounded) in
          done_put _ text _ _ a e c.put.new.self xs ys c.node.result (ahead_at a) (table_constant (ahead_at a) v.part) _ q.state q.nodes q.root
          (table_found c.args.depth (spoken a.ahead.token) (ahead_at a) (behind a) (eqb (code_in (sign LeftParenthesis)) (code_ahead (spoken c.advance.new.self.ahead.token))) v.part _ _ _ c.requires.token (begins_is (spoken c.advance.new.self.ahead.token) (ahead_at c.advance.new.self) (behind c.advance.new.self) ∙ ap (begins_with left_parenthesis) k.1) (read_at (read_level (item_reader c.args.depth (listed_of (instance_of (eqb (code_in (sign LeftParenthesis)) (code_ahead (spoken c.advance.new.self.ahead.token)))))) (brackets_at any_token c.args.depth) (list_level (listed_of (instance_of (eqb (code_in (sign LeftParenthesis)) (code_ahead (spoken c.advance.new.self.ahead.token))))))) _ _ _ _ k.1 v.value) w.1) w.0
          (λ j l. v.below j (omega (arith, l, s.count))) (λ j l. v.beyond j (omega (arith, l, z.count))) (omega (arith, s.count, i.numbers.grown, z.count))
          (omega (arith, c.requires.token, a.room, s.count, s.paid, i.numbers.thrifty, z.count, z.paid))
          (λ below says next. table_held (eqb (code_in (sign LeftParenthesis)) (code_ahead (spoken c.advance.new.self.ahead.token))) text ys c.put.new.self.nodes.now a.count e.count c.in_ok-first.first v.part (ahead_at a)
          (subst (λ n. Held (list_level (listed_of (instance_of (eqb (code_in (sign LeftParenthesis)) (code_ahead (spoken c.advance.new.self.ahead.token)))))) text ys n e.count c.in_ok-first.first v.part) s.count (subst (λ n. Held (list_level (listed_of (instance_of (eqb (code_in (sign LeftParenthesis)) (code_ahead (spoken c.advance.new.self.ahead.token)))))) text ys b.count n c.in_ok-first.first v.part) (sym z.count) v.holds))
          below (subst (λ n. Says c.put.new.self.nodes.now e.count n (ahead_at a)) (c.node.ensures ∙ ap (λ x. table_node x c.in_ok-first.first) c.instance-instance.ensures) says));
    }
