use Rattle.std.proofs.Common.{rules, suc, sym, refl, ap, ◌∙◌, subst, arith}
use Rattle.std.proofs.lemmas.Result.{err_from_is_err_and}
use Rattle.words.specs.Lexing.{end_of}
use Rattle.grammar.specs.Readers.{Outcome.found}
use Rattle.words.specs.Views.{spoken}
use Rattle.phrases.specs.Held.{Held, leaf_level}
use Rattle.phrases.specs.Sorts.{leaf_of}
use Rattle.phrases.specs.States.{refused_by}
use Rattle.phrases.proofs.LeafNodes.{leaf_found, leaf_refused, leaf_pays_lem, leaf_some}
use Rattle.phrases.proofs.Puts.{done_put, to_refusal}
use Rattle.phrases.proofs.Steps.{answers_err, stepped_ok, stepped_broken, found_broken, refuses}
use Rattle.phrases.proofs.leaves.leaf.Goals as goal

pub returns-in_err-advance-in-Some-clause-follows : goal.returns-in_err-advance-in-Some-clause-follows
returns-in_err-advance-in-Some-clause-follows c =
    record {
      lent = search rules;
      numbers = search rules;
      answer = λ text xs g.
          let h = leaf_found text _ _ _ _ _ g.lies.small g.tells c.in-Some.ensures in
          answers_err _ _ _ _ _ _ _ _ _ _ (err_from_is_err_and c.from_residual.result c.from_residual.ensures.1) (found_broken _ _ _ _ _ h.1 (stepped_broken _ _ _ _ _ (c.in_err-advance-in-Some.ensures.step text xs g)));
    }

pub returns-in_ok-advance-in-Some-clause-follows : goal.returns-in_ok-advance-in-Some-clause-follows
returns-in_ok-advance-in-Some-clause-follows c =
    let n = c.in_ok-advance-in-Some.ensures in
    let one = leaf_some (leaf_of c.args.leaf) in
    let some = leaf_pays_lem (leaf_of c.args.leaf) (spoken c.args.parser.now.ahead.token) c.args.parser.now.ahead.place _ c.in-Some.ensures in
    record {
      lent = search rules;
      numbers = search rules;
      answer = λ text xs g.
          let h = leaf_found text _ _ _ _ _ g.lies.small g.tells c.in-Some.ensures in
          let s = stepped_ok _ _ _ _ _ (n.step text xs g) in
          done_put _ _ _ _ _ _ _ _ _ _ _ _ _ c.put.ensures.state c.put.ensures.nodes c.put.ensures.root (h.1 ∙ ap (found h.0) (sym s.1)) s.0 (λ i l. refl) (λ i l. refl) (omega (arith, n.count)) (omega (arith, c.args.parser.now.room, n.count, n.paid, some, one))
          (λ _ says next. subst (λ m. Held (leaf_level (leaf_of c.args.leaf)) text c.put.new.self.nodes.now m (suc c.advance.new.self.count) c.advance.new.self.count h.0) n.count (h.2 _ _ says next));
    }

pub returns-in-None-clause-follows : goal.returns-in-None-clause-follows
returns-in-None-clause-follows c =
    record {
      lent = search rules;
      numbers = search rules;
      answer = λ text xs g. to_refusal _ _ _ _ _ _ _ _ _ _ c.refuse.ensures (ap (refused_by (end_of text)) (leaf_refused _ _ _ _ c.in-None.ensures) ∙ refuses text xs _ g);
    }
