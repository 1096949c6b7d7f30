-- The first byte that is not of the class ends the run.
use Rattle.std.proofs.Common.{◌≡◌, true, false, refl, arith, rules}
use Rattle.std.proofs.lemmas.Iterator.{YieldsList-from_slice, IsFirst-from_position, index_from_first}
use Rattle.words.specs.Letters.{belongs, run}
use Rattle.words.proofs.letters.run_length.Goals as goal
use borrow.Author.Tests.{tests}

pub returns-clause-value : goal.returns-clause-value
returns-clause-value c =
    let p = belongs c.args.class in
    grind (
      arith,
      c.unwrap_or.ensures,
      index_from_first (run p) (λ b. p b ≡ false) (λ b. p b ≡ true) refl (λ b bs h. rw (h, run) refl) (λ b bs h. rw (h, run) refl) c.args.text.now c.position.result
          (IsFirst-from_position _ _ _ (λ b. p b ≡ false) (λ b. p b ≡ true) c.position.ensures.ran (YieldsList-from_slice c.args.text.now c.iter.ensures.rest)
          (λ x q k. search (rules, tests)) (λ x q k. search (rules, tests))),
    )
