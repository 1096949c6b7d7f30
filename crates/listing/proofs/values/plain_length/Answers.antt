-- The first byte that is not plain ends the run.
use Rattle.std.proofs.Common.{◌≡◌, true, false, take, refl, ap, sym, ◌∙◌, rules}
use Rattle.std.proofs.lemmas.List.{take_min}
use Rattle.std.proofs.lemmas.Iterator.{YieldsList-from_slice, IsFirst-from_position, index_from_first}
use Rattle.fault.specs.Limits.{string_bytes}
use Rattle.words.specs.Letters.{plain, run}
use Rattle.listing.proofs.values.plain_length.Goals as goal
use borrow.Author.Tests.{tests}

pub returns-clause-value : goal.returns-clause-value
returns-clause-value c =
    let few = take c.min.result c.args.bytes.now in
    let same = ap (λ n. take n c.args.bytes.now) c.min.ensures ∙ take_min string_bytes c.args.bytes.now in
    let first = index_from_first (run plain) (λ b. plain b ≡ false) (λ b. plain b ≡ true) refl (λ b bs h. rw (h, run) refl) (λ b bs h. rw (h, run) refl) few c.position.result
    (IsFirst-from_position _ _ _ (λ b. plain b ≡ false) (λ b. plain b ≡ true) c.position.ensures.ran (YieldsList-from_slice few c.iter.ensures.rest)
    (λ x q k. search (rules, tests)) (λ x q k. search (rules, tests))) in
    c.unwrap_or.ensures ∙ (sym first ∙ ap (run plain) same)
