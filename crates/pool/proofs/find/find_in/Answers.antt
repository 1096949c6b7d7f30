-- The first part that is the wanted string ends the search.
use Rattle.std.proofs.Common.{◌≡◌, true, false, refl, arith, rules}
use Rattle.std.specs.Str.{bytes_eq}
use Rattle.std.specs.List.{position_or_len, prefix_len}
use Rattle.std.proofs.lemmas.Iterator.{YieldsList-from_slice, IsFirst-from_position, index_from_first}
use Rattle.listing.specs.Seen.{part}
use Rattle.words.specs.declared.spans.Span.{Span}
use Rattle.pool.proofs.Positions.{place_is}
use Rattle.pool.proofs.find.find_in.Goals as goal
use borrow.Author.Tests.{tests}

pub returns-clause-value : goal.returns-clause-value
returns-clause-value c =
    let p = λ (s : Span). bytes_eq (part c.args.bytes.now s) c.args.wanted.now in
    let spans = c.args.spans.now in
    let first = index_from_first (position_or_len p) (λ s. p s ≡ true) (λ s. p s ≡ false) refl (λ s ss h. rw (h, prefix_len) refl) (λ s ss h. rw (h, prefix_len) (omega arith)) spans c.position.result
    (IsFirst-from_position _ _ _ (λ s. p s ≡ true) (λ s. p s ≡ false) c.position.ensures.ran (YieldsList-from_slice spans c.iter.ensures.rest)
    (λ x q k. search (rules, tests)) (λ x q k. search (rules, tests))) in
    let found = place_is c.args.bytes.now c.args.wanted.now c.position.result spans (search rules) first in
    search (rules, found)
