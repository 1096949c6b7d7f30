-- A parser of a whole text: the text pays for its nodes.
use Rattle.std.proofs.Common.{◌≤◌, length, ap, arith, rules}
use Rattle.fault.specs.Limits.{script_bytes}
use Rattle.words.specs.Sizes.{text_bytes}
use Rattle.phrases.proofs.Steps.{heard_pays}
use Rattle.phrase_tests.proofs.tests.names.Goals as goal

pub invariant_of-parser : goal.invariant_of-parser
invariant_of-parser c =
    let n = c.in_ok-ahead.ensures in
    let pays = heard_pays _ _ _ _ n.value n.moved in
    let begin = ap (λ s. length s.rest) c.new-scanner.ensures in
    let small : length (text_bytes c.in-Ok.text) ≤ script_bytes = search rules in
    record { fits = search rules; room = omega (arith, pays, begin, small) }
