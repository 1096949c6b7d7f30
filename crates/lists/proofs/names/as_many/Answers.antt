use Rattle.std.proofs.Common.{◌≡◌, ◌+◌, ◌<◌, ◌^◌, length, Some, take, rules, arith}
use Rattle.std.proofs.lemmas.Bool.Decides.{nat_tests}
use Rattle.std.proofs.lemmas.Iterator.{YieldsList-from_take}
use Rattle.std.proofs.lemmas.Iterator.Consumers.{YieldsList-from_first, count_from_yields_List}
use Rattle.std.proofs.lemmas.List.{length-take}
use Rattle.lists.specs.Walks.{left, walked}
use Rattle.lists.proofs.Walking.{walked_short}
use Rattle.lists.proofs.names.as_many.Goals as goal

pub returns : goal.returns
returns c =
    let all = walked c.args.nodes.now (Some c.args.first) in
    let few = walked_short c.args.nodes.now (Some c.args.first) in
    let counted : c.count.result ≡ length (take c.saturating_add.result all) = count_from_yields_List c.take.result c.count.result c.count.ensures.ran (YieldsList-from_take c.saturating_add.result (YieldsList-from_first (λ x. x) left all (cc)) c.take.ensures.count) in
    let fits : length c.args.nodes.now + 2 < 2 ^ 64 = search rules in
    let parts = length-take c.saturating_add.result all in
    grind (arith, nat_tests, counted, parts, few, fits, c.saturating_add.ensures)
