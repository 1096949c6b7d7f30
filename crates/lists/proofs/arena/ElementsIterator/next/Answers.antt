use Rattle.std.proofs.Common.{rules, ◌≡◌, ◌∷◌, ◌<◌, ap, length, arith}
use Rattle.lists.specs.Walks.{left}
use Rattle.lists.proofs.Walking.{walked_on, walked_none}
use Rattle.lists.proofs.arena.ElementsIterator.next.Goals as goal

pub returns-clause-steps : goal.returns-clause-steps
returns-clause-steps c =
    let first = walked_on c.args.self.now.nodes.now c.in_ok-index.index in
    grind (arith, first)

pub returns-clause-goes : goal.returns-clause-goes
returns-clause-goes c =
    let first = walked_on c.args.self.now.nodes.now c.in_ok-index.index in
    let steps : left c.args.self.now ≡ c.node_at.result ∷ left (record { nodes = c.args.self.now.nodes; at = c.next_of-self.result }) = grind (arith, first) in
    let shorter : length (left (record { nodes = c.args.self.now.nodes; at = c.next_of-self.result })) < length (left c.args.self.now) = omega (arith, ap length steps) in
    record { on = λ finite. search rules; keeps = search rules; rests = λ finite. search rules }

pub returns-in_err-index-clause-steps : goal.returns-in_err-index-clause-steps
returns-in_err-index-clause-steps c =
    let none = walked_none c.args.self.now.nodes.now in
    grind (arith, none)
