use Rattle.std.proofs.Common.{◌≡◌, ◌∷◌, [], Ok, Err, List, sym, subst, rules}
use Rattle.tree.specs.declared.nodes.Node.{Node}
use Rattle.lists.specs.Walks.{left}
use Rattle.lists.proofs.Fitting.{TuplesFit, tuples_stop, tuples_more, tuples_end, tuples_linked}
use Rattle.lists.proofs.constants.tuples_fit.Goals as goal

pub returns-then-not-tuple_fits : goal.returns-then-not-tuple_fits
returns-then-not-tuple_fits c =
    let first : left c.loop-tuple.tuple-iterator ≡ c.in-Some.tuple ∷ left c.next.new.self = search rules in
    tuples_linked c.args.nodes.now c.args.attributes.now c.args.first (Err c.fault.result) (c.loop-tuple.invariant.same (Err c.fault.result) (
    subst (λ (l : List Node). TuplesFit c.args.nodes.now c.args.attributes.now l (Err c.fault.result)) (sym first)
    (tuples_stop c.args.nodes.now c.args.attributes.now c.in-Some.tuple (left c.next.new.self) c.fault.result c.fault.ensures (search rules))))

pub loop-tuple-preserved : goal.loop-tuple-preserved
loop-tuple-preserved c =
    let first : left c.loop-tuple.tuple-iterator ≡ c.in-Some.tuple ∷ left c.next.new.self = search rules in
    record {
      ready = search rules;
      ends = search rules;
      same = λ r fit. c.loop-tuple.invariant.same r (
          subst (λ (l : List Node). TuplesFit c.args.nodes.now c.args.attributes.now l r) (sym first)
          (tuples_more c.args.nodes.now c.args.attributes.now c.in-Some.tuple (left c.next.new.self) r (search rules) fit));
    }

pub returns : goal.returns
returns c =
    let ended : left c.loop-tuple.tuple-iterator ≡ [] = search rules in
    tuples_linked c.args.nodes.now c.args.attributes.now c.args.first (Ok tt) (c.loop-tuple.invariant.same (Ok tt) (
    subst (λ (l : List Node). TuplesFit c.args.nodes.now c.args.attributes.now l (Ok tt)) (sym ended) (tuples_end c.args.nodes.now c.args.attributes.now)))
