use Rattle.std.proofs.Common.{◌≡◌, ◌-◌, ◌*◌, length, sym, ap, ◌∙◌, arith}
use Rattle.chained.specs.Chains.{nexts, step}
use Rattle.chained.proofs.Projections.{next_at}
use Rattle.chained.proofs.Walks.{step_under}
use Rattle.chained.proofs.Joining.{under_front}
use Rattle.chained.proofs.RowLoops.{holds_step, holds_under, by_or, holds_again, holds_end, row_end, search_found, search_missed}
use Rattle.chained.proofs.rows.search.Goals as goal

pub same_row-requires : goal.same_row-requires
same_row-requires c = (holds_under _ _ _ _ _ _ c.loop-test.true c.loop.invariant.1).0

pub returns-then-same_row : goal.returns-then-same_row
returns-then-same_row c =
    search_found _ _ (sym (sym (by_or _ _ (sym c.same_row.ensures ∙ c.if-same_row.true)) ∙ sym (holds_step _ _ _ _ _ _ _ c.loop-test.true) ∙ c.loop.invariant.0))

pub after-last-requires : goal.after-last-requires
after-last-requires c = under_front _ _ (length c.args.row.now - 1) (length c.args.row.now) _ (omega arith) (holds_under _ _ _ _ _ _ c.loop-test.true c.loop.invariant.1).0

pub bounds-links-last : goal.bounds-links-last
bounds-links-last c =
    omega (arith, c.after-last.ensures, step_under _ (nexts c.args.links.now) (length c.args.row.now) (length c.args.row.now - 1) c.loop.at (omega arith) (holds_under _ _ _ _ _ _ c.loop-test.true c.loop.invariant.1).0)

pub loop-preserved : goal.loop-preserved
loop-preserved c =
    let e = row_end (nexts c.args.links.now) c.loop.counter (length c.args.row.now) c.loop.at c.after-last.result c.args.from c.requires.wide c.loop.invariant.2 c.after-last.ensures in
    let next = next_at c.args.links.now c.after-last.result in
    let r = holds_again _ _ _ _ _ _ _ _ _ c.same_row.result _ c.loop-test.true c.same_row.ensures c.if-same_row.false (next ∙ e.1) c.loop.invariant.0 c.loop.invariant.1 in
    (r.0, r.1, next ∙ e.2, e.0)

pub returns : goal.returns
returns c =
    let n : c.loop.counter ≡ c.args.count = omega arith in
    search_missed _ _ _ (sym (c.loop.invariant.0) ∙ holds_end _ _ _ _ _ _ _ c.loop-test.false) (c.loop.invariant.3 ∙ ap (λ k. step (nexts c.args.links.now) (k * length c.args.row.now - 1) c.args.from) n)
