use Rattle.std.proofs.Common.{◌≡◌, ℤ, length, get_or, pos, refl, ap, ◌∙◌, ap₂, arith, w64, SFits, rules}
use Rattle.std.proofs.lemmas.List.{take_all}
use Rattle.std.proofs.lemmas.Int.{to_z-of_z}
use Rattle.chained.specs.Chains.{nexts, values, walk, step, put}
use Rattle.chained.proofs.Projections.{next_at, values_set, nexts_same}
use Rattle.chained.proofs.Walks.{step_under}
use Rattle.chained.proofs.RowLoops.{write_step}
use Rattle.chained.proofs.rows.write_row.Goals as goal

pub bounds-links-at : goal.bounds-links-at
bounds-links-at c = omega (arith, c.loop-cell.invariant.0, step_under _ _ _ _ _ c.loop-cell-test.true c.requires, c.loop-cell.auto.links)

pub loop-cell-preserved : goal.loop-cell-preserved
loop-cell-preserved c =
    let ls = c.loop-cell.links in
    let x : ℤ = get_or c.args.row.now c.loop-cell.cell-index (pos 0) in
    let f : SFits w64 x = search rules in
    let ns = nexts c.args.links.now in
    let r = write_step _ _ _ ns _ _ _ _ c.loop-cell-test.true c.loop-cell.invariant.0 c.loop-cell.invariant.1 (to_z-of_z w64 x f) in
    (next_at ls c.loop-cell.at ∙ ap (λ ns. get_or ns c.loop-cell.at 0) c.loop-cell.invariant.2 ∙ r.0, values_set ls _ _ ∙ r.1, nexts_same ls _ _ refl ∙ c.loop-cell.invariant.2)

pub returns : goal.returns
returns c =
    let n : c.loop-cell.cell-index ≡ length c.args.row.now = omega arith in
    let ns = nexts c.args.links.now in
    record {
      rest = c.loop-cell.invariant.0 ∙ ap (λ k. step ns k c.args.from) n;
      values = c.loop-cell.invariant.1 ∙ ap₂ (λ k xs. put (values c.args.links.now) (walk ns k c.args.from) xs) n (take_all c.loop-cell.cell-index c.args.row.now (omega arith));
      nexts = c.loop-cell.invariant.2;
    }
