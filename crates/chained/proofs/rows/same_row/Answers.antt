use Rattle.std.proofs.Common.{◌≡◌, ℤ, get_or, pos, sym, ap, ◌∙◌, w64, SFits, to_z, of_z, rules}
use Rattle.std.proofs.lemmas.Int.{to_z-of_z}
use Rattle.chained.proofs.Projections.{no_link, next_at, value_at}
use Rattle.chained.proofs.Walks.{under_next}
use Rattle.chained.proofs.RowLoops.{reads_other, reads_same, reads_end}
use Rattle.chained.proofs.rows.same_row.Goals as goal

pub bounds-links-at : goal.bounds-links-at
bounds-links-at c = (under_next _ _ _ _ _ c.loop-cell-test.true c.loop-cell.invariant.1).0

pub returns-then-link-cell : goal.returns-then-link-cell
returns-then-link-cell c =
    sym (reads_other _ _ _ _ _ c.loop-cell-test.true (λ e. c.if-link-cell.true (ap (of_z w64) (value_at c.args.links.now c.loop-cell.at ∙ e)))) ∙ c.loop-cell.invariant.0

pub loop-cell-preserved : goal.loop-cell-preserved
loop-cell-preserved c =
    let ls = c.args.links.now in
    let x : ℤ = (get_or ls c.loop-cell.at no_link).value in
    let y : ℤ = get_or c.args.row.now c.loop-cell.cell-index (pos 0) in
    let fx : SFits w64 x = search rules in
    let fy : SFits w64 y = search rules in
    let same : x ≡ y = sym (to_z-of_z w64 x fx) ∙ ap (to_z w64) c.if-link-cell.false ∙ to_z-of_z w64 y fy in
    rw (next_at ls c.loop-cell.at) (sym (reads_same _ _ _ _ _ c.loop-cell-test.true (sym (value_at ls c.loop-cell.at) ∙ same)) ∙ c.loop-cell.invariant.0, (under_next _ _ _ _ _ c.loop-cell-test.true c.loop-cell.invariant.1).1)

pub returns : goal.returns
returns c = sym (reads_end _ _ _ _ _ c.loop-cell-test.false) ∙ c.loop-cell.invariant.0
