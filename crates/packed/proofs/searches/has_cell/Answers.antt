use Rattle.std.proofs.Common.{◌≡◌, ℤ, pos, length, drop, slice_index_or, refl, sym, ap, ◌∙◌, w64, SFits, to_z, of_z, arith, rules}
use Rattle.std.proofs.lemmas.Int.{to_z-of_z}
use Rattle.packed.proofs.Narrow.{cell_found, cell_missed}
use Rattle.packed.proofs.searches.has_cell.Goals as goal

pub returns-then-cell-wanted : goal.returns-then-cell-wanted
returns-then-cell-wanted c =
    let i = c.loop-cell.cell-index in
    let x : ℤ = slice_index_or c.args.cells.now i (pos 0) in
    let y : ℤ = c.args.wanted.now in
    let fx : SFits w64 x = search rules in
    let fy : SFits w64 y = search rules in
    let same : x ≡ y = sym (to_z-of_z w64 x fx) ∙ ap (to_z w64) c.if-cell-wanted.true ∙ to_z-of_z w64 y fy in
    sym (cell_found c.args.cells.now y i (omega arith) same) ∙ c.loop-cell.invariant

pub loop-cell-preserved : goal.loop-cell-preserved
loop-cell-preserved c =
    cell_missed c.args.cells.now c.args.wanted.now c.loop-cell.cell-index c.loop-cell-test.true (λ e. c.if-cell-wanted.false (ap (of_z w64) e)) ∙ c.loop-cell.invariant
