use Rattle.std.proofs.Common.{◌≡◌, ℤ, pos, slice_index_or, sym, ap, ◌∙◌, w64, SFits, to_z, arith, rules}
use Rattle.std.proofs.lemmas.Int.{to_z-of_z}
use Rattle.packed.proofs.Narrow.{same_slices, same_by_first}
use Rattle.packed.proofs.searches.same_row.Goals as goal

pub returns-then-first-wanted : goal.returns-then-first-wanted
returns-then-first-wanted c =
    let x : ℤ = slice_index_or c.args.cells.now 0 (pos 0) in
    let y : ℤ = slice_index_or c.args.row.now 0 (pos 0) in
    let fx : SFits w64 x = search rules in
    let fy : SFits w64 y = search rules in
    let same : x ≡ y = sym (to_z-of_z w64 x fx) ∙ ap (to_z w64) c.if-first-wanted.true ∙ to_z-of_z w64 y fy in
    same_by_first c.args.cells.now c.args.row.now c.eq.result (search (rules, arith)) (search (rules, arith)) same c.eq.ensures

pub returns-in_default : goal.returns-in_default
returns-in_default c = same_slices c.args.cells.now c.args.row.now c.eq-in_default.result c.eq-in_default.ensures
