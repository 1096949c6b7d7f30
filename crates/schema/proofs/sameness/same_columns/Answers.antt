use Rattle.std.proofs.Common.{rules, ◌≡◌, arith, ◌∙◌}
use Rattle.std.specs.Iterator.Adapters.{zip_first, zip_second}
use Rattle.std.specs.Slice.Iter.{iter_rest}
use Rattle.std.proofs.lemmas.Iterator.{YieldsList-from_slice, YieldsList-from_zip}
use Rattle.std.proofs.lemmas.Iterator.Search.{all_from_yields_List}
use Rattle.std.proofs.lemmas.Bool.Decides.{nat_tests}
use Rattle.schema.specs.Columns.{column_of}
use Rattle.schema.specs.Sameness.{same_column}
use Rattle.schema.proofs.Fronts.{pairs_tell, lengths_tell}
use Rattle.schema.proofs.sameness.same_columns.Goals as goal

pub returns-then-left-right : goal.returns-then-left-right
returns-then-left-right c =
    let ours : iter_rest (zip_first c.zip.result) ≡ c.args.left.attributes.now = cc (c.zip.ensures.first, c.iter.ensures.rest) in
    let theirs : iter_rest (zip_second c.zip.result) ≡ c.args.right.attributes.now = search rules in
    all_from_yields_List (λ p. same_column (column_of c.args.left.text.now p.0) (column_of c.args.right.text.now p.1)) c.all.new.self _ _ c.all.ensures.ran
    (YieldsList-from_zip {s = c.zip.result} (YieldsList-from_slice c.args.left.attributes.now ours) (YieldsList-from_slice c.args.right.attributes.now theirs))
    (λ x b q k. search rules)
    ∙ pairs_tell (column_of c.args.left.text.now) (column_of c.args.right.text.now) c.args.left.attributes.now c.args.right.attributes.now (grind (arith, nat_tests))

pub returns-else-left-right : goal.returns-else-left-right
returns-else-left-right c = lengths_tell (column_of c.args.left.text.now) (column_of c.args.right.text.now) c.args.left.attributes.now c.args.right.attributes.now c.if-left-right.false
