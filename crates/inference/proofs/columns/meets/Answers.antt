use Rattle.std.proofs.Common.{rules, ◌∙◌}
use Rattle.std.proofs.lemmas.Iterator.{YieldsList-from_slice}
use Rattle.std.proofs.lemmas.Iterator.Search.{any_from_yields_List}
use Rattle.schema.specs.Columns.{name_of}
use Rattle.schema.specs.Spelled.{columns_of}
use Rattle.typing.specs.Tables.{meets_in}
use Rattle.inference.proofs.Meeting.{any_meet}
use Rattle.inference.proofs.columns.meets.Goals as goal

pub returns : goal.returns
returns c =
    any_from_yields_List (λ a. meets_in (columns_of c.args.right) (name_of c.args.left.text.now a)) c.any.new.self _ _ c.any.ensures.ran (YieldsList-from_slice c.args.left.attributes.now c.iter.ensures.rest) (λ x b q k. search rules)
    ∙ any_meet c.args.left.text.now c.args.left.attributes.now (columns_of c.args.right)
