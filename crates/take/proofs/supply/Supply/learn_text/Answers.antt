use Rattle.std.proofs.Common.{sym, ◌∙◌}
use Rattle.std.proofs.lemmas.List.{take_all}
use Rattle.std.proofs.lemmas.Result.{err_from_is_err_and}
use Rattle.fault.specs.Limits.{text_bytes}
use Rattle.schema.specs.Columns.{held}
use Rattle.listing.specs.Seen.{rest}
use Rattle.pool.specs.Strings.{numbered}
use Rattle.pool.specs.Learning.{learned_of}
use Rattle.take.proofs.Takes.{starts}
use Rattle.take.proofs.Learns.{learnt_all, learnt_none}
use Rattle.take.proofs.supply.Supply.learn_text.Goals as goal

pub learn_rows-requires : goal.learn_rows-requires
learn_rows-requires c = sym (c.in_ok-heading.ensures.same ∙ (c.new-reader.ensures.text ∙ take_all text_bytes c.args.self.source.text.now c.requires))

pub returns : goal.returns
returns c =
    let text = c.args.self.source.text.now in
    let start = starts c.new-reader.result text c.requires c.new-reader.ensures.text c.new-reader.ensures.start in
    let whole = c.learn_rows.ensures.same ∙ (c.in_ok-heading.ensures.same ∙ (c.new-reader.ensures.text ∙ take_all text_bytes text c.requires)) in
    learnt_all c.args.self.script.now (held c.args.self.schema.now) text (rest c.new-reader.result) (numbered c.args.self.source.known) (learned_of text c.args.fresh.now) (learned_of text c.learn_rows.new.fresh) c.learn_rows.new.reader c.learn_rows.result _ _ start whole c.in_ok-heading.ensures.value c.learn_rows.ensures.value c.learn_rows.ensures.place

pub returns-in_err-heading : goal.returns-in_err-heading
returns-in_err-heading c =
    let text = c.args.self.source.text.now in
    let p = err_from_is_err_and c.from_residual.result c.from_residual.ensures.1 in
    let start = starts c.new-reader.result text c.requires c.new-reader.ensures.text c.new-reader.ensures.start in
    let whole = c.in_err-heading.ensures.same ∙ (c.new-reader.ensures.text ∙ take_all text_bytes text c.requires) in
    learnt_none c.args.self.script.now (held c.args.self.schema.now) text (rest c.new-reader.result) (numbered c.args.self.source.known) (learned_of text c.args.fresh.now) _ c.heading.new.self c.from_residual.result _ p start whole c.in_err-heading.ensures.value c.in_err-heading.ensures.place
