use Rattle.std.proofs.Common.{◌∙◌}
use Rattle.std.proofs.lemmas.Result.{err_from_is_err_and}
use Rattle.listing.specs.Seen.{rest}
use Rattle.listing.proofs.Exits.{reads_err}
use Rattle.listing.proofs.Entries.{columns_on, columns_off, columns_end}
use Rattle.listing.proofs.reader.Reader.columns.Goals as goal

pub loop-attribute-preserved : goal.loop-attribute-preserved
loop-attribute-preserved c = (
  c.in_ok-further_column.ensures.same ∙ c.loop-attribute.invariant.0,
  columns_on c.args.columns.text.now c.args.columns.attributes.now c.loop-attribute.attribute-index _ c.loop-attribute.separator.now (rest c.loop-attribute.self) _ c.loop-attribute-test.true c.loop-attribute.invariant.1 _ _ c.in_ok-further_column.ensures.value,
)

pub returns : goal.returns
returns c = record {
  value = c.word.ensures.value ∙ columns_end c.args.columns.text.now c.args.columns.attributes.now c.loop-attribute.attribute-index c.loop-attribute.separator.now (rest c.loop-attribute.self) _ c.loop-attribute-test.false c.loop-attribute.invariant.1;
  place = c.word.ensures.place;
  same = c.word.ensures.same ∙ c.loop-attribute.invariant.0;
}

pub returns-in_err-further_column : goal.returns-in_err-further_column
returns-in_err-further_column c =
    reads_err (err_from_is_err_and _ c.from_residual.ensures.1) c.in_err-further_column.ensures.place
    (columns_off c.args.columns.text.now c.args.columns.attributes.now c.loop-attribute.attribute-index _ c.loop-attribute.separator.now (rest c.loop-attribute.self) _ c.loop-attribute-test.true c.loop-attribute.invariant.1 _ _ c.in_err-further_column.ensures.value)
    (c.in_err-further_column.ensures.same ∙ c.loop-attribute.invariant.0)
