use Rattle.std.proofs.Common.{◌∙◌}
use Rattle.std.proofs.lemmas.Result.{err_from_is_err_and}
use Rattle.schema.specs.Columns.{held}
use Rattle.listing.specs.Seen.{rest}
use Rattle.listing.proofs.Exits.{reads_err}
use Rattle.listing.proofs.Tables.{heading_right, heading_wrong}
use Rattle.listing.proofs.reader.Reader.pass_table.Goals as goal

pub returns : goal.returns
returns c = record {
  value = c.count_rows.ensures.value ∙ heading_right c.args.script.now (held c.args.schema.now) (rest c.args.self.now) _ _ c.in_ok-heading.ensures.value;
  place = c.count_rows.ensures.place;
  same = c.count_rows.ensures.same ∙ c.in_ok-heading.ensures.same;
}

pub returns-in_err-heading : goal.returns-in_err-heading
returns-in_err-heading c =
    reads_err (err_from_is_err_and _ c.from_residual.ensures.1) c.in_err-heading.ensures.place
    (heading_wrong c.args.script.now (held c.args.schema.now) (rest c.args.self.now) _ _ c.in_err-heading.ensures.value)
    c.in_err-heading.ensures.same
