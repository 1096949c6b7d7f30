use Rattle.std.proofs.lemmas.Result.{err_from_is_err_and}
use Rattle.listing.proofs.Exits.{reads_err}
use Rattle.listing.proofs.Steps.{quoted_right, quoted_wrong}
use Rattle.listing.proofs.reader.Reader.quoted.Goals as goal

pub returns-in_err-byte : goal.returns-in_err-byte
returns-in_err-byte c =
    reads_err (err_from_is_err_and _ c.from_residual.ensures.1) c.in_err-byte.ensures.place
    (quoted_wrong c.args.self.now.text.now c.args.self.now.at c.plain_length-inside.result c.plain_length-inside.ensures.value _ _ c.in_err-byte.ensures.value)
    c.in_err-byte.ensures.same

pub returns : goal.returns
returns c = record {
  value = quoted_right c.args.self.now.text.now c.args.self.now.at c.plain_length-inside.result c.plain_length-inside.ensures.value _ _ c.in_ok-byte.ensures.same c.in_ok-byte.ensures.value;
  place = tt;
  same = c.in_ok-byte.ensures.same;
}
