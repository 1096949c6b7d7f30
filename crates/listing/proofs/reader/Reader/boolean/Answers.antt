use Rattle.std.proofs.Common.{true, false, sym, ◌∙◌}
use Rattle.std.proofs.lemmas.Result.{err_from_is_err_and}
use Rattle.listing.specs.Seen.{rest}
use Rattle.listing.proofs.Steps.{boolean_by}
use Rattle.listing.proofs.Exits.{reads_err}
use Rattle.listing.proofs.reader.Reader.boolean.Goals as goal

pub returns-in_err-word : goal.returns-in_err-word
returns-in_err-word c =
    reads_err (err_from_is_err_and _ c.from_residual.ensures.1) c.in_err-word.ensures.place
    (boolean_by (rest c.args.self.now) true (sym c.next_is.ensures ∙ c.if-next_is.true) _ c.in_err-word.ensures.value)
    c.in_err-word.ensures.same

pub returns-in_err-word-2 : goal.returns-in_err-word-2
returns-in_err-word-2 c =
    reads_err (err_from_is_err_and _ c.from_residual-in_err-word-2.ensures.1) c.in_err-word-2.ensures.place
    (boolean_by (rest c.args.self.now) false (sym c.next_is.ensures ∙ c.if-next_is.false) _ c.in_err-word-2.ensures.value)
    c.in_err-word-2.ensures.same
