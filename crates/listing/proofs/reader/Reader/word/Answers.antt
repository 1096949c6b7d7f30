use Rattle.std.proofs.Common.{sym, ap, ◌∙◌}
use Rattle.std.proofs.lemmas.Result.{err_from_is_err_and}
use Rattle.std.proofs.lemmas.List.{drop_all}
use Rattle.texts.specs.Readers.{word}
use Rattle.listing.specs.Seen.{rest}
use Rattle.listing.proofs.Exits.{reads_err}
use Rattle.listing.proofs.Steps.{word_on_lem, word_off}
use Rattle.listing.proofs.reader.Reader.word.Goals as goal

pub loop-b-preserved : goal.loop-b-preserved
loop-b-preserved c = (
  c.in_ok-byte.ensures.same ∙ c.loop-b.invariant.0,
  word_on_lem c.args.rule c.args.wanted.now c.loop-b.b-index (rest c.loop-b.self) _ c.loop-b-test.true c.loop-b.invariant.1 _ c.in_ok-byte.ensures.value,
)

pub returns : goal.returns
returns c = record {
  value = ap (λ z. word c.args.rule z (tt {0}) (rest c.loop-b.self)) (sym (drop_all c.loop-b.b-index c.args.wanted.now c.loop-b-test.false)) ∙ c.loop-b.invariant.1;
  place = tt;
  same = c.loop-b.invariant.0;
}

pub returns-in_err-byte : goal.returns-in_err-byte
returns-in_err-byte c =
    reads_err (err_from_is_err_and _ c.from_residual.ensures.1) c.in_err-byte.ensures.place
    (word_off c.args.rule c.args.wanted.now c.loop-b.b-index (rest c.loop-b.self) _ c.loop-b-test.true c.loop-b.invariant.1 _ _ c.in_err-byte.ensures.value)
    (c.in_err-byte.ensures.same ∙ c.loop-b.invariant.0)
