use Rattle.std.proofs.Common.{◌∙◌, arith}
use Rattle.std.proofs.lemmas.List.{length-set}
use Rattle.std.proofs.lemmas.Result.{err_from_is_err_and}
use Rattle.listing.specs.Seen.{rest}
use Rattle.listing.proofs.Exits.{reads_err}
use Rattle.listing.proofs.Entries.{values_on, values_off, values_closed, values_unclosed}
use Rattle.listing.proofs.reader.Reader.values.Goals as goal

pub loop-i-init : goal.loop-i-init
loop-i-init c = search arith

pub loop-i-preserved : goal.loop-i-preserved
loop-i-preserved c =
    let all = c.args.attributes.now in
    let i = c.loop-i.i in (
      c.in_ok-cells.ensures.same ∙ c.loop-i.invariant.0,
      length-set c.loop-i.cells i _ ∙ c.loop-i.invariant.1,
      values_on c.loop-i.self.text.now all i _ c.loop-i.separator.now (rest c.loop-i.self) c.loop-i.cells _ c.loop-i-test.true c.loop-i.invariant.2
          _ _ _ (omega (arith, c.requires, c.loop-i.invariant.1, c.loop-i-test.true)) c.in_ok-cells.ensures.same c.in_ok-cells.ensures.value,
    )

pub returns-in_err-cells : goal.returns-in_err-cells
returns-in_err-cells c =
    reads_err (err_from_is_err_and _ c.from_residual.ensures.1) c.in_err-cells.ensures.place
    (values_off c.loop-i.self.text.now c.args.attributes.now c.loop-i.i _ c.loop-i.separator.now (rest c.loop-i.self) c.loop-i.cells _ c.loop-i-test.true c.loop-i.invariant.2 _ _ c.in_err-cells.ensures.value)
    (c.in_err-cells.ensures.same ∙ c.loop-i.invariant.0)

pub returns-in_err-word : goal.returns-in_err-word
returns-in_err-word c =
    reads_err (err_from_is_err_and _ c.from_residual-in_err-word.ensures.1) c.in_err-word.ensures.place
    (values_unclosed c.loop-i.self.text.now c.args.attributes.now c.loop-i.i c.loop-i.separator.now (rest c.loop-i.self) c.loop-i.cells _ c.loop-i-test.false (omega arith) c.loop-i.invariant.2 _ _ c.in_err-word.ensures.value)
    (c.in_err-word.ensures.same ∙ c.loop-i.invariant.0)

pub returns : goal.returns
returns c = record {
  value = values_closed c.loop-i.self.text.now c.args.attributes.now c.loop-i.i c.loop-i.separator.now (rest c.loop-i.self) c.loop-i.cells _ c.loop-i-test.false (omega arith) c.loop-i.invariant.2 _ _ c.in_ok-word.ensures.same c.in_ok-word.ensures.value;
  place = tt;
  same = c.in_ok-word.ensures.same ∙ c.loop-i.invariant.0;
}
