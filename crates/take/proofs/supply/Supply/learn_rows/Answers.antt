use Rattle.std.proofs.Common.{length, sym, ap, ◌∙◌, arith}
use Rattle.std.proofs.lemmas.Result.{err_from_is_err_and}
use Rattle.listing.specs.Seen.{rest}
use Rattle.listing.proofs.Exits.{reads_err}
use Rattle.listing.proofs.Tables.{moved}
use Rattle.pool.specs.Learning.{learn_row}
use Rattle.take.specs.Supplies.{text_of, column_domains, width_of, known_of, learned_from}
use Rattle.take.proofs.Turns.{another_row, wrong_row, ended, seen_end, row_values}
use Rattle.take.proofs.supply.Supply.learn_rows.Goals as goal

pub loop-reader-preserved : goal.loop-reader-preserved
loop-reader-preserved c =
    let text = text_of c.args.self in
    let ds = column_domains c.args.self in
    let same = c.in_ok-cells.ensures.same in
    let values = row_values text c.row.new.self.text.now c.in_ok-cells.cells c.width.result (width_of c.args.self) (same ∙ sym c.loop-reader.invariant.1) c.width.ensures in (
      same ∙ c.loop-reader.invariant.0,
      c.loop-reader.invariant.1 ∙ sym same,
      another_row ds (known_of c.args.self) (learned_from c.args.self c.loop-reader.fresh) (rest c.loop-reader.reader) _ c.loop-reader.invariant.2 _ _ _ (sym c.at_row.ensures ∙ c.loop-reader-test.true)
          c.in_ok-cells.ensures.value (c.learn_row.ensures ∙ ap (learn_row (known_of c.args.self) (learned_from c.args.self c.loop-reader.fresh)) values),
    )

pub loop-reader-smaller : goal.loop-reader-smaller
loop-reader-smaller c =
    let far = moved (column_domains c.args.self) c.loop-reader.reader.text.now c.row.new.self.text.now c.loop-reader.reader.at c.row.new.self.at _ c.in_ok-cells.ensures.same c.row.new.self.within c.loop-reader.reader.within c.in_ok-cells.ensures.value in
    let same = ap length c.in_ok-cells.ensures.same in
    omega (arith, far, same, c.row.new.self.within)

pub returns : goal.returns
returns c = record {
  value = seen_end (text_of c.args.self) c.loop-reader.fresh c.end.new.self c.end.result _ c.end.ensures.value
      ∙ ended (column_domains c.args.self) (known_of c.args.self) (learned_from c.args.self c.loop-reader.fresh) (rest c.loop-reader.reader) _ c.loop-reader.invariant.2 (sym c.at_row.ensures ∙ c.loop-reader-test.false);
  place = c.end.ensures.place;
  same = c.end.ensures.same ∙ c.loop-reader.invariant.0;
}

pub returns-in_err-cells : goal.returns-in_err-cells
returns-in_err-cells c =
    reads_err (err_from_is_err_and _ c.from_residual.ensures.1) c.in_err-cells.ensures.place
    (wrong_row (column_domains c.args.self) (known_of c.args.self) (learned_from c.args.self c.loop-reader.fresh) (rest c.loop-reader.reader) _ c.loop-reader.invariant.2 _ _ (sym c.at_row.ensures ∙ c.loop-reader-test.true) c.in_err-cells.ensures.value)
    (c.in_err-cells.ensures.same ∙ c.loop-reader.invariant.0)
