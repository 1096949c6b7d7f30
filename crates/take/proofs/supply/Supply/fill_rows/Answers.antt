use Rattle.std.proofs.Common.{length, take, sym, refl, ap, ◌∙◌, arith}
use Rattle.store.specs.Meaning.{accepted, last_table}
use Rattle.listing.specs.Seen.{rest}
use Rattle.listing.proofs.Tables.{moved}
use Rattle.pool.specs.Learning.{strings_of}
use Rattle.take.specs.Supplies.{text_of, column_domains, width_of}
use Rattle.take.proofs.Turns.{no_wrong_row}
use Rattle.take.proofs.Fills.{refused_is, row_cells, fill_on, fill_stop, fill_end}
use Rattle.take.proofs.supply.Supply.fill_rows.Goals as goal

pub loop-reader-init : goal.loop-reader-init
loop-reader-init g c = (c.requires, λ rows q e w. record { rows = rows; reads = e; adds = refl; width = w })

pub loop-reader-smaller : goal.loop-reader-smaller
loop-reader-smaller g c =
    let far = moved (column_domains c.args.self) c.loop-reader.reader.text.now c.row.new.self.text.now c.loop-reader.reader.at c.row.new.self.at _ c.in_ok-cells.ensures.same c.row.new.self.within c.loop-reader.reader.within c.in_ok-cells.ensures.value in
    let same = ap length c.in_ok-cells.ensures.same in
    omega (arith, far, same, c.row.new.self.within)

pub loop-reader-preserved : goal.loop-reader-preserved
loop-reader-preserved g c = (
  c.loop-reader.invariant.0 ∙ sym c.in_ok-cells.ensures.same,
  λ rows q e w.
      let strings = strings_of c.args.self.source c.args.fresh.now in
      let ds = column_domains c.args.self in
      let m = g.S.RowStore.meaning c.loop-reader.store in
      let same = c.in_ok-cells.ensures.same ∙ sym c.loop-reader.invariant.0 in
      let left = c.loop-reader.invariant.1 rows q e w in
      let cells = ap (take (last_table m).width) c.row_of.ensures ∙ row_cells strings (text_of c.args.self) c.row.new.self.text.now c.in_ok-cells.cells (last_table m).width (width_of c.args.self) same left.width in
      fill_on ds strings (rest c.loop-reader.reader) q (width_of c.args.self) m _ left _ (rest c.row.new.self) c.row_of.result _ (sym c.at_row.ensures ∙ c.loop-reader-test.true) c.in_ok-cells.ensures.value cells c.in_ok-add.ensures.after
      (ap accepted (sym c.in_ok-add.ensures.reply)),
)

pub returns-in_err-cells : goal.returns-in_err-cells
returns-in_err-cells g c = λ rows q e w.
    let left = c.loop-reader.invariant.1 rows q e w in
    absurd (no_wrong_row (column_domains c.args.self) (rest c.loop-reader.reader) left.rows q _ _ (sym c.at_row.ensures ∙ c.loop-reader-test.true) left.reads c.in_err-cells.ensures.value)

pub returns-in_err-add : goal.returns-in_err-add
returns-in_err-add g c = λ rows q e w.
    let strings = strings_of c.args.self.source c.args.fresh.now in
    let ds = column_domains c.args.self in
    let m = g.S.RowStore.meaning c.loop-reader.store in
    let same = c.in_ok-cells.ensures.same ∙ sym c.loop-reader.invariant.0 in
    let left = c.loop-reader.invariant.1 rows q e w in
    let cells = ap (take (last_table m).width) c.row_of.ensures ∙ row_cells strings (text_of c.args.self) c.row.new.self.text.now c.in_ok-cells.cells (last_table m).width (width_of c.args.self) same left.width in
    let stop = fill_stop ds strings (rest c.loop-reader.reader) q (width_of c.args.self) m _ left _ (rest c.row.new.self) c.row_of.result _ (sym c.at_row.ensures ∙ c.loop-reader-test.true) c.in_ok-cells.ensures.value cells c.in_err-add.ensures.after
    (ap accepted (sym c.in_err-add.ensures.reply)) in
    (refused_is c.from_residual-in_err-add.result c.from_residual-in_err-add.ensures.0 ∙ sym stop.0, stop.1)

pub returns : goal.returns
returns g c = λ rows q e w.
    let left = c.loop-reader.invariant.1 rows q e w in
    let done = fill_end (column_domains c.args.self) (strings_of c.args.self.source c.args.fresh.now) (rest c.loop-reader.reader) q (width_of c.args.self) (g.S.RowStore.meaning c.loop-reader.store) _ left (sym c.at_row.ensures ∙ c.loop-reader-test.false) in
    (sym done.0, done.1)
