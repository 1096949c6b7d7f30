use Rattle.std.proofs.Common.{length, sym, refl, ap, ◌∙◌, arith}
use Rattle.std.proofs.lemmas.Result.{err_from_is_err_and}
use Rattle.schema.specs.Columns.{held}
use Rattle.listing.specs.Seen.{rest, domains_of}
use Rattle.listing.proofs.Exits.{reads_err}
use Rattle.listing.proofs.Tables.{none_before, another_row, wrong_row, right_end, wrong_end, moved}
use Rattle.listing.proofs.reader.Reader.count_rows.Goals as goal

pub loop-self-init : goal.loop-self-init
loop-self-init c = (refl, omega arith, none_before _)

pub overflow_add-count : goal.overflow_add-count
overflow_add-count c = omega (arith, c.loop-self.invariant.1, c.loop-self.self.within, c.loop-self.self.short)

pub loop-self-smaller : goal.loop-self-smaller
loop-self-smaller c =
    let far = moved (domains_of (held c.args.schema.now)) c.loop-self.self.text.now c.row.new.self.text.now c.loop-self.self.at c.row.new.self.at _ c.in_ok-row.ensures.same c.row.new.self.within c.loop-self.self.within c.in_ok-row.ensures.value in
    let same = ap length c.in_ok-row.ensures.same in
    omega (arith, far, same, c.row.new.self.within)

pub loop-self-preserved : goal.loop-self-preserved
loop-self-preserved c =
    let ds = domains_of (held c.args.schema.now) in
    let far = moved ds c.loop-self.self.text.now c.row.new.self.text.now c.loop-self.self.at c.row.new.self.at _ c.in_ok-row.ensures.same c.row.new.self.within c.loop-self.self.within c.in_ok-row.ensures.value in (
      c.in_ok-row.ensures.same ∙ c.loop-self.invariant.0,
      omega (arith, far, c.loop-self.invariant.1),
      another_row ds c.loop-self.count (rest c.loop-self.self) _ c.loop-self.invariant.2 _ _ (sym c.at_row.ensures ∙ c.loop-self-test.true) c.in_ok-row.ensures.value,
    )

pub returns-in_err-row : goal.returns-in_err-row
returns-in_err-row c =
    reads_err (err_from_is_err_and _ c.from_residual.ensures.1) c.in_err-row.ensures.place
    (wrong_row (domains_of (held c.args.schema.now)) c.loop-self.count (rest c.loop-self.self) _ c.loop-self.invariant.2 _ _ (sym c.at_row.ensures ∙ c.loop-self-test.true) c.in_err-row.ensures.value)
    (c.in_err-row.ensures.same ∙ c.loop-self.invariant.0)

pub returns-in_err-end : goal.returns-in_err-end
returns-in_err-end c =
    reads_err (err_from_is_err_and _ c.from_residual-in_err-end.ensures.1) c.in_err-end.ensures.place
    (wrong_end (domains_of (held c.args.schema.now)) c.loop-self.count (rest c.loop-self.self) _ c.loop-self.invariant.2 _ _ (sym c.at_row.ensures ∙ c.loop-self-test.false) c.in_err-end.ensures.value)
    (c.in_err-end.ensures.same ∙ c.loop-self.invariant.0)

pub returns : goal.returns
returns c = record {
  value = right_end (domains_of (held c.args.schema.now)) c.loop-self.count (rest c.loop-self.self) _ c.loop-self.invariant.2 _ (sym c.at_row.ensures ∙ c.loop-self-test.false) c.in_ok-end.ensures.value;
  place = tt;
  same = c.in_ok-end.ensures.same ∙ c.loop-self.invariant.0;
}
