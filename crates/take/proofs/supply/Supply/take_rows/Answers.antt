use Rattle.std.proofs.Common.{◌≡◌, true, false, [], length, Err, is_ok, sym, ap, ◌∙◌, rules}
use Rattle.std.proofs.lemmas.List.{take_all}
use Rattle.fault.specs.Limits.{text_bytes}
use Rattle.schema.specs.Columns.{held}
use Rattle.texts.specs.Reading.{read_heading}
use Rattle.listing.specs.Seen.{rest, passed}
use Rattle.pool.specs.Learning.{strings_of}
use Rattle.take.specs.Supplies.{text_of, columns_of}
use Rattle.take.specs.Taking.{cell_rows}
use Rattle.take.proofs.Widths.{text_wide, heading_not_refused}
use Rattle.take.proofs.Takes.{err_not_ok, starts, rows_follow, opens_now, width_now, settled_rows, dropped_rows}
use Rattle.take.proofs.supply.Supply.take_rows.Goals as goal

pub returns-in_err-open : goal.returns-in_err-open
returns-in_err-open g c =
    let m = g.S.RowStore.meaning c.args.store.now in
    λ rows e ok. absurd (err_not_ok _ tt (c.in_err-open.ensures.reply ∙ opens_now m (g.S.RowStore.meaning c.open.new.self) c.args.table c.width.result (length (held c.args.self.schema.now)) ok c.width.ensures c.in_err-open.ensures.after))

pub returns-in_err-heading : goal.returns-in_err-heading
returns-in_err-heading g c =
    let cs = columns_of c.args.self in
    let start = starts c.new-reader.result (text_of c.args.self) c.requires c.new-reader.ensures.text c.new-reader.ensures.start in
    λ rows e ok. absurd (heading_not_refused cs (text_of c.args.self) rows _ _ e (c.in_err-heading.ensures.value ∙ ap (λ z. passed (read_heading cs z)) start))

pub fill_rows-requires : goal.fill_rows-requires
fill_rows-requires g c = sym (c.in_ok-heading.ensures.same ∙ (c.new-reader.ensures.text ∙ take_all text_bytes (text_of c.args.self) c.requires))

pub returns-then-is_ok : goal.returns-then-is_ok
returns-then-is_ok g c =
    let told : is_ok c.fill_rows.result ≡ true = search rules in
    let held-now = held c.args.self.schema.now in
    let w = length held-now in
    let m = g.S.RowStore.meaning c.args.store.now in
    let m1 = g.S.RowStore.meaning c.open.new.self in
    let strings = strings_of c.args.self.source c.args.fresh.now in
    let start = starts c.new-reader.result (text_of c.args.self) c.requires c.new-reader.ensures.text c.new-reader.ensures.start in
    λ rows e ok.
    let follow = rows_follow c.args.self.script.now held-now (text_of c.args.self) (rest c.new-reader.result) rows _ _ start e c.in_ok-heading.ensures.value in
    let wide = width_now m m1 c.args.table c.width.result w ok c.width.ensures c.in_ok-open.ensures.after in
    let cells = cell_rows strings rows in
    let all = text_wide strings c.args.self.script.now held-now (text_of c.args.self) rows e in
    let done = c.fill_rows.ensures rows [] follow wide in
    let whole = sym done.0 ∙ told in
    settled_rows m m1 c.args.table c.width.result w ok c.width.ensures c.in_ok-open.ensures.after cells all whole _ _ _ done.1 c.settle.ensures.reply c.settle.ensures.after

pub returns-in_err-drop_last : goal.returns-in_err-drop_last
returns-in_err-drop_last g c =
    let told : is_ok c.fill_rows.result ≡ false = search rules in
    let held-now = held c.args.self.schema.now in
    let w = length held-now in
    let m = g.S.RowStore.meaning c.args.store.now in
    let m1 = g.S.RowStore.meaning c.open.new.self in
    let strings = strings_of c.args.self.source c.args.fresh.now in
    let start = starts c.new-reader.result (text_of c.args.self) c.requires c.new-reader.ensures.text c.new-reader.ensures.start in
    λ rows e ok.
    let follow = rows_follow c.args.self.script.now held-now (text_of c.args.self) (rest c.new-reader.result) rows _ _ start e c.in_ok-heading.ensures.value in
    let wide = width_now m m1 c.args.table c.width.result w ok c.width.ensures c.in_ok-open.ensures.after in
    let cells = cell_rows strings rows in
    let all = text_wide strings c.args.self.script.now held-now (text_of c.args.self) rows e in
    let done = c.fill_rows.ensures rows [] follow wide in
    let whole = sym done.0 ∙ told in
    let three = dropped_rows m m1 c.args.table c.width.result w ok c.width.ensures c.in_ok-open.ensures.after cells all whole _ _ done.1 c.drop_last.ensures.after in
    absurd (err_not_ok _ tt (c.in_err-drop_last.ensures.reply ∙ three.0))

pub returns : goal.returns
returns g c =
    let told : is_ok c.fill_rows.result ≡ false = search rules in
    let held-now = held c.args.self.schema.now in
    let w = length held-now in
    let m = g.S.RowStore.meaning c.args.store.now in
    let m1 = g.S.RowStore.meaning c.open.new.self in
    let strings = strings_of c.args.self.source c.args.fresh.now in
    let start = starts c.new-reader.result (text_of c.args.self) c.requires c.new-reader.ensures.text c.new-reader.ensures.start in
    λ rows e ok.
    let follow = rows_follow c.args.self.script.now held-now (text_of c.args.self) (rest c.new-reader.result) rows _ _ start e c.in_ok-heading.ensures.value in
    let wide = width_now m m1 c.args.table c.width.result w ok c.width.ensures c.in_ok-open.ensures.after in
    let cells = cell_rows strings rows in
    let all = text_wide strings c.args.self.script.now held-now (text_of c.args.self) rows e in
    let done = c.fill_rows.ensures rows [] follow wide in
    let whole = sym done.0 ∙ told in
    let three = dropped_rows m m1 c.args.table c.width.result w ok c.width.ensures c.in_ok-open.ensures.after cells all whole _ _ done.1 c.drop_last.ensures.after in
    (ap Err c.of_supply.ensures ∙ three.1, three.2)
