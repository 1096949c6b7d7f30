use Rattle.std.proofs.Common.{◌≡◌, true, false, Err, sym, ap, ◌∙◌, arith}
use Rattle.std.proofs.lemmas.Bool.Decides.{nat_tests}
use Rattle.std.proofs.lemmas.Result.{err_from_is_err_and}
use Rattle.texts.specs.Reading.{read_table}
use Rattle.listing.specs.Whole.{replied}
use Rattle.pool.specs.Learning.{learned_of, nothing_learned}
use Rattle.take.specs.Taking.{learnt, learned_reply}
use Rattle.take.specs.Supplies.{text_of, columns_of, width_of, known_of}
use Rattle.take.proofs.Replies.{long, unready, wrong, right, too_many, as_rows}
use Rattle.take.proofs.taking.take_table.Goals as goal

pub returns-then-supply-gt-TEXT_BYTES : goal.returns-then-supply-gt-TEXT_BYTES
returns-then-supply-gt-TEXT_BYTES g c =
    let text = text_of c.args.supply in
    let cs = columns_of c.args.supply in
    let known = known_of c.args.supply in
    let l0 = nothing_learned c.args.used.strings c.args.used.bytes in
    let w = width_of c.args.supply in
    let m = g.S.RowStore.meaning c.args.store.now in
    let both = long cs text known l0 c.args.table w m c.if-supply-gt-TEXT_BYTES.true in
    record { reply = ap Err c.too_long.ensures ∙ both.0; after = both.1 }

pub returns-then-not-is_ready : goal.returns-then-not-is_ready
returns-then-not-is_ready g c =
    let text = text_of c.args.supply in
    let cs = columns_of c.args.supply in
    let known = known_of c.args.supply in
    let l0 = nothing_learned c.args.used.strings c.args.used.bytes in
    let w = width_of c.args.supply in
    let m = g.S.RowStore.meaning c.args.store.now in
    let short = c.if-supply-gt-TEXT_BYTES.false in
    let said : c.is_ready.result ≡ false = grind (arith, nat_tests, c.if-not-is_ready.true) in
    let both = unready cs text known l0 c.args.table w m short (sym c.is_ready.ensures ∙ said) in
    record { reply = ap Err c.fault.ensures ∙ both.0; after = both.1 }

pub returns-in_err-learn_text : goal.returns-in_err-learn_text
returns-in_err-learn_text g c =
    let text = text_of c.args.supply in
    let cs = columns_of c.args.supply in
    let known = known_of c.args.supply in
    let l0 = nothing_learned c.args.used.strings c.args.used.bytes in
    let w = width_of c.args.supply in
    let m = g.S.RowStore.meaning c.args.store.now in
    let short = c.if-supply-gt-TEXT_BYTES.false in
    let said : c.is_ready.result ≡ true = grind (arith, nat_tests, c.if-not-is_ready.false) in
    let ok = sym c.is_ready.ensures ∙ said in
    let none = c.new-fresh.ensures text in
    let p = err_from_is_err_and c.from_residual.result c.from_residual.ensures.1 in
    let both = wrong cs text known l0 c.args.table w m short ok _ l0 (c.in_err-learn_text.ensures ∙ ap (λ z. replied text (learnt known z (read_table cs text))) none) in
    record { reply = ap (learned_reply text) (p.1 ∙ ap Err p.2) ∙ both.0; after = both.1 }

pub returns-then-is_over : goal.returns-then-is_over
returns-then-is_over g c =
    let text = text_of c.args.supply in
    let cs = columns_of c.args.supply in
    let known = known_of c.args.supply in
    let l0 = nothing_learned c.args.used.strings c.args.used.bytes in
    let w = width_of c.args.supply in
    let m = g.S.RowStore.meaning c.args.store.now in
    let short = c.if-supply-gt-TEXT_BYTES.false in
    let said : c.is_ready.result ≡ true = grind (arith, nat_tests, c.if-not-is_ready.false) in
    let ok = sym c.is_ready.ensures ∙ said in
    let none = c.new-fresh.ensures text in
    let l = learned_of text c.learn_text.new.fresh in
    let t = right cs text known l0 c.args.table w m short ok l (c.in_ok-learn_text.ensures ∙ ap (λ z. replied text (learnt known z (read_table cs text))) none) in
    let both = too_many cs text known l0 c.args.table w m short ok l t (sym c.is_over.ensures ∙ c.if-is_over.true) in
    record { reply = ap Err c.of_supply.ensures ∙ both.0; after = both.1 }

pub returns-in_err-take_rows : goal.returns-in_err-take_rows
returns-in_err-take_rows g c =
    let text = text_of c.args.supply in
    let cs = columns_of c.args.supply in
    let known = known_of c.args.supply in
    let l0 = nothing_learned c.args.used.strings c.args.used.bytes in
    let w = width_of c.args.supply in
    let m = g.S.RowStore.meaning c.args.store.now in
    let short = c.if-supply-gt-TEXT_BYTES.false in
    let said : c.is_ready.result ≡ true = grind (arith, nat_tests, c.if-not-is_ready.false) in
    let ok = sym c.is_ready.ensures ∙ said in
    let none = c.new-fresh.ensures text in
    let l = learned_of text c.learn_text.new.fresh in
    let t = right cs text known l0 c.args.table w m short ok l (c.in_ok-learn_text.ensures ∙ ap (λ z. replied text (learnt known z (read_table cs text))) none) in
    let p = err_from_is_err_and c.from_residual-in_err-take_rows.result c.from_residual-in_err-take_rows.ensures.1 in
    let both = as_rows cs text known l0 c.args.table w m short ok l t (sym c.is_over.ensures ∙ c.if-is_over.false) _ _ (c.in_err-take_rows.ensures t.rows t.reads ok).0 (c.in_err-take_rows.ensures t.rows t.reads ok).1 in
    record { reply = ap (learned_reply text) (p.1 ∙ ap Err p.2) ∙ both.0; after = both.1 }

pub returns : goal.returns
returns g c =
    let text = text_of c.args.supply in
    let cs = columns_of c.args.supply in
    let known = known_of c.args.supply in
    let l0 = nothing_learned c.args.used.strings c.args.used.bytes in
    let w = width_of c.args.supply in
    let m = g.S.RowStore.meaning c.args.store.now in
    let short = c.if-supply-gt-TEXT_BYTES.false in
    let said : c.is_ready.result ≡ true = grind (arith, nat_tests, c.if-not-is_ready.false) in
    let ok = sym c.is_ready.ensures ∙ said in
    let none = c.new-fresh.ensures text in
    let l = learned_of text c.learn_text.new.fresh in
    let t = right cs text known l0 c.args.table w m short ok l (c.in_ok-learn_text.ensures ∙ ap (λ z. replied text (learnt known z (read_table cs text))) none) in
    let both = as_rows cs text known l0 c.args.table w m short ok l t (sym c.is_over.ensures ∙ c.if-is_over.false) _ _ (c.in_ok-take_rows.ensures t.rows t.reads ok).0 (c.in_ok-take_rows.ensures t.rows t.reads ok).1 in
    record { reply = both.0; after = both.1 }
