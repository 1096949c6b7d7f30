use Rattle.std.proofs.Common.{sym, ap, ◌∙◌, arith}
use Rattle.std.proofs.lemmas.Result.{err_from_is_err_and}
use Rattle.words.specs.Sizes.{text_bytes}
use Rattle.words.specs.Tallies.{tallied}
use Rattle.words.specs.Lexing.{tokens_from}
use Rattle.words.specs.Views.{standing, spoken, heard}
use Rattle.words.proofs.Counts.{counted_total, tally_broken, tally_ended, tally_more}
use Rattle.words.proofs.Readings.{every_text_is_scanned, one_list_of_tokens}
use Rattle.words.proofs.tallies.scan.Goals as goal

pub returns-in_err-lexeme : goal.returns-in_err-lexeme
returns-in_err-lexeme c =
    let p = err_from_is_err_and c.from_residual.result c.from_residual.ensures.1 in
    record {
      scanned = every_text_is_scanned (text_bytes c.args.text.now);
      one = one_list_of_tokens;
      tally = rw (p.1, p.2) (tally_broken c.loop-lexeme.tally (standing c.loop-lexeme.scanner) _ _ c.in_err-lexeme.ensures.value c.loop-lexeme.invariant.1);
    }

pub returns-in-End : goal.returns-in-End
returns-in-End c =
    let l = c.in_ok-lexeme.lexeme in
    let after = standing c.next.new.self in
    let heard-end = ap (λ t. heard (spoken t) l.place after) (sym c.in-End.is) in
    record {
      scanned = every_text_is_scanned (text_bytes c.args.text.now);
      one = one_list_of_tokens;
      tally = tally_ended c.loop-lexeme.tally (standing c.loop-lexeme.scanner) after _ _ (heard-end ∙ c.in_ok-lexeme.ensures.value) c.loop-lexeme.invariant.1;
    }

pub loop-lexeme-preserved : goal.loop-lexeme-preserved
loop-lexeme-preserved c =
    let l = c.in_ok-lexeme.lexeme in
    let after = standing c.next.new.self in
    let e = c.count-tally.ensures in
    let n = counted_total (spoken l.token) l.place.line c.loop-lexeme.tally in
    let m = c.in_ok-lexeme.ensures in (
      rw e (omega (arith, n, m.moved, c.loop-lexeme.invariant.0)),
      ap (λ y. tallied y (tokens_from after)) e
          ∙ tally_more c.loop-lexeme.tally (standing c.loop-lexeme.scanner) after l.token l.place _ m.value c.in_default.not-End c.loop-lexeme.invariant.1,
    )
