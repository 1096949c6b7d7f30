-- Counting the tokens that are left, one step at a time.
use Rattle.std.proofs.Common.{◌≡◌, ℕ, ◌+◌, ◌≤◌, Some, None, Ok, Err, Option, Result, sym, refl, ap, ◌∙◌, arith}
use Rattle.fault.specs.declared.rules.Fault.{Fault}
use Rattle.words.specs.declared.tallies.Tally.{Tally}
use Rattle.words.specs.declared.tokens.Token.{Token as Borrowed}
use Rattle.words.specs.declared.tokens.Token.TheVariants as borrowed
use Rattle.words.specs.Lexing.{Spot, Scan.ended, Scan.faulty, next, tokens_from}
use Rattle.words.specs.Tallies.{total, counted_as, tallied}
use Rattle.words.specs.Tokens.{Place, Terminal}
use Rattle.words.specs.Tokens.{Terminal.word, Terminal.domain, Terminal.logic, Terminal.truth, Terminal.sign, Terminal.comparison, Terminal.sum, Terminal.product, Terminal.name, Terminal.integer, Terminal.string, Terminal.broken}
use Rattle.words.specs.Views.{spoken, heard, weight}
use Rattle.words.proofs.Readings.{tokens_found, tokens_ended, tokens_broken}

-- a token counts for one
pub counted_total : (o : Option Terminal) (l : ℕ) (y : Tally) → total (counted_as o l y) ≤ total y + weight o
counted_total None l y = omega arith
counted_total (Some (word w)) l y = omega arith
counted_total (Some (domain d)) l y = omega arith
counted_total (Some (logic o)) l y = omega arith
counted_total (Some (truth b)) l y = omega arith
counted_total (Some (sign x)) l y = omega arith
counted_total (Some (comparison o)) l y = omega arith
counted_total (Some (sum o)) l y = omega arith
counted_total (Some (product o)) l y = omega arith
counted_total (Some (name n)) l y = omega arith
counted_total (Some (integer ds)) l y = omega arith
counted_total (Some (string bs)) l y = omega arith
counted_total (Some (broken r)) l y = omega arith

-- a fault is the answer
pub tally_broken : (y : Tally) (s : Spot) (f : Fault) (whole : Result Tally Fault) → faulty f.rule f.place ≡ next s →
    tallied y (tokens_from s) ≡ whole → Err f ≡ whole
tally_broken y s f whole h e = ap (tallied y) (sym (tokens_broken s _ _ (sym h))) ∙ e

-- the end is
pub tally_ended : (y : Tally) (s k : Spot) (p : Place) (whole : Result Tally Fault) → ended p k ≡ next s → tallied y (tokens_from s) ≡ whole → Ok y ≡ whole
tally_ended y s k p whole h e = ap (tallied y) (sym (tokens_ended s k p (sym h))) ∙ e

-- a token is counted, and the others with it
pub tally_more : (y : Tally) (s k : Spot) (t : Borrowed) (p : Place) (whole : Result Tally Fault) → heard (spoken t) p k ≡ next s → (t ≡ borrowed.End → ⊥) →
    tallied y (tokens_from s) ≡ whole → tallied (counted_as (spoken t) p.line y) (tokens_from k) ≡ whole
tally_more y s k borrowed.End p whole h live e = absurd (live refl)
tally_more y s k (borrowed.Word w) p whole h live e = ap (tallied y) (sym (tokens_found s k _ (sym h))) ∙ e
tally_more y s k (borrowed.Domain d) p whole h live e = ap (tallied y) (sym (tokens_found s k _ (sym h))) ∙ e
tally_more y s k (borrowed.Logic o) p whole h live e = ap (tallied y) (sym (tokens_found s k _ (sym h))) ∙ e
tally_more y s k (borrowed.Truth b) p whole h live e = ap (tallied y) (sym (tokens_found s k _ (sym h))) ∙ e
tally_more y s k (borrowed.Sign x) p whole h live e = ap (tallied y) (sym (tokens_found s k _ (sym h))) ∙ e
tally_more y s k (borrowed.Comparison o) p whole h live e = ap (tallied y) (sym (tokens_found s k _ (sym h))) ∙ e
tally_more y s k (borrowed.Sum o) p whole h live e = ap (tallied y) (sym (tokens_found s k _ (sym h))) ∙ e
tally_more y s k (borrowed.Product o) p whole h live e = ap (tallied y) (sym (tokens_found s k _ (sym h))) ∙ e
tally_more y s k (borrowed.Name b) p whole h live e = ap (tallied y) (sym (tokens_found s k _ (sym h))) ∙ e
tally_more y s k (borrowed.Integer b) p whole h live e = ap (tallied y) (sym (tokens_found s k _ (sym h))) ∙ e
tally_more y s k (borrowed.Text b) p whole h live e = ap (tallied y) (sym (tokens_found s k _ (sym h))) ∙ e
