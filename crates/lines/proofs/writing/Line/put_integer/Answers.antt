use Rattle.std.proofs.Common.{◌≡◌, ◌+◌, ◌≤◌, [], ◌∷◌, ℤ, List, pos, nat_abs, length, sym, ap, ◌∙◌, subst, true, arith, w64}
use Rattle.std.specs.Fmt.{signed_decimal}
use Rattle.lines.specs.Buffers.{Adds, value_room}
use lib.Signed.{le_z, lt_z}
use mir.ValLaws.{to_z-of_z}
use Rattle.lines.proofs.Digits.{one_digit}
use Rattle.lines.proofs.writing.Line.put_integer.Goals as goal

pub returns-then-value-lt10-clause-bytes : goal.returns-then-value-lt10-clause-bytes
returns-then-value-lt10-clause-bytes c =
    let same = to_z-of_z w64 c.args.value c.ranges.value in
    let text = one_digit c.args.value (ap (λ z. le_z (pos 0) z) (sym same) ∙ c.if-value-ge0.true) (ap (λ z. lt_z z (pos 10)) (sym same) ∙ c.if-value-lt10.true) in
    subst (λ t. Adds t c.args.self.now c.put.new.self) (ap (λ z. (48 + nat_abs z) ∷ []) same ∙ sym text) c.put.ensures

pub returns-then-value-lt10-clause-short : goal.returns-then-value-lt10-clause-short
returns-then-value-lt10-clause-short c =
    let same = to_z-of_z w64 c.args.value c.ranges.value in
    let text = one_digit c.args.value (ap (λ z. le_z (pos 0) z) (sym same) ∙ c.if-value-ge0.true) (ap (λ z. lt_z z (pos 10)) (sym same) ∙ c.if-value-lt10.true) in
    let long : length (signed_decimal c.args.value) ≡ 1 = ap length text in
    omega (arith, long)
