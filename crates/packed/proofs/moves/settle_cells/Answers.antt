use Rattle.std.proofs.Common.{◌≡◌, ◌-◌, ◌++◌, length, sym, ap, ◌∙◌, arith}
use Rattle.std.proofs.lemmas.List.{append_assoc, length-append}
use Rattle.packed.proofs.moves.settle_cells.Goals as goal

pub returns : goal.returns
returns c front old middle last is f o l =
    let k : length (old ++ middle) ≡ length c.args.cells.now - c.args.from - c.args.moved = omega (arith, ap length is, length-append front (old ++ (middle ++ last)), length-append old (middle ++ last), length-append middle last, length-append old middle) in
    let one = c.swap_rest.ensures front (old ++ middle) last (is ∙ ap (λ x. front ++ x) (sym (append_assoc old middle last))) f k in
    let two = c.swap_rest-2.ensures (front ++ last) old middle (one ∙ sym (append_assoc front last (old ++ middle))) (omega (arith, length-append front last)) o in
    two ∙ append_assoc front last (middle ++ old)
