-- The words that are left give the answer.
use Rattle.std.proofs.Common.{◌≡◌, map, drop}
use Rattle.words.specs.Spelling.{spelt_among}
use Rattle.words.proofs.keywords.spelt_among.Given as goal

abbrev pub invariant-loop-spelling : goal.invariant-loop-spelling
invariant-loop-spelling l =
    spelt_among (map (λ w. (w.0.now, w.1)) (drop l.spelling-index l.words)) l.bytes ≡ spelt_among (map (λ w. (w.0.now, w.1)) l.words) l.bytes
