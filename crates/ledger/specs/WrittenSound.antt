-- The store that a ledger stands for is sound, as the ledger's facts say.
use Rattle.std.specs.Prelude.{◌≡◌, ℕ, suc, ◌+◌, ◌≤◌, true, List, [], ◌∷◌, length}
use Rattle.std.proofs.Common.{sym, refl, ap, subst}
use Rattle.fault.specs.Limits.{cells, tables}
use Rattle.store.specs.Meaning.{used}
use Rattle.store.specs.Sound.{Sound, sound_tables}
use Rattle.ledger.specs.Lines.{numbered, tables_of, written}
use Rattle.ledger.specs.declared.line.Line.{Line}

-- a table for each width
pub length_numbered : (t : ℕ) (ws : List ℕ) (ls : List Line) → length (numbered t ws ls) ≡ length ws
length_numbered t [] ls = refl
length_numbered t (w ∷ ws) ls = ap suc (length_numbered (t + 1) ws ls)

pub written_sound : (c u : ℕ) (ws : List ℕ) (ls : List Line) → sound_tables (tables_of ws ls) ≡ true → u ≡ used (tables_of ws ls) → u ≤ c → c ≤ cells → length ws ≤ tables → Sound (written c ws ls)
written_sound c u ws ls s k w m f =
    record {
      small = m;
      within = subst (λ n. n ≤ c) k w;
      few = subst (λ n. n ≤ tables) (sym (length_numbered 0 ws ls)) f;
      right = s;
    }
