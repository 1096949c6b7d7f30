-- The store that a chained store's fields stand for is sound, as its facts say.
use Rattle.std.specs.Prelude.{◌≡◌, ℕ, ◌≤◌, true, List, length, ℤ}
use Rattle.std.proofs.Common.{sym, ◌∙◌, subst}
use Rattle.fault.specs.Limits.{cells, tables}
use Rattle.store.specs.Sound.{Sound, sound_tables}
use Rattle.directory.specs.Run.{extent, decode}
use Rattle.directory.specs.declared.entry.Entry.{Entry}
use Rattle.directory.proofs.Decoding.{length_decode, used_decode}
use Rattle.chained.specs.Chains.{run, chained}

pub chained_sound : (c u : ℕ) (es : List Entry) (cs : List ℤ) (ns : List ℕ) → sound_tables (decode es (run es cs ns)) ≡ true → u ≡ extent es → u ≤ c → c ≤ cells → length es ≤ tables → Sound (chained c es cs ns)
chained_sound c u es cs ns s f w m l =
    record {
      small = m;
      within = subst (λ n. n ≤ c) (f ∙ sym (used_decode es (run es cs ns))) w;
      few = subst (λ n. n ≤ tables) (sym (length_decode es (run es cs ns))) l;
      right = s;
    }
