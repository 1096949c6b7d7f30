-- The rows of a run of cells as the chunks that an iterator gives: whether one of them is a row.
use Rattle.std.proofs.Common.{◌≡◌, ℕ, ◌+◌, ◌*◌, ◌/◌, ◌<◌, ◌≤◌, Bool, true, false, List, [], ◌∷◌, length, take, drop, ℤ, Option, Some, None, sym, ap, ◌∙◌, ⊎_elim, arith}
use Rattle.std.proofs.lemmas.Bool.{cases_Bool, cases_lt}
use Rattle.std.proofs.lemmas.Nat.{mul-le}
use Rattle.std.proofs.Math.Nat.{mul-div_cancel}
use Rattle.std.specs.Bool.{MatchBool}
use Rattle.std.specs.List.{IsSubsliceAt}
use Rattle.std.specs.Option.{IsSomeAnd, IfSome, option_map}
use Rattle.std.specs.Iterator.Runs.{Run, AnyItem, AllItems, IsChunksExactRun}
use denote.Ref.{Bor}
use Rattle.store.specs.Meaning.{Row, has}
use Rattle.store.specs.Laws.{Among}
use Rattle.store.proofs.Reasons.{found_among, among_found}
use Rattle.directory.specs.Run.{chunk}
use Rattle.directory.proofs.Decoding.{length_chunk, get_d_chunk}

-- row k is the row
pub has_there : (count w : ℕ) (cs : List ℤ) (row : Row) (k : ℕ) → k < count → take w (drop (k * w) cs) ≡ row → has (chunk count w cs) row ≡ true
has_there count w cs row k l e = among_found (chunk count w cs) row k (omega (arith, length_chunk count w cs)) (get_d_chunk count w cs k l ∙ e)

-- none is
pub has_none : (count w : ℕ) (cs : List ℤ) (row : Row) → ((k : ℕ) → k < count → take w (drop (k * w) cs) ≡ row → ⊥) → has (chunk count w cs) row ≡ false
has_none count w cs row none = ⊎_elim (λ h. absurd (go (found_among (chunk count w cs) row h))) (λ h. h) (cases_Bool (has (chunk count w cs) row))
  where
    go : Among row (chunk count w cs) → ⊥
    go (k, l, e) =
        let low : k < count = omega (arith, length_chunk count w cs) in
        none k low (sym (get_d_chunk count w cs k low) ∙ e)

-- two facts of one item
both : {X : Type 0} (o : Option X) (P Q : X → Type 0) → IsSomeAnd o P → IfSome o Q → (x : X) × P x × Q x
both None P Q h k = absurd h
both (Some x) P Q h k = (x, h, k)

-- an item that is there has what all items have
there : {X : Type 0} (o : Option X) (z : X) (P Q : X → Type 0) → option_map (λ y. y) o ≡ Some z → IfSome o P → IfSome o Q → (x : X) × P x × Q x
there None z P Q e h k = absurd (clash e)
  where
    clash : None ≡ Some z → ⊥
    clash e = cc
there (Some x) z P Q e h k = (x, h, k)

-- the item at a place below the length of a run
some_at : {X : Type 0} (xs : List X) (k : ℕ) → k < length xs → X
some_at [] k l = absurd (omega arith)
some_at (x ∷ xs) k l = x

-- What the code has in hand: a run over the chunks of the cells, and the verdict. `Hit` and `Miss` are what a comparison says of a chunk.
module _ {S : Type 0} {steps : S → Option (Bor (List ℤ)) → S → Type 0} (p : Run steps) (w count : ℕ) (cs : List ℤ) (row : Row) (Hit Miss : Bor (List ℤ) → Type 0)
    (chunks : IsChunksExactRun p w cs) (long : length cs ≡ count * w) (wide : 0 < w)
    (hits : (x : Bor (List ℤ)) → Hit x → x.now ≡ row) (misses : (x : Bor (List ℤ)) → Miss x → x.now ≡ row → ⊥) where
  -- the chunk at place k
  abbrev Chunk : ℕ → Bor (List ℤ) → Type 0
  Chunk k x = (length x.now ≡ w) × (k * w + w ≤ length cs) × IsSubsliceAt w cs (k * w) x.now

  -- a chunk within the cells is one of the rows
  low : (k : ℕ) → k * w + w ≤ length cs → k < count
  low k l = ⊎_elim (λ h. h) (λ h. absurd (omega (arith, long, mul-le count w k w h (omega arith)))) (cases_lt k count)

  pub any_hit : AnyItem p Hit → has (chunk count w cs) row ≡ true
  any_hit (k, l, h) = go (both (p.at k) Hit _ h (chunks.2 k))
    where
      go : (x : Bor (List ℤ)) × Hit x × Chunk k x → has (chunk count w cs) row ≡ true
      go (x, hit, c) = has_there count w cs row k (low k c.1) (sym c.2.0 ∙ hits x hit)

  pub all_miss : p.whole ≡ true → AllItems p Miss → has (chunk count w cs) row ≡ false
  all_miss whole miss = has_none count w cs row none
    where
      sized : p.len ≡ count
      sized = chunks.1 whole ∙ ap (λ n. n / w) long ∙ mul-div_cancel count wide

      none : (k : ℕ) → k < count → take w (drop (k * w) cs) ≡ row → ⊥
      none k l e =
          let z = some_at p.items k (omega (arith, p.long, sized)) in
          go (there (p.at k) _ Miss _ (p.reads k z (omega (arith, sized))) (miss k) (chunks.2 k))
        where
          go : (x : Bor (List ℤ)) × Miss x × Chunk k x → ⊥
          go (x, m, c) = misses x m (c.2.0 ∙ e)

  pub any_chunk : (b : Bool) → MatchBool b (AnyItem p Hit) ((p.whole ≡ true) × AllItems p Miss) → b ≡ has (chunk count w cs) row
  any_chunk true h = sym (any_hit h)
  any_chunk false h = sym (all_miss h.0 h.1)

opened : (b : Bool) (K A W B : Type 0) → MatchBool b (K → A) (W × (K → B)) → K → MatchBool b A (W × B)
opened true K A W B h k = h k
opened false K A W B h k = (h.0, h.1 k)

-- the same, of a comparison that keeps its closure, as K says
pub any_verdict : {S : Type 0} {steps : S → Option (Bor (List ℤ)) → S → Type 0} (p : Run steps) (w count : ℕ) (cs : List ℤ) (row : Row) (Hit Miss : Bor (List ℤ) → Type 0) (K : Type 0) (b : Bool) → MatchBool b (K → AnyItem p Hit) ((p.whole ≡ true) × (K → AllItems p Miss)) → K → IsChunksExactRun p w cs → length cs ≡ count * w → 0 < w → ((x : Bor (List ℤ)) → Hit x → x.now ≡ row) → ((x : Bor (List ℤ)) → Miss x → x.now ≡ row → ⊥) → b ≡ has (chunk count w cs) row
any_verdict p w count cs row Hit Miss K b m k chunks long wide hits misses =
    any_chunk p w count cs row Hit Miss chunks long wide hits misses b (opened b K (AnyItem p Hit) (p.whole ≡ true) (AllItems p Miss) m k)
