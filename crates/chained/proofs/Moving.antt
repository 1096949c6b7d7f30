-- Settling on chains: the table that goes is joined to the free chain, and the last one's entry takes its place. No cell moves.
use Rattle.std.proofs.Common.{◌≡◌, ℕ, ◌+◌, ◌-◌, ◌<◌, ◌≤◌, true, List, [], ◌∷◌, ◌++◌, length, get_or, take, set, ℤ, sym, refl, ap, ◌∙◌, ap₂, arith}
use Rattle.std.proofs.lemmas.List.{append_assoc, append-nil, length-append, set_at, take_at}
use Rattle.store.specs.Meaning.{last_table, last_place}
use Rattle.directory.specs.Run.{extent, extent_of, decode, laid}
use Rattle.directory.specs.declared.entry.Entry.{Entry}
use Rattle.directory.proofs.Decoding.{extent_append}
use Rattle.directory.proofs.Settling.{Split, split, cells_after, decode_settle, held_settle}
use Rattle.chained.specs.Chains.{walk, places, chains, gather, run, distinct, under, head_of, joined}
use Rattle.chained.proofs.Walks.{length_walk, length_gather, gather_append}
use Rattle.chained.proofs.Writing.{cross, under_append}
use Rattle.chained.proofs.Stretches.{Four, four, cross_append}
use Rattle.chained.proofs.Joining.{places_append, length_places, length_joined, join_chain, join_walk, join_places, swap_distinct, swap_under}
use Rattle.chained.proofs.Keeping.{Kept, held_kept, length_run, kept_from}

-- old is entry n, and last the last
module _ {c u f : ℕ} {es : List Entry} {cs : List ℤ} {ns : List ℕ} (k : Kept c u f es cs ns) (n : ℕ) (old last : Entry)
    (lt : n + 1 < length es) (old_is : old ≡ get_or es n old) (last_is : last ≡ get_or es (length es - 1) last) where
  the_split : Split es (run es cs ns) n old last
  the_split = split es (run es cs ns) n old last lt old_is last_is (sym (length_run es cs ns))

  module _ (p : Split es (run es cs ns) n old last) where
    abbrev A : List ℕ
    A = places ns p.before

    abbrev G : List ℕ
    G = walk ns (extent_of old) old.first

    abbrev M : List ℕ
    M = places ns p.between

    abbrev L : List ℕ
    L = walk ns (extent_of last) last.first

    abbrev F : List ℕ
    F = walk ns (c - u) f

    cells_are : places ns es ≡ A ++ (G ++ (M ++ L))
    cells_are =
        ap (places ns) p.entries ∙ places_append ns (p.before ++ old ∷ p.between) (last ∷ []) ∙ ap₂ ◌++◌ (places_append ns p.before (old ∷ p.between)) (append-nil L) ∙ append_assoc A (G ++ M) L ∙ ap (λ x. A ++ x) (append_assoc G M L)

    whole : chains ns es (c - u) f ≡ A ++ (G ++ ((M ++ L) ++ F))
    whole = ap (λ x. x ++ F) cells_are ∙ append_assoc A (G ++ (M ++ L)) F ∙ ap (λ x. A ++ x) (append_assoc G (M ++ L) F)

    parts : Four A G (M ++ L) F
    parts = four A G (M ++ L) F (ap distinct (sym whole) ∙ k.apart)

    within_all : under c (A ++ (G ++ ((M ++ L) ++ F))) ≡ true
    within_all = ap (under c) (sym whole) ∙ k.inside

    old_inside : under c G ≡ true
    old_inside = (under_append c G ((M ++ L) ++ F) (under_append c A (G ++ ((M ++ L) ++ F)) within_all).1).0

    sizes : u ≡ extent p.before + (extent_of old + (extent p.between + extent_of last))
    sizes =
        k.full ∙ ap extent p.entries ∙ omega (arith, extent_append (p.before ++ old ∷ p.between) (last ∷ []), extent_append p.before (old ∷ p.between))

    module _ (ms : List ℕ) (u' f' : ℕ) (es' : List Entry) (ms_is : ms ≡ joined ns (extent_of old) old.first f) (f'_is : f' ≡ head_of (extent_of old) old.first f)
        (u'_is : u' ≡ u - extent_of old) (es'_is : es' ≡ set (take (length es - 1) es) n last) where
      apart_two : (cross G M ≡ true) × (cross G L ≡ true)
      apart_two = cross_append G M L parts.XY

      before : places ms p.before ≡ A
      before = ap (λ x. places x p.before) ms_is ∙ join_places ns (extent_of old) old.first f p.before parts.XP

      between : places ms p.between ≡ M
      between = ap (λ x. places x p.between) ms_is ∙ join_places ns (extent_of old) old.first f p.between apart_two.0

      moved : walk ms (extent_of last) last.first ≡ L
      moved = ap (λ x. walk x (extent_of last) last.first) ms_is ∙ (join_walk ns (extent_of old) old.first f (extent_of last) last.first apart_two.1).0

      freed : walk ms (c - u') f' ≡ G ++ F
      freed =
          let i : c - u' ≡ extent_of old + (c - u) = omega (arith, u'_is, sizes, k.within) in
          ap₂ (λ x y. walk x (c - u') y) ms_is f'_is ∙ ap (λ j. walk (joined ns (extent_of old) old.first f) j (head_of (extent_of old) old.first f)) i ∙ join_chain ns (extent_of old) old.first (c - u) f parts.d_x parts.XR (ap (λ j. under j G) k.linked ∙ old_inside)

      entries_are : es' ≡ p.before ++ last ∷ p.between
      entries_are =
          let i : length (p.before ++ old ∷ p.between) ≡ length es - 1 = omega (arith, ap length p.entries, length-append (p.before ++ old ∷ p.between) (last ∷ [])) in
          es'_is ∙ ap (λ x. set x n last) (ap (take (length es - 1)) p.entries ∙ take_at (p.before ++ old ∷ p.between) (last ∷ []) (length es - 1) i) ∙ set_at p.before old p.between last n p.place

      places_are : places ms es' ≡ A ++ (L ++ M)
      places_are = ap (places ms) entries_are ∙ places_append ms p.before (last ∷ p.between) ∙ ap₂ (λ x y. x ++ (y ++ places ms p.between)) before moved ∙ ap (λ x. A ++ (L ++ x)) between

      -- the directory and the run taken apart at the same places
      abbrev again : Split es (run es cs ns) n old last
      again =
          record {
            before = p.before;
            between = p.between;
            front = gather cs A;
            gone = gather cs G;
            middle = gather cs M;
            moved = gather cs L;
            entries = p.entries;
            cells = ap (gather cs) cells_are ∙ gather_append cs A (G ++ (M ++ L)) ∙ ap (λ x. gather cs A ++ x) (gather_append cs G (M ++ L) ∙ ap (λ x. gather cs G ++ x) (gather_append cs M L));
            place = p.place;
            begins = p.begins;
            fits_front = sym (length_gather cs A ∙ length_places ns p.before);
            fits_gone = sym (length_gather cs G ∙ length_walk ns (extent_of old) old.first);
            fits_middle = sym (length_gather cs M ∙ length_places ns p.between);
            fits_moved = sym (length_gather cs L ∙ length_walk ns (extent_of last) last.first);
          }

      run_settle : run es' cs ms ≡ cells_after again
      run_settle = ap (gather cs) places_are ∙ gather_append cs A (L ++ M) ∙ ap (λ x. gather cs A ++ x) (gather_append cs L M)

      one : A ++ (G ++ ((M ++ L) ++ F)) ≡ A ++ ((G ++ M) ++ (L ++ F))
      one = ap (λ x. A ++ x) (ap (λ x. G ++ x) (append_assoc M L F) ∙ sym (append_assoc G M (L ++ F)))

      two : A ++ (L ++ ((G ++ M) ++ F)) ≡ (A ++ L) ++ (G ++ (M ++ F))
      two = sym (append_assoc A L ((G ++ M) ++ F)) ∙ ap (λ x. (A ++ L) ++ x) (append_assoc G M F)

      three : (A ++ L) ++ (M ++ (G ++ F)) ≡ (A ++ (L ++ M)) ++ (G ++ F)
      three = sym (append_assoc (A ++ L) M (G ++ F)) ∙ ap (λ x. x ++ (G ++ F)) (append_assoc A L M)

      kept_settle_at : Kept c u' f' es' cs ms
      kept_settle_at =
          kept_from c u' f' es' cs (run es' cs ms) ms ((A ++ L) ++ (M ++ (G ++ F))) (held_settle again es' (run es' cs ms) (held_kept k) (omega arith) es'_is run_settle) refl (omega (arith, u'_is, sizes, ap extent entries_are, extent_append p.before (last ∷ p.between))) k.room (ap length ms_is ∙ length_joined ns (extent_of old) old.first f ∙ k.linked) (ap₂ ◌++◌ places_are freed ∙ sym three) (swap_distinct (A ++ L) G M F (ap distinct (sym two) ∙ swap_distinct A (G ++ M) L F (ap distinct (sym one ∙ sym whole) ∙ k.apart))) (swap_under c (A ++ L) G M F (ap (under c) (sym two) ∙ swap_under c A (G ++ M) L F (ap (under c) (sym one ∙ sym whole) ∙ k.inside)))

      settle_decodes_at : decode es' (run es' cs ms) ≡ set (take (last_place (laid c es (run es cs ns))) (decode es (run es cs ns))) n (last_table (laid c es (run es cs ns)))
      settle_decodes_at = ap₂ decode es'_is run_settle ∙ decode_settle again c

  -- the cells of the table that goes are within the store's
  pub settle_inside : under c (walk ns (extent_of old) old.first) ≡ true
  settle_inside = old_inside the_split

  pub settle_size : extent_of old ≤ u
  settle_size = go the_split
    where
      go : Split es (run es cs ns) n old last → extent_of old ≤ u
      go p = omega (arith, sizes p)

  module _ (ms : List ℕ) (u' f' : ℕ) (es' : List Entry) (ms_is : ms ≡ joined ns (extent_of old) old.first f) (f'_is : f' ≡ head_of (extent_of old) old.first f)
      (u'_is : u' ≡ u - extent_of old) (es'_is : es' ≡ set (take (length es - 1) es) n last) where
    pub kept_settle : Kept c u' f' es' cs ms
    kept_settle = kept_settle_at the_split ms u' f' es' ms_is f'_is u'_is es'_is

    pub settle_decodes : decode es' (run es' cs ms) ≡ set (take (last_place (laid c es (run es cs ns))) (decode es (run es cs ns))) n (last_table (laid c es (run es cs ns)))
    settle_decodes = settle_decodes_at the_split ms u' f' es' ms_is f'_is u'_is es'_is
