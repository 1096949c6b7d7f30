-- The entry that a search finds stands among all entries at its number.
use Rattle.std.proofs.Common.{◌≡◌, ℕ, ◌+◌, ◌<◌, Bool, List, [], ◌∷◌, ◌++◌, length, get_or, take, drop, Some, sym, refl, ap, ◌∙◌, subst, arith}
use Rattle.std.proofs.lemmas.List.{length-append, get_or_append_left, get_or-append-add, get_or_at, take-append-drop}
use Rattle.scope.specs.Chains.{Found, size, cut, find, Search, Sees, Sees.here, Sees.outward}
use Rattle.scope.proofs.Searches.{search_is}

-- All entries, outermost list first.
abbrev pub flat : {E : Type 0} → List (List E) → List E
flat [] = []
flat (inner ∷ outer) = flat outer ++ inner

pub length_flat : {E : Type 0} (lists : List (List E)) → length (flat lists) ≡ size lists
length_flat [] = refl
length_flat (inner ∷ outer) = length-append (flat outer) inner ∙ ap (λ n. n + length inner) (length_flat outer)

-- Cutting loses no entry.
pub flat_cut : {E : Type 0} (starts : List ℕ) (es : List E) → flat (cut starts es) ≡ es
flat_cut [] es = refl
flat_cut (start ∷ outer) es = ap (λ l. l ++ drop start es) (flat_cut outer (take start es)) ∙ take-append-drop start es

pub size_cut : {E : Type 0} (starts : List ℕ) (es : List E) → size (cut starts es) ≡ length es
size_cut starts es = sym (length_flat (cut starts es)) ∙ ap length (flat_cut starts es)

module _ {E : Type 0} (is : E → Bool) where
  sees_number : {lists : List (List E)} {f : Found E} → Sees is lists f → f.number < size lists
  sees_number (here older e newer parts it lacks) = omega (arith, ap length parts ∙ length-append older (e ∷ newer))
  sees_number (outward lacks sees) = omega (arith, sees_number sees)

  sees_entry : {lists : List (List E)} {f : Found E} → Sees is lists f → (d : E) → get_or (flat lists) f.number d ≡ f.entry
  sees_entry (here older e newer {inner = inner} {outer = outer} parts it lacks) d =
      ap (λ n. get_or (flat outer ++ inner) (n + length older) d) (sym (length_flat outer))
      ∙ get_or-append-add (flat outer) inner (length older) d ∙ ap (λ l. get_or l (length older) d) parts ∙ get_or_at older e newer d (length older) refl
  sees_entry (outward {inner = inner} {outer = outer} {f = f} lacks sees) d =
      get_or_append_left (flat outer) inner d f.number (omega (arith, sees_number sees, length_flat outer)) ∙ sees_entry sees d

  -- What is found in lists that lie one behind the other is the entry of its number.
  pub entry_found : (starts : List ℕ) (es : List E) (f : Found E) → find is (cut starts es) ≡ Some f → (f.number < length es) × ((d : E) → get_or es f.number d ≡ f.entry)
  entry_found starts es f h =
      let sees : Sees is (cut starts es) f = subst (Search is (cut starts es)) h (search_is is (cut starts es)) in
      (omega (arith, sees_number sees, size_cut starts es), λ d. ap (λ l. get_or l f.number d) (sym (flat_cut starts es)) ∙ sees_entry sees d)
