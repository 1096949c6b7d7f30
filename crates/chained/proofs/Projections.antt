-- What cells hold and where they go on, as two lists.
use Rattle.std.proofs.Common.{◌≡◌, ℕ, List, [], ◌∷◌, map, length, get_or, set, pos, sym, refl, ap}
use Rattle.std.proofs.Math.ListN as listN
use Rattle.std.proofs.Math.Seq.{map-set_same}
use Rattle.std.proofs.lemmas.List.{map-set, length-map}
use Rattle.chained.specs.Chains.{values, nexts}
use Rattle.chained.specs.declared.links.Link.{Link}

-- what a place outside the list holds
abbrev pub no_link : Link
no_link = record { value = pos 0; next = 0 }

pub next_at : (ls : List Link) (i : ℕ) → (get_or ls i no_link).next ≡ get_or (nexts ls) i 0
next_at ls i = sym (listN.get_or-map (λ l. l.next) ls i no_link)

pub value_at : (ls : List Link) (i : ℕ) → (get_or ls i no_link).value ≡ get_or (values ls) i (pos 0)
value_at ls i = sym (listN.get_or-map (λ l. l.value) ls i no_link)

pub length_nexts : (ls : List Link) → length (nexts ls) ≡ length ls
length_nexts ls = length-map ls (λ l. l.next)

pub length_values : (ls : List Link) → length (values ls) ≡ length ls
length_values ls = length-map ls (λ l. l.value)

-- a cell that goes on elsewhere
pub nexts_set : (ls : List Link) (i : ℕ) (l : Link) → nexts (set ls i l) ≡ set (nexts ls) i l.next
nexts_set ls i l = map-set (λ l. l.next) ls i l

pub values_same : (ls : List Link) (i : ℕ) (l : Link) → l.value ≡ (get_or ls i no_link).value → values (set ls i l) ≡ values ls
values_same ls i l e = map-set_same (λ l. l.value) ls i l no_link e

-- a cell that holds something else
pub values_set : (ls : List Link) (i : ℕ) (l : Link) → values (set ls i l) ≡ set (values ls) i l.value
values_set ls i l = map-set (λ l. l.value) ls i l

pub nexts_same : (ls : List Link) (i : ℕ) (l : Link) → l.next ≡ (get_or ls i no_link).next → nexts (set ls i l) ≡ nexts ls
nexts_same ls i l e = map-set_same (λ l. l.next) ls i l no_link e

-- cells that go on so do
pub nexts_made : (xs : List ℕ) → nexts (map (λ n. record { value = pos 0; next = n }) xs) ≡ xs
nexts_made [] = refl
nexts_made (x ∷ xs) = ap (λ ys. x ∷ ys) (nexts_made xs)
