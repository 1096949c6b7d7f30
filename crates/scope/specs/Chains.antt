-- The scope chain: nested lists of entries, innermost first, each with its oldest entry first.
use Rattle.std.specs.Prelude.{◌≡◌, ℕ, suc, ◌+◌, Bool, true, false, ◌||◌, List, [], ◌∷◌, ◌++◌, length, take, drop, Some, None, Option}
use Rattle.scope.specs.declared.places.Place.{Place}

-- an entry that was found: how many lists lie further in, where in its list it stands, and where among all entries
pub record Found (E : Type 0) : Type 0 where
  pub entry : E
  pub distance : ℕ
  pub position : ℕ
  pub number : ℕ

-- the newest entry of one list, and where in it it stands
pub record Newest (E : Type 0) : Type 0 where
  pub entry : E
  pub position : ℕ

abbrev pub position_of : {E : Type 0} → Option (Newest E) → Option ℕ
position_of None = None
position_of (Some n) = Some n.position

-- the same entry, seen from one list further in
abbrev pub further : {E : Type 0} → Found E → Found E
further f = record { entry = f.entry; distance = suc f.distance; position = f.position; number = f.number }

-- how many entries the lists have
abbrev pub size : {E : Type 0} → List (List E) → ℕ
size [] = 0
size (inner ∷ outer) = size outer + length inner

-- lists that lie one behind the other; the outermost begins at 0, each other one at its start; starts innermost first
abbrev pub cut : {E : Type 0} → List ℕ → List E → List (List E)
cut [] entries = entries ∷ []
cut (start ∷ outer) entries = drop start entries ∷ cut outer (take start entries)

-- where an entry was found
abbrev pub place_of : {E : Type 0} → Option (Found E) → Option Place
place_of None = None
place_of (Some f) = Some (record { distance = f.distance; position = f.position; number = f.number })

module _ {E : Type 0} (is : E → Bool) where
  -- some entry of the list is it
  abbrev pub any : List E → Bool
  any [] = false
  any (e ∷ entries) = is e || any entries

  -- no entry of the list is it
  pub data Lacks : List E → Type 0 where
    lacks_none : Lacks []
    lacks_more : {e : E} {entries : List E} → is e ≡ false → Lacks entries → Lacks (e ∷ entries)

  -- `Sees lists f`: f is the newest entry that is it, in the innermost list that has one
  pub data Sees : List (List E) → Found E → Type 0 where
    here : (older : List E) (e : E) (newer : List E) {inner : List E} {outer : List (List E)} →
        inner ≡ older ++ (e ∷ newer) → is e ≡ true → Lacks newer →
        Sees (inner ∷ outer) (record { entry = e; distance = 0; position = length older; number = size outer + length older })
    outward : {inner : List E} {outer : List (List E)} {f : Found E} →
        Lacks inner → Sees outer f → Sees (inner ∷ outer) (further f)

  -- no list has one
  pub data Absent : List (List E) → Type 0 where
    absent_none : Absent []
    absent_more : {inner : List E} {outer : List (List E)} → Lacks inner → Absent outer → Absent (inner ∷ outer)

  -- what an answer to a search says
  abbrev pub Search : List (List E) → Option (Found E) → Type 0
  Search lists None = Absent lists
  Search lists (Some f) = Sees lists f

  -- The search itself.

  abbrev pub newest_or : Option (Newest E) → Bool → E → Option (Newest E)
  newest_or (Some n) b e = Some (record { entry = n.entry; position = suc n.position })
  newest_or None true e = Some (record { entry = e; position = 0 })
  newest_or None false e = None

  -- the newest entry of one list that is it
  abbrev pub newest_of : List E → Option (Newest E)
  newest_of [] = None
  newest_of (e ∷ entries) = newest_or (newest_of entries) (is e) e

  abbrev pub find_or : Option (Newest E) → ℕ → Option (Found E) → Option (Found E)
  find_or (Some n) before rest = Some (record { entry = n.entry; distance = 0; position = n.position; number = before + n.position })
  find_or None before (Some f) = Some (further f)
  find_or None before None = None

  -- the newest in the innermost list that has one
  abbrev pub find : List (List E) → Option (Found E)
  find [] = None
  find (inner ∷ outer) = find_or (newest_of inner) (size outer) (find outer)
