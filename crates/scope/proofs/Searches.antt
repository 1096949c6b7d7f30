-- What a search answers is what the relation says, and only that.
use Rattle.std.proofs.Common.{◌≡◌, ℕ, ◌+◌, Bool, true, false, ◌||◌, List, [], ◌∷◌, ◌++◌, map, length, get_or, is_some, Some, None, Option, sym, refl, ap, ◌∙◌, subst, ap₂, arith}
use Rattle.std.proofs.lemmas.List.{length-map, get_or_at}
use Rattle.scope.specs.Chains.{Newest, position_of, Found, size, any, newest_of, newest_or, find, find_or, Search}
use Rattle.scope.specs.Chains.{Lacks, Lacks.lacks_none, Lacks.lacks_more, Sees, Sees.here, Sees.outward, Absent, Absent.absent_none, Absent.absent_more}

module _ {E : Type 0} (is : E → Bool) where
  -- What the newest entry of one list is.
  data Latest : List E → Option (Newest E) → Type 0 where
    latest_none : {es : List E} → Lacks is es → Latest es None
    latest : (older : List E) (e : E) (newer : List E) {es : List E} →
        es ≡ older ++ (e ∷ newer) → is e ≡ true → Lacks is newer → Latest es (Some (record { entry = e; position = length older }))

  latest_is : (es : List E) → Latest es (newest_of is es)
  latest_is [] = latest_none lacks_none
  latest_is (x ∷ es) = by (is x) refl (latest_is es)
    where
      by : {o : Option (Newest E)} (b : Bool) → is x ≡ b → Latest es o → Latest (x ∷ es) (newest_or is o b x)
      by true h (latest_none lacks) = latest [] x es refl h lacks
      by false h (latest_none lacks) = latest_none (lacks_more h lacks)
      by b h (latest older e newer parts it lacks) = latest (x ∷ older) e newer (ap (λ l. x ∷ l) parts) it lacks

  -- The answer to a search is as the relation says.
  pub search_is : (lists : List (List E)) → Search is lists (find is lists)
  search_is [] = absent_none
  search_is (inner ∷ outer) = by (find is outer) (latest_is inner) (search_is outer)
    where
      by : {o : Option (Newest E)} (r : Option (Found E)) → Latest inner o → Search is outer r → Search is (inner ∷ outer) (find_or is o (size outer) r)
      by r (latest older e newer parts it lacks) rest = here older e newer parts it lacks
      by None (latest_none lacks) rest = absent_more lacks rest
      by (Some f) (latest_none lacks) rest = outward lacks rest

  lacks_newest : {es : List E} → Lacks is es → newest_of is es ≡ None
  lacks_newest lacks_none = refl
  lacks_newest (lacks_more {e = e} h lacks) = rw (lacks_newest lacks, h) refl

  newest_at : (older : List E) (e : E) (newer : List E) → is e ≡ true → Lacks is newer → newest_of is (older ++ (e ∷ newer)) ≡ Some (record { entry = e; position = length older })
  newest_at [] e newer it lacks = rw (lacks_newest lacks, it) refl
  newest_at (x ∷ older) e newer it lacks = rw (newest_at older e newer it lacks) refl

  -- What the relation says is the answer to a search.
  pub sees_find : {lists : List (List E)} {f : Found E} → Sees is lists f → find is lists ≡ Some f
  sees_find (here older e newer {outer = outer} parts it lacks) = ap (λ l. find_or is (newest_of is l) (size outer) (find is outer)) parts ∙ ap (λ o. find_or is o (size outer) (find is outer)) (newest_at older e newer it lacks)
  sees_find (outward lacks sees) = rw (lacks_newest lacks, sees_find sees) refl

  -- Where no list has one, a search finds none.
  pub absent_find : {lists : List (List E)} → Absent is lists → find is lists ≡ None
  absent_find absent_none = refl
  absent_find (absent_more lacks absent) = rw (lacks_newest lacks, absent_find absent) refl

  -- The newest entry stands at its position.
  pub newest_entry : (es : List E) (w : Newest E) → newest_of is es ≡ Some w → (d : E) → get_or es w.position d ≡ w.entry
  newest_entry es w h d = by (subst (Latest es) h (latest_is es)) refl
    where
      some_in : {x y : Newest E} → ◌≡◌ {A = Option (Newest E)} (Some x) (Some y) → x ≡ y
      some_in h = cc

      by : {o : Option (Newest E)} → Latest es o → o ≡ Some w → get_or es w.position d ≡ w.entry
      by (latest_none lacks) e = let z : ◌≡◌ {A = ℕ} 0 1 = cc in absurd (omega arith)
      by (latest older x newer parts it lacks) e =
          ap (λ n. get_or es n.position d) (sym (some_in e)) ∙ ap (λ l. get_or l (length older) d) parts ∙ get_or_at older x newer d (length older) refl ∙ ap (λ n. n.entry) (some_in e)

  -- A list has one exactly if a newest one is found.
  pub any_newest : (es : List E) → any is es ≡ is_some (newest_of is es)
  any_newest [] = refl
  any_newest (e ∷ es) = ap (λ b. is e || b) (any_newest es) ∙ by (newest_of is es) (is e)
    where
      by : (o : Option (Newest E)) (b : Bool) → b || is_some o ≡ is_some (newest_or is o b e)
      by (Some n) true = refl
      by (Some n) false = refl
      by None true = refl
      by None false = refl

  pub any_position : (es : List E) {r : Option ℕ} → r ≡ position_of (newest_of is es) → any is es ≡ is_some r
  any_position es h = any_newest es ∙ by (newest_of is es) ∙ ap is_some (sym h)
    where
      by : (o : Option (Newest E)) → is_some o ≡ is_some (position_of o)
      by (Some n) = refl
      by None = refl

  -- A position was found, so the list has one.
  pub position_any : (es : List E) (k : ℕ) → Some k ≡ position_of (newest_of is es) → true ≡ any is es
  position_any es k h = sym (any_position es h)

  -- No position was found, so the list has none.
  pub no_position_any : (es : List E) → None ≡ position_of (newest_of is es) → false ≡ any is es
  no_position_any es h = sym (any_position es h)

  -- An empty outermost list changes nothing.
  pub find_empty_end : (lists : List (List E)) → find is (lists ++ ([] ∷ [])) ≡ find is lists
  find_empty_end [] = refl
  find_empty_end (inner ∷ outer) = ap (λ r. find_or is (newest_of is inner) (size (outer ++ ([] ∷ []))) r) (find_empty_end outer) ∙ ap (λ n. find_or is (newest_of is inner) n (find is outer)) (size_end outer)
    where
      size_end : (lists : List (List E)) → size (lists ++ ([] ∷ [])) ≡ size lists
      size_end [] = refl
      size_end (inner ∷ outer) = ap (λ n. n + length inner) (size_end outer)

-- What is found, with its entry seen as another.
abbrev pub found_as : {A B : Type 0} → (A → B) → Option (Found A) → Option (Found B)
found_as f None = None
found_as f (Some x) = Some (record { entry = f x.entry; distance = x.distance; position = x.position; number = x.number })

module _ {A B : Type 0} (f : A → B) (is : B → Bool) where
  abbrev pub newest_as : Option (Newest A) → Option (Newest B)
  newest_as None = None
  newest_as (Some n) = Some (record { entry = f n.entry; position = n.position })

  pub newest_map : (es : List A) → newest_of is (map f es) ≡ newest_as (newest_of (λ a. is (f a)) es)
  newest_map [] = refl
  newest_map (e ∷ es) = ap (λ o. newest_or is o (is (f e)) (f e)) (newest_map es) ∙ by (newest_of (λ a. is (f a)) es) (is (f e))
    where
      by : (o : Option (Newest A)) (b : Bool) → newest_or is (newest_as o) b (f e) ≡ newest_as (newest_or (λ a. is (f a)) o b e)
      by (Some n) b = refl
      by None true = refl
      by None false = refl

  size_map : (lists : List (List A)) → size (map (map f) lists) ≡ size lists
  size_map [] = refl
  size_map (inner ∷ outer) = ap₂ (λ m n. m + n) (size_map outer) (length-map inner f)

  -- A search among entries seen as others finds the same places.
  pub find_map : (lists : List (List A)) → find is (map (map f) lists) ≡ found_as f (find (λ a. is (f a)) lists)
  find_map [] = refl
  find_map (inner ∷ outer) =
      ap (λ r. find_or is (newest_of is (map f inner)) (size (map (map f) outer)) r) (find_map outer)
      ∙ ap (λ o. find_or is o (size (map (map f) outer)) (found_as f (find (λ a. is (f a)) outer))) (newest_map inner)
      ∙ ap (λ n. find_or is (newest_as (newest_of (λ a. is (f a)) inner)) n (found_as f (find (λ a. is (f a)) outer))) (size_map outer)
      ∙ by (newest_of (λ a. is (f a)) inner) (find (λ a. is (f a)) outer)
    where
      by : (o : Option (Newest A)) (r : Option (Found A)) → find_or is (newest_as o) (size outer) (found_as f r) ≡ found_as f (find_or (λ a. is (f a)) o (size outer) r)
      by (Some n) r = refl
      by None (Some x) = refl
      by None None = refl

  pub any_map : (es : List A) → any is (map f es) ≡ any (λ a. is (f a)) es
  any_map [] = refl
  any_map (e ∷ es) = ap (λ b. is (f e) || b) (any_map es)
