-- Places in lists of strings.
use Rattle.std.proofs.Common.{◌≡◌, ℕ, suc, ◌+◌, ◌<◌, Bool, true, false, cond, eqb, ltb, List, [], ◌∷◌, ◌++◌, length, Some, None, Option, sym, refl, ap, ◌∙◌, ap₂, arith, length-append}
use Rattle.std.specs.Str.{bytes_eq}
use Rattle.std.specs.List as list
use Rattle.std.specs.List.{position_from, position_or_len}
use Rattle.std.specs.Option.{IfSome, unwrap_or}
use Rattle.std.proofs.lemmas.Iterator.Adapters.{position_from-zero}
use Rattle.std.proofs.lemmas.List.{length-map}
use Rattle.words.specs.declared.spans.Span.{Span}
use Rattle.listing.specs.Seen.{part}
use Rattle.pool.specs.declared.known.Known.{Known}
use Rattle.pool.specs.Strings.{ahead, position, parts, numbered}

ahead_ahead : (m n : ℕ) (o : Option ℕ) → ahead m (ahead n o) ≡ ahead (m + n) o
ahead_ahead m n None = refl
ahead_ahead m n (Some i) = let same : m + (n + i) ≡ m + n + i = omega arith in ap Some same

pub ahead_none : (o : Option ℕ) → ahead 0 o ≡ o
ahead_none None = refl
ahead_none (Some i) = let same : 0 + i ≡ i = omega arith in ap Some same

-- the first place among two lists is one in the first, or else one in the second
abbrev pub or_else : Option ℕ → Option ℕ → Option ℕ
or_else None o = o
or_else (Some i) o = Some i

pub position_append : (xs ys : List (List ℕ)) (w : List ℕ) → position (xs ++ ys) w ≡ or_else (position xs w) (ahead (length xs) (position ys w))
position_append [] ys w = sym (ahead_none (position ys w))
position_append (x ∷ xs) ys w = go (bytes_eq x w) (position xs w) (position_append xs ys w)
  where
    go : (b : Bool) (o : Option ℕ) → position (xs ++ ys) w ≡ or_else o (ahead (length xs) (position ys w)) →
        cond b (Some 0) (ahead 1 (position (xs ++ ys) w)) ≡ or_else (cond b (Some 0) (ahead 1 o)) (ahead (suc (length xs)) (position ys w))
    go true o e = refl
    go false (Some i) e = ap (ahead 1) e
    go false None e = ap (ahead 1) e ∙ (ahead_ahead 1 (length xs) (position ys w) ∙ (let same : 1 + length xs ≡ suc (length xs) = omega arith in ap (λ n. ahead n (position ys w)) same))

-- the library's search among the parts
module _ (bytes w : List ℕ) where
  abbrev is : Span → Bool
  is s = bytes_eq (part bytes s) w

  from_ahead : (i : ℕ) (spans : List Span) → position_from is i spans ≡ ahead i (position (parts bytes spans) w)
  from_ahead i [] = refl
  from_ahead i (s ∷ spans) = go (bytes_eq (part bytes s) w) (from_ahead (i + 1) spans)
    where
      go : (b : Bool) → position_from is (i + 1) spans ≡ ahead (i + 1) (position (parts bytes spans) w) →
          cond b (Some i) (position_from is (i + 1) spans) ≡ ahead i (cond b (Some 0) (ahead 1 (position (parts bytes spans) w)))
      go true e = let same : i ≡ i + 0 = omega arith in ap Some same
      go false e = e ∙ sym (ahead_ahead i 1 (position (parts bytes spans) w))

  found_is : (spans : List Span) → list.position is spans ≡ position (parts bytes spans) w
  found_is spans = position_from-zero is spans ∙ (from_ahead 0 spans ∙ ahead_none (position (parts bytes spans) w))

  pub place_is : (r : Option ℕ) (spans : List Span) → IfSome r (λ i. i < length spans) → position_or_len is spans ≡ unwrap_or r (length spans) → r ≡ position (parts bytes spans) w
  place_is None spans h e =
      let past : ltb (position_or_len is spans) (length spans) ≡ false = grind (arith, e) in
      sym (ap (λ b. cond b (Some (position_or_len is spans)) None) past) ∙ found_is spans
  place_is (Some i) spans h e =
      let within : ltb (position_or_len is spans) (length spans) ≡ true = grind (arith, e, h) in
      ap Some (sym e) ∙ (sym (ap (λ b. cond b (Some (position_or_len is spans)) None) within) ∙ found_is spans)

pub not_empty : (w : List ℕ) → eqb (length w) 0 ≡ false → bytes_eq [] w ≡ false
not_empty [] h = h
not_empty (b ∷ w) h = refl

-- the place in the first of two lists, or else in the second
module _ (xs ys : List (List ℕ)) (w : List ℕ) where
  pub in_first : (i : ℕ) → Some i ≡ position xs w → Some i ≡ position (xs ++ ys) w
  in_first i e = sym (position_append xs ys w ∙ ap (λ o. or_else o (ahead (length xs) (position ys w))) (sym e))

  pub in_second : None ≡ position xs w → ahead (length xs) (position ys w) ≡ position (xs ++ ys) w
  in_second e = sym (position_append xs ys w ∙ ap (λ o. or_else o (ahead (length xs) (position ys w))) (sym e))

-- a string that is not empty stands behind the empty one
pub behind_empty : (strings : List (List ℕ)) (w : List ℕ) → eqb (length w) 0 ≡ false → ahead 1 (position strings w) ≡ position ([] ∷ strings) w
behind_empty strings w h = sym (ap (λ x. cond x (Some 0) (ahead 1 (position strings w))) (not_empty w h))

pub parts_length : (bytes : List ℕ) (spans : List Span) → length (parts bytes spans) ≡ length spans
parts_length bytes spans = length-map spans (part bytes)

-- how many strings have a number
pub numbered_length : (k : Known) → length (numbered k) ≡ 1 + length k.literals.now + length k.entries.now
numbered_length k =
    let long = length-append (parts k.script.now k.literals.now) (parts k.pool.now k.entries.now) in
    omega (arith, long, parts_length k.script.now k.literals.now, parts_length k.pool.now k.entries.now)

pub number_literal : (k : Known) (w : List ℕ) (i : ℕ) → eqb (length w) 0 ≡ false → Some i ≡ position (parts k.script.now k.literals.now) w → Some (1 + i) ≡ position (numbered k) w
number_literal k w i h e = ap (ahead 1) (in_first (parts k.script.now k.literals.now) (parts k.pool.now k.entries.now) w i e) ∙ behind_empty _ w h

pub number_entry : (k : Known) (w : List ℕ) (o : Option ℕ) → eqb (length w) 0 ≡ false → None ≡ position (parts k.script.now k.literals.now) w → o ≡ position (parts k.pool.now k.entries.now) w →
    ahead (1 + length k.literals.now) o ≡ position (numbered k) w
number_entry k w o h e f =
    let size : 1 + length k.literals.now ≡ 1 + length (parts k.script.now k.literals.now) = omega (arith, parts_length k.script.now k.literals.now) in
    ap₂ ahead size f
    ∙ (sym (ahead_ahead 1 (length (parts k.script.now k.literals.now)) (position (parts k.pool.now k.entries.now) w))
    ∙ (ap (ahead 1) (in_second (parts k.script.now k.literals.now) (parts k.pool.now k.entries.now) w e) ∙ behind_empty _ w h))

pub number_new : (k : Known) (f : List (List ℕ)) (w : List ℕ) (o : Option ℕ) → None ≡ position (numbered k) w → o ≡ position f w → ahead (1 + length k.literals.now + length k.entries.now) o ≡ position (numbered k ++ f) w
number_new k f w o none e = ap₂ ahead (sym (numbered_length k)) e ∙ in_second (numbered k) f w none
