-- Line feeds: a heading is one line, so that any beginning of it but the whole has none.
use Rattle.std.proofs.Common.{◌≡◌, ℕ, Bool, true, false, cond, ◌⊎◌, List, [], ◌∷◌, ◌++◌, Some, None, codes, Option, sym, refl, ap, ◌∙◌, subst, ap₂, inl, inr, append_assoc, arith}
use mathlib.Core.List.{head-eq_of_cons-eq, tail-eq_of_cons-eq, cons≢nil}
use Rattle.domain.specs.declared.Domain.{Domain}
use Rattle.domain.specs.declared.Domain.TheVariants.{Integer, String, Boolean}
use Rattle.schema.specs.Columns.{Column}
use Rattle.texts.specs.Formats.{Entries, opening, comma}
use Rattle.words.specs.Letters.{name_byte}
use Rattle.std.specs.List.{list_all}
use Rattle.texts.specs.Language.{is_name, shown_name, NameText, kind, ColumnText, HeadingText}
use Rattle.texts.specs.Layers.{has_line_feed}

-- Line feeds: a heading has one, at its end.
pub no_feed : (p q : List ℕ) → has_line_feed p ≡ false → has_line_feed q ≡ false → has_line_feed (p ++ q) ≡ false
no_feed [] q h k = k
no_feed (b ∷ p) q h k = let rest = no_feed p q (grind (arith, h)) k in grind (arith, h, rest)

pub feed_inside : (p q : List ℕ) → has_line_feed (p ++ (10 ∷ q)) ≡ true
feed_inside [] q = refl
feed_inside (b ∷ p) q = let rest = feed_inside p q in grind (arith, rest)

-- one line: bytes without a line feed, and a line feed
pub record OneLine (p : List ℕ) : Type 0 where
  pub inside : List ℕ
  pub ended : p ≡ inside ++ (10 ∷ [])
  pub plainly : has_line_feed inside ≡ false

pub before_line : (a p : List ℕ) → has_line_feed a ≡ false → OneLine p → OneLine (a ++ p)
before_line a p h o = record { inside = a ++ o.inside; ended = ap (λ z. a ++ z) o.ended ∙ sym (append_assoc a o.inside (10 ∷ [])); plainly = no_feed a o.inside h o.plainly }

pub name_bytes_no_feed : (n : List ℕ) → list_all name_byte n ≡ true → has_line_feed n ≡ false
name_bytes_no_feed [] h = refl
name_bytes_no_feed (b ∷ n) h = let rest = name_bytes_no_feed n (grind (arith, h)) in grind (arith, h, rest)

pub name_no_feed : (o : Option (List ℕ)) (u : Unit {0}) (p : List ℕ) → NameText (shown_name o) u p → has_line_feed p ≡ false
name_no_feed None u p t = ap has_line_feed t.1
name_no_feed (Some n) u p t = go (is_name n) refl t
  where
    whole : (m : List ℕ) → is_name m ≡ true → has_line_feed m ≡ false
    whole [] h = refl
    whole (b ∷ m) h = let rest = name_bytes_no_feed m (grind (arith, h)) in grind (arith, h, rest)

    go : (x : Bool) → is_name n ≡ x → NameText (cond x (Some n) None) u p → has_line_feed p ≡ false
    go false e t = ap has_line_feed t.1
    go true e (inl t) = ap has_line_feed t.1
    go true e (inr t) = ap has_line_feed t.1 ∙ whole n e

pub kind_no_feed : (d : Domain) → has_line_feed (kind d) ≡ false
kind_no_feed Integer = refl
kind_no_feed String = refl
kind_no_feed Boolean = refl

pub columns_one_line : (before : List ℕ) (cs : List Column) (us : List (Unit {0})) (p : List ℕ) → has_line_feed before ≡ false → Entries ColumnText before cs us p → OneLine p
columns_one_line before [] us p h t = record { inside = codes ")"; ended = t.1; plainly = refl }
columns_one_line before (c ∷ cs) us p h t =
    let column = t.ends.begins in
    let kindly : has_line_feed column.back ≡ false = ap has_line_feed column.ends.1 ∙ kind_no_feed c.domain in
    let clean : has_line_feed t.ends.front ≡ false = ap has_line_feed column.parts ∙ no_feed column.front column.back (name_no_feed c.name column.value column.front column.begins) kindly in
    subst OneLine (sym (t.parts ∙ ap₂ (λ x y. x ++ y) t.begins.1 t.ends.parts))
    (before_line before (t.ends.front ++ t.ends.back) h (before_line t.ends.front t.ends.back clean (columns_one_line comma cs t.ends.ends.value t.ends.back refl t.ends.ends.text)))

pub heading_one_line : (cs : List Column) (us : List (Unit {0})) (p : List ℕ) → HeadingText cs us p → OneLine p
heading_one_line cs us p t = subst OneLine (sym (t.parts ∙ ap (λ z. z ++ t.back) t.begins.1)) (before_line opening t.back refl (columns_one_line [] cs us t.back refl t.ends))

-- a beginning of one line has no line feed, or is all of it
pub beginning : (front rest inside : List ℕ) → front ++ rest ≡ inside ++ (10 ∷ []) → has_line_feed inside ≡ false → (has_line_feed front ≡ false) ⊎ (rest ≡ [])
beginning [] rest inside e h = inl refl
beginning (b ∷ front) rest [] e h = inr (nothing front rest (tail-eq_of_cons-eq e))
  where
    nothing : (a c : List ℕ) → a ++ c ≡ [] → c ≡ []
    nothing [] c e = e
    nothing (x ∷ a) c e = absurd (cons≢nil e)
beginning (b ∷ front) rest (c ∷ inside) e h = go (beginning front rest inside (tail-eq_of_cons-eq e) (grind (arith, h)))
  where
    go : (has_line_feed front ≡ false) ⊎ (rest ≡ []) → (has_line_feed (b ∷ front) ≡ false) ⊎ (rest ≡ [])
    go (inl k) = let same = head-eq_of_cons-eq e in inl (grind (arith, h, k, same))
    go (inr k) = inr k
