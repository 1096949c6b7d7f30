-- Entries written one by one: what is done, and what is left, are the whole line.
use Rattle.std.proofs.Common.{◌≡◌, ℕ, ◌+◌, ◌*◌, ◌<◌, ◌≤◌, List, [], ◌∷◌, ◌++◌, map, length, get_or, take, drop, sym, refl, ap, ◌∙◌, append_assoc, arith, length-append}
use Rattle.std.proofs.Math.Nat.{mul-le-mul_left}
use Rattle.std.proofs.lemmas.List.{drop_more, drop_all}
use Rattle.texts.specs.Formats.{opening, comma, closing}
use Rattle.schema.specs.declared.attributes.Attribute.{Attribute}
use Rattle.schema.specs.Columns.{column_of}
use Rattle.texts.specs.Lines.{entries_bytes, line_bytes, column_bytes, value_bytes, heading_line, row_line}
use Rattle.lines.specs.declared.shown.Sources.{Sources}
use Rattle.lines.specs.declared.shown.Shown.{Shown}
use Rattle.lines.specs.Shown.{value_of, values_of}
use Rattle.lines.specs.declared.writing.Line.{Line}
use Rattle.lines.specs.Buffers.{Adds, HasRoom}
use Rattle.lines.proofs.Puts.{adds_then, adds_as}

-- the line goes on with the beginning of the whole, up to the i-th entry, each of at most so many bytes
pub record Going {X : Type 0} (f : X → List ℕ) (room : ℕ) (all : List X) (i : ℕ) (separator : List ℕ) (from to : Line) : Type 0 where
  pub done : List ℕ
  pub adds : Adds done from to
  pub whole : done ++ entries_bytes f separator (drop i all) ≡ line_bytes f all
  pub short : length done ≤ i * (room + 1) + 1
  pub one : length separator ≤ 1

module _ {X : Type 0} (f : X → List ℕ) (room : ℕ) (all : List X) (from : Line) where
  pub going_start : (to : Line) → Adds opening from to → Going f room all 0 [] from to
  going_start to a = record { done = opening; adds = a; whole = refl; short = omega arith; one = omega arith }

  -- there is room for one entry more and the end
  pub going_room : (i : ℕ) (separator : List ℕ) (x : Line) → i < length all → Going f room all i separator from x → HasRoom (length all * (room + 1) + 3) from → HasRoom (room + 1) x
  going_room i separator x here g large =
      let more : (room + 1) * (i + 1) ≤ (room + 1) * length all = mul-le-mul_left (room + 1) (omega arith) in
      omega (arith, more, large, g.short, g.adds.end, g.adds.size)

  pub going_room_end : (i : ℕ) (separator : List ℕ) (x : Line) → i ≤ length all → Going f room all i separator from x → HasRoom (length all * (room + 1) + 3) from → HasRoom 2 x
  going_room_end i separator x here g large =
      let more : (room + 1) * i ≤ (room + 1) * length all = mul-le-mul_left (room + 1) here in
      omega (arith, more, large, g.short, g.adds.end, g.adds.size)

  -- one entry more
  pub going_on : (i : ℕ) (e : X) (separator : List ℕ) (x y z : Line) → i < length all → e ≡ get_or all i e → Going f room all i separator from x →
      Adds separator x y → Adds (f e) y z → length (f e) ≤ room → Going f room all (i + 1) comma from z
  going_on i e separator x y z here is g a b few =
      let left : drop i all ≡ e ∷ drop (i + 1) all = drop_more all i e here ∙ ap (λ z. z ∷ drop (i + 1) all) (sym is) in
      record {
        done = g.done ++ (separator ++ f e);
        adds = adds_then g.adds (adds_then a b);
        whole = append_assoc g.done (separator ++ f e) (entries_bytes f comma (drop (i + 1) all))
            ∙ (ap (λ t. g.done ++ t) (append_assoc separator (f e) (entries_bytes f comma (drop (i + 1) all)) ∙ sym (ap (entries_bytes f separator) left)) ∙ g.whole);
        short = (let long = length-append g.done (separator ++ f e) in let two = length-append separator (f e) in omega (arith, long, two, g.short, g.one, few));
        one = omega arith;
      }

  -- the end of the line
  module _ (i : ℕ) (separator : List ℕ) (x y : Line) (past : length all ≤ i) (reached : i ≤ length all) (g : Going f room all i separator from x) (a : Adds closing x y) where
    last : g.done ++ closing ≡ line_bytes f all
    last = ap (λ t. g.done ++ entries_bytes f separator t) (sym (drop_all i all past)) ∙ g.whole

    pub going_end : Adds (line_bytes f all) from y
    going_end = adds_as last (adds_then g.adds a)

    pub going_short : length (line_bytes f all) ≤ length all * (room + 1) + 3
    going_short =
        let long = length-append g.done closing in
        let same = ap length last in
        let more : (room + 1) * i ≤ (room + 1) * length all = mul-le-mul_left (room + 1) reached in
        omega (arith, long, same, more, g.short)

-- entries that stand for others
pub entries_map : {X Y : Type 0} (f : Y → List ℕ) (g : X → Y) (before : List ℕ) (xs : List X) → entries_bytes (λ x. f (g x)) before xs ≡ entries_bytes f before (map g xs)
entries_map f g before [] = refl
entries_map f g before (x ∷ xs) = ap (λ t. before ++ (f (g x) ++ t)) (entries_map f g comma xs)

-- the columns of a schema, and the first values of a row, in the words of the format
pub heading_text : (script : List ℕ) (attributes held : List Attribute) → attributes ≡ held → line_bytes (λ a. column_bytes (column_of script a)) attributes ≡ heading_line (map (column_of script) held)
heading_text script attributes held e = ap (line_bytes (λ a. column_bytes (column_of script a))) e ∙ ap (λ t. opening ++ t) (entries_map column_bytes (column_of script) [] held)

pub row_text : (s : Sources) (values : List Shown) (n : ℕ) → line_bytes (λ v. value_bytes (value_of s v)) (take n values) ≡ row_line (values_of s n values)
row_text s values n = ap (λ t. opening ++ t) (entries_map value_bytes (value_of s) [] (take n values))
