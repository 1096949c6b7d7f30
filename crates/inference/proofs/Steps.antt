-- The checker's steps, with what their tests say.
use Rattle.std.proofs.Common.{◌≡◌, ℕ, ◌+◌, Bool, true, false, cond, not, ltb, leb, List, [], ◌∷◌, ◌++◌, map, length, Some, None, Ok, Err, Option, sym, refl, ap, ◌∙◌, arith}
use Rattle.std.proofs.lemmas.List.{length-map, map-append}
use Rattle.domain.specs.declared.Domain.{Domain}
use Rattle.fault.specs.Limits.{columns}
use Rattle.fault.specs.declared.rules.Fault.{Fault}
use Rattle.fault.specs.declared.rules.Rule.TheVariants.{OperandMismatch, TooMany, RepeatedName}
use Rattle.words.specs.Tokens.{Bytes, Place}
use Rattle.schema.specs.Columns.{Column, column_of}
use Rattle.schema.specs.Kinds.{ValueType.atom, ValueType.table}
use Rattle.schema.specs.Building.{with_one, with_all}
use Rattle.schema.specs.declared.attributes.Attribute.{Attribute}
use Rattle.typing.specs.Environments.{fault}
use Rattle.typing.specs.Tables.{has, meet, column_named}
use Rattle.typing.specs.Checker.{Answer, ask, columns_of, together, with_column}

pub ask_yes : {A : Type 0} (b : Bool) (f : Fault) (then : Answer A) → b ≡ true → then ≡ ask b f then
unfolding ask
ask_yes b f then h = rw h refl

pub ask_no : {A : Type 0} (b : Bool) (f : Fault) (then : Answer A) → b ≡ false → Err f ≡ ask b f then
unfolding ask
ask_no b f then h = rw h refl

pub no_columns : (d : Domain) (p : Place) → Err (fault OperandMismatch p) ≡ columns_of (atom d) p
unfolding columns_of
no_columns d p = refl

pub some_columns : (cs : List Column) (p : Place) → Ok cs ≡ columns_of (table cs) p
unfolding columns_of
some_columns cs p = refl

module _ (text : List ℕ) (before : List Attribute) where
  cs : List Column
  cs = map (column_of text) before

  -- A join that does not fit.
  pub join_crowded : (more : List Attribute) (p : Place) → None ≡ with_all before more → Err (fault TooMany p) ≡ together (map (column_of text) before) (map (column_of text) more) p
  unfolding together
  join_crowded more p h = ask_no _ _ _ (ap (λ n. leb (n + length (map (column_of text) more)) columns) (length-map before (column_of text)) ∙ ap (λ n. leb (length before + n) columns) (length-map more (column_of text)) ∙ by (leb (length before + length more) columns) h)
    where
      by : (b : Bool) → None ≡ cond b (Some (before ++ more)) None → b ≡ false
      by true h = let z : ◌≡◌ {A = ℕ} 0 1 = cc in absurd (omega arith)
      by false h = refl

  -- A join that fits: common names are a fault, else the columns are in a row.
  join_fits : (more all : List Attribute) → Some all ≡ with_all before more → (leb (length (map (column_of text) before) + length (map (column_of text) more)) columns ≡ true) × (all ≡ before ++ more)
  join_fits more all h =
      let q = by (leb (length before + length more) columns) h in
      (ap (λ n. leb (n + length (map (column_of text) more)) columns) (length-map before (column_of text)) ∙ ap (λ n. leb (length before + n) columns) (length-map more (column_of text)) ∙ q.0, q.1)
    where
      some_in : {x y : List Attribute} → ◌≡◌ {A = Option (List Attribute)} (Some x) (Some y) → x ≡ y
      some_in h = cc

      by : (b : Bool) → Some all ≡ cond b (Some (before ++ more)) None → (b ≡ true) × (all ≡ before ++ more)
      by true h = (refl, some_in h)
      by false h = let z : ◌≡◌ {A = ℕ} 0 1 = cc in absurd (omega arith)

  pub join_common : (more all : List Attribute) (p : Place) → Some all ≡ with_all before more → true ≡ meet (map (column_of text) before) (map (column_of text) more) →
      Err (fault RepeatedName p) ≡ together (map (column_of text) before) (map (column_of text) more) p
  unfolding together
  join_common more all p h m = ask_no _ _ _ (ap not (sym m)) ∙ ask_yes _ _ _ (join_fits more all h).0

  pub join_all : (more all : List Attribute) (p : Place) → Some all ≡ with_all before more → false ≡ meet (map (column_of text) before) (map (column_of text) more) →
      Ok (map (column_of text) all) ≡ together (map (column_of text) before) (map (column_of text) more) p
  unfolding together
  join_all more all p h m =
      ap (λ l. Ok (map (column_of text) l)) (join_fits more all h).1 ∙ ap Ok (map-append (column_of text) before more)
      ∙ ask_yes _ _ _ (ap not (sym m)) ∙ ask_yes _ _ _ (join_fits more all h).0

  -- One column more.
  grown_fits : (a : Attribute) (all : List Attribute) → Some all ≡ with_one columns before a → (ltb (length (map (column_of text) before)) columns ≡ true) × (all ≡ before ++ (a ∷ []))
  grown_fits a all h =
      let q = by (ltb (length before) columns) h in
      (ap (λ n. ltb n columns) (length-map before (column_of text)) ∙ q.0, q.1)
    where
      some_in : {x y : List Attribute} → ◌≡◌ {A = Option (List Attribute)} (Some x) (Some y) → x ≡ y
      some_in h = cc

      by : (b : Bool) → Some all ≡ cond b (Some (before ++ (a ∷ []))) None → (b ≡ true) × (all ≡ before ++ (a ∷ []))
      by true h = (refl, some_in h)
      by false h = let z : ◌≡◌ {A = ℕ} 0 1 = cc in absurd (omega arith)

  pub column_crowded : (a : Attribute) (n : Bytes) (d : Domain) (p q : Place) → None ≡ with_one columns before a → Err (fault TooMany p) ≡ with_column (map (column_of text) before) n d p q
  unfolding with_column
  column_crowded a n d p q h = ask_no _ _ _ (ap (λ n. ltb n columns) (length-map before (column_of text)) ∙ by (ltb (length before) columns) h)
    where
      by : (b : Bool) → None ≡ cond b (Some (before ++ (a ∷ []))) None → b ≡ false
      by true h = let z : ◌≡◌ {A = ℕ} 0 1 = cc in absurd (omega arith)
      by false h = refl

  pub column_old : (a : Attribute) (all : List Attribute) (n : Bytes) (d : Domain) (p q : Place) → Some all ≡ with_one columns before a → true ≡ has (map (column_of text) before) n →
      Err (fault RepeatedName q) ≡ with_column (map (column_of text) before) n d p q
  unfolding with_column
  column_old a all n d p q h old = ask_no _ _ _ (ap not (sym old)) ∙ ask_yes _ _ _ (grown_fits a all h).0

  pub column_new : (a : Attribute) (all : List Attribute) (n : Bytes) (d : Domain) (p q : Place) → Some all ≡ with_one columns before a → false ≡ has (map (column_of text) before) n → column_of text a ≡ column_named n d →
      Ok (map (column_of text) all) ≡ with_column (map (column_of text) before) n d p q
  unfolding with_column
  column_new a all n d p q h new e =
      ap (λ l. Ok (map (column_of text) l)) (grown_fits a all h).1 ∙ ap Ok (map-append (column_of text) before (a ∷ [])) ∙ ap (λ c. Ok (map (column_of text) before ++ (c ∷ []))) e
      ∙ ask_yes _ _ _ (ap not (sym new)) ∙ ask_yes _ _ _ (grown_fits a all h).0
