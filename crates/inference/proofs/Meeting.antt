-- Names of columns, sought among attributes.
use Rattle.std.proofs.Common.{◌≡◌, ℕ, ◌||◌, List, [], ◌∷◌, map, get_or, Some, None, Ok, Err, Option, refl, ap, ◌∙◌, arith}
use Rattle.std.specs.List.{list_any}
use Rattle.fault.specs.declared.rules.Rule.TheVariants.{NameNotFound}
use Rattle.words.specs.Tokens.{Bytes, Place}
use Rattle.schema.specs.Columns.{Column, name_of, column_of}
use Rattle.schema.specs.declared.attributes.Attribute.{Attribute}
use Rattle.scope.specs.Names.{called}
use Rattle.scope.specs.Chains.{Newest, newest_of, position_of, find}
use Rattle.scope.proofs.Searches.{newest_map, newest_entry}
use Rattle.typing.specs.Environments.{fault, is_column}
use Rattle.typing.specs.Tables.{meet, meets_in}
use Rattle.typing.specs.Checker.{bind, or_absent}

module _ (text : List ℕ) where
  -- Some attribute of the left meets the right: their columns meet.
  pub any_meet : (own : List Attribute) (ds : List Column) → list_any (λ a. meets_in ds (name_of text a)) own ≡ meet (map (column_of text) own) ds
  any_meet [] ds = refl
  any_meet (a ∷ own) ds = ap (λ b. meets_in ds (name_of text a) || b) (any_meet own ds)

  -- The column that an update sets.
  pub column_found : (own : List Attribute) (n : Bytes) (k : ℕ) (d : Attribute) (p : Place) → Some k ≡ position_of (newest_of (λ a. called (name_of text a) n) own) →
      Ok (get_or own k d).domain ≡ bind (or_absent (find (is_column n) (map (column_of text) own ∷ [])) p) (λ f. Ok f.entry.domain)
  unfolding bind or_absent
  column_found own n k d p h = by (newest_of (λ a. called (name_of text a) n) own) refl h
    where
      by : (o : Option (Newest Attribute)) → newest_of (λ a. called (name_of text a) n) own ≡ o → Some k ≡ position_of o →
          Ok (get_or own k d).domain ≡ bind (or_absent (find (is_column n) (map (column_of text) own ∷ [])) p) (λ f. Ok f.entry.domain)
      by None e h = let z : ◌≡◌ {A = ℕ} 0 1 = cc in absurd (omega arith)
      by (Some w) e h = rw (newest_map (column_of text) (is_column n) own, e) (ap (λ a. Ok a.domain) (ap (λ i. get_or own i d) (some_in h) ∙ newest_entry (λ a. called (name_of text a) n) own w e d))
        where
          some_in : {i j : ℕ} → ◌≡◌ {A = Option ℕ} (Some i) (Some j) → i ≡ j
          some_in h = cc

  pub column_missing : (own : List Attribute) (n : Bytes) (p : Place) → None ≡ position_of (newest_of (λ a. called (name_of text a) n) own) →
      Err (fault NameNotFound p) ≡ bind (or_absent (find (is_column n) (map (column_of text) own ∷ [])) p) (λ f. Ok f.entry.domain)
  unfolding bind or_absent
  column_missing own n p h = by (newest_of (λ a. called (name_of text a) n) own) refl h
    where
      by : (o : Option (Newest Attribute)) → newest_of (λ a. called (name_of text a) n) own ≡ o → None ≡ position_of o →
          Err (fault NameNotFound p) ≡ bind (or_absent (find (is_column n) (map (column_of text) own ∷ [])) p) (λ f. Ok f.entry.domain)
      by None e h = rw (newest_map (column_of text) (is_column n) own, e) refl
      by (Some w) e h = let z : ◌≡◌ {A = ℕ} 0 1 = cc in absurd (omega arith)
