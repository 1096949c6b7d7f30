-- Columns that are renamed one by one.
use Rattle.std.proofs.Common.{◌≡◌, ℕ, ◌+◌, ◌<◌, ◌≤◌, Bool, true, false, not, ◌||◌, eqb, ltb, List, [], ◌∷◌, ◌++◌, map, length, Some, None, Ok, Err, Option, sym, refl, ap, ◌∙◌, arith}
use Rattle.std.specs.List.{AllZip}
use Rattle.std.specs.Str.{bytes_eq}
use Rattle.std.proofs.lemmas.Slice.Zip.{AllZip-long}
use Rattle.std.proofs.lemmas.Bool.Decides.{nat_tests}
use Rattle.std.proofs.lemmas.List.{length-map, length-append, append_assoc, append-nil}
use Rattle.domain.specs.declared.Domain.{Domain}
use Rattle.fault.specs.Limits.{columns}
use Rattle.fault.specs.declared.rules.Fault.{Fault}
use Rattle.fault.specs.declared.rules.Rule.TheVariants.{RepeatedName, OperandMismatch}
use Rattle.words.specs.Tokens.{Bytes, Place}
use Rattle.words.specs.Spans.{part_of}
use Rattle.words.specs.declared.spans.Span.{Span}
use Rattle.grammar.specs.Tree.{Name, Name.named}
use Rattle.schema.specs.Columns.{Column, column_of}
use Rattle.schema.specs.declared.attributes.Attribute.{Attribute}
use Rattle.scope.specs.Chains.{any}
use Rattle.typing.specs.Environments.{fault, is_column}
use Rattle.typing.specs.Tables.{has, among, bytes_in, renaming, column_named}
use Rattle.typing.specs.Checker.{Answer, ask, bind, distinct, renamings, with_column}
use Rattle.tree.specs.declared.nodes.Node.{Node}
use Rattle.tree.specs.Holds.{Said, said}
use Rattle.lists.specs.Links.{Linked}
use Rattle.lists.specs.Elements.{IsName}
use Rattle.lists.specs.Naming.{span_said, RenamesOne}
use Rattle.lists.specs.Walks.{walked}
use Rattle.lists.proofs.Walking.{same_some, linked_walked}

-- With room for a column, only an old name is in its way.
roomy : (fresh : List Column) (n : Bytes) (d : Domain) (p : Place) → length fresh < columns → with_column fresh n d p p ≡ ask (not (has fresh n)) (fault RepeatedName p) (Ok (fresh ++ (column_named n d ∷ [])))
unfolding with_column ask
roomy fresh n d p few = let fits : ltb (length fresh) columns ≡ true = grind (arith, nat_tests) in rw fits refl

module _ (text : Bytes) (s : Said) (d : Domain) (fresh : List Column) where
  pub renamed_here : (span : Span) (r : Answer (List Column)) → Some span ≡ span_said s.what → ((n : Bytes) → part_of span text ≡ Some n → r ≡ with_column fresh n d s.place s.place) → RenamesOne text s d fresh r
  renamed_here span r g answer n p (own-span, says-name, spelled) few =
      answer n (ap (λ x. part_of x text) (same_some (ap (λ x. span_said x.what) says-name) g) ∙ spelled)
      ∙ ap (λ q. with_column fresh n d q q) (ap (λ x. x.place) says-name)
      ∙ roomy fresh n d p few

  -- No name stands there, so there is nothing to say.
  pub no_name_here : (r : Answer (List Column)) → None ≡ span_said s.what → RenamesOne text s d fresh r
  no_name_here r h n p (span, says-name, spelled) few = let clash : ◌≡◌ {A = Option Span} (Some span) None = sym (h ∙ ap (λ x. span_said x.what) says-name) in let z : ◌≡◌ {A = ℕ} 0 1 = cc in absurd (omega arith)

any_push : {E : Type 0} (is : E → Bool) (l : List E) (x : E) → any is (l ++ (x ∷ [])) ≡ is x || any is l
any_push is [] x = refl
any_push is (e ∷ l) x = ap (λ b. is e || b) (any_push is l x) ∙ swapped (is e) (is x) (any is l)
  where
    swapped : (a b c : Bool) → a || (b || c) ≡ b || (a || c)
    swapped true true c = refl
    swapped true false c = refl
    swapped false true c = refl
    swapped false false c = refl

ok_in : {a b : List Column} → ◌≡◌ {A = Answer (List Column)} (Ok a) (Ok b) → a ≡ b
ok_in h = cc

-- What the answer to one name says of it.
module _ (fresh : List Column) (n : Bytes) (p : Place) (d : Domain) where
  stopped : (f : Fault) → Err f ≡ ask (not (has fresh n)) (fault RepeatedName p) (Ok (fresh ++ (column_named n d ∷ []))) → (has fresh n ≡ true) × (f ≡ fault RepeatedName p)
  unfolding ask
  stopped f h = by (has fresh n) h
    where
      err_in : {f g : Fault} → ◌≡◌ {A = Answer (List Column)} (Err f) (Err g) → f ≡ g
      err_in h = cc

      by : (b : Bool) → Err f ≡ ask (not b) (fault RepeatedName p) (Ok (fresh ++ (column_named n d ∷ []))) → (b ≡ true) × (f ≡ fault RepeatedName p)
      by true h = (refl, err_in h)
      by false h = let z : ◌≡◌ {A = ℕ} 0 1 = cc in absurd (omega arith)

  gone_on : (longer : List Column) → Ok longer ≡ ask (not (has fresh n)) (fault RepeatedName p) (Ok (fresh ++ (column_named n d ∷ []))) → (has fresh n ≡ false) × (longer ≡ fresh ++ (column_named n d ∷ []))
  unfolding ask
  gone_on longer h = by (has fresh n) h
    where
      by : (b : Bool) → Ok longer ≡ ask (not b) (fault RepeatedName p) (Ok (fresh ++ (column_named n d ∷ []))) → (b ≡ false) × (longer ≡ fresh ++ (column_named n d ∷ []))
      by true h = let z : ◌≡◌ {A = ℕ} 0 1 = cc in absurd (omega arith)
      by false h = (refl, ok_in h)

-- The nodes name the columns of cs, where fresh are those renamed before; r is the answer.
abbrev pub RenamesAll : Bytes → List Node → List Column → List Column → Answer (List Column) → Type 0
RenamesAll text nodes cs fresh r =
    (names : List Name) (before : List Bytes) → AllZip (λ n x. IsName text (said n) x) nodes names → ((m : Bytes) → has fresh m ≡ among before m) →
    length names ≡ length cs → length fresh + length names ≤ columns →
    r ≡ bind (distinct before names) (λ all. Ok (fresh ++ renaming (map bytes_in names) cs))

-- No column is left.
pub renames_end : (text : Bytes) (fresh : List Column) → RenamesAll text [] [] fresh (Ok fresh)
unfolding bind distinct
renames_end text fresh [] before h names_are many few = ap Ok (sym (append-nil fresh))
renames_end text fresh (n ∷ names) before h names_are many few = absurd h

module _ (text : Bytes) (n : Node) (nodes : List Node) (c : Column) (cs fresh : List Column) where
  -- A name was given before.
  pub renames_stop : (f : Fault) → RenamesOne text (said n) c.domain fresh (Err f) → RenamesAll text (n ∷ nodes) (c ∷ cs) fresh (Err f)
  unfolding bind distinct ask
  renames_stop f one [] before h names_are many few = absurd h
  renames_stop f one (named x p ∷ names) before (is, rest) names_are many few =
      let q = stopped fresh x p c.domain f (one x p is (omega arith)) in
      rw (sym (names_are x), q.0) (ap Err q.1)

  -- The name is new, and the others follow.
  pub renames_more : (longer : List Column) → RenamesOne text (said n) c.domain fresh (Ok longer) → (r : Answer (List Column)) → RenamesAll text nodes cs longer r → RenamesAll text (n ∷ nodes) (c ∷ cs) fresh r
  unfolding bind distinct ask
  renames_more longer one r more [] before h names_are many few = absurd h
  renames_more longer one r more (named x p ∷ names) before (is, rest) names_are many few =
      let q = gone_on fresh x p c.domain longer (one x p is (omega arith)) in
      let new : among before x ≡ false = sym (names_are x) ∙ q.0 in
      let long : length longer ≡ length fresh + 1 = ap length q.1 ∙ length-append fresh (column_named x c.domain ∷ []) in
      let all : (m : Bytes) → has longer m ≡ among (x ∷ before) m = λ m. ap (λ l. has l m) q.1 ∙ any_push (is_column m) fresh (column_named x c.domain) ∙ ap (λ b. bytes_eq x m || b) (names_are m) in
      let whole : longer ++ renaming (map bytes_in names) cs ≡ fresh ++ renaming (x ∷ map bytes_in names) (c ∷ cs) = ap (λ l. l ++ renaming (map bytes_in names) cs) q.1 ∙ append_assoc fresh (column_named x c.domain ∷ []) (renaming (map bytes_in names) cs) in
      rw new (more names (x ∷ before) rest all (omega arith) (omega (arith, long)) ∙ ap (λ w. bind (distinct (x ∷ before) names) (λ all. Ok w)) whole)

-- The same, where lists are known by equations.
pub renames_ended : (text : Bytes) (nodes : List Node) (own : List Attribute) (fresh : List Column) → nodes ≡ [] → own ≡ [] → RenamesAll text nodes (map (column_of text) own) fresh (Ok fresh)
renames_ended text nodes own fresh e g = rw (e, g) (renames_end text fresh)

module _ (text : Bytes) {n : Node} {nodes all : List Node} {a : Attribute} {own every : List Attribute} (first : all ≡ n ∷ nodes) (second : every ≡ a ∷ own) (fresh : List Column) where
  pub renames_stopped : (f : Fault) → RenamesOne text (said n) a.domain fresh (Err f) → RenamesAll text all (map (column_of text) every) fresh (Err f)
  renames_stopped f one = rw (first, second) (renames_stop text n nodes (column_of text a) (map (column_of text) own) fresh f one)

  pub renames_on : (longer : List Column) → RenamesOne text (said n) a.domain fresh (Ok longer) → (r : Answer (List Column)) → RenamesAll text nodes (map (column_of text) own) longer r → RenamesAll text all (map (column_of text) every) fresh r
  renames_on longer one r more = rw (first, second) (renames_more text n nodes (column_of text a) (map (column_of text) own) fresh longer one r more)

-- The whole list: as many names as columns, or a fault at the operator.
module _ (text : Bytes) (ns : List Node) (i : ℕ) (own : List Attribute) (p : Place) where
  size : length (map (column_of text) own) ≡ length own
  size = length-map own (column_of text)

  many : (names : List Name) → Linked (IsName text) ns i names → length names ≡ length (walked ns (Some i))
  many names linked = AllZip-long _ (walked ns (Some i)) names (linked_walked (IsName text) ns i names linked)

  pub rename_count : eqb (length (walked ns (Some i))) (length own) ≡ false → (f : Fault) → f ≡ fault OperandMismatch p → (names : List Name) → Linked (IsName text) ns i names → Err f ≡ renamings (map (column_of text) own) names p
  unfolding renamings ask
  rename_count other f is names linked =
      let differ : eqb (length names) (length (map (column_of text) own)) ≡ false = rw (many names linked, size) other in
      rw differ (ap Err is)

  pub rename_all : eqb (length (walked ns (Some i))) (length own) ≡ true → length own ≤ columns →
      (r : Answer (List Column)) → RenamesAll text (walked ns (Some i)) (map (column_of text) own) [] r → (names : List Name) → Linked (IsName text) ns i names → r ≡ renamings (map (column_of text) own) names p
  unfolding renamings ask
  rename_all so few r all names linked =
      let same : eqb (length names) (length (map (column_of text) own)) ≡ true = rw (many names linked, size) so in
      let long : length names ≡ length (map (column_of text) own) = grind (arith, nat_tests) in
      rw same (all names [] (linked_walked (IsName text) ns i names linked) (λ m. refl) long (omega (arith, long, size)))
