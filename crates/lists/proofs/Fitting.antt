-- Domains of constants, one by one.
use Rattle.std.proofs.Common.{◌≡◌, ℕ, ◌≤◌, Bool, true, false, ◌&&◌, List, [], ◌∷◌, map, length, Some, None, Ok, Err, Option, sym, refl, ap, ◌∙◌, arith}
use Rattle.std.specs.List.{AllZip}
use Rattle.domain.specs.declared.Domain.{Domain}
use Rattle.fault.specs.Limits.{columns}
use Rattle.fault.specs.declared.rules.Fault.{Fault}
use Rattle.fault.specs.declared.rules.Rule.TheVariants.{OperandMismatch}
use Rattle.words.specs.Tokens.{Place}
use Rattle.grammar.specs.Tree.{Constant, Tuple, Tuple.tuple_of}
use Rattle.schema.specs.Building.{with_one, with_all}
use Rattle.schema.specs.Columns.{held}
use Rattle.schema.specs.declared.schemas.Schema.{Schema}
use Rattle.schema.specs.declared.attributes.Attribute.{Attribute}
use Rattle.schema.proofs.Growing.{held_few, grown, full, added, one_length}
use Rattle.typing.specs.Environments.{fault}
use Rattle.typing.specs.Tables.{domain_of, same_domains}
use Rattle.typing.specs.Checker.{Answer, ask, fitting}
use Rattle.tree.specs.declared.nodes.Node.{Node}
use Rattle.tree.specs.declared.nodes.What.TheVariants.{Tuple as Tupled}
use Rattle.tree.specs.Holds.{said}
use Rattle.lists.specs.Links.{Linked}
use Rattle.lists.specs.Elements.{unnamed, domain_said, IsDomain, IsTuple}
use Rattle.lists.specs.Walks.{walked}
use Rattle.lists.specs.Fits.{is_domain, constants_fit}
use Rattle.lists.proofs.Walking.{linked_walked}

-- What the nodes of a list make of the columns before them.

abbrev pub then : {A B : Type 0} → Option A → (A → Option B) → Option B
then None f = None
then (Some a) f = f a

abbrev pub columns_said : List Node → List Attribute → Option (List Attribute)
columns_said [] before = Some before
columns_said (n ∷ nodes) before = then (domain_said n.what) λ d. then (with_one columns before (unnamed d)) λ after. columns_said nodes after

columns_are : (nodes : List Node) (before : List Attribute) (ds : List Domain) → AllZip (λ n d. IsDomain (said n) d) nodes ds → length before ≤ columns → columns_said nodes before ≡ with_all before (map unnamed ds)
columns_are [] before [] h few = added before [] (omega arith) few
columns_are [] before (d ∷ ds) h few = absurd h
columns_are (n ∷ nodes) before [] h few = absurd h
columns_are (n ∷ nodes) before (d ∷ ds) (is, rest) few =
    ap (λ o. then o λ d. then (with_one columns before (unnamed d)) λ after. columns_said nodes after) is
    ∙ by (with_one columns before (unnamed d)) refl (λ after. columns_are nodes after ds rest)
  where
    by : (o : Option (List Attribute)) → o ≡ with_one columns before (unnamed d) → ((after : List Attribute) → length after ≤ columns → columns_said nodes after ≡ with_all after (map unnamed ds)) →
        then o (λ after. columns_said nodes after) ≡ with_all before (unnamed d ∷ map unnamed ds)
    by None e later = full before (map unnamed ds) (unnamed d) e
    by (Some after) e later = later after (one_length before after (unnamed d) e) ∙ grown before (map unnamed ds) after (unnamed d) e

-- They are those of the list's types or constants.
pub columns_linked : (ns : List Node) (i : ℕ) (s : Schema) {r : Option (List Attribute)} → r ≡ columns_said (walked ns (Some i)) (held s) → (ds : List Domain) → Linked IsDomain ns i ds → r ≡ with_all (held s) (map unnamed ds)
columns_linked ns i s e ds linked = e ∙ columns_are (walked ns (Some i)) (held s) ds (linked_walked IsDomain ns i ds linked) (held_few s)

abbrev pub domains : List Attribute → List Domain
domains = map (λ a. a.domain)

-- The constants of a tuple against columns.
constants_are : (nodes : List Node) (own : List Attribute) (ds : List Domain) → AllZip (λ n d. IsDomain (said n) d) nodes ds → constants_fit nodes own ≡ same_domains ds (domains own)
constants_are [] [] [] h = refl
constants_are [] (a ∷ own) [] h = refl
constants_are [] own (d ∷ ds) h = absurd h
constants_are (n ∷ nodes) own [] h = absurd h
constants_are (n ∷ nodes) [] (d ∷ ds) h = refl
constants_are (n ∷ nodes) (a ∷ own) (d ∷ ds) (is, rest) = ap (λ o. is_domain o a.domain && constants_fit nodes own) is ∙ ap (λ b. is_domain (Some d) a.domain && b) (constants_are nodes own ds rest)

-- Tuples against columns, one by one: r is the answer to those of these nodes.
abbrev pub TuplesFit : List Node → List Attribute → List Node → Answer (Unit {0}) → Type 0
TuplesFit ns own nodes r = (tuples : List Tuple) → AllZip (λ n t. IsTuple ns (said n) t) nodes tuples → r ≡ fitting (domains own) tuples

module _ (ns : List Node) (own : List Attribute) (n : Node) (nodes : List Node) where
  -- What a test of the node says.
  abbrev pub Tests : Bool → Type 0
  Tests b = (start : ℕ) → n.what ≡ Tupled start → b ≡ constants_fit (walked ns (Some start)) own

  tested : {b : Bool} → Tests b → (cs : List Constant) (p : Place) → IsTuple ns (said n) (tuple_of cs p) → b ≡ same_domains (map domain_of cs) (domains own)
  tested so cs p (first, says, linked) = so first (ap (λ s. s.what) says) ∙ constants_are (walked ns (Some first)) own (map domain_of cs) (linked_walked IsDomain ns first (map domain_of cs) linked)

  placed : (cs : List Constant) (p : Place) → IsTuple ns (said n) (tuple_of cs p) → n.place ≡ p
  placed cs p (first, says, linked) = ap (λ s. s.place) says

  pub tuples_stop : (f : Fault) → f ≡ fault OperandMismatch n.place → Tests false → TuplesFit ns own (n ∷ nodes) (Err f)
  unfolding fitting ask
  tuples_stop f here no-so [] h = absurd h
  tuples_stop f here no-so (tuple_of cs p ∷ tuples) (is, rest) = rw (sym (tested no-so cs p is)) (ap Err here ∙ ap (λ q. Err (fault OperandMismatch q)) (placed cs p is))

  pub tuples_more : (r : Answer (Unit {0})) → Tests true → TuplesFit ns own nodes r → TuplesFit ns own (n ∷ nodes) r
  unfolding fitting ask
  tuples_more r so more [] h = absurd h
  tuples_more r so more (tuple_of cs p ∷ tuples) (is, rest) = rw (sym (tested so cs p is)) (more tuples rest)

pub tuples_end : (ns : List Node) (own : List Attribute) → TuplesFit ns own [] (Ok tt)
unfolding fitting
tuples_end ns own [] h = refl
tuples_end ns own (t ∷ tuples) h = absurd h

pub tuples_linked : (ns : List Node) (own : List Attribute) (i : ℕ) (r : Answer (Unit {0})) → TuplesFit ns own (walked ns (Some i)) r → (tuples : List Tuple) → Linked (IsTuple ns) ns i tuples → r ≡ fitting (domains own) tuples
tuples_linked ns own i r fit tuples linked = fit tuples (linked_walked (IsTuple ns) ns i tuples linked)
