-- The tests decide what they test.
use Rattle.std.proofs.Common.{◌≡◌, ℕ, ◌<◌, ◌≤◌, Bool, true, false, cond, not, ◌&&◌, eqb, ltb, leb, List, [], ◌∷◌, sym, refl, ap, ◌∙◌, subst, ap₂, arith}
use Rattle.std.proofs.lemmas.Bool.Decides.{nat_tests}
use Rattle.std.proofs.lemmas.Bool.{and_parts}
use Rattle.domain.specs.declared.Domain.{Domain}
use Rattle.words.specs.declared.tokens.Comparison.{Comparison}
use Rattle.schema.specs.Kinds.{ValueType, ValueType.atom, ValueType.table}
use Rattle.schema.specs.Sameness.{same_domain, same_type}
use Rattle.schema.proofs.Sames.{never, domain_is, domain_same, type_is, is_type}
use Rattle.typing.specs.Tables.{is_atom, both_atoms, ordered, is_equality, both_ordered, comparable, Comparable, Comparable.by_sameness, Comparable.by_order, same_domains}
use Rattle.typing.specs.Failing.{Not}

-- A test that is negated.
pub not_true : (b : Bool) → not b ≡ true → b ≡ false
not_true true h = never h
not_true false h = refl

pub not_false : (b : Bool) → not b ≡ false → b ≡ true
not_false true h = refl
not_false false h = never (sym h)

-- A test that fails refutes what it decides, and the other way round.
pub refutes : {b : Bool} {P : Type 0} → (P → b ≡ true) → b ≡ false → Not P
refutes yes-so no-so p = never (sym no-so ∙ yes-so p)

pub refuted : (b : Bool) {P : Type 0} → (b ≡ true → P) → Not P → b ≡ false
refuted true holds fails = absurd (fails (holds refl))
refuted false holds fails = refl

pub both : (a b : Bool) → a ≡ true → b ≡ true → a && b ≡ true
both true b ha hb = hb
both false b ha hb = ha

-- The tests of numbers.
pub leb_true : (a b : ℕ) → a ≤ b → leb a b ≡ true
leb_true a b h = grind (arith, nat_tests)

pub leb_false : (a b : ℕ) → b < a → leb a b ≡ false
leb_false a b h = grind (arith, nat_tests)

pub ltb_true : (a b : ℕ) → a < b → ltb a b ≡ true
ltb_true a b h = grind (arith, nat_tests)

pub ltb_false : (a b : ℕ) → b ≤ a → ltb a b ≡ false
ltb_false a b h = grind (arith, nat_tests)

pub leb_le : (a b : ℕ) → leb a b ≡ true → a ≤ b
leb_le a b h = grind (arith, nat_tests)

pub leb_lt : (a b : ℕ) → leb a b ≡ false → b < a
leb_lt a b h = grind (arith, nat_tests)

pub ltb_lt : (a b : ℕ) → ltb a b ≡ true → a < b
ltb_lt a b h = grind (arith, nat_tests)

pub ltb_le : (a b : ℕ) → ltb a b ≡ false → b ≤ a
ltb_le a b h = grind (arith, nat_tests)

pub eqb_is : (a b : ℕ) → eqb a b ≡ true → a ≡ b
eqb_is a b h = grind (arith, nat_tests)

pub is_eqb : (a b : ℕ) → a ≡ b → eqb a b ≡ true
is_eqb a b h = grind (arith, nat_tests)

-- The tests of types.
pub atom_is : (d : Domain) (t : ValueType) → is_atom d t ≡ true → t ≡ atom d
atom_is d (atom e) h = ap atom (domain_is e d h)
atom_is d (table cs) h = never h

pub is_atom_lem : (d : Domain) {t : ValueType} → t ≡ atom d → is_atom d t ≡ true
is_atom_lem d h = ap (is_atom d) h ∙ domain_same d

pub atoms_are : (d : Domain) (t u : ValueType) → both_atoms d t u ≡ true → (t ≡ atom d) × (u ≡ atom d)
atoms_are d t u h = let q = and_parts (is_atom d t) (is_atom d u) h in (atom_is d t q.0, atom_is d u q.1)

pub are_atoms : (d : Domain) {t u : ValueType} → (t ≡ atom d) × (u ≡ atom d) → both_atoms d t u ≡ true
are_atoms d q = both _ _ (is_atom_lem d q.0) (is_atom_lem d q.1)

-- The test of comparisons.
ordered_is : (o : Comparison) (t u : ValueType) → is_equality o ≡ false → both_ordered t u ≡ true → Comparable o t u
ordered_is o (atom d) u no-equality h =
    let q = and_parts (ordered d) (is_atom d u) h in
    subst (λ (x : ValueType). Comparable o (atom d) x) (sym (atom_is d u q.1)) (by_order no-equality q.0)
ordered_is o (table cs) u no-equality h = never h

pub comparable_is : (o : Comparison) (t u : ValueType) → comparable o t u ≡ true → Comparable o t u
comparable_is o t u h = by (is_equality o) refl h
  where
    by : (b : Bool) → is_equality o ≡ b → cond b (same_type t u) (both_ordered t u) ≡ true → Comparable o t u
    by true e h = by_sameness e (type_is t u h)
    by false e h = ordered_is o t u e h

pub is_comparable : {o : Comparison} {t u : ValueType} → Comparable o t u → comparable o t u ≡ true
is_comparable {o} {t} {u} (by_sameness e s) = ap (λ b. cond b (same_type t u) (both_ordered t u)) e ∙ is_type s
is_comparable {o} (by_order {d = d} e h) = ap (λ b. cond b (same_type (atom d) (atom d)) (both_ordered (atom d) (atom d))) e ∙ both (ordered d) (is_atom d (atom d)) h (domain_same d)

-- The test of a tuple's domains.
pub domains_are : (left right : List Domain) → same_domains left right ≡ true → left ≡ right
domains_are [] [] h = refl
domains_are [] (e ∷ right) h = never h
domains_are (d ∷ left) [] h = never h
domains_are (d ∷ left) (e ∷ right) h =
    let q = and_parts (same_domain d e) (same_domains left right) h in
    ap₂ (λ x xs. x ∷ xs) (domain_is d e q.0) (domains_are left right q.1)

domains_same : (ds : List Domain) → same_domains ds ds ≡ true
domains_same [] = refl
domains_same (d ∷ ds) = both (same_domain d d) (same_domains ds ds) (domain_same d) (domains_same ds)

pub are_domains : {left right : List Domain} → left ≡ right → same_domains left right ≡ true
are_domains {left} h = ap (same_domains left) (sym h) ∙ domains_same left
