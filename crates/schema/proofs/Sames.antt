-- The tests of sameness decide sameness.
use Rattle.std.proofs.Common.{◌≡◌, ℕ, Bool, true, false, ◌↔◌, List, [], ◌∷◌, Some, None, Option, sym, refl, ap, ◌∙◌, subst, arith}
use Rattle.std.specs.Str.{bytes_eq}
use Rattle.std.proofs.lemmas.Bool.{and_parts}
use Rattle.std.proofs.lemmas.Bool.Decides.{nat_tests}
use Rattle.std.proofs.lemmas.Slice.Eq.{bytes_eq-Decides}
use Rattle.domain.specs.declared.Domain.{Domain}
use Rattle.domain.specs.Domains.{letter_of, domain_of}
use Rattle.domain.specs.declared.Domain.TheVariants.{Integer, String, Boolean}
use Rattle.words.specs.Tokens.{Bytes}
use Rattle.schema.specs.Columns.{Column}
use Rattle.schema.specs.Kinds.{ValueType, ValueType.atom, ValueType.table}
use Rattle.schema.specs.Sameness.{Agree, Agree.left_nameless, Agree.right_nameless, Agree.equal, Same, Same.ended, Same.further, SameType, SameType.atoms, SameType.tables}
use Rattle.schema.specs.Sameness.{same_domain, agree, same_column, same_columns, same_type}

-- A test does not answer both.
pub never : {A : Type 0} → false ≡ true → A
never h = let z : ◌≡◌ {A = ℕ} 0 1 = cc in absurd (omega arith)

-- A domain's letter tells that domain.
told : (d : Domain) → domain_of (letter_of d) ≡ Some d
told Integer = refl
told String = refl
told Boolean = refl

-- Two domains with one letter are one.
pub domain_is : (a b : Domain) → same_domain a b ≡ true → a ≡ b
domain_is a b h =
    let letters : letter_of a ≡ letter_of b = grind (arith, nat_tests) in
    let both : Some a ≡ Some b = sym (told a) ∙ ap domain_of letters ∙ told b in
    cc

pub domain_same : (a : Domain) → same_domain a a ≡ true
domain_same a = grind (arith, nat_tests)

-- The test of domains decides whether they are one.
pub domain_decided : (a b : Domain) {r : Bool} → r ≡ same_domain a b → (r ≡ true ↔ a ≡ b)
domain_decided a b value = (λ h. domain_is a b (sym value ∙ h), λ h. value ∙ ap (λ x. same_domain a x) (sym h) ∙ domain_same a)

-- The test of names decides whether they are one.
pub name_decided : (a b : Bytes) {r : Bool} → r ≡ bytes_eq a b → (r ≡ true ↔ a ≡ b)
name_decided a b value = (λ h. (bytes_eq-Decides a b).0 (sym value ∙ h), λ h. value ∙ (bytes_eq-Decides a b).1 h)

agree_is : (a b : Option Bytes) → agree a b ≡ true → Agree a b
agree_is None b h = left_nameless
agree_is (Some a) None h = right_nameless
agree_is (Some a) (Some b) h = subst (λ (x : Bytes). Agree (Some a) (Some x)) ((bytes_eq-Decides a b).0 h) equal

agree_same : {a b : Option Bytes} → Agree a b → agree a b ≡ true
agree_same left_nameless = refl
agree_same {a = None} right_nameless = refl
agree_same {a = Some a} right_nameless = refl
agree_same (equal {name = n}) = (bytes_eq-Decides n n).1 refl

-- Columns that pass the test are the same.
pub same_is : (left right : List Column) → same_columns left right ≡ true → Same left right
same_is [] [] h = ended
same_is [] (b ∷ right) h = never h
same_is (a ∷ left) [] h = never h
same_is (a ∷ left) (b ∷ right) h =
    let p = and_parts (same_column a b) (same_columns left right) h in
    let q = and_parts (same_domain a.domain b.domain) (agree a.name b.name) p.0 in
    further (domain_is a.domain b.domain q.0) (agree_is a.name b.name q.1) (same_is left right p.1)

-- The same columns pass the test.
pub is_same : {left right : List Column} → Same left right → same_columns left right ≡ true
is_same ended = refl
is_same (further {a = a} {b = b} d n s) = rw (sym d, domain_same a.domain, agree_same n, is_same s) refl

-- The test of schemas decides sameness.
pub schema_decided : (left right : List Column) {r : Bool} → r ≡ same_columns left right → (r ≡ true ↔ Same left right)
schema_decided left right value = (λ h. same_is left right (sym value ∙ h), λ s. value ∙ is_same s)

-- Types that pass the test are the same.
pub type_is : (left right : ValueType) → same_type left right ≡ true → SameType left right
type_is (atom d) (atom e) h = subst (λ (x : Domain). SameType (atom d) (atom x)) (domain_is d e h) atoms
type_is (atom d) (table right) h = never h
type_is (table left) (atom e) h = never h
type_is (table left) (table right) h = tables (same_is left right h)

-- The same types pass the test.
pub is_type : {left right : ValueType} → SameType left right → same_type left right ≡ true
is_type (atoms {d = d}) = domain_same d
is_type (tables s) = is_same s

-- The test of types decides sameness.
pub type_decided : (left right : ValueType) {r : Bool} → r ≡ same_type left right → (r ≡ true ↔ SameType left right)
type_decided left right value = (λ h. type_is left right (sym value ∙ h), λ s. value ∙ is_type s)
