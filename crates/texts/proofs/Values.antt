-- The readers of values are exact: each takes just the texts of its values, and refuses at the first byte with which none goes on.
use Rattle.std.proofs.Common.{◌≡◌, ℕ, zero, suc, ◌+◌, ◌-◌, ◌*◌, ◌≤◌, Bool, true, false, cond, not, ◌&&◌, leb, List, [], ◌∷◌, ◌++◌, pos, neg_ℤ, codes, sym, refl, ap, ◌∙◌, subst, ap₂, inl, inr, arith}
use Rattle.std.proofs.Common.{Option, Some}
use Rattle.fault.specs.Limits.{string_bytes}
use Rattle.fault.specs.declared.rules.Rule.TheVariants.{WrongCell}
use Rattle.domain.specs.declared.Domain.{Domain}
use Rattle.domain.specs.declared.Domain.TheVariants.{Integer, String, Boolean}
use Rattle.texts.specs.Formats.{Word, One, After, Given, Either}
use Rattle.texts.specs.Readers.{Reading, Reading.taken, Reading.refused, first, after, word}
use Rattle.words.specs.Letters.{digit, plain}
use Rattle.std.specs.List.{list_all}
use Rattle.texts.specs.Language.{Value.integer, Value.string, Value.boolean, first_digit, worth, most, least, FurtherDigits, CountText, IntegerText, quote, QuotedText, StringText, BooleanText, ValueText}
use Rattle.texts.specs.Reading.{next, next_digit, further_on, further, read_count, apart, read_integer, read_quoted, read_string, read_boolean, read_value}
use Rattle.texts.specs.Layers.{may_end}
use Rattle.texts.proofs.Exactness.{Reads, Outcome, anywhere, from_some, exact_same, reads_until, after_reads, give_reads, either_reads, one_reads, word_reads, Leads, word_leads, one_leads, after_leads, give_leads, either_leads}

-- where the reader of an integer leaves off
abbrev pub no_digit : Option ℕ → Type 0
no_digit o = next_digit o ≡ false

pub worth_least : (n : ℕ) (p : List ℕ) → n ≤ worth n p
worth_least n [] = omega arith
worth_least n (b ∷ p) = omega (arith, worth_least (n * 10 + (b - 48)) p)

pub further_reads : (limit n : ℕ) → n ≤ limit → Reads (FurtherDigits limit n) no_digit (further limit n)
further_reads limit n h = record { reads = λ s. takes s n h; complete = λ m p r t e. whole p n m r t e }
  where
    whole : (p : List ℕ) (n m : ℕ) (r : List ℕ) → FurtherDigits limit n m p → no_digit (first r) → further limit n (p ++ r) ≡ taken m r
    whole [] n m [] t e = ap (λ z. taken z []) (sym t.1)
    whole [] n m (b ∷ r) t e = ap (λ z. further_on z (leb (n * 10 + (b - 48)) limit) n b r (further limit (n * 10 + (b - 48)) r)) e ∙ ap (λ z. taken z (b ∷ r)) (sym t.1)
    whole (b ∷ p) n m r t e =
        let d : digit b ≡ true = grind (arith, t.0) in
        let ds : list_all digit p ≡ true = grind (arith, t.0) in
        let fit : leb (n * 10 + (b - 48)) limit ≡ true = grind (arith, t.1, t.2, worth_least (n * 10 + (b - 48)) p) in
        ap₂ (λ x y. further_on x y n b (p ++ r) (further limit (n * 10 + (b - 48)) (p ++ r))) d fit
        ∙ whole p (n * 10 + (b - 48)) m r (ds, t.1, t.2) e

    longer : (b n : ℕ) (s : List ℕ) → digit b ≡ true → leb (n * 10 + (b - 48)) limit ≡ true → (x : Reading ℕ) →
        Outcome (FurtherDigits limit (n * 10 + (b - 48))) no_digit (further limit (n * 10 + (b - 48))) s x → Outcome (FurtherDigits limit n) no_digit (further limit n) (b ∷ s) x
    longer b n s d fit (taken m r) o = record { front = b ∷ o.front; parts = ap (λ z. b ∷ z) o.parts; text = (ap (λ z. z && list_all digit o.front) d ∙ o.text.0, o.text.1, o.text.2); stops = o.stops }
    longer b n s d fit (refused l r) o = record {
      front = b ∷ o.front;
      parts = ap (λ z. b ∷ z) o.parts;
      rest = o.rest;
      value = o.value;
      text = (ap (λ z. z && list_all digit (o.front ++ o.rest)) d ∙ o.text.0, o.text.1, o.text.2);
      again = λ u e. ap₂ (λ x y. further_on x y n b (o.front ++ u) (further limit (n * 10 + (b - 48)) (o.front ++ u))) d fit ∙ o.again u e;
    }

    decide : (b n : ℕ) (s : List ℕ) (x y : Bool) → n ≤ limit → digit b ≡ x → leb (n * 10 + (b - 48)) limit ≡ y →
        (n * 10 + (b - 48) ≤ limit → Outcome (FurtherDigits limit (n * 10 + (b - 48))) no_digit (further limit (n * 10 + (b - 48))) s (further limit (n * 10 + (b - 48)) s)) →
        Outcome (FurtherDigits limit n) no_digit (further limit n) (b ∷ s) (further_on x y n b s (further limit (n * 10 + (b - 48)) s))
    decide b n s false y h d e ih = record { front = []; parts = refl; text = (refl, refl, h); stops = d }
    decide b n s true true h d e ih = longer b n s d e (further limit (n * 10 + (b - 48)) s) (ih (grind (arith, e)))
    decide b n s true false h d e ih = record {
      front = [];
      parts = refl;
      rest = [];
      value = n;
      text = (refl, refl, h);
      again = from_some (λ t. further limit n t ≡ refused WrongCell t) b (λ t. ap₂ (λ x y. further_on x y n b t (further limit (n * 10 + (b - 48)) t)) d e);
    }

    takes : (s : List ℕ) (n : ℕ) → n ≤ limit → Outcome (FurtherDigits limit n) no_digit (further limit n) s (further limit n s)
    takes [] n h = record { front = []; parts = refl; text = (refl, refl, h); stops = refl }
    takes (b ∷ s) n h = decide b n s (digit b) (leb (n * 10 + (b - 48)) limit) h refl refl (takes s (n * 10 + (b - 48)))

pub count_reads : (limit : ℕ) → 9 ≤ limit → Reads (CountText limit) no_digit (read_count limit)
count_reads limit h = after_reads _ _ anywhere no_digit _ _ (one_reads WrongCell first_digit 49 refl) (λ b p t. further_reads limit (b - 48) (grind (arith, t.1))) (λ a b p r t e. tt)

pub apart_reads : {A : Type 0} (a : A) → Reads (Word [] a) no_digit (apart a)
apart_reads {A = A} a = record {
  reads = λ s. go s (next_digit (first s)) refl;
  complete = λ b p r t e. ap (λ z. apart a (z ++ r)) t.1 ∙ (ap (λ z. cond z (refused WrongCell r) (taken a r)) e ∙ ap (λ z. taken z r) (sym t.0));
}
  where
    go : (s : List ℕ) (x : Bool) → next_digit (first s) ≡ x → Outcome (Word [] a) no_digit (apart a) s (cond x (refused WrongCell s) (taken a s))
    go s true e = record { front = []; parts = refl; rest = []; value = a; text = (refl, refl); again = λ u h. ap (λ z. cond z (refused WrongCell u) (taken a u)) (ap next_digit h ∙ e) }
    go s false e = record { front = []; parts = refl; text = (refl, refl); stops = e }

count_leads : (limit : ℕ) (test : Option ℕ → Bool) (x : Bool) → ((b : ℕ) → first_digit b ≡ true → test (Some b) ≡ x) → Leads (CountText limit) test x
count_leads limit test x h = after_leads test x (one_leads first_digit test x h)

pub zero_reads : Reads (Word (codes "0") (pos 0)) no_digit (after (word WrongCell (codes "0") (pos 0)) apart)
zero_reads = exact_same (λ a p t. (t.ends.0 ∙ t.begins.0, t.parts ∙ ap₂ (λ x y. x ++ y) t.begins.1 t.ends.1))
    (λ a p t. record { value = a; front = codes "0"; back = []; parts = t.1; begins = (t.0, refl); ends = (refl, refl) })
    (after_reads (Word (codes "0") (pos 0)) (λ z. Word [] z) anywhere no_digit _ _ (word_reads WrongCell (codes "0") (pos 0)) (λ a p t. apart_reads a) (λ a b p r t e. tt))

pub integer_reads : Reads IntegerText no_digit read_integer
integer_reads =
    either_reads (next 45) _ _ no_digit _ _
    (after_reads _ _ anywhere no_digit _ _ (word_reads WrongCell (codes "-") tt) (λ a p t. give_reads (λ n. neg_ℤ (pos n)) _ no_digit _ (count_reads least refl_least)) (λ a b p r t e. tt))
    (either_reads (next 48) _ _ no_digit _ _ zero_reads (give_reads pos _ no_digit _ (count_reads most refl_most))
    (λ a p r t e. word_leads 48 [] (pos 0) (next 48) true refl a p r t)
    (λ a p r t e. give_leads (next 48) false (count_leads most (next 48) false (λ b h. grind (arith, h))) a p r t))
    (λ a p r t e. after_leads (next 45) true (word_leads 45 [] tt (next 45) true refl) a p r t)
    (λ a p r t e. either_leads (next 45) false (word_leads 48 [] (pos 0) (next 45) false refl) (give_leads (next 45) false (count_leads most (next 45) false (λ b h. grind (arith, h)))) a p r t)
  where
    refl_least : 9 ≤ least
    refl_least = omega arith

    refl_most : 9 ≤ most
    refl_most = omega arith

-- strings
only_quote : (n : ℕ) (bytes p : List ℕ) → Word quote [] bytes p → QuotedText n bytes p
only_quote n bytes p t = subst (λ z. QuotedText n z p) (sym t.0) (refl, omega arith, t.1)

no_bytes : (bytes p : List ℕ) → QuotedText 0 bytes p → Word quote [] bytes p
no_bytes [] p t = (refl, t.2)
no_bytes (c ∷ bytes) p t = absurd (omega (arith, t.1))

one_byte_more : (n : ℕ) (bytes p : List ℕ) → After (One plain) (λ b. Given (λ more. b ∷ more) (QuotedText n)) bytes p → QuotedText (suc n) bytes p
one_byte_more n bytes p t = subst (λ z. QuotedText (suc n) z p) (sym t.ends.is)
    (ap (λ z. z && list_all plain t.ends.value) t.begins.1 ∙ t.ends.text.0, omega (arith, t.ends.text.1), t.parts ∙ ap₂ (λ x y. x ++ y) t.begins.0 t.ends.text.2)

by_first_byte : (n : ℕ) (bytes p : List ℕ) → QuotedText (suc n) bytes p → Either (Word quote []) (After (One plain) (λ b. Given (λ more. b ∷ more) (QuotedText n))) bytes p
by_first_byte n [] p t = inl (refl, t.2)
by_first_byte n (b ∷ bytes) p t = inr (record {
  value = b;
  front = b ∷ [];
  back = bytes ++ quote;
  parts = t.2;
  begins = (refl, grind (arith, t.0));
  ends = record { value = bytes; is = refl; text = (grind (arith, t.0), omega (arith, t.1), refl) };
})

from_either : (n : ℕ) (bytes p : List ℕ) → Either (Word quote []) (After (One plain) (λ b. Given (λ more. b ∷ more) (QuotedText n))) bytes p → QuotedText (suc n) bytes p
from_either n bytes p (inl t) = only_quote (suc n) bytes p t
from_either n bytes p (inr t) = one_byte_more n bytes p t

pub quoted_reads : (n : ℕ) → Reads (QuotedText n) anywhere (read_quoted n)
unfolding read_quoted
quoted_reads zero = exact_same (only_quote 0) no_bytes (word_reads WrongCell quote [])
quoted_reads (suc n) = exact_same (from_either n) (by_first_byte n)
    (either_reads (next 34) _ _ anywhere _ _ (word_reads WrongCell quote [])
    (after_reads _ _ anywhere anywhere _ _ (one_reads WrongCell plain 97 refl) (λ b p t. give_reads (λ more. b ∷ more) _ anywhere _ (quoted_reads n)) (λ a b p r t e. tt))
    (λ a p r t e. word_leads 34 [] [] (next 34) true refl a p r t)
    (λ a p r t e. after_leads (next 34) false (one_leads plain (next 34) false (λ b h. grind (arith, h))) a p r t))

pub string_reads : Reads StringText anywhere read_string
string_reads = exact_same
    (λ a p t. (t.ends.0, t.ends.1, t.parts ∙ ap₂ (λ x y. x ++ y) t.begins.1 t.ends.2))
    (λ a p t. record { value = tt; front = quote; back = a ++ quote; parts = t.2; begins = (refl, refl); ends = (t.0, t.1, refl) })
    (after_reads (Word quote tt) (λ (_ : Unit {0}). QuotedText string_bytes) anywhere anywhere _ _ (word_reads WrongCell quote tt) (λ a p t. quoted_reads string_bytes) (λ a b p r t e. tt))

pub boolean_reads : Reads BooleanText anywhere read_boolean
boolean_reads = either_reads (next 116) _ _ anywhere _ _ (word_reads WrongCell (codes "true") true) (word_reads WrongCell (codes "false") false)
    (λ a p r t e. word_leads 116 (codes "rue") true (next 116) true refl a p r t)
    (λ a p r t e. word_leads 102 (codes "alse") false (next 116) false refl a p r t)

-- where the reader of a value leaves off
abbrev pub leaves : Domain → Option ℕ → Type 0
leaves d o = may_end d o ≡ true

pub value_reads : (d : Domain) → Reads (ValueText d) (leaves d) (read_value d)
value_reads Integer = reads_until (λ o h. ap not h) (λ o h. grind (arith, h)) (give_reads integer _ no_digit _ integer_reads)
value_reads String = reads_until (λ o h. refl) (λ o h. tt) (give_reads string _ anywhere _ string_reads)
value_reads Boolean = reads_until (λ o h. refl) (λ o h. tt) (give_reads boolean _ anywhere _ boolean_reads)

-- a value may end before any byte that is no digit
pub leaves_before : (d : Domain) (o : Option ℕ) → next_digit o ≡ false → leaves d o
leaves_before Integer o h = ap not h
leaves_before String o h = refl
leaves_before Boolean o h = refl
