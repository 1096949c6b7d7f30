-- A reader is exact for a format: it takes just the right texts, and refuses at the first byte with which none goes on.
-- `Stop` says at which next byte the reader leaves off: anywhere for a text that shows its own end, at no digit for an integer.
use Rattle.std.proofs.Common.{◌≡◌, ℕ, zero, suc, ◌+◌, ◌<◌, ◌≤◌, Bool, true, false, cond, eqb, List, [], ◌∷◌, ◌++◌, length, codes, sym, refl, ap, ◌∙◌, subst, ap₂, inl, inr, true≢false, append_assoc, arith, length-append}
use mathlib.Core.List.{append_cancel_right, cons≢nil}
use Rattle.std.proofs.Common.{Option, None, Some}
use Rattle.fault.specs.declared.rules.Rule.{Rule}
use Rattle.texts.specs.Formats.{Format, Word, One, After, Given, Either, Many, Entries, Line, opening, comma, closing}
use Rattle.texts.specs.Readers.{Reading, Reading.taken, Reading.refused, Reader, first, bind, after, give, either, word, word_on, finish, turns, many, one, one_on, entries, line}
use Rattle.texts.specs.Reading.{next_digit}

pub record Took {A : Type 0} (F : Format A) (Stop : Option ℕ → Type 0) (s : List ℕ) (a : A) (r : List ℕ) : Type 0 where
  pub front : List ℕ
  pub parts : s ≡ front ++ r
  pub text : F a front
  pub stops : Stop (first r)

pub record Refused {A : Type 0} (F : Format A) (f : Reader A) (s : List ℕ) (rule : Rule) (r : List ℕ) : Type 0 where
  pub front : List ℕ
  pub parts : s ≡ front ++ r
  pub rest : List ℕ
  pub value : A
  pub text : F value (front ++ rest)
  pub again : (t : List ℕ) → first t ≡ first r → f (front ++ t) ≡ refused rule t

abbrev pub Outcome : {A : Type 0} → Format A → (Option ℕ → Type 0) → Reader A → List ℕ → Reading A → Type 0
Outcome F Stop f s (taken a r) = Took F Stop s a r
Outcome F Stop f s (refused rule r) = Refused F f s rule r

pub record Reads {A : Type 0} (F : Format A) (Stop : Option ℕ → Type 0) (f : Reader A) : Type 0 where
  pub reads : (s : List ℕ) → Outcome F Stop f s (f s)
  pub complete : (a : A) (p r : List ℕ) → F a p → Stop (first r) → f (p ++ r) ≡ taken a r

pub eqb_same : (b : ℕ) → eqb b b ≡ true
eqb_same b = grind arith

pub eqb_eq : (b c : ℕ) → eqb b c ≡ true → b ≡ c
eqb_eq b c e = grind arith

pub first_append : (p r t : List ℕ) → first t ≡ first r → first (p ++ t) ≡ first (p ++ r)
first_append [] r t e = e
first_append (b ∷ p) r t e = refl

-- a format with an exact reader has a text
pub record SomeText {A : Type 0} (F : Format A) : Type 0 where
  pub value : A
  pub bytes : List ℕ
  pub text : F value bytes

pub some_text : {A : Type 0} {F : Format A} {Stop : Option ℕ → Type 0} {f : Reader A} → Reads F Stop f → SomeText F
some_text {F = F} {Stop = Stop} {f = f} x = go (f []) (x.reads [])
  where
    go : (y : Reading _) → Outcome F Stop f [] y → SomeText F
    go (taken a r) o = record { value = a; bytes = o.front; text = o.text }
    go (refused rule r) o = record { value = o.value; bytes = o.front ++ o.rest; text = o.text }

-- one after another
module _ {A B : Type 0} (F : Format A) (G : A → Format B) (SF SG : Option ℕ → Type 0) (f : Reader A) (g : A → Reader B) where
  pub after_reads : Reads F SF f → ((a : A) (p : List ℕ) → F a p → Reads (G a) SG (g a)) →
      ((a : A) (b : B) (p r : List ℕ) → G a b p → SG (first r) → SF (first (p ++ r))) →
      Reads (After F G) SG (after f g)
  after_reads xf xg fits = record { reads = λ s. go s (f s) (xf.reads s); complete = whole }
    where
      second : (s : List ℕ) (a : A) (r : List ℕ) → Took F SF s a r → (y : Reading B) → Outcome (G a) SG (g a) r y → Outcome (After F G) SG (after f g) s y
      second s a r t (taken b q) o = record {
        front = t.front ++ o.front;
        parts = t.parts ∙ (ap (λ z. t.front ++ z) o.parts ∙ sym (append_assoc t.front o.front q));
        text = record { value = a; front = t.front; back = o.front; parts = refl; begins = t.text; ends = o.text };
        stops = o.stops;
      }
      second s a r t (refused rule q) o = record {
        front = t.front ++ o.front;
        parts = t.parts ∙ (ap (λ z. t.front ++ z) o.parts ∙ sym (append_assoc t.front o.front q));
        rest = o.rest;
        value = o.value;
        text = record { value = a; front = t.front; back = o.front ++ o.rest; parts = append_assoc t.front o.front o.rest; begins = t.text; ends = o.text };
        again = λ u e. ap (after f g) (append_assoc t.front o.front u)
            ∙ (ap (λ x. bind x g) (xf.complete a t.front (o.front ++ u) t.text
            (subst SF (ap first o.parts ∙ sym (first_append o.front q u e)) t.stops))
            ∙ o.again u e);
      }

      go : (s : List ℕ) (x : Reading A) → Outcome F SF f s x → Outcome (After F G) SG (after f g) s (bind x g)
      go s (taken a r) t = second s a r t (g a r) ((xg a t.front t.text).reads r)
      go s (refused rule r) o =
          let more : SomeText (G o.value) = some_text (xg o.value (o.front ++ o.rest) o.text) in
          record {
            front = o.front;
            parts = o.parts;
            rest = o.rest ++ more.bytes;
            value = more.value;
            text = record { value = o.value; front = o.front ++ o.rest; back = more.bytes; parts = sym (append_assoc o.front o.rest more.bytes); begins = o.text; ends = more.text };
            again = λ u e. ap (λ x. bind x g) (o.again u e);
          }

      whole : (b : B) (p r : List ℕ) → After F G b p → SG (first r) → after f g (p ++ r) ≡ taken b r
      whole b p r t e =
          ap (λ z. after f g (z ++ r)) t.parts
          ∙ (ap (after f g) (append_assoc t.front t.back r)
          ∙ (ap (λ x. bind x g) (xf.complete t.value t.front (t.back ++ r) t.begins (fits t.value b t.back r t.ends e))
          ∙ (xg t.value t.front t.begins).complete b t.back r t.ends e))

-- the same texts for another value
module _ {A B : Type 0} (h : A → B) (F : Format A) (S : Option ℕ → Type 0) (f : Reader A) where
  pub give_reads : Reads F S f → Reads (Given h F) S (give h f)
  give_reads xf = record { reads = λ s. go s (f s) (xf.reads s); complete = whole }
    where
      go : (s : List ℕ) (x : Reading A) → Outcome F S f s x → Outcome (Given h F) S (give h f) s (bind x (λ a r. taken (h a) r))
      go s (taken a r) t = record { front = t.front; parts = t.parts; text = record { value = a; is = refl; text = t.text }; stops = t.stops }
      go s (refused rule r) o = record {
        front = o.front;
        parts = o.parts;
        rest = o.rest;
        value = h o.value;
        text = record { value = o.value; is = refl; text = o.text };
        again = λ u e. ap (λ x. bind x (λ a q. taken (h a) q)) (o.again u e);
      }

      whole : (b : B) (p r : List ℕ) → Given h F b p → S (first r) → give h f (p ++ r) ≡ taken b r
      whole b p r t e = ap (λ x. bind x (λ a q. taken (h a) q)) (xf.complete t.value p r t.text e) ∙ ap (λ z. taken z r) (sym t.is)

-- one of two, by the first byte
module _ {A : Type 0} (test : Option ℕ → Bool) (F G : Format A) (S : Option ℕ → Type 0) (f g : Reader A) where
  pub either_reads : Reads F S f → Reads G S g →
      ((a : A) (p r : List ℕ) → F a p → S (first r) → test (first (p ++ r)) ≡ true) →
      ((a : A) (p r : List ℕ) → G a p → S (first r) → test (first (p ++ r)) ≡ false) →
      Reads (Either F G) S (either test f g)
  either_reads xf xg yes-test no_test = record { reads = λ s. go s (test (first s)) refl; complete = whole }
    where
      same : (p r t : List ℕ) (b : Bool) → test (first (p ++ r)) ≡ b → first t ≡ first r → test (first (p ++ t)) ≡ b
      same p r t b e h = ap test (first_append p r t h) ∙ e

      left : (s : List ℕ) → test (first s) ≡ true → (x : Reading A) → Outcome F S f s x → Outcome (Either F G) S (either test f g) s x
      left s e (taken a r) t = record { front = t.front; parts = t.parts; text = inl t.text; stops = t.stops }
      left s e (refused rule r) o = record {
        front = o.front;
        parts = o.parts;
        rest = o.rest;
        value = o.value;
        text = inl o.text;
        again = λ u h. ap (λ b. cond b (f (o.front ++ u)) (g (o.front ++ u))) (same o.front r u true (ap (λ z. test (first z)) (sym o.parts) ∙ e) h) ∙ o.again u h;
      }

      right : (s : List ℕ) → test (first s) ≡ false → (x : Reading A) → Outcome G S g s x → Outcome (Either F G) S (either test f g) s x
      right s e (taken a r) t = record { front = t.front; parts = t.parts; text = inr t.text; stops = t.stops }
      right s e (refused rule r) o = record {
        front = o.front;
        parts = o.parts;
        rest = o.rest;
        value = o.value;
        text = inr o.text;
        again = λ u h. ap (λ b. cond b (f (o.front ++ u)) (g (o.front ++ u))) (same o.front r u false (ap (λ z. test (first z)) (sym o.parts) ∙ e) h) ∙ o.again u h;
      }

      go : (s : List ℕ) (b : Bool) → test (first s) ≡ b → Outcome (Either F G) S (either test f g) s (cond b (f s) (g s))
      go s true e = left s e (f s) (xf.reads s)
      go s false e = right s e (g s) (xg.reads s)

      whole : (a : A) (p r : List ℕ) → Either F G a p → S (first r) → either test f g (p ++ r) ≡ taken a r
      whole a p r (inl t) e = ap (λ b. cond b (f (p ++ r)) (g (p ++ r))) (yes-test a p r t e) ∙ xf.complete a p r t e
      whole a p r (inr t) e = ap (λ b. cond b (f (p ++ r)) (g (p ++ r))) (no_test a p r t e) ∙ xg.complete a p r t e

-- texts that show their own end
abbrev pub anywhere : Option ℕ → Type 0
anywhere o = Unit {0}

abbrev pub at_end : Option ℕ → Type 0
at_end o = o ≡ None

-- what begins with a byte, by its first
pub from_some : (P : List ℕ → Type 0) (b : ℕ) → ((s : List ℕ) → P (b ∷ s)) → (t : List ℕ) → first t ≡ Some b → P t
from_some P b h [] e = absurd (let z : ◌≡◌ {A = ℕ} 0 1 = cc in omega arith)
from_some P b h (c ∷ t) e = let i : c ≡ b = cc in subst (λ x. P (x ∷ t)) (sym i) (h t)

pub from_none : (P : List ℕ → Type 0) → P [] → (t : List ℕ) → first t ≡ None → P t
from_none P h [] e = h
from_none P h (c ∷ t) e = absurd (let z : ◌≡◌ {A = ℕ} 0 1 = cc in omega arith)

-- the same format in other words
pub exact_same : {A : Type 0} {F : Format A} {G : Format A} {S : Option ℕ → Type 0} {f : Reader A} →
    ((a : A) (p : List ℕ) → F a p → G a p) → ((a : A) (p : List ℕ) → G a p → F a p) → Reads F S f → Reads G S f
exact_same {A = A} {F = F} {G = G} {S = S} {f = f} to from x = record { reads = λ s. go s (f s) (x.reads s); complete = λ a p r t e. x.complete a p r (from a p t) e }
  where
    go : (s : List ℕ) (y : Reading A) → Outcome F S f s y → Outcome G S f s y
    go s (taken a r) t = record { front = t.front; parts = t.parts; text = to a t.front t.text; stops = t.stops }
    go s (refused rule r) o = record { front = o.front; parts = o.parts; rest = o.rest; value = o.value; text = to o.value (o.front ++ o.rest) o.text; again = o.again }

-- the same stops in other words
pub reads_until : {A : Type 0} {F : Format A} {S T : Option ℕ → Type 0} {f : Reader A} →
    ((o : Option ℕ) → S o → T o) → ((o : Option ℕ) → T o → S o) → Reads F S f → Reads F T f
reads_until {A = A} {F = F} {S = S} {T = T} {f = f} to from x = record { reads = λ s. go s (f s) (x.reads s); complete = λ a p r t e. x.complete a p r t (from (first r) e) }
  where
    go : (s : List ℕ) (y : Reading A) → Outcome F S f s y → Outcome F T f s y
    go s (taken a r) t = record { front = t.front; parts = t.parts; text = t.text; stops = to (first r) t.stops }
    go s (refused rule r) o = o

-- one byte
pub one_reads : (rule : Rule) (test : ℕ → Bool) (c : ℕ) → test c ≡ true → Reads (One test) anywhere (one rule test)
one_reads rule test c yes-test = record { reads = takes; complete = λ b p r t e. ap (λ z. one rule test (z ++ r)) t.0 ∙ ap (λ z. one_on z rule b r) t.1 }
  where
    decide : (b : ℕ) (s : List ℕ) (x : Bool) → test b ≡ x → Outcome (One test) anywhere (one rule test) (b ∷ s) (one_on x rule b s)
    decide b s true e = record { front = b ∷ []; parts = refl; text = (refl, e); stops = tt }
    decide b s false e = record {
      front = [];
      parts = refl;
      rest = c ∷ [];
      value = c;
      text = (refl, yes-test);
      again = from_some (λ t. one rule test t ≡ refused rule t) b (λ t. ap (λ z. one_on z rule b t) e);
    }

    takes : (s : List ℕ) → Outcome (One test) anywhere (one rule test) s (one rule test s)
    takes [] = record { front = []; parts = refl; rest = c ∷ []; value = c; text = (refl, yes-test); again = from_none (λ t. one rule test t ≡ refused rule t) refl }
    takes (b ∷ s) = decide b s (test b) refl

-- fixed bytes
pub word_reads : {A : Type 0} (rule : Rule) (w : List ℕ) (a : A) → Reads (Word w a) anywhere (word rule w a)
word_reads {A = A} rule w a = record { reads = takes w; complete = λ b p r t e. ap (λ z. word rule w a (z ++ r)) t.1 ∙ (whole w r ∙ ap (λ z. taken z r) (sym t.0)) }
  where
    whole : (w r : List ℕ) → word rule w a (w ++ r) ≡ taken a r
    whole [] r = refl
    whole (b ∷ w) r = ap (λ z. word_on z rule b (w ++ r) (word rule w a (w ++ r))) (eqb_same b) ∙ whole w r

    longer : (b c : ℕ) (w s : List ℕ) → b ≡ c → eqb b c ≡ true → (x : Reading A) → Outcome (Word w a) anywhere (word rule w a) s x → Outcome (Word (c ∷ w) a) anywhere (word rule (c ∷ w) a) (b ∷ s) x
    longer b c w s i e (taken v r) o = record { front = b ∷ o.front; parts = ap (λ z. b ∷ z) o.parts; text = (o.text.0, ap₂ (λ x z. x ∷ z) i o.text.1); stops = tt }
    longer b c w s i e (refused k r) o = record {
      front = b ∷ o.front;
      parts = ap (λ z. b ∷ z) o.parts;
      rest = o.rest;
      value = o.value;
      text = (o.text.0, ap₂ (λ x z. x ∷ z) i o.text.1);
      again = λ t h. ap (λ z. word_on z rule b (o.front ++ t) (word rule w a (o.front ++ t))) e ∙ o.again t h;
    }

    decide : (b c : ℕ) (w s : List ℕ) (x : Bool) → eqb b c ≡ x → Outcome (Word w a) anywhere (word rule w a) s (word rule w a s) → Outcome (Word (c ∷ w) a) anywhere (word rule (c ∷ w) a) (b ∷ s) (word_on x rule b s (word rule w a s))
    decide b c w s true e o = longer b c w s (eqb_eq b c e) e (word rule w a s) o
    decide b c w s false e o = record {
      front = [];
      parts = refl;
      rest = c ∷ w;
      value = a;
      text = (refl, refl);
      again = from_some (λ t. word rule (c ∷ w) a t ≡ refused rule t) b (λ t. ap (λ z. word_on z rule b t (word rule w a t)) e);
    }

    takes : (w s : List ℕ) → Outcome (Word w a) anywhere (word rule w a) s (word rule w a s)
    takes [] s = record { front = []; parts = refl; text = (refl, refl); stops = tt }
    takes (c ∷ w) [] = record { front = []; parts = refl; rest = c ∷ w; value = a; text = (refl, refl); again = from_none (λ t. word rule (c ∷ w) a t ≡ refused rule t) refl }
    takes (c ∷ w) (b ∷ s) = decide b c w s (eqb b c) refl (takes w s)

-- the text's end
pub finish_reads : {A : Type 0} (rule : Rule) (a : A) → Reads (Word [] a) at_end (finish rule a)
finish_reads {A = A} rule a = record { reads = takes; complete = λ b p r t e. ap (λ z. finish rule a (z ++ r)) t.1 ∙ (from_none (λ z. finish rule a z ≡ taken a z) refl r e ∙ ap (λ z. taken z r) (sym t.0)) }
  where
    takes : (s : List ℕ) → Outcome (Word [] a) at_end (finish rule a) s (finish rule a s)
    takes [] = record { front = []; parts = refl; text = (refl, refl); stops = refl }
    takes (b ∷ s) = record { front = []; parts = refl; rest = []; value = a; text = (refl, refl); again = from_some (λ t. finish rule a t ≡ refused rule t) b (λ t. refl) }

-- texts again and again, then a closing one
module _ {A : Type 0} (test : Option ℕ → Bool) (F : Format A) (G : Format (List A)) (S : Option ℕ → Type 0) (f : Reader A) (g : Reader (List A))
    (xf : Reads F anywhere f) (xg : Reads G S g)
    (begins : (a : A) (p r : List ℕ) → F a p → test (first (p ++ r)) ≡ true)
    (closes : (vs : List A) (p r : List ℕ) → G vs p → S (first r) → test (first (p ++ r)) ≡ false)
    (gives_none : (vs : List A) (p : List ℕ) → G vs p → vs ≡ [])
    (ends : test None ≡ false) where
  -- a text is not empty, since its first byte passes the test
  takes_some : (a : A) (p : List ℕ) → F a p → 0 < length p
  takes_some a [] t = absurd (true≢false (sym (begins a [] [] t) ∙ ends))
  takes_some a (b ∷ p) t = omega arith

  -- at most n of them
  Upto : ℕ → Format (List A)
  Upto zero = G
  Upto (suc n) = Either (After F (λ a. Given (λ more. a ∷ more) (Upto n))) G

  upto_reads : (n : ℕ) → Reads (Upto n) S (turns test f g n)
  unfolding Upto
  upto_reads zero = xg
  upto_reads (suc n) = either_reads test _ _ S _ _
      (after_reads F (λ a. Given (λ more. a ∷ more) (Upto n)) anywhere S f _ xf (λ a p t. give_reads (λ more. a ∷ more) (Upto n) S _ (upto_reads n)) (λ a b p r t e. tt))
      xg (λ vs p r t e. ap (λ z. test (first z)) (ap (λ z. z ++ r) t.parts ∙ append_assoc t.front t.back r) ∙ begins t.value t.front (t.back ++ r) t.begins) closes

  abbrev pub short : List ℕ → Reading A → Type 0
  short s (taken a r) = length r < length s
  short s (refused rule r) = Unit {0}

  pub shorter : (s : List ℕ) (x : Reading A) → Outcome F anywhere f s x → short s x
  shorter s (taken a r) o = let long = ap length o.parts ∙ length-append o.front r in omega (arith, long, takes_some a o.front o.text)
  shorter s (refused rule r) o = tt

  turns_same : (n m : ℕ) (s : List ℕ) → length s ≤ n → length s ≤ m → turns test f g n s ≡ turns test f g m s
  turns_same zero zero s p q = refl
  turns_same zero (suc m) [] p q = sym (ap (λ b. cond b (after f (λ a. give (λ more. a ∷ more) (turns test f g m)) []) (g [])) ends)
  turns_same zero (suc m) (b ∷ s) p q = absurd (omega arith)
  turns_same (suc n) zero [] p q = ap (λ b. cond b (after f (λ a. give (λ more. a ∷ more) (turns test f g n)) []) (g [])) ends
  turns_same (suc n) zero (b ∷ s) p q = absurd (omega arith)
  turns_same (suc n) (suc m) s p q = ap (λ x. cond (test (first s)) x (g s)) (step (λ r. turns_same n m r) (f s) (shorter s (f s) (xf.reads s)))
    where
      step : ((r : List ℕ) → length r ≤ n → length r ≤ m → turns test f g n r ≡ turns test f g m r) → (x : Reading A) → short s x →
          bind x (λ a. give (λ more. a ∷ more) (turns test f g n)) ≡ bind x (λ a. give (λ more. a ∷ more) (turns test f g m))
      step ih (taken a r) h = ap (λ x. bind x (λ vs q. taken (a ∷ vs) q)) (ih r (omega (arith, h)) (omega (arith, h)))
      step ih (refused rule r) h = refl

  -- one text more, if the next byte says so
  pub many_on : (s : List ℕ) → test (first s) ≡ true → many test f g s ≡ bind (f s) (λ a q. bind (many test f g q) (λ more r. taken (a ∷ more) r))
  many_on [] h = absurd (true≢false (sym h ∙ ends))
  many_on (b ∷ s) h = ap (λ x. cond x (after f (λ a. give (λ more. a ∷ more) (turns test f g (length s))) (b ∷ s)) (g (b ∷ s))) h ∙ step (f (b ∷ s)) (shorter (b ∷ s) (f (b ∷ s)) (xf.reads (b ∷ s)))
    where
      step : (x : Reading A) → short (b ∷ s) x → bind x (λ a. give (λ more. a ∷ more) (turns test f g (length s))) ≡ bind x (λ a q. bind (many test f g q) (λ more r. taken (a ∷ more) r))
      step (taken a r) k = ap (λ x. bind x (λ more q. taken (a ∷ more) q)) (turns_same (length s) (length r) r (omega (arith, k)) (omega arith))
      step (refused rule r) k = refl

  -- the closing text, if it does not
  pub many_off : (s : List ℕ) → test (first s) ≡ false → many test f g s ≡ g s
  many_off [] h = refl
  many_off (b ∷ s) h = ap (λ x. cond x (after f (λ a. give (λ more. a ∷ more) (turns test f g (length s))) (b ∷ s)) (g (b ∷ s))) h

  closed : (vs : List A) (p : List ℕ) → G vs p → Many F G vs p
  closed [] p t = t
  closed (a ∷ vs) p t = let e = gives_none (a ∷ vs) p t in absurd (cons≢nil e)

  upto_many : (n : ℕ) (vs : List A) (p : List ℕ) → Upto n vs p → Many F G vs p
  unfolding Upto
  upto_many zero vs p t = closed vs p t
  upto_many (suc n) vs p (inr t) = closed vs p t
  upto_many (suc n) vs p (inl t) = subst (λ z. Many F G z p) (sym t.ends.is) (t.front, t.back, t.parts, t.begins, upto_many n t.ends.value t.back t.ends.text)

  many_upto : (vs : List A) (p : List ℕ) (n : ℕ) → Many F G vs p → length p ≤ n → Upto n vs p
  unfolding Upto
  many_upto [] p zero t h = t
  many_upto [] p (suc n) t h = inr t
  many_upto (a ∷ vs) p zero t h = let long = ap length t.2 ∙ length-append t.0 t.1 in absurd (omega (arith, long, takes_some a t.0 t.3))
  many_upto (a ∷ vs) p (suc n) t h = inl (record {
    value = a;
    front = t.0;
    back = t.1;
    parts = t.2;
    begins = t.3;
    ends = record { value = vs; is = refl; text = many_upto vs t.1 n t.4 (let long = ap length t.2 ∙ length-append t.0 t.1 in omega (arith, long, takes_some a t.0 t.3)) };
  })

  pub many_reads : Reads (Many F G) S (many test f g)
  many_reads = record { reads = λ s. go s (many test f g s) refl ((upto_reads (length s)).reads s); complete = whole }
    where
      far : (s : List ℕ) (rule : Rule) (r : List ℕ) → many test f g s ≡ refused rule r → (o : Refused (Upto (length s)) (turns test f g (length s)) s rule r) →
          (u : List ℕ) → first u ≡ first r → (n : ℕ) → length s ≤ n → length (o.front ++ u) ≤ n → many test f g (o.front ++ u) ≡ refused rule u
      far s rule r e o u h n p q =
          let x : Refused (Upto n) (turns test f g n) s rule r = subst (Outcome (Upto n) S (turns test f g n) s) (turns_same n (length s) s p (omega arith) ∙ e) ((upto_reads n).reads s) in
          turns_same (length (o.front ++ u)) n (o.front ++ u) (omega arith) q
          ∙ subst (λ z. turns test f g n (z ++ u) ≡ refused rule u) (append_cancel_right x.front o.front r (sym x.parts ∙ o.parts)) (x.again u h)

      go : (s : List ℕ) (x : Reading (List A)) → many test f g s ≡ x → Outcome (Upto (length s)) S (turns test f g (length s)) s x → Outcome (Many F G) S (many test f g) s x
      go s (taken vs r) e t = record { front = t.front; parts = t.parts; text = upto_many (length s) vs t.front t.text; stops = t.stops }
      go s (refused rule r) e o = record {
        front = o.front;
        parts = o.parts;
        rest = o.rest;
        value = o.value;
        text = upto_many (length s) o.value (o.front ++ o.rest) o.text;
        again = λ u h. far s rule r e o u h (length (o.front ++ u) + length s) (omega arith) (omega arith);
      }

      whole : (vs : List A) (p r : List ℕ) → Many F G vs p → S (first r) → many test f g (p ++ r) ≡ taken vs r
      whole vs p r t h = (upto_reads (length (p ++ r))).complete vs p r (many_upto vs p (length (p ++ r)) t (let long = length-append p r in omega (arith, long))) h

-- what a test says of the first byte of every text
abbrev pub Leads : {A : Type 0} → Format A → (Option ℕ → Bool) → Bool → Type 0
Leads {A = A} F test x = (a : A) (p r : List ℕ) → F a p → test (first (p ++ r)) ≡ x

pub word_leads : {A : Type 0} (b : ℕ) (w : List ℕ) (a : A) (test : Option ℕ → Bool) (x : Bool) → test (Some b) ≡ x → Leads (Word (b ∷ w) a) test x
word_leads b w a test x h c p r t = ap (λ z. test (first (z ++ r))) t.1 ∙ h

pub one_leads : (good : ℕ → Bool) (test : Option ℕ → Bool) (x : Bool) → ((b : ℕ) → good b ≡ true → test (Some b) ≡ x) → Leads (One good) test x
one_leads good test x h b p r t = ap (λ z. test (first (z ++ r))) t.0 ∙ h b t.1

pub after_leads : {A B : Type 0} {F : Format A} {G : A → Format B} (test : Option ℕ → Bool) (x : Bool) → Leads F test x → Leads (After F G) test x
after_leads test x h b p r t = ap (λ z. test (first z)) (ap (λ z. z ++ r) t.parts ∙ append_assoc t.front t.back r) ∙ h t.value t.front (t.back ++ r) t.begins

pub give_leads : {A B : Type 0} {h : A → B} {F : Format A} (test : Option ℕ → Bool) (x : Bool) → Leads F test x → Leads (Given h F) test x
give_leads test x k b p r t = k t.value p r t.text

pub either_leads : {A : Type 0} {F G : Format A} (test : Option ℕ → Bool) (x : Bool) → Leads F test x → Leads G test x → Leads (Either F G) test x
either_leads test x h k a p r (inl t) = h a p r t
either_leads test x h k a p r (inr t) = k a p r t

-- Lines of entries: each entry's reader leaves off before any byte that is no digit, and a comma or `)` stands behind it.
module _ {X A : Type 0} (rule : Rule) (F : X → Format A) (S : X → Option ℕ → Type 0) (f : X → Reader A)
    (entry : (x : X) → Reads (F x) (S x) (f x))
    (leaves : (x : X) (o : Option ℕ) → next_digit o ≡ false → S x o) where
  pub entries_lead : (xs : List X) → Leads (Entries F comma xs) next_digit false
  entries_lead [] = word_leads 41 (codes "\n") [] next_digit false refl
  entries_lead (x ∷ xs) = after_leads next_digit false (word_leads 44 [] tt next_digit false refl)

  pub entries_reads : (before : List ℕ) (xs : List X) → Reads (Entries F before xs) anywhere (entries rule f before xs)
  entries_reads before [] = word_reads rule closing []
  entries_reads before (x ∷ xs) =
      after_reads _ _ anywhere anywhere _ _ (word_reads rule before tt) (λ a p t.
      after_reads _ _ (S x) anywhere _ _ (entry x) (λ v p t. give_reads (λ more. v ∷ more) _ anywhere _ (entries_reads comma xs))
      (λ v vs p r t e. leaves x (first (p ++ r)) (give_leads next_digit false (entries_lead xs) vs p r t))) (λ a b p r t e. tt)

  pub line_reads : (xs : List X) → Reads (Line F xs) anywhere (line rule f xs)
  line_reads xs = after_reads _ _ anywhere anywhere _ _ (word_reads rule opening tt) (λ a p t. entries_reads [] xs) (λ a b p r t e. tt)
