-- An exact reader that stops at the text's end alone keeps the promise.
use Rattle.std.proofs.Common.{◌≡◌, ℕ, List, [], ◌∷◌, ◌++◌, sym, refl, ap, ◌∙◌, subst, ap₂, append_assoc, append-nil}
use mathlib.Core.List.{head-eq_of_cons-eq, tail-eq_of_cons-eq}
use Rattle.fault.specs.declared.rules.Rule.{Rule}
use Rattle.texts.specs.Formats.{Format}
use Rattle.texts.specs.Readers.{Reading, Reading.taken, Reading.refused, Reader}
use Rattle.texts.specs.Promise.{Begins, Ends, Placed, Exact}
use Rattle.texts.proofs.Exactness.{Reads, Took, Refused, Outcome, at_end, from_none}

-- of two beginnings of one text one goes on as the other
data Meet (p q r t : List ℕ) : Type 0 where
  longer : (d : List ℕ) → q ≡ p ++ d → r ≡ d ++ t → Meet p q r t
  shorter : (d : List ℕ) → p ≡ q ++ d → t ≡ d ++ r → Meet p q r t

meet : (p q r t : List ℕ) → p ++ r ≡ q ++ t → Meet p q r t
meet [] q r t e = longer q refl e
meet (b ∷ p) [] r t e = shorter (b ∷ p) refl (sym e)
meet (b ∷ p) (c ∷ q) r t e = go (meet p q r t (tail-eq_of_cons-eq e))
  where
    go : Meet p q r t → Meet (b ∷ p) (c ∷ q) r t
    go (longer d h k) = longer d (ap₂ (λ x z. x ∷ z) (sym (head-eq_of_cons-eq e)) h) k
    go (shorter d h k) = shorter d (ap₂ (λ x z. x ∷ z) (head-eq_of_cons-eq e) h) k

-- two places of one text: neither lies before the other
module _ {A : Type 0} (F : Format A) where
  begins_less : (p q : List ℕ) → Begins F (p ++ q) → Begins F p
  begins_less p q b = (q ++ b.0, b.1, subst (F b.1) (append_assoc p q b.0) b.2)

  not_before : (p q d r t : List ℕ) → q ≡ p ++ d → r ≡ d ++ t → Begins F q → Ends F p r → r ≡ t
  not_before p q [] r t h k b e = k
  not_before p q (c ∷ d) r t h k b e =
      absurd (subst (Ends F p) k e (begins_less (p ++ (c ∷ [])) d (subst (Begins F) (h ∙ sym (append_assoc p (c ∷ []) d)) b)))

  one_place : (p q r t : List ℕ) → p ++ r ≡ q ++ t → Begins F p → Ends F p r → Begins F q → Ends F q t → r ≡ t
  one_place p q r t e bp ep bq eq = go (meet p q r t e)
    where
      go : Meet p q r t → r ≡ t
      go (longer d h k) = not_before p q d r t h k bq ep
      go (shorter d h k) = sym (not_before q p d t r h k bp eq)

  not_right : (a : A) (s p r : List ℕ) → s ≡ p ++ r → F a s → Ends F p r → ⊥
  not_right a s p [] e t n = n a (subst (F a) (e ∙ append-nil p) t)
  not_right a s p (b ∷ r) e t n = n (r, a, subst (F a) (e ∙ sym (append_assoc p (b ∷ []) r)) t)

abbrev told : {A : Type 0} → Reading A → Type 0
told (taken a r) = Unit {0}
told (refused rule r) = ⊥

pub taken_not_refused : {A : Type 0} (x : Reading A) (a : A) (rule : Rule) (r t : List ℕ) → x ≡ taken a r → x ≡ refused rule t → ⊥
taken_not_refused x a rule r t h k = subst told (sym h ∙ k) tt

module _ {A : Type 0} (F : Format A) (f : Reader A) (x : Reads F at_end f) where
  took : (s : List ℕ) (a : A) (r : List ℕ) → f s ≡ taken a r → Took F at_end s a r
  took s a r e = subst (Outcome F at_end f s) e (x.reads s)

  refusal : (s : List ℕ) (rule : Rule) (r : List ℕ) → f s ≡ refused rule r → Refused F f s rule r
  refusal s rule r e = subst (Outcome F at_end f s) e (x.reads s)

  right : (s : List ℕ) (a : A) → F a s → f s ≡ taken a []
  right s a t = subst (λ z. f z ≡ taken a []) (append-nil s) (x.complete a s [] t refl)

  ends : (s : List ℕ) (rule : Rule) (r : List ℕ) (o : Refused F f s rule r) → Ends F o.front r
  ends s rule [] o = λ a t. taken_not_refused (f (o.front ++ [])) a rule [] [] (x.complete a o.front [] t refl) (o.again [] refl)
  ends s rule (b ∷ r) o = λ y.
      taken_not_refused (f (o.front ++ (b ∷ y.0))) y.1 rule [] (b ∷ y.0)
      (right (o.front ++ (b ∷ y.0)) y.1 (subst (F y.1) (append_assoc o.front (b ∷ []) y.0) y.2))
      (o.again (b ∷ y.0) refl)

  placed : (s : List ℕ) (rule : Rule) (r : List ℕ) → f s ≡ refused rule r → Placed F s r
  placed s rule r e = let o = refusal s rule r e in (o.front, o.parts, (o.rest, o.value, o.text), ends s rule r o)

  whole : (s : List ℕ) (a : A) (r : List ℕ) → f s ≡ taken a r → r ≡ []
  whole s a r e = from_none (λ z. z ≡ []) refl r (took s a r e).stops

  accepted : (s : List ℕ) (a : A) → f s ≡ taken a [] → F a s
  accepted s a e = let t = took s a [] e in subst (F a) (sym (t.parts ∙ append-nil t.front)) t.text

  found : (s r : List ℕ) → Placed F s r → (rule : Rule) × (f s ≡ refused rule r)
  found s r q = go (f s) refl
    where
      go : (y : Reading A) → f s ≡ y → (rule : Rule) × (f s ≡ refused rule r)
      go (taken a t) e = absurd (not_right F a s q.0 r q.1 (accepted s a (e ∙ ap (taken a) (whole s a t e))) q.3)
      go (refused rule t) e = let o = placed s rule t e in
          (rule, e ∙ ap (refused rule) (one_place F o.0 q.0 t r (sym o.1 ∙ q.1) o.2 o.3 q.2 q.3))

  pub exact : Exact F f
  exact = record { accepts = λ s a. (accepted s a, right s a); whole = whole; refuses = λ s r. (λ e. placed s e.0 r e.1, found s r) }
