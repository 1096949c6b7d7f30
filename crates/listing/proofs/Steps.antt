-- The readers of the code, step by step: a string byte by byte, a word byte by byte.
use Rattle.std.proofs.Common.{◌≡◌, ℕ, zero, suc, ◌+◌, ◌-◌, ◌<◌, Bool, true, false, cond, eqb, List, [], ◌∷◌, length, get_or, take, drop, codes, sym, refl, ap, add-one, ◌∙◌, arith}
use Rattle.std.proofs.lemmas.List.{drop-drop, drop_more, take_rest}
use Rattle.fault.specs.declared.rules.Rule.{Rule}
use Rattle.fault.specs.Limits.{string_bytes}
use Rattle.fault.specs.declared.rules.Rule.TheVariants.{WrongCell}
use Rattle.texts.specs.Readers.{Reading, Reading.taken, Reading.refused, first, bind, word, word_on}
use Rattle.texts.specs.Language.{quote}
use Rattle.texts.proofs.Turns.{word_as}
use Rattle.words.specs.Letters.{plain, run}
use Rattle.texts.specs.Reading.{next, read_quoted, read_boolean}

-- what stands in a string: the plain bytes, as far as a string goes; then the quote has to come
abbrev pub quoted_by : ℕ → List ℕ → Reading (List ℕ)
quoted_by k s = bind (word WrongCell quote (tt {0}) (drop k s)) (λ (_ : Unit {0}) r. taken (take k s) r)

quoted_more : (k b : ℕ) (s : List ℕ) → bind (quoted_by k s) (λ bs r. taken (b ∷ bs) r) ≡ quoted_by (k + 1) (b ∷ s)
quoted_more k b s = go (word WrongCell quote (tt {0}) (drop k s)) ∙ ap (λ n. quoted_by n (b ∷ s)) (sym (add-one k))
  where
    go : (y : Reading (Unit {0})) → bind (bind y (λ (_ : Unit {0}) r. taken (take k s) r)) (λ bs r. taken (b ∷ bs) r) ≡ bind y (λ (_ : Unit {0}) r. taken (b ∷ take k s) r)
    go (taken u r) = refl
    go (refused other r) = refl

pub quoted_run : (n : ℕ) (s : List ℕ) → read_quoted n s ≡ quoted_by (run plain (take n s)) s
unfolding read_quoted
quoted_run zero s = word_as WrongCell quote [] s
quoted_run (suc n) [] = refl
quoted_run (suc n) (b ∷ s) = go (quoted_run n s) (plain b) refl (eqb b 34) refl
  where
    go : read_quoted n s ≡ quoted_by (run plain (take n s)) s → (x : Bool) → plain b ≡ x → (y : Bool) → eqb b 34 ≡ y → read_quoted (suc n) (b ∷ s) ≡ quoted_by (run plain (take (suc n) (b ∷ s))) (b ∷ s)
    go i true h true e = absurd (grind (arith, h, e))
    go i true h false e =
        let longer : run plain (take (suc n) (b ∷ s)) ≡ run plain (take n s) + 1 = rw (h, run) refl in
        let read : read_quoted (suc n) (b ∷ s) ≡ bind (read_quoted n s) (λ bs r. taken (b ∷ bs) r) = rw (h, e) refl in
        read ∙ (ap (λ z. bind z (λ bs r. taken (b ∷ bs) r)) i ∙ (quoted_more (run plain (take n s)) b s ∙ ap (λ k. quoted_by k (b ∷ s)) (sym longer)))
    go i false h true e =
        let none : run plain (take (suc n) (b ∷ s)) ≡ 0 = rw (h, run) refl in
        let closed : quoted_by 0 (b ∷ s) ≡ taken [] s = rw e refl in
        let read : read_quoted (suc n) (b ∷ s) ≡ taken [] s = rw (h, e) refl in
        read ∙ (sym closed ∙ ap (λ k. quoted_by k (b ∷ s)) (sym none))
    go i false h false e =
        let none : run plain (take (suc n) (b ∷ s)) ≡ 0 = rw (h, run) refl in
        let barred : quoted_by 0 (b ∷ s) ≡ refused WrongCell (b ∷ s) = rw e refl in
        let read : read_quoted (suc n) (b ∷ s) ≡ refused WrongCell (b ∷ s) = rw (h, e) refl in
        read ∙ (sym barred ∙ ap (λ k. quoted_by k (b ∷ s)) (sym none))

-- from where the reader stands behind them
module _ (t : List ℕ) (at k : ℕ) (is : k ≡ run plain (take string_bytes (take (length t - at) (drop at t)))) where
  quoted_here : bind (word WrongCell quote (tt {0}) (drop (at + k) t)) (λ (_ : Unit {0}) r. taken (take k (drop at t)) r) ≡ read_quoted string_bytes (drop at t)
  quoted_here = ap (λ z. bind (word WrongCell quote (tt {0}) z) (λ (_ : Unit {0}) r. taken (take k (drop at t)) r)) (sym (drop-drop k at t))
      ∙ (ap (λ n. quoted_by n (drop at t)) (is ∙ ap (λ z. run plain (take string_bytes z)) (take_rest t at)) ∙ sym (quoted_run string_bytes (drop at t)))

  pub quoted_right : (u : List ℕ) (r : List ℕ) → u ≡ t → taken tt r ≡ word WrongCell quote (tt {0}) (drop (at + k) t) → taken (take k (drop at u)) r ≡ read_quoted string_bytes (drop at t)
  quoted_right u r same e = ap (λ z. taken (take k (drop at z)) r) same ∙ (ap (λ z. bind z (λ (_ : Unit {0}) r. taken (take k (drop at t)) r)) e ∙ quoted_here)

  pub quoted_wrong : (rule : Rule) (r : List ℕ) → refused rule r ≡ word WrongCell quote (tt {0}) (drop (at + k) t) → refused rule r ≡ read_quoted string_bytes (drop at t)
  quoted_wrong rule r e = ap (λ z. bind z (λ (_ : Unit {0}) r. taken (take k (drop at t)) r)) e ∙ quoted_here

-- A word, byte by byte: what is left of it, read from here, gives the whole answer x.
module _ (rule : Rule) (w : List ℕ) (i : ℕ) (s : List ℕ) (x : Reading (Unit {0})) (here : i < length w) (whole : word rule (drop i w) (tt {0}) s ≡ x) where
  abbrev onward : ℕ → Reading (Unit {0}) → Reading (Unit {0})
  onward j y = bind y (λ _ q. word rule (drop j w) (tt {0}) q)

  word_turn : (c : ℕ) (ws t : List ℕ) → word rule (c ∷ ws) (tt {0}) t ≡ bind (word rule (c ∷ []) (tt {0}) t) (λ (_ : Unit {0}) q. word rule ws (tt {0}) q)
  word_turn c ws [] = refl
  word_turn c ws (b ∷ t) = go (eqb b c)
    where
      go : (y : Bool) → word_on y rule b t (word rule ws (tt {0}) t) ≡ bind (word_on y rule b t (taken (tt {0}) t)) (λ (_ : Unit {0}) q. word rule ws (tt {0}) q)
      go true = refl
      go false = refl

  pub word_on_lem : (r : List ℕ) → taken (tt {0}) r ≡ word rule (get_or w i 0 ∷ []) (tt {0}) s → word rule (drop (i + 1) w) (tt {0}) r ≡ x
  word_on_lem r e = ap (onward (i + 1)) e ∙ (sym (word_turn (get_or w i 0) (drop (i + 1) w) s) ∙ (ap (λ z. word rule z (tt {0}) s) (sym (drop_more w i 0 here)) ∙ whole))

  pub word_off : (other : Rule) (r : List ℕ) → refused other r ≡ word rule (get_or w i 0 ∷ []) (tt {0}) s → refused other r ≡ x
  word_off other r e = ap (onward (i + 1)) e ∙ (sym (word_turn (get_or w i 0) (drop (i + 1) w) s) ∙ (ap (λ z. word rule z (tt {0}) s) (sym (drop_more w i 0 here)) ∙ whole))

-- the two ways of a boolean
pub boolean_by : (s : List ℕ) (x : Bool) → next 116 (first s) ≡ x → (y : Reading (Unit {0})) → y ≡ word WrongCell (cond x (codes "true") (codes "false")) tt s →
    bind y (λ (_ : Unit {0}) r. taken x r) ≡ read_boolean s
boolean_by s true h y e = ap (λ z. bind z (λ (_ : Unit {0}) r. taken true r)) e ∙ (sym (word_as WrongCell (codes "true") true s) ∙ sym (ap (λ z. cond z (word WrongCell (codes "true") true s) (word WrongCell (codes "false") false s)) h))
boolean_by s false h y e = ap (λ z. bind z (λ (_ : Unit {0}) r. taken false r)) e ∙ (sym (word_as WrongCell (codes "false") false s) ∙ sym (ap (λ z. cond z (word WrongCell (codes "true") true s) (word WrongCell (codes "false") false s)) h))
