-- The place of a fault is the only one: the description in the grammar's words is exact.
-- what is read where fewer tokens may open a depth is read where more may
use mathlib.Core.Path.{◌≡◌, refl, sym, subst, ◌∙◌}
use mathlib.Core.Logic.{◌⊎◌, inl, inr}
use native.Mathlib.Omega.{arith}
use lib.ListN.{length-append}
use Prim.Native.Nat.{ℕ, ◌≤◌}
use mathlib.Core.List.{List, [], ◌∷◌, ◌++◌, append_assoc, append-nil}
use mathlib.Core.Bool.{true}
use lib.ListN.{length}
use Rattle.words.specs.Tokens.{Token}
use Rattle.grammar.specs.Parts.{Part}
use Rattle.grammar.proofs.Table.{TableSymbol, Reads, TableSymbol.prog, Reads.eats, Reads.atoms, Reads.first, Reads.done, Reads.next, Reads.joins}
use Rattle.grammar.proofs.Table.{Reads.brackets, Reads.no_arg, Reads.arg_ids, Reads.arg_expr, Reads.arg_upd, Reads.arg_ext, Reads.leafs, Reads.unaries}
use Rattle.grammar.proofs.Table.{Reads.parens, Reads.braces, Reads.inst_tuples, Reads.inst_types, Reads.tuples, Reads.attrs, Reads.assigns, Reads.defines}
use Rattle.grammar.proofs.Table.{Reads.tables, Reads.read1, Reads.read2, Reads.write1, Reads.write2, Reads.whilst, Reads.conds, Reads.ends, Reads.other}
use Rattle.grammar.proofs.Table.{Reads.whole}
use Rattle.grammar.specs.Grammar.{Leave}
use Rattle.grammar.specs.Readers.{wholly, Outcome, Outcome.found, Outcome.refused_at, program_at, Cause, Cause.cannot_follow}
use Rattle.grammar.proofs.TablePromise.{Program, Begins, Within, check, Fault, Placed, FaultsExact}
use Rattle.grammar.specs.Promise.{any_token, only_last, raise}
use Rattle.grammar.proofs.Place.{accepts_right, faults_right}

mono : (leave may' : Leave) → ((n : ℕ) (s : List Token) → leave n s ≡ true → may' n s ≡ true) → {S : TableSymbol} {n : ℕ} {s r : List Token} {t : Part} → Reads leave S n s r t → Reads may' S n s r t
mono leave may' i (eats a) = eats a
mono leave may' i (atoms a) = atoms a
mono leave may' i (first a b) = first (mono _ _ i a) (mono _ _ i b)
mono leave may' i done = done
mono leave may' i (next a b c) = next a (mono _ _ i b) (mono _ _ i c)
mono leave may' i (joins a b c d) = joins a (mono _ _ i b) (mono _ _ i c) (mono _ _ i d)
mono leave may' i (brackets a b c d) = brackets (mono _ _ i a) (i _ _ b) (mono _ _ i c) (mono _ _ i d)
mono leave may' i no_arg = no_arg
mono leave may' i (arg_ids a b c) = arg_ids (mono _ _ i a) (mono _ _ i b) (mono _ _ i c)
mono leave may' i (arg_expr a b c) = arg_expr (mono _ _ i a) (mono _ _ i b) (mono _ _ i c)
mono leave may' i (arg_upd a b c d e) = arg_upd (mono _ _ i a) (mono _ _ i b) (mono _ _ i c) (mono _ _ i d) (mono _ _ i e)
mono leave may' i (arg_ext a b c d e f) = arg_ext (mono _ _ i a) (mono _ _ i b) (mono _ _ i c) (mono _ _ i d) (mono _ _ i e) (mono _ _ i f)
mono leave may' i (leafs a) = leafs a
mono leave may' i (unaries a b c d) = unaries a (i _ _ b) (mono _ _ i c) (mono _ _ i d)
mono leave may' i (parens a b c d) = parens a (i _ _ b) (mono _ _ i c) (mono _ _ i d)
mono leave may' i (braces a b c) = braces a (mono _ _ i b) (mono _ _ i c)
mono leave may' i (inst_tuples a) = inst_tuples (mono _ _ i a)
mono leave may' i (inst_types a) = inst_types (mono _ _ i a)
mono leave may' i (tuples a b c) = tuples (mono _ _ i a) (mono _ _ i b) (mono _ _ i c)
mono leave may' i (attrs a b) = attrs (mono _ _ i a) (mono _ _ i b)
mono leave may' i (assigns a b c) = assigns a (mono _ _ i b) (mono _ _ i c)
mono leave may' i (defines a b) = defines a (mono _ _ i b)
mono leave may' i (tables a b c d e) = tables a (mono _ _ i b) (mono _ _ i c) (mono _ _ i d) (mono _ _ i e)
mono leave may' i (read1 a b) = read1 a (mono _ _ i b)
mono leave may' i (read2 a b c) = read2 a (mono _ _ i b) (mono _ _ i c)
mono leave may' i (write1 a b) = write1 a (mono _ _ i b)
mono leave may' i (write2 a b c) = write2 a (mono _ _ i b) (mono _ _ i c)
mono leave may' i (whilst a b c d e f) = whilst a (mono _ _ i b) (mono _ _ i c) (i _ _ d) (mono _ _ i e) (mono _ _ i f)
mono leave may' i (conds a b c d e f) = conds a (mono _ _ i b) (mono _ _ i c) (i _ _ d) (mono _ _ i e) (mono _ _ i f)
mono leave may' i (ends a) = ends (mono _ _ i a)
mono leave may' i (other a b c) = other (mono _ _ i a) (mono _ _ i b) (mono _ _ i c)
mono leave may' i (whole a b c) = whole (mono _ _ i a) (mono _ _ i b) (mono _ _ i c)

longer : (e x y n : ℕ) (s : List Token) → x ≤ y → only_last e x n s ≡ true → only_last e y n s ≡ true
longer e x y n s h i = grind arith

within_prefix : (n : ℕ) (p q : List Token) → Within n (p ++ q) → Within n p
within_prefix n p q (e, w, t, a) =
    let b : Reads (only_last e (length w)) prog (raise e n) (p ++ (q ++ w)) [] t = rw append_assoc at a in
    let l = length-append q w in
    (e, q ++ w, t, mono _ _ (λ m s i. longer e (length w) (length (q ++ w)) m s (omega arith) i) b)

begins_prefix : (p q : List Token) → Begins (p ++ q) → Begins p
begins_prefix p q (n, w, t, a) = let b : Program n (p ++ (q ++ w)) t = rw append_assoc at a in (n, q ++ w, t, b)

within_begins : (n : ℕ) (p : List Token) → Within n p → Begins p
within_begins n p (e, w, t, a) = (raise e n, w, t, mono _ _ (λ m s i. refl) a)

program_within : (n : ℕ) (p : List Token) (t : Part) → Program n p t → Within n p
program_within n p t a = let b : Program n (p ++ []) t = rw append-nil a in (0, [], t, mono _ _ (λ m s i. free m s) b)
  where
    free : (m : ℕ) (s : List Token) → only_last 0 0 m s ≡ true
    free m s = grind arith

-- a fault's tokens go no further
no_more : (n : ℕ) (c : Cause) (p : List Token) (k : Token) (r : List Token) → Fault n c p (k ∷ r) → ¬ (Within n (p ++ (k ∷ [])))
no_more n c p k r (inl (i, h)) w = h (within_begins n _ w)
no_more n c p k r (inr (i, b, h)) w = h w

one_number : (n : ℕ) (c d : Cause) (p r : List Token) → Fault n c p r → Fault n d p r → c ≡ d
one_number n c d p [] (i, h) (j, g) = i ∙ sym j
one_number n c d p (k ∷ r) (inl (i, h)) (inl (j, g)) = i ∙ sym j
one_number n c d p (k ∷ r) (inr (i, a, h)) (inr (j, b, g)) = i ∙ sym j
one_number n c d p (k ∷ r) (inl (i, h)) (inr (j, b, g)) = absurd (h b)
one_number n c d p (k ∷ r) (inr (i, a, h)) (inl (j, g)) = absurd (g a)

-- two ways to cut one list
abbrev Cut : List Token → List Token → List Token → List Token → Type 0
Cut p r p' r' = ((q : List Token) × (p' ≡ p ++ q) × (r ≡ q ++ r')) ⊎ ((q : List Token) × (p ≡ p' ++ q) × (r' ≡ q ++ r))

cut : (p r p' r' : List Token) → p ++ r ≡ p' ++ r' → Cut p r p' r'
cut [] r p' r' e = inl (p', refl, e)
cut (k ∷ p) r [] r' e = inr (k ∷ p, refl, sym e)
cut (k ∷ p) r (j ∷ p') r' e = let i : k ≡ j = cc in let h : p ++ r ≡ p' ++ r' = cc in go i (cut p r p' r' h)
  where
    go : k ≡ j → Cut p r p' r' → Cut (k ∷ p) r (j ∷ p') r'
    go i (inl (q, a, b)) = inl (q, cc, b)
    go i (inr (q, a, b)) = inr (q, cc, b)

-- of two places the nearer is refuted by the farther
nearer : (n : ℕ) (c d : Cause) (p q r : List Token) → Fault n c p (q ++ r) → Within n (p ++ q) → Fault n d (p ++ q) r → (c ≡ d) × (q ≡ [])
nearer n c d p [] r f w g = (one_number n c d p r f (rw append-nil at g), refl)
nearer n c d p (k ∷ q) r f w g = absurd (no_more n c p k (q ++ r) f (within_prefix n (p ++ (k ∷ [])) q (rw append_assoc w)))

ok_end : (x : Outcome) (t : Part) (r : List Token) → wholly x ≡ found t r → r ≡ []
ok_end (found u []) t r e = cc
ok_end (found u (k ∷ q)) t r e = let z : refused_at cannot_follow (k ∷ q) ≡ found t r = e in cc
ok_end (refused_at d q) t r e = let z : refused_at d q ≡ found t r = e in cc

not_accepted : (n : ℕ) (s : List Token) (c : Cause) (r : List Token) (t : Part) → Placed n s c r → ¬ (Program n s t)
not_accepted n s c [] t (p, e, w, f) a = f.1 n t (subst (λ x. Program n x t) (e ∙ append-nil p) a)
not_accepted n s c (k ∷ r) t (p, e, w, f) a =
    no_more n c p k r f (within_prefix n (p ++ (k ∷ [])) r (subst (λ x. Within n x) (e ∙ sym (append_assoc p (k ∷ []) r)) (program_within n s t a)))

pub faults_exact : FaultsExact
faults_exact n s c r = (faults_right n s c r, λ h. go h (check n s) refl)
  where
    meet : (d : Cause) (q : List Token) → Placed n s c r → Placed n s d q → refused_at d q ≡ refused_at c r
    meet d q (p, e, w, f) (p', e', w', f') = on (cut p r p' q (sym e ∙ e'))
      where
        on : Cut p r p' q → refused_at d q ≡ refused_at c r
        on (inl (x, a, b)) =
            let z = nearer n c d p x q (rw b at f) (rw a at w') (rw a at f') in
            let y : r ≡ q = rw z.1 at b in let o = z.0 in cc
        on (inr (x, a, b)) =
            let z = nearer n d c p' x r (rw b at f') (rw a at w) (rw a at f) in
            let y : q ≡ r = rw z.1 at b in let o = z.0 in cc

    go : Placed n s c r → (x : Outcome) → check n s ≡ x → check n s ≡ refused_at c r
    go h (found t q) e =
        let i : q ≡ [] = (unfold check in ok_end (program_at any_token n s) t q e) in
        absurd (not_accepted n s c r t h ((accepts_right n s t).0 (rw i at e)))
    go h (refused_at d q) e = e ∙ meet d q h (faults_right n s d q e)
