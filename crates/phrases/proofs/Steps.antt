-- One token on, and what a refused reading hands on.
use Rattle.std.proofs.Common.{◌≡◌, ℕ, suc, ◌+◌, ◌<◌, ◌≤◌, true, false, eqb, List, [], ◌∷◌, length, IfOk, Some, None, Ok, Err, Option, Result, sym, refl, ap, ◌∙◌, subst, arith}
use mathlib.Core.Option.{some}
use Rattle.std.proofs.lemmas.Bool.{eqb-true}
use Rattle.fault.specs.declared.rules.Fault.{Fault}
use Rattle.fault.specs.declared.rules.Rule.{Rule}
use Rattle.fault.specs.declared.rules.Rule.TheVariants.{CannotFollow, TooDeep}
use Rattle.words.specs.declared.tokens.Word.TheVariants.{Program, End, Table, If, Then, Else, While, Do, Read, Write, Join, Not, Project, Select, Exists}
use Rattle.words.specs.declared.tokens.Word.TheVariants.{All, Update, Extend, Rename}
use Rattle.words.specs.declared.tokens.Sign.TheVariants.{LeftParenthesis, RightParenthesis, LeftBracket, RightBracket, LeftBrace, RightBrace, Semicolon}
use Rattle.words.specs.declared.tokens.Sign.TheVariants.{Comma, Assign}
use Rattle.words.specs.declared.tokens.Token.{Token as Borrowed}
use Rattle.words.specs.declared.tokens.Token.TheVariants as borrowed
use Rattle.words.specs.Lexing.{Spot, Scan.faulty, next, followed, end_of}
use Rattle.words.specs.Tokens.{Bytes, Place, Terminal, Token, Token.◌at◌, Terminal.word, Terminal.sign, Terminal.domain, Terminal.logic, Terminal.comparison}
use Rattle.words.specs.Tokens.{Terminal.sum, Terminal.product, Terminal.truth, Terminal.integer, Terminal.string, Terminal.name, Terminal.broken}
use Rattle.words.specs.Views.{heard, spoken, weight}
use Rattle.grammar.specs.Parts.{Part, origin, place_part, code_in}
use Rattle.grammar.specs.Promise.{place_in}
use Rattle.grammar.specs.Readers.{Reader, Cause.cannot_follow, Cause.too_deep, Outcome, Outcome.found as read, Outcome.refused_at, and_then, expect_token, told}
use Rattle.phrases.specs.declared.parsers.Parser.{Parser}
use Rattle.phrases.specs.Places.{pays_ahead, following, Lies, TellsAhead}
use Rattle.phrases.specs.States.{before, behind, tokens_ahead, ahead_at, code_ahead, Grounded, fault_at, broken_in, refused_by, Halts, opened, Opened, Stepped, Expected, Answers, Holding}
use Rattle.phrases.proofs.Scans.{Sees, next_sees, following_next, pays_some}
use Rattle.tree.specs.declared.nodes.Node.{Node}

-- a token takes what it pays for
pub heard_pays : (s q : Spot) (t : Option Terminal) (p : Place) → heard t p q ≡ next s → length q.rest + weight t ≤ length s.rest → length q.rest + pays_ahead t ≤ length s.rest
heard_pays s q (Some t) p e o = (subst (Sees [] s) (sym e) (next_sees [] s)).0
heard_pays s q None p e o = omega (arith, o)

-- and tells of its place
pub heard_tells : (text : Bytes) (s q : Spot) (t : Option Terminal) (p : Place) → heard t p q ≡ next s → Lies text s → (Lies text q) × TellsAhead text t p
heard_tells text s q (Some t) p e g = (subst (Sees text s) (sym e) (next_sees text s)).1 g
heard_tells text s q None p e g = subst (Sees text s) (sym e) (next_sees text s) g

heard_followed : (q : Spot) (t : Option Terminal) (p : Place) → followed following (heard t p q) ≡ before t p (following q)
heard_followed q (Some t) p = refl
heard_followed q None p = refl

-- the tokens behind are the one now ahead and those behind it
pub heard_tokens : (s q : Spot) (t : Option Terminal) (p : Place) → heard t p q ≡ next s → before t p (following q) ≡ following s
heard_tokens s q t p e = sym (following_next s ∙ ap (followed following) (sym e) ∙ heard_followed q t p)

-- what is no token stands first behind
pub faulty_tokens : (s : Spot) (r : Rule) (p : Place) → faulty r p ≡ next s → broken_in (following s) ≡ some (fault_at r p)
faulty_tokens s r p e = ap broken_in (following_next s ∙ ap (followed following) (sym e))

-- a fault handed on says nothing more
pub cases_err : {A B : Type 0} (P : A → Type 0) (r : Result A B) (y : B) → r ≡ Err y → IfOk r P
cases_err P (Ok a) y e = absurd (let z : ◌≡◌ {A = ℕ} 0 1 = cc in omega arith)
cases_err P (Err b) y e = tt

pub stepped_err : (text : Bytes) (arena : List Node) (a b : Parser) (r : Result (Unit {0}) Fault) (y x : Fault) → r ≡ Err y → y ≡ x → broken_in (behind a) ≡ some x → Stepped text arena a b r
unfolding Stepped
stepped_err text arena a b (Ok u) y x e i h = absurd (let z : ◌≡◌ {A = ℕ} 0 1 = cc in omega arith)
stepped_err text arena a b (Err f) y x e i h = let g : x ≡ f = cc in h ∙ ap some g

pub answers_err : (P : Holding) (text : Bytes) (o : Outcome) (from : ℕ) (a b : Parser) (xs ys : List Node) (r : Result ℕ Fault) (x : Fault) → (y : Fault) × (r ≡ Err y) × (y ≡ x) → refused_by (end_of text) o ≡ some x → Answers P text o from a b xs ys r
unfolding Answers
answers_err P text o from a b xs ys (Ok u) x (y, e, i) h = absurd (let z : ◌≡◌ {A = ℕ} 0 1 = cc in omega arith)
answers_err P text o from a b xs ys (Err f) x (y, e, i) h = let g : x ≡ f = cc in h ∙ ap some g

-- the tokens ahead begin at the token ahead, or at the text's end
place_before : (text : Bytes) (t : Option Terminal) (p : Place) (s : List Token) → TellsAhead text t p → place_in (end_of text) (before t p s) ≡ p
place_before text (Some t) p s h = refl
place_before text None p s h = sym h

pub place_ahead : (text : Bytes) (arena : List Node) (a : Parser) → Grounded text arena a → place_in (end_of text) (tokens_ahead a) ≡ ahead_at a
place_ahead text arena a g = place_before text (spoken a.ahead.token) (ahead_at a) (behind a) g.tells

-- the scanner's tokens are tokens, so that one which cannot follow breaks that rule
told_before : (k : Borrowed) (p : Place) (s : List Token) → told cannot_follow (before (spoken k) p s) ≡ CannotFollow
told_before borrowed.End p s = refl
told_before (borrowed.Word w) p s = refl
told_before (borrowed.Domain d) p s = refl
told_before (borrowed.Logic o) p s = refl
told_before (borrowed.Truth b) p s = refl
told_before (borrowed.Sign x) p s = refl
told_before (borrowed.Comparison o) p s = refl
told_before (borrowed.Sum o) p s = refl
told_before (borrowed.Product o) p s = refl
told_before (borrowed.Name b) p s = refl
told_before (borrowed.Integer b) p s = refl
told_before (borrowed.Text b) p s = refl

fault_eq : (r q : Rule) (p w : Place) → r ≡ q → p ≡ w → fault_at r p ≡ fault_at q w
fault_eq r q p w e f = ap (λ i. fault_at i p) e ∙ ap (fault_at q) f

-- the refusal of the token ahead is the parser's fault
pub refuses : (text : Bytes) (arena : List Node) (a : Parser) → Grounded text arena a → refused_by (end_of text) (refused_at cannot_follow (tokens_ahead a)) ≡ some (fault_at CannotFollow (ahead_at a))
unfolding refused_by
refuses text arena a g = ap some (fault_eq _ _ _ _ (told_before a.ahead.token (ahead_at a) (behind a)) (place_ahead text arena a g))

pub too_deep_lem : (text : Bytes) (arena : List Node) (a : Parser) → Grounded text arena a → refused_by (end_of text) (refused_at too_deep (tokens_ahead a)) ≡ some (fault_at TooDeep (ahead_at a))
unfolding refused_by
too_deep_lem text arena a g = ap some (ap (fault_at TooDeep) (place_ahead text arena a g))

-- such a reader refuses what the scanner refuses
pub refused_ahead : (end : Place) (g : List Token → Outcome) (s : List Token) (f : Fault) → Halts end g → broken_in s ≡ some f → refused_by end (g s) ≡ some f
refused_ahead end g [] f h e = absurd (let z : ◌≡◌ {A = ℕ} 0 1 = cc in omega arith)
refused_ahead end g ((broken c at p) ∷ q) f h e = h c p q ∙ e
refused_ahead end g ((word w at p) ∷ q) f h e = absurd (let z : ◌≡◌ {A = ℕ} 0 1 = cc in omega arith)
refused_ahead end g ((sign w at p) ∷ q) f h e = absurd (let z : ◌≡◌ {A = ℕ} 0 1 = cc in omega arith)
refused_ahead end g ((domain w at p) ∷ q) f h e = absurd (let z : ◌≡◌ {A = ℕ} 0 1 = cc in omega arith)
refused_ahead end g ((logic w at p) ∷ q) f h e = absurd (let z : ◌≡◌ {A = ℕ} 0 1 = cc in omega arith)
refused_ahead end g ((comparison w at p) ∷ q) f h e = absurd (let z : ◌≡◌ {A = ℕ} 0 1 = cc in omega arith)
refused_ahead end g ((sum w at p) ∷ q) f h e = absurd (let z : ◌≡◌ {A = ℕ} 0 1 = cc in omega arith)
refused_ahead end g ((product w at p) ∷ q) f h e = absurd (let z : ◌≡◌ {A = ℕ} 0 1 = cc in omega arith)
refused_ahead end g ((truth w at p) ∷ q) f h e = absurd (let z : ◌≡◌ {A = ℕ} 0 1 = cc in omega arith)
refused_ahead end g ((integer w at p) ∷ q) f h e = absurd (let z : ◌≡◌ {A = ℕ} 0 1 = cc in omega arith)
refused_ahead end g ((string w at p) ∷ q) f h e = absurd (let z : ◌≡◌ {A = ℕ} 0 1 = cc in omega arith)
refused_ahead end g ((name w at p) ∷ q) f h e = absurd (let z : ◌≡◌ {A = ℕ} 0 1 = cc in omega arith)

-- a reading whose first part is refused
pub refused_first : (end : Place) (x : Outcome) (g : Part → List Token → Outcome) (f : Fault) → ((t : Part) → Halts end (g t)) → refused_by end x ≡ some f → refused_by end (and_then x g) ≡ some f
unfolding refused_by
refused_first end (refused_at c r) g f h e = e
refused_first end (read t r) g f h e = refused_ahead end (g t) r f (h t) e

-- a reading whose first part is found, and the rest refused
pub refused_then : (end : Place) (x : Outcome) (t : Part) (r : List Token) (g : Part → List Token → Outcome) (f : Fault) → x ≡ read t r → refused_by end (g t r) ≡ some f → refused_by end (and_then x g) ≡ some f
refused_then end x t r g f e h = ap (λ i. refused_by end (and_then i g)) e ∙ h

-- a reading whose parts are found
pub found_then : (x y : Outcome) (t : Part) (r : List Token) (g : Part → List Token → Outcome) → x ≡ read t r → g t r ≡ y → and_then x g ≡ y
found_then x y t r g e h = ap (λ i. and_then i g) e ∙ h

-- what a step has done
pub stepped_ok : (text : Bytes) (arena : List Node) (a b : Parser) (u : Unit {0}) → Stepped text arena a b (Ok u) → (Grounded text arena b) × (tokens_ahead b ≡ behind a)
unfolding Stepped
stepped_ok text arena a b u h = h

pub to_stepped : (text : Bytes) (arena : List Node) (a b : Parser) (u : Unit {0}) → Grounded text arena b → tokens_ahead b ≡ behind a → Stepped text arena a b (Ok u)
unfolding Stepped
to_stepped text arena a b u g h = (g, h)

pub stepped_broken : (text : Bytes) (arena : List Node) (a b : Parser) (f : Fault) → Stepped text arena a b (Err f) → broken_in (behind a) ≡ some f
unfolding Stepped
stepped_broken text arena a b f h = h

-- the word or sign was there
same_number : (text : Bytes) (arena : List Node) (w : Terminal) (a b : Parser) (t : Option Terminal) (r : Result (Unit {0}) Fault) → Grounded text arena a → eqb (code_in w) (code_ahead t) ≡ true → spoken a.ahead.token ≡ t → code_in w < 29 →
    Stepped text arena a b r → Expected text arena w a b r
unfolding refused_by Stepped Expected expect_token
same_number text arena w a b None r g e i l h = absurd (let z = eqb-true (code_in w) 29 e in omega (arith, z, l))
same_number text arena w a b (Some v) (Ok u) g e i l (k, q) = (k, rw (i, e) (ap (read (place_part (ahead_at a))) (sym q)))
same_number text arena w a b (Some v) (Err f) g e i l q = rw (i, e) q

-- another token was there
other_number : (text : Bytes) (arena : List Node) (w : Terminal) (a b : Parser) (t : Option Terminal) → Grounded text arena a → eqb (code_in w) (code_ahead t) ≡ false → spoken a.ahead.token ≡ t →
    Expected text arena w a b (Err (fault_at CannotFollow (ahead_at a)))
unfolding refused_by Expected expect_token
other_number text arena w a b None g e i = let h = refuses text arena a g in rw i (rw i at h)
other_number text arena w a b (Some v) g e i = let h = refuses text arena a g in rw (i, e) (rw i at h)

code_small : (w : Terminal) → code_in w < 29
code_small (word Program) = omega arith
code_small (word End) = omega arith
code_small (word Table) = omega arith
code_small (word If) = omega arith
code_small (word Then) = omega arith
code_small (word Else) = omega arith
code_small (word While) = omega arith
code_small (word Do) = omega arith
code_small (word Read) = omega arith
code_small (word Write) = omega arith
code_small (word Join) = omega arith
code_small (word Not) = omega arith
code_small (word Project) = omega arith
code_small (word Select) = omega arith
code_small (word Exists) = omega arith
code_small (word All) = omega arith
code_small (word Update) = omega arith
code_small (word Extend) = omega arith
code_small (word Rename) = omega arith
code_small (sign LeftParenthesis) = omega arith
code_small (sign RightParenthesis) = omega arith
code_small (sign LeftBracket) = omega arith
code_small (sign RightBracket) = omega arith
code_small (sign LeftBrace) = omega arith
code_small (sign RightBrace) = omega arith
code_small (sign Semicolon) = omega arith
code_small (sign Comma) = omega arith
code_small (sign Assign) = omega arith
code_small (domain d) = omega arith
code_small (logic o) = omega arith
code_small (comparison o) = omega arith
code_small (sum o) = omega arith
code_small (product o) = omega arith
code_small (truth b) = omega arith
code_small (integer x) = omega arith
code_small (string x) = omega arith
code_small (name x) = omega arith
code_small (broken r) = omega arith

pub expected_there : (text : Bytes) (arena : List Node) (w : Terminal) (a b : Parser) (r : Result (Unit {0}) Fault) → Grounded text arena a → eqb (code_in w) (code_ahead (spoken a.ahead.token)) ≡ true →
    Stepped text arena a b r → Expected text arena w a b r
expected_there text arena w a b r g e h = same_number text arena w a b (spoken a.ahead.token) r g e refl (code_small w) h

pub expected_else : (text : Bytes) (arena : List Node) (w : Terminal) (a b : Parser) (f : Fault) → Grounded text arena a → eqb (code_in w) (code_ahead (spoken a.ahead.token)) ≡ false → f ≡ fault_at CannotFollow (ahead_at a) →
    Expected text arena w a b (Err f)
expected_else text arena w a b f g e h =
    subst (λ j. Expected text arena w a b (Err j)) (sym h) (other_number text arena w a b (spoken a.ahead.token) g e refl)

-- a word or sign that is there is a token
pub code_pays : (w : Terminal) (k : Option Terminal) → eqb (code_in w) (code_ahead k) ≡ true → 1 ≤ pays_ahead k
code_pays w (Some t) e = pays_some t
code_pays w None e = absurd (let z = eqb-true (code_in w) 29 e in let l = code_small w in omega (arith, z, l))

-- what an expected token has done
pub expected_ok : (text : Bytes) (arena : List Node) (w : Terminal) (a b : Parser) (u : Unit {0}) → Expected text arena w a b (Ok u) → (Grounded text arena b) × (expect_token (w at origin) (tokens_ahead a) ≡ read (place_part (ahead_at a)) (tokens_ahead b))
unfolding Expected
expected_ok text arena w a b u h = h

pub expected_broken : (text : Bytes) (arena : List Node) (w : Terminal) (a b : Parser) (f : Fault) → Expected text arena w a b (Err f) → refused_by (end_of text) (expect_token (w at origin) (tokens_ahead a)) ≡ some f
unfolding Expected
expected_broken text arena w a b f h = h

pub expected_err : (text : Bytes) (arena : List Node) (w : Terminal) (a b : Parser) (r : Result (Unit {0}) Fault) (y x : Fault) → r ≡ Err y → y ≡ x → refused_by (end_of text) (expect_token (w at origin) (tokens_ahead a)) ≡ some x → Expected text arena w a b r
unfolding Expected
expected_err text arena w a b (Ok u) y x e i h = absurd (let z : ◌≡◌ {A = ℕ} 0 1 = cc in omega arith)
expected_err text arena w a b (Err f) y x e i h = let g : x ≡ f = cc in h ∙ ap some g

-- a reading that has found its part comes to what is no token, if that stands next
pub found_broken : (end : Place) (o : Outcome) (t : Part) (s : List Token) (f : Fault) → o ≡ read t s → broken_in s ≡ some f → refused_by end o ≡ some f
unfolding refused_by
found_broken end o t s f e h = ap (refused_by end) e ∙ h

-- a reader on tokens by another name
pub refused_at_lem : (end : Place) (f : Reader) (s r : List Token) (x : Fault) → s ≡ r → refused_by end (f s) ≡ some x → refused_by end (f r) ≡ some x
refused_at_lem end f s r x e h = subst (λ i. refused_by end (f i) ≡ some x) e h

pub read_at : (f : Reader) (s r : List Token) (t : Part) (q : List Token) → s ≡ r → f s ≡ read t q → f r ≡ read t q
read_at f s r t q e h = subst (λ i. f i ≡ read t q) e h

-- a token that is there is paid for
pub paid_less : {A B : Type 0} (r : Result A B) (m n k : ℕ) → 1 ≤ k → IfOk r (λ _. m + k ≤ n) → IfOk r (λ _. m < n)
paid_less (Ok a) m n k h e = omega (arith, h, e)
paid_less (Err b) m n k h e = tt

-- no depth is left
pub opened_none : (text : Bytes) (arena : List Node) (n : ℕ) (a b : Parser) (f : Fault) → n ≡ 0 → 0 < pays_ahead (spoken a.ahead.token) → Grounded text arena a → f ≡ fault_at TooDeep (ahead_at a) → Opened text arena n a b (Err f)
unfolding Opened opened
opened_none text arena n a b f z live g e h k =
    subst (λ m. refused_by (end_of text) (opened m h (tokens_ahead a)) ≡ some f) (sym z) (subst (λ x. refused_by (end_of text) (opened 0 h (tokens_ahead a)) ≡ some x) (sym e) (ap (refused_by (end_of text)) (closed (spoken a.ahead.token) live) ∙ too_deep_lem text arena a g))
  where
    closed : (t : Option Terminal) → 0 < pays_ahead t → opened 0 h (before t (ahead_at a) (behind a)) ≡ refused_at too_deep (before t (ahead_at a) (behind a))
    closed None l = absurd (let y : ⊥ = omega arith in y)
    closed (Some t) l = refl

-- what is no token stands behind the opening one
pub opened_broken : (text : Bytes) (arena : List Node) (n m : ℕ) (a b : Parser) (r : Result ℕ Fault) (y x : Fault) → n ≡ suc m → 0 < pays_ahead (spoken a.ahead.token) → r ≡ Err y → y ≡ x → broken_in (behind a) ≡ some x → Opened text arena n a b r
unfolding Opened opened
opened_broken text arena n m a b (Ok i) y x z l e i2 h = absurd (let w : ◌≡◌ {A = ℕ} 0 1 = cc in omega arith)
opened_broken text arena n m a b (Err f) y x z l e i h = λ g k. let j : x ≡ f = cc in
    subst (λ q. refused_by (end_of text) (opened q g (tokens_ahead a)) ≡ some f) (sym z) (go g k (spoken a.ahead.token) l ∙ ap some j)
  where
    go : (g : ℕ → Place → Reader) → ((m : ℕ) (p : Place) → Halts (end_of text) (g m p)) → (t : Option Terminal) → 0 < pays_ahead t → refused_by (end_of text) (opened (suc m) g (before t (ahead_at a) (behind a))) ≡ some x
    go g k None l = absurd (let y : ⊥ = omega arith in y)
    go g k (Some t) l = refused_ahead (end_of text) (g m (ahead_at a)) (behind a) x (k m (ahead_at a)) h

pub to_opened : (text : Bytes) (arena : List Node) (n m : ℕ) (a b : Parser) → n ≡ suc m → Stepped text arena a b (Ok tt) → Opened text arena n a b (Ok m)
unfolding Opened Stepped
to_opened text arena n m a b e (g, h) = (e, g, h)

pub opened_ok : (text : Bytes) (arena : List Node) (n m : ℕ) (a b : Parser) → Opened text arena n a b (Ok m) → (n ≡ suc m) × (Grounded text arena b) × (tokens_ahead b ≡ behind a)
unfolding Opened
opened_ok text arena n m a b h = h

pub opened_err : (text : Bytes) (arena : List Node) (n : ℕ) (a b : Parser) (f : Fault) (g : ℕ → Place → Reader) → ((m : ℕ) (p : Place) → Halts (end_of text) (g m p)) → Opened text arena n a b (Err f) → refused_by (end_of text) (opened n g (tokens_ahead a)) ≡ some f
unfolding Opened
opened_err text arena n a b f g k h = h g k

-- behind the opening token, by what is read there
pub opened_is : (n m : ℕ) (g : ℕ → Place → Reader) (a : Parser) (s : List Token) → n ≡ suc m → 0 < pays_ahead (spoken a.ahead.token) → s ≡ behind a → opened n g (tokens_ahead a) ≡ g m (ahead_at a) s
unfolding opened
opened_is n m g a s e l h = subst (λ q. opened q g (tokens_ahead a) ≡ g m (ahead_at a) s) (sym e) (go (spoken a.ahead.token) l)
  where
    go : (t : Option Terminal) → 0 < pays_ahead t → opened (suc m) g (before t (ahead_at a) (behind a)) ≡ g m (ahead_at a) s
    go None l = absurd (let y : ⊥ = omega arith in y)
    go (Some t) l = ap (g m (ahead_at a)) (sym h)
