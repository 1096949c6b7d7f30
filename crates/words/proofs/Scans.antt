-- What the scanner finds at a spot is the longest token there, or the fault that the rules name.
use Rattle.std.proofs.Common.{◌≡◌, ℕ, zero, suc, ◌+◌, ◌-◌, ◌<◌, ◌≤◌, Bool, true, false, cond, ◌&&◌, eqb, leb, [], ◌∷◌, ◌++◌, length, get_or, take, drop, Some, None, Option, sym, refl, ap, ◌∙◌, subst, ap₂, append_assoc, add-one, arith}
use mathlib.Core.List.{head-eq_of_cons-eq, tail-eq_of_cons-eq}
use Rattle.std.proofs.lemmas.List.{take-append-drop, get_or_at, length-take-le, length-drop}
use Rattle.std.proofs.lemmas.Bool.Decides.{nat_tests}
use Rattle.fault.specs.Limits.{name_bytes, string_bytes, integer_max}
use Rattle.fault.specs.declared.rules.Rule.TheVariants.{NoToken, TokenTooLarge}
use Rattle.words.specs.declared.tokens.Comparison.TheVariants.{Equal, NotEqual, Greater, GreaterEqual, Less, LessEqual}
use Rattle.words.specs.declared.tokens.Sum.TheVariants.{Plus, Minus}
use Rattle.words.specs.declared.tokens.Product.TheVariants.{Times, Divide}
use Rattle.words.specs.declared.tokens.Sign.TheVariants.{LeftParenthesis, RightParenthesis, LeftBracket, RightBracket, LeftBrace, RightBrace, Semicolon, Comma, Assign}
use Rattle.words.specs.declared.keywords.Keyword.{Keyword}
use Rattle.words.specs.declared.keywords.Keyword.TheVariants as keyword
use Rattle.words.specs.declared.symbols.Symbol.{Symbol}
use Rattle.words.specs.declared.symbols.Symbol.TheVariants as symbol
use Rattle.words.specs.Letters.{letter, digit, name_byte, plain, run, every}
use Rattle.words.specs.Lexing.{Spot, Scan, Scan.ended, Scan.faulty, taken, symbol_terminal, word_or_name, name_at, integer_at, string_at, symbol_scan, sign_at, token_at}
use Rattle.words.specs.Numbers.{value_of}
use Rattle.words.specs.Reading.{symbol_spelling, Named, Spells, Fits, Longest, NoneBegins, Begins}
use Rattle.words.specs.Spelling.{keyword_of, pair_of, single_of, Front.sign_then, Front.no_sign, before}
use Rattle.words.specs.Tokens.{Bytes, Place, Terminal}
use Rattle.words.specs.Tokens.{Terminal.integer, Terminal.string}
use Rattle.words.proofs.Fronts.{run_within, run_belongs, run_stops, run_at, not_every}
use Rattle.words.proofs.Terminals.{closed, as_string, as_symbol, symbol_whole, when, terminal_of, nothing_left, prepended, keyword_spelt, none_spelt, keyword_short, closed_is, spelt_is}

-- what may be found at a spot
pub data Found (s : Spot) : Scan → Type 0 where
  at_end : s.rest ≡ [] → Found s (ended s.here s)
  token_there : (t : Terminal) (n : ℕ) → n ≤ length s.rest → Begins s.rest t (take n s.rest) (drop n s.rest) → Fits t → Found s (taken t n s)
  too_large : (t : Terminal) (n : ℕ) → Begins s.rest t (take n s.rest) (drop n s.rest) → ¬ (Fits t) → Found s (faulty TokenTooLarge s.here)
  none_there : (b : ℕ) (r : Bytes) → s.rest ≡ b ∷ r → NoneBegins s.rest → Found s (faulty NoToken s.here)

-- by a test
found_by : (s : Spot) (b : Bool) (x y : Scan) → (b ≡ true → Found s x) → (b ≡ false → Found s y) → Found s (cond b x y)
found_by s true x y p q = p refl
found_by s false x y p q = q refl

-- bytes that are found to spell none spell none
spells_none : (t : Terminal) (s : Bytes) → terminal_of s ≡ None → ¬ (Spells t s)
spells_none t s e h = let f = spelt_is t s h in let z : ◌≡◌ {A = ℕ} 0 1 = cc in omega arith

-- names and words

word_spelt : (x : Bytes) (o : Option Keyword) → keyword_of x ≡ o → (b : ℕ) (r : Bytes) → x ≡ b ∷ r → letter b ≡ true → every name_byte r ≡ true → Spells (word_or_name o x) x
word_spelt x (Some (keyword.Word w)) e b r c l n = keyword_spelt x (keyword.Word w) e
word_spelt x (Some (keyword.Domain d)) e b r c l n = keyword_spelt x (keyword.Domain d) e
word_spelt x (Some (keyword.Logic o)) e b r c l n = keyword_spelt x (keyword.Logic o) e
word_spelt x (Some (keyword.Truth v)) e b r c l n = keyword_spelt x (keyword.Truth v) e
word_spelt x None e b r c l n =
    (refl, subst Named (sym c) (l, n, λ k h. none_spelt x e k (c ∙ h)))

word_fits : (x : Bytes) (o : Option Keyword) → length x ≤ name_bytes → Fits (word_or_name o x)
word_fits x (Some (keyword.Word w)) h = tt
word_fits x (Some (keyword.Domain d)) h = tt
word_fits x (Some (keyword.Logic o)) h = tt
word_fits x (Some (keyword.Truth v)) h = tt
word_fits x None h = h

-- no keyword is as long as that
word_fits_not : (x : Bytes) (o : Option Keyword) → keyword_of x ≡ o → name_bytes < length x → ¬ (Fits (word_or_name o x))
word_fits_not x (Some k) e h f = let short = keyword_short k in let same = ap length (keyword_spelt x k e) in grind (arith, nat_tests)
word_fits_not x None e h f = omega arith

-- a letter, then bytes that are not all of names
no_word : (t : Terminal) (b : ℕ) (s : Bytes) → letter b ≡ true → every name_byte s ≡ false → ¬ (Spells t (b ∷ s))
no_word t b s l n =
    let q : eqb b 34 ≡ false = grind (arith, nat_tests) in
    spells_none t (b ∷ s) (go (eqb b 34) (letter b) (every name_byte s) q l n)
  where
    go : (x y z : Bool) → x ≡ false → y ≡ true → z ≡ false →
        cond x (as_string (closed s)) (cond y (when z (word_or_name (keyword_of (b ∷ s)) (b ∷ s))) (cond (digit b) (when (every digit s) (integer (b ∷ s))) (symbol_whole b s))) ≡ None
    go false true false e f g = refl
    go true y z e f g = let w : ◌≡◌ {A = ℕ} 0 1 = cc in absurd (omega arith)
    go false false z e f g = let w : ◌≡◌ {A = ℕ} 0 1 = cc in absurd (omega arith)
    go false true true e f g = let w : ◌≡◌ {A = ℕ} 0 1 = cc in absurd (omega arith)

-- a digit, then bytes that are not all digits
no_integer : (t : Terminal) (b : ℕ) (s : Bytes) → digit b ≡ true → every digit s ≡ false → ¬ (Spells t (b ∷ s))
no_integer t b s d n =
    let q : eqb b 34 ≡ false = grind (arith, nat_tests) in
    let l : letter b ≡ false = grind (arith, nat_tests) in
    spells_none t (b ∷ s) (go (eqb b 34) (letter b) (digit b) (every digit s) q l d n)
  where
    go : (x y z w : Bool) → x ≡ false → y ≡ false → z ≡ true → w ≡ false →
        cond x (as_string (closed s)) (cond y (when (every name_byte s) (word_or_name (keyword_of (b ∷ s)) (b ∷ s))) (cond z (when w (integer (b ∷ s))) (symbol_whole b s))) ≡ None
    go false false true false e f g h = refl
    go true y z w e f g h = let v : ◌≡◌ {A = ℕ} 0 1 = cc in absurd (omega arith)
    go false true z w e f g h = let v : ◌≡◌ {A = ℕ} 0 1 = cc in absurd (omega arith)
    go false false false w e f g h = let v : ◌≡◌ {A = ℕ} 0 1 = cc in absurd (omega arith)
    go false false true true e f g h = let v : ◌≡◌ {A = ℕ} 0 1 = cc in absurd (omega arith)

-- a run of a class behind a first byte: nothing longer is all of the class
run_longest : (p : ℕ → Bool) (b : ℕ) (r : Bytes) → p b ≡ true → ((t : Terminal) (s : Bytes) → every p s ≡ false → ¬ (Spells t (b ∷ s))) →
    Longest (b ∷ take (run p r) r) (drop (run p r) r)
run_longest p b r first none [] tail t e some = absurd (omega arith)
run_longest p b r first none (c ∷ more) tail t e some =
    none t (take (run p r) r ++ c ∷ more) (not_every p (take (run p r) r) c more (run_stops p r c (more ++ tail) e))

-- the run of a class at a first byte that belongs
run_first : (p : ℕ → Bool) (b : ℕ) (r : Bytes) → p b ≡ true → run p (b ∷ r) ≡ suc (run p r)
run_first p b r h = ap (λ (x : Bool). elim x [ true ↦ run p r + 1 | false ↦ 0 ]) h ∙ add-one (run p r)

abbrev pub spot_at : Bytes → Place → Spot
spot_at rest p = record { rest = rest; here = p }

-- a word or a name of n bytes, or too large
abbrev name_by : Spot → ℕ → Scan
name_by s n =
    cond (leb n name_bytes) (taken (word_or_name (keyword_of (take n s.rest)) (take n s.rest)) n s) (faulty TokenTooLarge s.here)

name_found : (b : ℕ) (r : Bytes) (p : Place) → letter b ≡ true → Found (spot_at (b ∷ r) p) (name_at (spot_at (b ∷ r) p))
name_found b r p l =
    let n : name_byte b ≡ true = grind (arith, nat_tests) in
    let m = run name_byte r in
    let x : Bytes = b ∷ take m r in
    let size : length (take m r) ≡ m = length-take-le m r (run_within name_byte r) in
    let within : suc m ≤ length (b ∷ r) = omega (arith, run_within name_byte r) in
    let begins : Begins (b ∷ r) (word_or_name (keyword_of x) x) x (drop m r) =
    record {
      cut = ap (λ z. b ∷ z) (sym (take-append-drop m r));
      spelt = word_spelt x (keyword_of x) refl b (take m r) refl l (run_belongs name_byte r);
      longest = run_longest name_byte b r n (λ t s h. no_word t b s l h);
    } in
    subst (λ k. Found (spot_at (b ∷ r) p) (name_by (spot_at (b ∷ r) p) k)) (sym (run_first name_byte b r n))
    (found_by _ _ _ _
    (λ few. token_there _ (suc m) within begins (word_fits x (keyword_of x) (grind (arith, nat_tests))))
    (λ many. too_large _ (suc m) begins (word_fits_not x (keyword_of x) refl (grind (arith, nat_tests)))))

abbrev integer_by : Spot → ℕ → Scan
integer_by s n =
    cond (leb (value_of (take n s.rest)) integer_max) (taken (integer (take n s.rest)) n s) (faulty TokenTooLarge s.here)

integer_found : (b : ℕ) (r : Bytes) (p : Place) → digit b ≡ true → Found (spot_at (b ∷ r) p) (integer_at integer_max (spot_at (b ∷ r) p))
integer_found b r p d =
    let m = run digit r in
    let x : Bytes = b ∷ take m r in
    let within : suc m ≤ length (b ∷ r) = omega (arith, run_within digit r) in
    let begins : Begins (b ∷ r) (integer x) x (drop m r) =
    record {
      cut = ap (λ z. b ∷ z) (sym (take-append-drop m r));
      spelt = (refl, omega arith, ap₂ (λ y z. y && z) d (run_belongs digit r));
      longest = run_longest digit b r d (λ t s h. no_integer t b s d h);
    } in
    subst (λ k. Found (spot_at (b ∷ r) p) (integer_by (spot_at (b ∷ r) p) k)) (sym (run_first digit b r d))
    (found_by _ _ _ _
    (λ few. token_there _ (suc m) within begins (grind (arith, nat_tests)))
    (λ many. too_large _ (suc m) begins (λ f. grind (arith, nat_tests))))

-- strings

-- what stands behind the closing quote makes it no string
closed_long : (bs : Bytes) (c : ℕ) (more : Bytes) → every plain bs ≡ true → closed ((bs ++ 34 ∷ []) ++ c ∷ more) ≡ None
closed_long [] c more h = refl
closed_long (b ∷ bs) c more h =
    let q : every plain bs ≡ true = grind (arith, nat_tests) in
    go (eqb b 34) (plain b) (grind (arith, nat_tests)) (grind (arith, nat_tests)) (closed_long bs c more q)
  where
    go : (x y : Bool) → x ≡ false → y ≡ true → closed ((bs ++ 34 ∷ []) ++ c ∷ more) ≡ None →
        cond x (nothing_left ((bs ++ 34 ∷ []) ++ c ∷ more)) (cond y (prepended b (closed ((bs ++ 34 ∷ []) ++ c ∷ more))) None) ≡ None
    go false true e f i = ap (prepended b) i
    go true y e f i = let z : ◌≡◌ {A = ℕ} 0 1 = cc in absurd (omega arith)
    go false false e f i = let z : ◌≡◌ {A = ℕ} 0 1 = cc in absurd (omega arith)

string_longest : (bs rest : Bytes) → every plain bs ≡ true → Longest (34 ∷ (bs ++ 34 ∷ [])) rest
string_longest bs rest h [] tail t e some = absurd (omega arith)
string_longest bs rest h (c ∷ more) tail t e some = spells_none t _ (ap as_string (closed_long bs c more h))

-- the byte at n is a quote
quote_at : (s : Bytes) (n : ℕ) → eqb (get_or s n 0) 34 ≡ true → (rest : Bytes) × (drop n s ≡ 34 ∷ rest) × (take (suc n) s ≡ take n s ++ 34 ∷ []) × (drop (suc n) s ≡ rest)
quote_at [] n h = let z : ◌≡◌ {A = ℕ} 0 1 = grind (arith, nat_tests) in absurd (omega arith)
quote_at (b ∷ s) zero h = let e : b ≡ 34 = grind (arith, nat_tests) in (s, ap (λ z. z ∷ s) e, ap (λ z. z ∷ []) e, refl)
quote_at (b ∷ s) (suc n) h = let i = quote_at s n h in (i.0, i.1, ap (λ z. b ∷ z) i.2, i.3)

-- a string that is not closed
none_closed : (inside : Bytes) → eqb (get_or inside (run plain inside) 0) 34 ≡ false → NoneBegins (34 ∷ inside)
none_closed inside h [] tail t e = spells_none t [] refl
none_closed inside h (b ∷ f) tail t e = λ spelt.
    let is : 34 ≡ b = head-eq_of_cons-eq e in
    let there = spelt_is t (34 ∷ f) (subst (λ z. Spells t (z ∷ f)) (sym is) spelt) in
    go (closed f) refl there
  where
    clash : (bs : Bytes) → (f ≡ bs ++ 34 ∷ []) × (every plain bs ≡ true) → ⊥
    clash bs c =
        let whole : inside ≡ bs ++ 34 ∷ tail = tail-eq_of_cons-eq e ∙ (ap (λ z. z ++ tail) c.0 ∙ append_assoc bs (34 ∷ []) tail) in
        let n : run plain inside ≡ length bs = ap (run plain) whole ∙ run_at plain bs 34 tail c.1 refl in
        let q : get_or inside (run plain inside) 0 ≡ 34 = ap₂ (λ y z. get_or y z 0) whole n ∙ get_or_at bs 34 tail 0 (length bs) refl in
        grind (arith, nat_tests)

    go : (o : Option Bytes) → closed f ≡ o → as_string o ≡ Some t → ⊥
    go (Some bs) c g = clash bs (closed_is f bs c)
    go None c g = let z : ◌≡◌ {A = ℕ} 0 1 = cc in omega arith

string_found : (inside : Bytes) (p : Place) → Found (spot_at (34 ∷ inside) p) (string_at (spot_at (34 ∷ inside) p))
string_found inside p = found_by _ _ _ _ closed_there (λ h. none_there 34 inside refl (none_closed inside h))
  where
    closed_there : eqb (get_or inside (run plain inside) 0) 34 ≡ true →
        Found (spot_at (34 ∷ inside) p) (cond (leb (run plain inside) string_bytes) (taken (string (take (run plain inside) inside)) (run plain inside + 2) (spot_at (34 ∷ inside) p)) (faulty TokenTooLarge p))
    closed_there h =
        let m = run plain inside in
        let bs : Bytes = take m inside in
        let q = quote_at inside m h in
        let size : length bs ≡ m = length-take-le m inside (run_within plain inside) in
        let two : m + 2 ≡ suc (suc m) = omega arith in
        let front : 34 ∷ take (suc m) inside ≡ 34 ∷ (bs ++ 34 ∷ []) = ap (λ z. 34 ∷ z) q.2 in
        let begins : Begins (34 ∷ inside) (string bs) (34 ∷ take (suc m) inside) (drop (suc m) inside) =
        record {
          cut = ap (λ z. 34 ∷ z) (sym (take-append-drop (suc m) inside));
          spelt = (front, run_belongs plain inside);
          longest = subst (λ z. Longest z (drop (suc m) inside)) (sym front) (string_longest bs (drop (suc m) inside) (run_belongs plain inside));
        } in
        let within : suc (suc m) ≤ length (34 ∷ inside) = grind (arith, length-drop m inside, ap length q.1) in
        subst (λ k. Found (spot_at (34 ∷ inside) p) (cond (leb m string_bytes) (taken (string bs) k (spot_at (34 ∷ inside) p)) (faulty TokenTooLarge p))) (sym two)
        (found_by _ _ _ _
        (λ few. token_there _ (suc (suc m)) within begins (grind (arith, nat_tests)))
        (λ many. too_large _ (suc (suc m)) begins (λ f. grind (arith, nat_tests))))

-- signs

symbol_spelt : (x : Symbol) (s : Bytes) → s ≡ symbol_spelling x → Spells (symbol_terminal x) s
symbol_spelt (symbol.Sign x) s h = h
symbol_spelt (symbol.Comparison o) s h = h
symbol_spelt (symbol.Sum o) s h = h
symbol_spelt (symbol.Product o) s h = h

symbol_fits : (x : Symbol) → Fits (symbol_terminal x)
symbol_fits (symbol.Sign x) = tt
symbol_fits (symbol.Comparison o) = tt
symbol_fits (symbol.Sum o) = tt
symbol_fits (symbol.Product o) = tt

-- o names only signs that s spells
abbrev Right : Bytes → Option Symbol → Type 0
Right s o = (x : Symbol) → o ≡ Some x → s ≡ symbol_spelling x

right_none : (s : Bytes) → Right s None
right_none s x h = let z : ◌≡◌ {A = ℕ} 0 1 = cc in absurd (omega arith)

-- one line of a list of signs
right_one : (s : Bytes) (test : Bool) (x : Symbol) (others : Option Symbol) → (test ≡ true → s ≡ symbol_spelling x) → Right s others → Right s (cond test (Some x) others)
right_one s true x others e rest y g = let same : x ≡ y = cc in e refl ∙ ap symbol_spelling same
right_one s false x others e rest y g = rest y g

one_byte : (a c : ℕ) → eqb a c ≡ true → a ∷ [] ≡ c ∷ []
one_byte a c h = let e : a ≡ c = grind (arith, nat_tests) in ap (λ z. z ∷ []) e

two_bytes : (a b c d : ℕ) → (eqb a c && eqb b d) ≡ true → a ∷ b ∷ [] ≡ c ∷ d ∷ []
two_bytes a b c d h =
    let e : a ≡ c = grind (arith, nat_tests) in let f : b ≡ d = grind (arith, nat_tests) in ap₂ (λ y z. y ∷ z ∷ []) e f

single_spelt : (a : ℕ) → Right (a ∷ []) (single_of a)
single_spelt a =
    right_one _ _ (symbol.Sign Assign) _ (one_byte a 61) (
    right_one _ _ (symbol.Comparison Greater) _ (one_byte a 62) (
    right_one _ _ (symbol.Comparison Less) _ (one_byte a 60) (
    right_one _ _ (symbol.Sum Plus) _ (one_byte a 43) (
    right_one _ _ (symbol.Sum Minus) _ (one_byte a 45) (
    right_one _ _ (symbol.Product Times) _ (one_byte a 42) (
    right_one _ _ (symbol.Product Divide) _ (one_byte a 47) (
    right_one _ _ (symbol.Sign LeftParenthesis) _ (one_byte a 40) (
    right_one _ _ (symbol.Sign RightParenthesis) _ (one_byte a 41) (
    right_one _ _ (symbol.Sign LeftBracket) _ (one_byte a 91) (
    right_one _ _ (symbol.Sign RightBracket) _ (one_byte a 93) (
    right_one _ _ (symbol.Sign LeftBrace) _ (one_byte a 123) (
    right_one _ _ (symbol.Sign RightBrace) _ (one_byte a 125) (
    right_one _ _ (symbol.Sign Semicolon) _ (one_byte a 59) (
    right_one _ _ (symbol.Sign Comma) _ (one_byte a 44) (right_none (a ∷ []))))))))))))))))

pair_spelt : (a b : ℕ) → Right (a ∷ b ∷ []) (pair_of a b)
pair_spelt a b =
    right_one _ _ (symbol.Comparison Equal) _ (two_bytes a b 61 61) (
    right_one _ _ (symbol.Comparison NotEqual) _ (two_bytes a b 33 61) (
    right_one _ _ (symbol.Comparison GreaterEqual) _ (two_bytes a b 62 61) (
    right_one _ _ (symbol.Comparison LessEqual) _ (two_bytes a b 60 61) (right_none (a ∷ b ∷ [])))))

-- a first byte that begins a sign, if anything
pub record Other (a : ℕ) : Type 0 where
  pub no_quote : eqb a 34 ≡ false
  pub no_letter : letter a ≡ false
  pub no_digit : digit a ≡ false

-- then whole bytes spell what the signs say
pub other_whole : (a : ℕ) (s : Bytes) → Other a → terminal_of (a ∷ s) ≡ symbol_whole a s
other_whole a s o = go (eqb a 34) (letter a) (digit a) o.no_quote o.no_letter o.no_digit
  where
    go : (x y z : Bool) → x ≡ false → y ≡ false → z ≡ false →
        cond x (as_string (closed s)) (cond y (when (every name_byte s) (word_or_name (keyword_of (a ∷ s)) (a ∷ s))) (cond z (when (every digit s) (integer (a ∷ s))) (symbol_whole a s))) ≡ symbol_whole a s
    go false false false e f g = refl
    go true y z e f g = let v : ◌≡◌ {A = ℕ} 0 1 = cc in absurd (omega arith)
    go false true z e f g = let v : ◌≡◌ {A = ℕ} 0 1 = cc in absurd (omega arith)
    go false false true e f g = let v : ◌≡◌ {A = ℕ} 0 1 = cc in absurd (omega arith)

-- a sign of one byte is the longest where no sign of two bytes begins
single_longest : (a : ℕ) (tl : Bytes) → Other a → ((c : ℕ) (r : Bytes) → tl ≡ c ∷ r → pair_of a c ≡ None) → Longest (a ∷ []) tl
single_longest a tl o none [] tail t e some = absurd (omega arith)
single_longest a tl o none (c ∷ []) tail t e some = spells_none t _ (other_whole a (c ∷ []) o ∙ ap as_symbol (none c tail e))
single_longest a tl o none (c ∷ d ∷ more) tail t e some = spells_none t _ (other_whole a (c ∷ d ∷ more) o)

pair_longest : (a b : ℕ) (tl : Bytes) → Other a → Longest (a ∷ b ∷ []) tl
pair_longest a b tl o [] tail t e some = absurd (omega arith)
pair_longest a b tl o (c ∷ more) tail t e some = spells_none t _ (other_whole a (b ∷ c ∷ more) o)

-- no sign begins
no_sign_begins : (a : ℕ) (tl : Bytes) → Other a → single_of a ≡ None → ((c : ℕ) (r : Bytes) → tl ≡ c ∷ r → pair_of a c ≡ None) → NoneBegins (a ∷ tl)
no_sign_begins a tl o one two [] tail t e = spells_none t [] refl
no_sign_begins a tl o one two (b ∷ []) tail t e =
    subst (λ z. ¬ (Spells t (z ∷ []))) (head-eq_of_cons-eq e) (spells_none t _ (other_whole a [] o ∙ ap as_symbol one))
no_sign_begins a tl o one two (b ∷ c ∷ []) tail t e =
    subst (λ z. ¬ (Spells t (z ∷ c ∷ []))) (head-eq_of_cons-eq e)
    (spells_none t _ (other_whole a (c ∷ []) o ∙ ap as_symbol (two c tail (tail-eq_of_cons-eq e))))
no_sign_begins a tl o one two (b ∷ c ∷ d ∷ front) tail t e =
    subst (λ z. ¬ (Spells t (z ∷ c ∷ d ∷ front))) (head-eq_of_cons-eq e) (spells_none t _ (other_whole a (c ∷ d ∷ front) o))

-- a sign of one byte
single_there : (a : ℕ) (tl : Bytes) (p : Place) (x : Symbol) → Other a → single_of a ≡ Some x → ((c : ℕ) (r : Bytes) → tl ≡ c ∷ r → pair_of a c ≡ None) →
    Found (spot_at (a ∷ tl) p) (symbol_scan (sign_then x tl) (spot_at (a ∷ tl) p))
single_there a tl p x o e none =
    let one : length (a ∷ tl) - length tl ≡ 1 = omega arith in
    subst (λ k. Found (spot_at (a ∷ tl) p) (taken (symbol_terminal x) k (spot_at (a ∷ tl) p))) (sym one)
    (token_there _ 1 (omega arith) (record { cut = refl; spelt = symbol_spelt x (a ∷ []) (single_spelt a x e); longest = single_longest a tl o none }) (symbol_fits x))

pair_there : (a b : ℕ) (tl : Bytes) (p : Place) (x : Symbol) → Other a → pair_of a b ≡ Some x →
    Found (spot_at (a ∷ b ∷ tl) p) (symbol_scan (sign_then x tl) (spot_at (a ∷ b ∷ tl) p))
pair_there a b tl p x o e =
    let two : length (a ∷ b ∷ tl) - length tl ≡ 2 = omega arith in
    subst (λ k. Found (spot_at (a ∷ b ∷ tl) p) (taken (symbol_terminal x) k (spot_at (a ∷ b ∷ tl) p))) (sym two)
    (token_there _ 2 (omega arith) (record { cut = refl; spelt = symbol_spelt x (a ∷ b ∷ []) (pair_spelt a b x e); longest = pair_longest a b tl o }) (symbol_fits x))

-- one byte, and no sign of two begins with it
sign_one : (a : ℕ) (tl : Bytes) (p : Place) → Other a → ((c : ℕ) (r : Bytes) → tl ≡ c ∷ r → pair_of a c ≡ None) → (x : Option Symbol) → single_of a ≡ x →
    Found (spot_at (a ∷ tl) p) (symbol_scan (before x tl no_sign) (spot_at (a ∷ tl) p))
sign_one a tl p o none (Some x) e = single_there a tl p x o e none
sign_one a tl p o none None e = none_there a tl refl (no_sign_begins a tl o e none)

sign_found : (a : ℕ) (tl : Bytes) (p : Place) → Other a → Found (spot_at (a ∷ tl) p) (sign_at (spot_at (a ∷ tl) p))
sign_found a [] p o = sign_one a [] p o (λ c r e. let z : ◌≡◌ {A = ℕ} 0 1 = cc in absurd (omega arith)) (single_of a) refl
sign_found a (b ∷ tl) p o = go (pair_of a b) refl
  where
    go : (x : Option Symbol) → pair_of a b ≡ x →
        Found (spot_at (a ∷ b ∷ tl) p) (symbol_scan (before x tl (before (single_of a) (b ∷ tl) no_sign)) (spot_at (a ∷ b ∷ tl) p))
    go (Some x) e = pair_there a b tl p x o e
    go None e = sign_one a (b ∷ tl) p o (λ c r h. ap (pair_of a) (sym (head-eq_of_cons-eq h)) ∙ e) (single_of a) refl

-- at every spot the scanner finds what is there
pub token_found : (rest : Bytes) (p : Place) → Found (spot_at rest p) (token_at (spot_at rest p))
token_found [] p = at_end refl
token_found (b ∷ r) p =
    found_by _ _ _ _
    (λ q. let e : b ≡ 34 = grind (arith, nat_tests) in subst (λ z. Found (spot_at (z ∷ r) p) (string_at (spot_at (z ∷ r) p))) (sym e) (string_found r p))
    (λ q. found_by _ _ _ _ (name_found b r p)
    (λ l. found_by _ _ _ _ (integer_found b r p) (λ d. sign_found b r p (record { no_quote = q; no_letter = l; no_digit = d }))))
