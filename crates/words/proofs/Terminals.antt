-- Whole bytes decide the terminal that they spell: `terminal_of` computes it, so no bytes spell two.
use Rattle.std.proofs.Common.{◌≡◌, ℕ, ◌<◌, Bool, true, false, cond, ◌&&◌, eqb, leb, List, [], ◌∷◌, ◌++◌, length, Some, None, Option, sym, refl, ap, ◌∙◌, arith}
use Rattle.std.proofs.lemmas.Slice.Eq.{bytes_eq-Decides}
use Rattle.std.proofs.lemmas.Bool.Decides.{nat_tests}
use Rattle.std.specs.Str.{bytes_eq}
use Rattle.domain.specs.declared.Domain.TheVariants.{Integer, String, Boolean}
use Rattle.fault.specs.Limits.{name_bytes}
use Rattle.words.specs.declared.tokens.Word.TheVariants.{Program, End, Table, If, Then, Else, While, Do, Read, Write, Join, Not, Project, Select, Exists, All, Update, Extend, Rename}
use Rattle.words.specs.declared.tokens.Logic.TheVariants.{And, Or}
use Rattle.words.specs.declared.tokens.Comparison.TheVariants.{Equal, NotEqual, Greater, GreaterEqual, Less, LessEqual}
use Rattle.words.specs.declared.tokens.Sum.TheVariants.{Plus, Minus}
use Rattle.words.specs.declared.tokens.Product.TheVariants.{Times, Divide}
use Rattle.words.specs.declared.tokens.Sign.TheVariants.{LeftParenthesis, RightParenthesis, LeftBracket, RightBracket, LeftBrace, RightBrace, Semicolon, Comma, Assign}
use Rattle.words.specs.declared.keywords.Keyword.{Keyword}
use Rattle.words.specs.declared.keywords.Keyword.TheVariants as keyword
use Rattle.words.specs.declared.symbols.Symbol.{Symbol}
use Rattle.words.specs.declared.symbols.Symbol.TheVariants as symbol
use Rattle.words.specs.Letters.{letter, digit, name_byte, plain, every}
use Rattle.words.specs.Lexing.{word_or_name, keyword_terminal, symbol_terminal}
use Rattle.words.specs.Reading.{keyword_spelling, symbol_spelling, Named, Spells}
use Rattle.words.specs.Spelling.{spellings, spelt_among, keyword_of, pair_of, single_of}
use Rattle.words.specs.Tokens.{Bytes, Terminal}
use Rattle.words.specs.Tokens.{Terminal.word, Terminal.domain, Terminal.logic, Terminal.truth, Terminal.sign, Terminal.comparison, Terminal.sum, Terminal.product, Terminal.name, Terminal.integer, Terminal.string, Terminal.broken}

-- the bytes before the closing quote, where nothing stands behind it
abbrev pub nothing_left : Bytes → Option Bytes
nothing_left [] = Some []
nothing_left (c ∷ s) = None

abbrev pub prepended : ℕ → Option Bytes → Option Bytes
prepended b (Some bs) = Some (b ∷ bs)
prepended b None = None

abbrev pub closed : Bytes → Option Bytes
closed [] = None
closed (b ∷ s) = cond (eqb b 34) (nothing_left s) (cond (plain b) (prepended b (closed s)) None)

abbrev pub as_string : Option Bytes → Option Terminal
as_string (Some bs) = Some (string bs)
as_string None = None

abbrev pub as_symbol : Option Symbol → Option Terminal
as_symbol (Some x) = Some (symbol_terminal x)
as_symbol None = None

-- a sign of one byte or of two
abbrev pub symbol_whole : ℕ → Bytes → Option Terminal
symbol_whole a [] = as_symbol (single_of a)
symbol_whole a (b ∷ []) = as_symbol (pair_of a b)
symbol_whole a (b ∷ c ∷ s) = None

abbrev pub when : Bool → Terminal → Option Terminal
when true t = Some t
when false t = None

-- the terminal that whole bytes spell
abbrev pub terminal_of : Bytes → Option Terminal
terminal_of [] = None
terminal_of (b ∷ s) =
    cond (eqb b 34) (as_string (closed s))
    (cond (letter b) (when (every name_byte s) (word_or_name (keyword_of (b ∷ s)) (b ∷ s)))
    (cond (digit b) (when (every digit s) (integer (b ∷ s))) (symbol_whole b s)))

-- each of the 26 words is found by its spelling
pub keyword_found : (k : Keyword) → keyword_of (keyword_spelling k) ≡ Some k
unfolding keyword_of
keyword_found (keyword.Word Program) = refl
keyword_found (keyword.Word End) = refl
keyword_found (keyword.Word Table) = refl
keyword_found (keyword.Word If) = refl
keyword_found (keyword.Word Then) = refl
keyword_found (keyword.Word Else) = refl
keyword_found (keyword.Word While) = refl
keyword_found (keyword.Word Do) = refl
keyword_found (keyword.Word Read) = refl
keyword_found (keyword.Word Write) = refl
keyword_found (keyword.Word Join) = refl
keyword_found (keyword.Word Not) = refl
keyword_found (keyword.Word Project) = refl
keyword_found (keyword.Word Select) = refl
keyword_found (keyword.Word Exists) = refl
keyword_found (keyword.Word All) = refl
keyword_found (keyword.Word Update) = refl
keyword_found (keyword.Word Extend) = refl
keyword_found (keyword.Word Rename) = refl
keyword_found (keyword.Domain Integer) = refl
keyword_found (keyword.Domain String) = refl
keyword_found (keyword.Domain Boolean) = refl
keyword_found (keyword.Logic And) = refl
keyword_found (keyword.Logic Or) = refl
keyword_found (keyword.Truth true) = refl
keyword_found (keyword.Truth false) = refl

-- each of these words has its own spelling
abbrev Spelt : List (Bytes × Keyword) → Type 0
Spelt [] = Unit {0}
Spelt (w ∷ ws) = (w.0 ≡ keyword_spelling w.1) × Spelt ws

spelt : Spelt spellings
spelt = (refl, (refl, (refl, (refl, (refl, (refl, (refl, (refl, (refl, (refl, (refl, (refl, (refl, (refl, (refl, (refl, (refl, (refl, (refl, (refl, (refl, (refl, (refl, (refl, (refl, (refl, tt))))))))))))))))))))))))))

-- what is found among words that have their own spelling is spelt so
found_spelt : (ws : List (Bytes × Keyword)) → Spelt ws → (s : Bytes) (k : Keyword) → spelt_among ws s ≡ Some k → s ≡ keyword_spelling k
found_spelt [] r s k = λ h. let z : ◌≡◌ {A = ℕ} 0 1 = cc in absurd (omega arith)
found_spelt (w ∷ ws) r s k = by (bytes_eq s w.0) refl (found_spelt ws r.1 s k)
  where
    by : (x : Bool) → bytes_eq s w.0 ≡ x → (spelt_among ws s ≡ Some k → s ≡ keyword_spelling k) → cond x (Some w.1) (spelt_among ws s) ≡ Some k → s ≡ keyword_spelling k
    by true h rest g = let same : w.1 ≡ k = cc in (bytes_eq-Decides s w.0).0 h ∙ (r.0 ∙ ap keyword_spelling same)
    by false h rest g = rest g

-- a keyword is found only by its spelling
pub keyword_spelt : (s : Bytes) (k : Keyword) → keyword_of s ≡ Some k → s ≡ keyword_spelling k
unfolding keyword_of
keyword_spelt s = found_spelt spellings spelt s

-- what no keyword spells is found as none
pub keyword_none : (s : Bytes) → ((k : Keyword) → ¬ (s ≡ keyword_spelling k)) → keyword_of s ≡ None
keyword_none s h = by (keyword_of s) refl
  where
    by : (o : Option Keyword) → keyword_of s ≡ o → keyword_of s ≡ None
    by (Some k) e = absurd (h k (keyword_spelt s k e))
    by None e = e

-- the other way round
pub none_spelt : (s : Bytes) → keyword_of s ≡ None → (k : Keyword) → ¬ (s ≡ keyword_spelling k)
none_spelt s e k h =
    let f : keyword_of s ≡ Some k = ap keyword_of h ∙ keyword_found k in
    let z : ◌≡◌ {A = ℕ} 0 1 = cc in omega arith

-- the 26 words and the 19 signs
pub keyword_terminal_lem : (k : Keyword) → terminal_of (keyword_spelling k) ≡ Some (keyword_terminal k)
unfolding keyword_of
keyword_terminal_lem (keyword.Word Program) = refl
keyword_terminal_lem (keyword.Word End) = refl
keyword_terminal_lem (keyword.Word Table) = refl
keyword_terminal_lem (keyword.Word If) = refl
keyword_terminal_lem (keyword.Word Then) = refl
keyword_terminal_lem (keyword.Word Else) = refl
keyword_terminal_lem (keyword.Word While) = refl
keyword_terminal_lem (keyword.Word Do) = refl
keyword_terminal_lem (keyword.Word Read) = refl
keyword_terminal_lem (keyword.Word Write) = refl
keyword_terminal_lem (keyword.Word Join) = refl
keyword_terminal_lem (keyword.Word Not) = refl
keyword_terminal_lem (keyword.Word Project) = refl
keyword_terminal_lem (keyword.Word Select) = refl
keyword_terminal_lem (keyword.Word Exists) = refl
keyword_terminal_lem (keyword.Word All) = refl
keyword_terminal_lem (keyword.Word Update) = refl
keyword_terminal_lem (keyword.Word Extend) = refl
keyword_terminal_lem (keyword.Word Rename) = refl
keyword_terminal_lem (keyword.Domain Integer) = refl
keyword_terminal_lem (keyword.Domain String) = refl
keyword_terminal_lem (keyword.Domain Boolean) = refl
keyword_terminal_lem (keyword.Logic And) = refl
keyword_terminal_lem (keyword.Logic Or) = refl
keyword_terminal_lem (keyword.Truth true) = refl
keyword_terminal_lem (keyword.Truth false) = refl

-- the words are shorter than names may be
pub keyword_short : (k : Keyword) → leb (length (keyword_spelling k)) name_bytes ≡ true
keyword_short (keyword.Word Program) = refl
keyword_short (keyword.Word End) = refl
keyword_short (keyword.Word Table) = refl
keyword_short (keyword.Word If) = refl
keyword_short (keyword.Word Then) = refl
keyword_short (keyword.Word Else) = refl
keyword_short (keyword.Word While) = refl
keyword_short (keyword.Word Do) = refl
keyword_short (keyword.Word Read) = refl
keyword_short (keyword.Word Write) = refl
keyword_short (keyword.Word Join) = refl
keyword_short (keyword.Word Not) = refl
keyword_short (keyword.Word Project) = refl
keyword_short (keyword.Word Select) = refl
keyword_short (keyword.Word Exists) = refl
keyword_short (keyword.Word All) = refl
keyword_short (keyword.Word Update) = refl
keyword_short (keyword.Word Extend) = refl
keyword_short (keyword.Word Rename) = refl
keyword_short (keyword.Domain Integer) = refl
keyword_short (keyword.Domain String) = refl
keyword_short (keyword.Domain Boolean) = refl
keyword_short (keyword.Logic And) = refl
keyword_short (keyword.Logic Or) = refl
keyword_short (keyword.Truth true) = refl
keyword_short (keyword.Truth false) = refl

pub symbol_terminal_lem : (x : Symbol) → terminal_of (symbol_spelling x) ≡ Some (symbol_terminal x)
symbol_terminal_lem (symbol.Sign LeftParenthesis) = refl
symbol_terminal_lem (symbol.Sign RightParenthesis) = refl
symbol_terminal_lem (symbol.Sign LeftBracket) = refl
symbol_terminal_lem (symbol.Sign RightBracket) = refl
symbol_terminal_lem (symbol.Sign LeftBrace) = refl
symbol_terminal_lem (symbol.Sign RightBrace) = refl
symbol_terminal_lem (symbol.Sign Semicolon) = refl
symbol_terminal_lem (symbol.Sign Comma) = refl
symbol_terminal_lem (symbol.Sign Assign) = refl
symbol_terminal_lem (symbol.Comparison Equal) = refl
symbol_terminal_lem (symbol.Comparison NotEqual) = refl
symbol_terminal_lem (symbol.Comparison Greater) = refl
symbol_terminal_lem (symbol.Comparison GreaterEqual) = refl
symbol_terminal_lem (symbol.Comparison Less) = refl
symbol_terminal_lem (symbol.Comparison LessEqual) = refl
symbol_terminal_lem (symbol.Sum Plus) = refl
symbol_terminal_lem (symbol.Sum Minus) = refl
symbol_terminal_lem (symbol.Product Times) = refl
symbol_terminal_lem (symbol.Product Divide) = refl

-- plain bytes and a quote are closed there
pub closes : (bs : Bytes) → every plain bs ≡ true → closed (bs ++ 34 ∷ []) ≡ Some bs
closes [] h = refl
closes (b ∷ bs) h =
    let q : every plain bs ≡ true = grind (arith, nat_tests) in
    go (eqb b 34) (plain b) (grind (arith, nat_tests)) (grind (arith, nat_tests)) (closes bs q)
  where
    go : (x y : Bool) → x ≡ false → y ≡ true → closed (bs ++ 34 ∷ []) ≡ Some bs →
        cond x (nothing_left (bs ++ 34 ∷ [])) (cond y (prepended b (closed (bs ++ 34 ∷ []))) None) ≡ Some (b ∷ bs)
    go false true e f i = ap (prepended b) i
    go true y e f i = let z : ◌≡◌ {A = ℕ} 0 1 = cc in absurd (omega arith)
    go false false e f i = let z : ◌≡◌ {A = ℕ} 0 1 = cc in absurd (omega arith)

-- s is plain bytes bs and a quote
abbrev Closed : Bytes → Bytes → Type 0
Closed s bs = (s ≡ bs ++ 34 ∷ []) × (every plain bs ≡ true)

closed_last : (b : ℕ) (s bs : Bytes) → b ≡ 34 → nothing_left s ≡ Some bs → Closed (b ∷ s) bs
closed_last b [] bs e g =
    let none : bs ≡ [] = cc in (ap (λ z. z ∷ []) e ∙ ap (λ z. z ++ 34 ∷ []) (sym none), ap (every plain) none)
closed_last b (c ∷ s) bs e g = let z : ◌≡◌ {A = ℕ} 0 1 = cc in absurd (omega arith)

closed_more : (b : ℕ) (s bs : Bytes) (o : Option Bytes) → ((cs : Bytes) → o ≡ Some cs → Closed s cs) → plain b ≡ true → prepended b o ≡ Some bs → Closed (b ∷ s) bs
closed_more b s bs None ih p g = let z : ◌≡◌ {A = ℕ} 0 1 = cc in absurd (omega arith)
closed_more b s bs (Some cs) ih p g =
    let is : bs ≡ b ∷ cs = cc in
    let i = ih cs refl in
    (ap (λ z. b ∷ z) i.0 ∙ ap (λ z. z ++ 34 ∷ []) (sym is), ap (every plain) is ∙ (ap (λ z. z && every plain cs) p ∙ i.1))

-- and only such bytes are
pub closed_is : (s bs : Bytes) → closed s ≡ Some bs → Closed s bs
closed_is [] bs h = let z : ◌≡◌ {A = ℕ} 0 1 = cc in absurd (omega arith)
closed_is (b ∷ s) bs h = go (eqb b 34) (plain b) refl refl (λ cs e. closed_is s cs e) h
  where
    go : (x y : Bool) → eqb b 34 ≡ x → plain b ≡ y → ((cs : Bytes) → closed s ≡ Some cs → Closed s cs) →
        cond x (nothing_left s) (cond y (prepended b (closed s)) None) ≡ Some bs → Closed (b ∷ s) bs
    go true y e p ih g = closed_last b s bs (grind (arith, nat_tests)) g
    go false true e p ih g = closed_more b s bs (closed s) ih p g
    go false false e p ih g = let z : ◌≡◌ {A = ℕ} 0 1 = cc in absurd (omega arith)

-- bytes that spell a terminal are found to spell it
pub spelt_is : (t : Terminal) (s : Bytes) → Spells t s → terminal_of s ≡ Some t
spelt_is (word w) s h = ap terminal_of h ∙ keyword_terminal_lem (keyword.Word w)
spelt_is (domain d) s h = ap terminal_of h ∙ keyword_terminal_lem (keyword.Domain d)
spelt_is (logic o) s h = ap terminal_of h ∙ keyword_terminal_lem (keyword.Logic o)
spelt_is (truth b) s h = ap terminal_of h ∙ keyword_terminal_lem (keyword.Truth b)
spelt_is (sign x) s h = ap terminal_of h ∙ symbol_terminal_lem (symbol.Sign x)
spelt_is (comparison o) s h = ap terminal_of h ∙ symbol_terminal_lem (symbol.Comparison o)
spelt_is (sum o) s h = ap terminal_of h ∙ symbol_terminal_lem (symbol.Sum o)
spelt_is (product o) s h = ap terminal_of h ∙ symbol_terminal_lem (symbol.Product o)
spelt_is (name n) s h = ap terminal_of h.0 ∙ named n h.1
  where
    named : (n : Bytes) → Named n → terminal_of n ≡ Some (name n)
    named [] h = absurd h
    named (b ∷ n) h =
        let l : letter b ≡ true = h.0 in
        let q : eqb b 34 ≡ false = grind (arith, nat_tests) in
        rw (q, l, h.1, keyword_none (b ∷ n) h.2) refl
spelt_is (integer ds) s h = ap terminal_of h.0 ∙ counted ds h.1 h.2
  where
    counted : (ds : Bytes) → 0 < length ds → every digit ds ≡ true → terminal_of ds ≡ Some (integer ds)
    counted [] some h = absurd (omega arith)
    counted (b ∷ ds) some h =
        let d : digit b ≡ true = grind (arith, nat_tests) in
        let e : every digit ds ≡ true = grind (arith, nat_tests) in
        let q : eqb b 34 ≡ false = grind (arith, nat_tests) in
        let l : letter b ≡ false = grind (arith, nat_tests) in
        rw (q, l, d, e) refl
spelt_is (string bs) s h = ap terminal_of h.0 ∙ ap as_string (closes bs h.1)
spelt_is (broken r) s h = absurd h

-- so bytes spell one terminal
pub one_terminal : (t u : Terminal) (s : Bytes) → Spells t s → Spells u s → t ≡ u
one_terminal t u s h k = let a = spelt_is t s h in let b = spelt_is u s k in cc
