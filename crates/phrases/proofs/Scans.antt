-- What the scanner finds: a token takes the bytes that it pays for, and tells of its place; the end is the text's.
use Rattle.std.proofs.Common.{◌≡◌, ℕ, zero, suc, ◌+◌, ◌-◌, ◌<◌, ◌≤◌, Bool, true, false, cond, ◌&&◌, eqb, leb, List, [], ◌∷◌, length, get_or, take, drop, Some, None, Option, sym, refl, ap, ◌∙◌, subst, arith}
use Rattle.std.proofs.lemmas.List.{length-drop, length-take-le, drop-drop}
use Rattle.std.proofs.lemmas.Bool.{leb-true, eqb-true}
use Rattle.std.proofs.lemmas.Bool.Decides.{nat_tests}
use Rattle.std.specs.Str.{bytes_eq}
use Rattle.fault.specs.declared.rules.Rule.TheVariants.{NoToken, TokenTooLarge}
use Rattle.fault.specs.Limits.{integer_max, name_bytes, string_bytes}
use Rattle.words.specs.declared.keywords.Keyword.{Keyword}
use Rattle.words.specs.declared.keywords.Keyword.TheVariants as keyword
use Rattle.words.specs.declared.symbols.Symbol.{Symbol}
use Rattle.words.specs.declared.symbols.Symbol.TheVariants as symbol
use Rattle.words.specs.Letters.{letter, digit, name_byte, plain, feed, blank, run}
use Rattle.words.specs.Lexing.{Spot, place, further, skipped, Scan, Scan.found, Scan.ended, Scan.faulty, taken, keyword_terminal, symbol_terminal, word_or_name}
use Rattle.words.specs.Lexing.{name_at, integer_at, string_at, symbol_scan, sign_at, token_by, token_at, next, followed, tokens_in, tokens_from, end_from, end_of}
use Rattle.words.specs.Numbers.{value_of}
use Rattle.words.specs.Spelling.{spellings, spelt_among, keyword_of, pair_of, single_of, Front.sign_then, Front.no_sign, before}
use Rattle.words.specs.Tokens.{Bytes, Place, Terminal, Token.◌at◌}
use Rattle.words.specs.Tokens.{Terminal.word, Terminal.sign, Terminal.domain, Terminal.logic, Terminal.comparison, Terminal.sum, Terminal.product}
use Rattle.words.specs.Tokens.{Terminal.truth, Terminal.integer, Terminal.string, Terminal.name, Terminal.broken}
use Rattle.words.specs.declared.tokens.Word.{Word}
use Rattle.words.specs.declared.tokens.Word.TheVariants.{Program, End, Table, If, Then, Else, While, Do, Read, Write, Join, Not, Project, Select, Exists}
use Rattle.words.specs.declared.tokens.Word.TheVariants.{All, Update, Extend, Rename}
use Rattle.phrases.specs.Places.{pays, word_pays, following, Lies, Spells, Tells}

-- a spot by its parts
abbrev pub spot : Bytes → ℕ → ℕ → Spot
spot rest l b = record { rest = rest; here = place l b }

-- what a scan tells of the spot where it began
abbrev pub Sees : Bytes → Spot → Scan → Type 0
Sees text s (found (t at p) q) = (length q.rest + pays t ≤ length s.rest) × (Lies text s → Lies text q × Tells text t p)
Sees text s (ended p q) = Lies text s → Lies text q × (p ≡ end_of text)
Sees text s (faulty r p) = Unit {0}

-- the first n bytes are there, and none is a line feed
NoFeed : ℕ → Bytes → Type 0
NoFeed zero r = Unit {0}
NoFeed (suc n) [] = ⊥
NoFeed (suc n) (x ∷ r) = (feed x ≡ false) × NoFeed n r

no_feed_length : (n : ℕ) (r : Bytes) → NoFeed n r → n ≤ length r
unfolding NoFeed
no_feed_length zero r h = omega arith
no_feed_length (suc n) [] h = absurd h
no_feed_length (suc n) (x ∷ r) h = let o = no_feed_length n r h.1 in omega arith

-- past bytes without a line feed the text ends where it ended
end_drop : (n : ℕ) (r : Bytes) (l b : ℕ) → NoFeed n r → end_from (drop n r) l (b + n) ≡ end_from r l b
unfolding NoFeed
end_drop zero r l b h = ap (end_from r l) (let e : b + 0 ≡ b = omega arith in e)
end_drop (suc n) [] l b h = absurd h
end_drop (suc n) (x ∷ r) l b h =
    let e : b + suc n ≡ (b + 1) + n = omega arith in
    ap (end_from (drop n r) l) e ∙ end_drop n r l (b + 1) h.1 ∙ rw (h.0, end_from) refl

-- n bytes further
lies_further : (text : Bytes) (s : Spot) (n : ℕ) → NoFeed n s.rest → Lies text s → Lies text (further n s)
lies_further text s n h g =
    let o = no_feed_length n s.rest h in let d = length-drop n s.rest in
    record {
      small = g.small;
      inside = omega (arith, o, d, g.inside);
      behind = ap (drop n) g.behind ∙ drop-drop n s.here.byte text;
      ending = end_drop n s.rest s.here.line s.here.byte h ∙ g.ending;
    }

-- a token of n bytes
taken_sees : (text : Bytes) (s : Spot) (n : ℕ) (t : Terminal) → NoFeed n s.rest → pays t ≤ n → (Lies text s → Tells text t s.here) → Sees text s (taken t n s)
taken_sees text s n t h c k =
    let o = no_feed_length n s.rest h in let d = length-drop n s.rest in
    (omega (arith, o, d, c), λ g. (lies_further text s n h g, k g))

-- a run of bytes of a class without line feeds
run_no_feed : (p : ℕ → Bool) → ((x : ℕ) → p x ≡ true → feed x ≡ false) → (r : Bytes) → NoFeed (run p r) r
unfolding NoFeed
run_no_feed p c [] = tt
run_no_feed p c (x ∷ r) = go (run_no_feed p c r) (p x) refl
  where
    go : NoFeed (run p r) r → (b : Bool) → p x ≡ b → NoFeed (elim b [ true ↦ run p r + 1 | false ↦ 0 ]) (x ∷ r)
    go ih false e = tt
    go ih true e = let i : suc (run p r) ≡ run p r + 1 = omega arith in subst (λ n. NoFeed n (x ∷ r)) i (c x e, ih)

run_some : (p : ℕ → Bool) (x : ℕ) (r : Bytes) → p x ≡ true → 1 ≤ run p (x ∷ r)
run_some p x r e = rw (e, run) (let h : 1 ≤ run p r + 1 = omega arith in h)

name_byte_no_feed : (x : ℕ) → name_byte x ≡ true → feed x ≡ false
name_byte_no_feed x h = grind (arith, nat_tests)

digit_no_feed : (x : ℕ) → digit x ≡ true → feed x ≡ false
digit_no_feed x h = grind (arith, nat_tests)

plain_no_feed : (x : ℕ) → plain x ≡ true → feed x ≡ false
plain_no_feed x h = grind (arith, nat_tests)

-- a part of what is left is a part of the text
spells : (text : Bytes) (s : Spot) (n k limit : ℕ) → n + k ≤ length s.rest → k ≤ limit → Lies text s → Spells text (s.here.byte + n) limit (take k (drop n s.rest))
spells text s n k limit h w g =
    let d = length-drop n s.rest in
    let e = length-take-le k (drop n s.rest) (omega (arith, d, h)) in
    record {
      bytes = ap (λ i. take i (drop (s.here.byte + n) text)) e ∙ ap (take k) (sym (ap (drop n) g.behind ∙ drop-drop n s.here.byte text));
      inside = omega (arith, e, h, g.inside);
      short = omega (arith, e, w);
    }

-- a keyword pays for no more than its bytes
Cheap : Bytes → Option Keyword → Type 0
Cheap s (Some k) = pays (keyword_terminal k) ≤ length s
Cheap s None = Unit {0}

same_length : (s p : Bytes) → bytes_eq s p ≡ true → length s ≡ length p
same_length [] [] h = refl
same_length [] (y ∷ p) h = absurd (let z : ◌≡◌ {A = ℕ} 0 1 = cc in omega arith)
same_length (x ∷ s) [] h = absurd (let z : ◌≡◌ {A = ℕ} 0 1 = cc in omega arith)
same_length (x ∷ s) (y ∷ p) h = go (eqb x y) (same_length s p) h
  where
    go : (b : Bool) → (bytes_eq s p ≡ true → length s ≡ length p) → (b && bytes_eq s p) ≡ true → suc (length s) ≡ suc (length p)
    go true ih e = ap suc (ih e)
    go false ih e = absurd (let z : ◌≡◌ {A = ℕ} 0 1 = cc in omega arith)

-- each of these words pays for no more than its spelling
abbrev all_cheap : List (Bytes × Keyword) → Bool
all_cheap [] = true
all_cheap (w ∷ ws) = leb (pays (keyword_terminal w.1)) (length w.0) && all_cheap ws

found_cheap : (ws : List (Bytes × Keyword)) (s : Bytes) → all_cheap ws ≡ true → Cheap s (spelt_among ws s)
unfolding Cheap
found_cheap [] s h = tt
found_cheap (w ∷ ws) s h = go (leb (pays (keyword_terminal w.1)) (length w.0)) (bytes_eq s w.0) refl refl h (found_cheap ws s)
  where
    go : (b c : Bool) → leb (pays (keyword_terminal w.1)) (length w.0) ≡ b → bytes_eq s w.0 ≡ c → (b && all_cheap ws) ≡ true →
        (all_cheap ws ≡ true → Cheap s (spelt_among ws s)) → Cheap s (cond c (Some w.1) (spelt_among ws s))
    go true true p e h rest = let l = same_length s w.0 e in unfold Cheap in omega (arith, l, leb-true _ _ p)
    go true false p e h rest = rest h
    go false c p e h rest = absurd (let z : ◌≡◌ {A = ℕ} 0 1 = cc in omega arith)

keyword_cheap : (s : Bytes) → Cheap s (keyword_of s)
unfolding keyword_of
keyword_cheap s = found_cheap spellings s refl

-- a word or a name pays for no more than its bytes, and tells of its place
word_pays_lem : (s : Bytes) (k : Option Keyword) → Cheap s k → 1 ≤ length s → pays (word_or_name k s) ≤ length s
unfolding Cheap
word_pays_lem s (Some k) c h = c
word_pays_lem s None c h = h

keyword_tells : (text : Bytes) (k : Keyword) (p : Place) → Tells text (keyword_terminal k) p
keyword_tells text (keyword.Word w) p = tt
keyword_tells text (keyword.Domain d) p = tt
keyword_tells text (keyword.Logic o) p = tt
keyword_tells text (keyword.Truth b) p = tt

word_tells : (text s : Bytes) (k : Option Keyword) (p : Place) → Spells text p.byte name_bytes s → Tells text (word_or_name k s) p
word_tells text s (Some k) p h = keyword_tells text k p
word_tells text s None p h = h

symbol_pays : (x : Symbol) → pays (symbol_terminal x) ≤ 1
symbol_pays (symbol.Sign g) = omega arith
symbol_pays (symbol.Comparison o) = omega arith
symbol_pays (symbol.Sum o) = omega arith
symbol_pays (symbol.Product o) = omega arith

symbol_tells : (text : Bytes) (x : Symbol) (p : Place) → Tells text (symbol_terminal x) p
symbol_tells text (symbol.Sign g) p = tt
symbol_tells text (symbol.Comparison o) p = tt
symbol_tells text (symbol.Sum o) p = tt
symbol_tells text (symbol.Product o) p = tt

name_sees : (text : Bytes) (x : ℕ) (r : Bytes) (l b : ℕ) → letter x ≡ true → Sees text (spot (x ∷ r) l b) (name_at (spot (x ∷ r) l b))
name_sees text x r l b h = go (leb (run name_byte (x ∷ r)) name_bytes) refl
  where
    some : 1 ≤ run name_byte (x ∷ r)
    some = run_some name_byte x r (grind (arith, nat_tests))

    clear : NoFeed (run name_byte (x ∷ r)) (x ∷ r)
    clear = run_no_feed name_byte name_byte_no_feed (x ∷ r)

    long : length (take (run name_byte (x ∷ r)) (x ∷ r)) ≡ run name_byte (x ∷ r)
    long = length-take-le (run name_byte (x ∷ r)) (x ∷ r) (no_feed_length _ (x ∷ r) clear)

    go : (c : Bool) → leb (run name_byte (x ∷ r)) name_bytes ≡ c →
        Sees text (spot (x ∷ r) l b) (cond c (taken (word_or_name (keyword_of (take (run name_byte (x ∷ r)) (x ∷ r))) (take (run name_byte (x ∷ r)) (x ∷ r))) (run name_byte (x ∷ r)) (spot (x ∷ r) l b)) (faulty TokenTooLarge (place l b)))
    go false e = tt
    go true e =
        let cheap = word_pays_lem (take (run name_byte (x ∷ r)) (x ∷ r)) _ (keyword_cheap (take (run name_byte (x ∷ r)) (x ∷ r))) (omega (arith, long, some)) in
        taken_sees text (spot (x ∷ r) l b) (run name_byte (x ∷ r)) _ clear (omega (arith, cheap, long))
        (λ g. word_tells text _ (keyword_of (take (run name_byte (x ∷ r)) (x ∷ r))) (place l b)
        (subst (λ i. Spells text i name_bytes (take (run name_byte (x ∷ r)) (x ∷ r))) (let z : b + 0 ≡ b = omega arith in z)
        (spells text (spot (x ∷ r) l b) 0 (run name_byte (x ∷ r)) name_bytes (let o = no_feed_length (run name_byte (x ∷ r)) (x ∷ r) clear in omega (arith, o)) (leb-true _ _ e) g)))

integer_sees : (text : Bytes) (x : ℕ) (r : Bytes) (l b : ℕ) → digit x ≡ true → Sees text (spot (x ∷ r) l b) (integer_at integer_max (spot (x ∷ r) l b))
integer_sees text x r l b h = go (leb (value_of (take (run digit (x ∷ r)) (x ∷ r))) integer_max) refl
  where
    go : (c : Bool) → leb (value_of (take (run digit (x ∷ r)) (x ∷ r))) integer_max ≡ c →
        Sees text (spot (x ∷ r) l b) (cond c (taken (integer (take (run digit (x ∷ r)) (x ∷ r))) (run digit (x ∷ r)) (spot (x ∷ r) l b)) (faulty TokenTooLarge (place l b)))
    go false e = tt
    go true e = taken_sees text (spot (x ∷ r) l b) (run digit (x ∷ r)) (integer (take (run digit (x ∷ r)) (x ∷ r))) (run_no_feed digit digit_no_feed (x ∷ r)) (run_some digit x r h) (λ g. leb-true _ _ e)

-- the quote behind a run of bytes is one more byte that is no line feed
quoted : (n : ℕ) (r : Bytes) → NoFeed n r → get_or r n 0 ≡ 34 → NoFeed (suc n) r
unfolding NoFeed
quoted zero [] h e = absurd (let z : ◌≡◌ {A = ℕ} 0 34 = e in omega (arith, z))
quoted zero (x ∷ r) h e = (let z : x ≡ 34 = e in grind (arith, nat_tests), tt)
quoted (suc n) [] h e = absurd h
quoted (suc n) (x ∷ r) h e = (h.0, quoted n r h.1 e)

-- one more byte in front
after_one : (n x : ℕ) (r : Bytes) → feed x ≡ false → NoFeed n r → NoFeed (suc n) (x ∷ r)
unfolding NoFeed
after_one n x r e h = (e, h)

no_bytes : (r : Bytes) → NoFeed 0 r
unfolding NoFeed
no_bytes r = tt

string_sees : (text r : Bytes) (l b : ℕ) → Sees text (spot (34 ∷ r) l b) (string_at (spot (34 ∷ r) l b))
string_sees text r l b = go (eqb (get_or r (run plain r) 0) 34) (leb (run plain r) string_bytes) refl refl
  where
    go : (c d : Bool) → eqb (get_or r (run plain r) 0) 34 ≡ c → leb (run plain r) string_bytes ≡ d →
        Sees text (spot (34 ∷ r) l b) (cond c (cond d (taken (string (take (run plain r) r)) (run plain r + 2) (spot (34 ∷ r) l b)) (faulty TokenTooLarge (place l b))) (faulty NoToken (place l b)))
    go false d e f = tt
    go true false e f = tt
    go true true e f =
        let clear = quoted (run plain r) r (run_no_feed plain plain_no_feed r) (eqb-true _ _ e) in
        let two : suc (suc (run plain r)) ≡ run plain r + 2 = omega arith in
        let o = no_feed_length (suc (run plain r)) r clear in
        taken_sees text (spot (34 ∷ r) l b) (run plain r + 2) (string (take (run plain r) r)) (subst (λ n. NoFeed n (34 ∷ r)) two (after_one (suc (run plain r)) 34 r refl clear)) (omega arith)
        (λ g. spells text (spot (34 ∷ r) l b) 1 (run plain r) string_bytes (omega (arith, o)) (leb-true _ _ f) g)

single_no_feed : (a : ℕ) (x : Symbol) → single_of a ≡ Some x → feed a ≡ false
single_no_feed a x h = grind (arith, nat_tests)

pair_no_feed : (a b : ℕ) (x : Symbol) → pair_of a b ≡ Some x → (feed a ≡ false) × (feed b ≡ false)
pair_no_feed a b x h = (grind (arith, nat_tests), grind (arith, nat_tests))

-- a sign of n bytes before the rest
sign_sees : (text r q : Bytes) (l b n : ℕ) (x : Symbol) → length r - length q ≡ n → 1 ≤ n → NoFeed n r → Sees text (spot r l b) (symbol_scan (sign_then x q) (spot r l b))
sign_sees text r q l b n x e some h =
    let c = symbol_pays x in
    taken_sees text (spot r l b) (length r - length q) _ (subst (λ i. NoFeed i r) (sym e) h) (omega (arith, c, e, some)) (λ g. symbol_tells text x (place l b))

single_sees : (text : Bytes) (a : ℕ) (r : Bytes) (l b : ℕ) → Sees text (spot (a ∷ r) l b) (symbol_scan (before (single_of a) r no_sign) (spot (a ∷ r) l b))
single_sees text a r l b = go (single_of a) refl
  where
    go : (x : Option Symbol) → single_of a ≡ x → Sees text (spot (a ∷ r) l b) (symbol_scan (before x r no_sign) (spot (a ∷ r) l b))
    go None e = tt
    go (Some x) e = sign_sees text (a ∷ r) r l b 1 x (omega arith) (omega arith) (after_one 0 a r (single_no_feed a x e) (no_bytes r))

symbol_sees : (text r : Bytes) (l b : ℕ) → Sees text (spot r l b) (sign_at (spot r l b))
symbol_sees text [] l b = tt
symbol_sees text (a ∷ []) l b = single_sees text a [] l b
symbol_sees text (a ∷ c ∷ r) l b = go (pair_of a c) refl
  where
    go : (x : Option Symbol) → pair_of a c ≡ x → Sees text (spot (a ∷ c ∷ r) l b) (symbol_scan (before x r (before (single_of a) (c ∷ r) no_sign)) (spot (a ∷ c ∷ r) l b))
    go None e = single_sees text a (c ∷ r) l b
    go (Some x) e = let f = pair_no_feed a c x e in sign_sees text (a ∷ c ∷ r) r l b 2 x (omega arith) (omega arith) (after_one 1 a (c ∷ r) f.0 (after_one 0 c r f.1 (no_bytes r)))

token_sees : (text r : Bytes) (l b : ℕ) → Sees text (spot r l b) (token_by r (spot r l b))
token_sees text [] l b = λ g. (g, g.ending)
token_sees text (x ∷ r) l b = go (eqb x 34) (letter x) (digit x) refl refl refl
  where
    go : (c d e : Bool) → eqb x 34 ≡ c → letter x ≡ d → digit x ≡ e →
        Sees text (spot (x ∷ r) l b) (cond c (string_at (spot (x ∷ r) l b)) (cond d (name_at (spot (x ∷ r) l b)) (cond e (integer_at integer_max (spot (x ∷ r) l b)) (sign_at (spot (x ∷ r) l b)))))
    go true d e i j k = subst (λ y. Sees text (spot (y ∷ r) l b) (string_at (spot (y ∷ r) l b))) (sym (eqb-true _ _ i)) (string_sees text r l b)
    go false true e i j k = name_sees text x r l b j
    go false false true i j k = integer_sees text x r l b k
    go false false false i j k = symbol_sees text (x ∷ r) l b

-- behind separators
pub record Skips (text r : Bytes) (l b : ℕ) (q : Spot) : Type 0 where
  pub shorter : length q.rest ≤ length r
  pub lies : Lies text (spot r l b) → Lies text q

tail_lies : (text r : Bytes) (x l m b : ℕ) → end_from (x ∷ r) l b ≡ end_from r m (b + 1) → Lies text (spot (x ∷ r) l b) → Lies text (spot r m (b + 1))
tail_lies text r x l m b e g =
    record {
      small = g.small;
      inside = omega (arith, g.inside);
      behind = ap (drop 1) g.behind ∙ drop-drop 1 b text;
      ending = sym e ∙ g.ending;
    }

skip_sees : (text r : Bytes) (l b : ℕ) → Skips text r l b (skipped r l b)
skip_sees text [] l b = record { shorter = omega arith; lies = λ g. g }
skip_sees text (x ∷ r) l b = go (feed x) (blank x) refl refl (skip_sees text r (l + 1) (b + 1)) (skip_sees text r l (b + 1))
  where
    go : (c d : Bool) → feed x ≡ c → blank x ≡ d → Skips text r (l + 1) (b + 1) (skipped r (l + 1) (b + 1)) → Skips text r l (b + 1) (skipped r l (b + 1)) →
        Skips text (x ∷ r) l b (elim c [ true ↦ skipped r (l + 1) (b + 1) | false ↦ elim d [ true ↦ skipped r l (b + 1) | false ↦ spot (x ∷ r) l b ] ])
    go true d e f h i = record { shorter = omega (arith, h.shorter); lies = λ g. h.lies (tail_lies text r x l (l + 1) b (rw (e, end_from) refl) g) }
    go false true e f h i = record { shorter = omega (arith, i.shorter); lies = λ g. i.lies (tail_lies text r x l l b (rw (e, end_from) refl) g) }
    go false false e f h i = record { shorter = omega arith; lies = λ g. g }

sees_later : (text : Bytes) (s q : Spot) (x : Scan) → length q.rest ≤ length s.rest → (Lies text s → Lies text q) → Sees text q x → Sees text s x
sees_later text s q (found (t at p) z) h k (o, i) = (omega (arith, o, h), λ g. i (k g))
sees_later text s q (ended p z) h k i = λ g. i (k g)
sees_later text s q (faulty r p) h k i = tt

-- what the scanner finds at any spot
pub next_sees : (text : Bytes) (s : Spot) → Sees text s (next s)
next_sees text s =
    let h = skip_sees text s.rest s.here.line s.here.byte in
    let q = skipped s.rest s.here.line s.here.byte in
    sees_later text s q (token_at q) h.shorter h.lies (token_sees text q.rest q.here.line q.here.byte)

-- every token pays for a node
word_pays_some : (w : Word) → 1 ≤ word_pays w
word_pays_some Program = omega arith
word_pays_some End = omega arith
word_pays_some Table = omega arith
word_pays_some If = omega arith
word_pays_some Then = omega arith
word_pays_some Else = omega arith
word_pays_some While = omega arith
word_pays_some Do = omega arith
word_pays_some Read = omega arith
word_pays_some Write = omega arith
word_pays_some Join = omega arith
word_pays_some Not = omega arith
word_pays_some Project = omega arith
word_pays_some Select = omega arith
word_pays_some Exists = omega arith
word_pays_some All = omega arith
word_pays_some Update = omega arith
word_pays_some Extend = omega arith
word_pays_some Rename = omega arith

pub pays_some : (t : Terminal) → 1 ≤ pays t
pays_some (word w) = word_pays_some w
pays_some (domain d) = omega arith
pays_some (sign g) = omega arith
pays_some (logic o) = omega arith
pays_some (comparison o) = omega arith
pays_some (sum o) = omega arith
pays_some (product o) = omega arith
pays_some (truth b) = omega arith
pays_some (integer x) = omega arith
pays_some (string x) = omega arith
pays_some (name x) = omega arith
pays_some (broken r) = omega arith

-- more turns than bytes find the same tokens
tokens_same : (m n : ℕ) (s : Spot) → length s.rest < m → length s.rest < n → tokens_in m s ≡ tokens_in n s
tokens_same zero n s h i = absurd (let z : ⊥ = omega arith in z)
tokens_same (suc m) zero s h i = absurd (let z : ⊥ = omega arith in z)
tokens_same (suc m) (suc n) s h i = go (next s) (next_sees [] s) (tokens_same m n)
  where
    go : (x : Scan) → Sees [] s x → ((q : Spot) → length q.rest < m → length q.rest < n → tokens_in m q ≡ tokens_in n q) → followed (tokens_in m) x ≡ followed (tokens_in n) x
    go (found (t at p) q) (o, k) ih = ap (λ r. (t at p) ∷ r) (let c = pays_some t in ih q (omega (arith, o, c, h)) (omega (arith, o, c, i)))
    go (ended p q) k ih = refl
    go (faulty r p) k ih = refl

-- the tokens of what is left: the next one, and those that follow it
pub following_next : (s : Spot) → following s ≡ followed following (next s)
unfolding following
following_next s = go (next s) (next_sees [] s)
  where
    go : (x : Scan) → Sees [] s x → followed (tokens_in (length s.rest)) x ≡ followed tokens_from x
    go (found (t at p) q) (o, k) = ap (λ r. (t at p) ∷ r) (let c = pays_some t in tokens_same (length s.rest) (suc (length q.rest)) q (omega (arith, o, c)) (omega arith))
    go (ended p q) k = refl
    go (faulty r p) k = refl
