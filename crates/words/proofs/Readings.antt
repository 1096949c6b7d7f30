-- Every text has exactly one list of tokens, the scanner's; and the laws by which a caller takes that list token by token.
use Rattle.std.proofs.Common.{◌≡◌, ℕ, zero, suc, ◌+◌, ◌<◌, ◌≤◌, Bool, true, false, ◌||◌, eqb, List, [], ◌∷◌, ◌++◌, length, take, drop, None, sym, refl, ap, ◌∙◌, subst, ap₂, append-nil, arith}
use mathlib.Core.List.{head-eq_of_cons-eq}
use Rattle.std.proofs.lemmas.List.{length-take-le, length-drop, length-append, drop_at}
use Rattle.std.proofs.lemmas.Bool.Decides.{nat_tests}
use Rattle.fault.specs.declared.rules.Rule.{Rule}
use Rattle.fault.specs.declared.rules.Rule.TheVariants.{NoToken, TokenTooLarge}
use Rattle.words.specs.Letters.{letter, digit, feed, blank}
use Rattle.words.specs.Lexing.{Spot, Scan, Scan.found, Scan.ended, Scan.faulty, place, further, taken, skipped, token_at, next, followed, tokens_in, tokens_from, end_from}
use Rattle.words.specs.Reading.{Spells, Fits, NoneBegins, Begins, along, newline, EveryTextIsScanned, OneListOfTokens}
use Rattle.words.specs.Reading.{Scanned, Scanned.finished, Scanned.line_passed, Scanned.blank_passed, Scanned.token_read, Scanned.token_too_large, Scanned.no_token}
use Rattle.words.specs.Spelling.{pair_of, single_of}
use Rattle.words.specs.Tokens.{Bytes, Place, Terminal, Token, Token.◌at◌, Terminal.broken}
use Rattle.words.proofs.Fronts.{Meet, Meet.longer, Meet.shorter, meet}
use Rattle.words.proofs.Scans.{Found, Found.at_end, Found.token_there, Found.too_large, Found.none_there, Other, other_whole, spot_at, token_found}
use Rattle.words.proofs.Terminals.{as_symbol, terminal_of, spelt_is, one_terminal}

-- a token has a byte at least
some_spelt : (t : Terminal) (s : Bytes) → Spells t s → 0 < length s
some_spelt t [] h = let e = spelt_is t [] h in let z : ◌≡◌ {A = ℕ} 0 1 = cc in absurd (omega arith)
some_spelt t (b ∷ s) h = omega arith

-- and does not begin with a separator

none_at : (k : ℕ) → Other k → single_of k ≡ None → ((c : ℕ) → pair_of k c ≡ None) → (r : Bytes) → terminal_of (k ∷ r) ≡ None
none_at k o one two [] = other_whole k [] o ∙ ap as_symbol one
none_at k o one two (c ∷ []) = other_whole k (c ∷ []) o ∙ ap as_symbol (two c)
none_at k o one two (c ∷ d ∷ r) = other_whole k (c ∷ d ∷ r) o

plainly : (k : ℕ) → eqb k 34 ≡ false → letter k ≡ false → digit k ≡ false → Other k
plainly k q l d = record { no_quote = q; no_letter = l; no_digit = d }

separator_none : (b : ℕ) (r : Bytes) → (feed b || blank b) ≡ true → terminal_of (b ∷ r) ≡ None
separator_none b r h = go (eqb b 10) (eqb b 32) (eqb b 9) (eqb b 13) refl refl refl refl h
  where
    as_at : (k : ℕ) → b ≡ k → terminal_of (k ∷ r) ≡ None → terminal_of (b ∷ r) ≡ None
    as_at k e g = ap (λ z. terminal_of (z ∷ r)) e ∙ g

    go : (x y z w : Bool) → eqb b 10 ≡ x → eqb b 32 ≡ y → eqb b 9 ≡ z → eqb b 13 ≡ w → (x || (y || (z || w))) ≡ true → terminal_of (b ∷ r) ≡ None
    go true y z w e f g i h = as_at 10 (grind (arith, nat_tests)) (none_at 10 (plainly 10 refl refl refl) refl (λ c. refl) r)
    go false true z w e f g i h = as_at 32 (grind (arith, nat_tests)) (none_at 32 (plainly 32 refl refl refl) refl (λ c. refl) r)
    go false false true w e f g i h = as_at 9 (grind (arith, nat_tests)) (none_at 9 (plainly 9 refl refl refl) refl (λ c. refl) r)
    go false false false true e f g i h = as_at 13 (grind (arith, nat_tests)) (none_at 13 (plainly 13 refl refl refl) refl (λ c. refl) r)
    go false false false false e f g i h = let z : ◌≡◌ {A = ℕ} 0 1 = cc in absurd (omega arith)

solid_spelt : (t : Terminal) (b : ℕ) (r : Bytes) → Spells t (b ∷ r) → (feed b || blank b) ≡ false
solid_spelt t b r h = go (feed b || blank b) refl
  where
    go : (x : Bool) → (feed b || blank b) ≡ x → x ≡ false
    go false e = refl
    go true e =
        let f = spelt_is t (b ∷ r) h in let g = separator_none b r e in let z : ◌≡◌ {A = ℕ} 0 1 = cc in absurd (omega arith)

-- the separators

-- one byte: a line feed, a blank, or neither
abbrev passed : Bool → Bool → Spot → Spot → Spot → Spot
passed y z a b c = elim y [ true ↦ a | false ↦ elim z [ true ↦ b | false ↦ c ] ]

skipped_within : (s : Bytes) (l b : ℕ) → length (skipped s l b).rest ≤ length s
skipped_within [] l b = omega arith
skipped_within (x ∷ s) l b = go (feed x) (blank x) (skipped_within s (l + 1) (b + 1)) (skipped_within s l (b + 1))
  where
    go : (y z : Bool) → length (skipped s (l + 1) (b + 1)).rest ≤ length s → length (skipped s l (b + 1)).rest ≤ length s →
        length (passed y z (skipped s (l + 1) (b + 1)) (skipped s l (b + 1)) (spot_at (x ∷ s) (place l b))).rest ≤ length (x ∷ s)
    go true z p q = omega arith
    go false true p q = omega arith
    go false false p q = omega arith

skipped_solid : (s : Bytes) (l b c : ℕ) (r : Bytes) → (skipped s l b).rest ≡ c ∷ r → (feed c || blank c) ≡ false
skipped_solid [] l b c r h = let z : ◌≡◌ {A = ℕ} 0 1 = cc in absurd (omega arith)
skipped_solid (x ∷ s) l b c r h = go (feed x) (blank x) refl refl (skipped_solid s (l + 1) (b + 1) c r) (skipped_solid s l (b + 1) c r) h
  where
    go : (y z : Bool) → feed x ≡ y → blank x ≡ z →
        ((skipped s (l + 1) (b + 1)).rest ≡ c ∷ r → (feed c || blank c) ≡ false) → ((skipped s l (b + 1)).rest ≡ c ∷ r → (feed c || blank c) ≡ false) →
        (passed y z (skipped s (l + 1) (b + 1)) (skipped s l (b + 1)) (spot_at (x ∷ s) (place l b))).rest ≡ c ∷ r → (feed c || blank c) ≡ false
    go true z e f p q h = p h
    go false true e f p q h = q h
    go false false e f p q h = ap₂ (λ u v. u || v) (ap feed (sym (head-eq_of_cons-eq h)) ∙ e) (ap blank (sym (head-eq_of_cons-eq h)) ∙ f)

-- what is scanned behind the separators is scanned with them
passing : (s : Bytes) (l b : ℕ) (ts : List Token) → Scanned (skipped s l b).here (skipped s l b).rest ts → Scanned (place l b) s ts
passing [] l b ts d = d
passing (x ∷ s) l b ts d = go (feed x) (blank x) refl refl (passing s (l + 1) (b + 1) ts) (passing s l (b + 1) ts) d
  where
    go : (y z : Bool) → feed x ≡ y → blank x ≡ z →
        (Scanned (skipped s (l + 1) (b + 1)).here (skipped s (l + 1) (b + 1)).rest ts → Scanned (place (l + 1) (b + 1)) s ts) →
        (Scanned (skipped s l (b + 1)).here (skipped s l (b + 1)).rest ts → Scanned (place l (b + 1)) s ts) →
        Scanned (passed y z (skipped s (l + 1) (b + 1)) (skipped s l (b + 1)) (spot_at (x ∷ s) (place l b))).here
        (passed y z (skipped s (l + 1) (b + 1)) (skipped s l (b + 1)) (spot_at (x ∷ s) (place l b))).rest ts →
        Scanned (place l b) (x ∷ s) ts
    go true z e f p q d =
        let ten : 10 ≡ x = grind (arith, nat_tests) in subst (λ k. Scanned (place l b) (k ∷ s) ts) ten (line_passed (p d))
    go false true e f p q d = blank_passed f (q d)
    go false false e f p q d = d

-- a token leaves less than was there

abbrev Shorter : Spot → Scan → Type 0
Shorter s (found t k) = length k.rest < length s.rest
Shorter s (ended p k) = Unit {0}
Shorter s (faulty r p) = Unit {0}

found_shorter : (s : Spot) (x : Scan) → Found s x → Shorter s x
found_shorter s x (at_end e) = tt
found_shorter s x (token_there t n within begins fits) =
    let some = some_spelt t (take n s.rest) begins.spelt in
    let size = length-take-le n s.rest within in
    omega (arith, some, size, length-drop n s.rest)
found_shorter s x (too_large t n begins fits) = tt
found_shorter s x (none_there b r e none) = tt

pub next_shorter : (s k : Spot) (t : Token) → next s ≡ found t k → length k.rest < length s.rest
next_shorter s k t h =
    let on : Spot = skipped s.rest s.here.line s.here.byte in
    let less : length k.rest < length on.rest = subst (Shorter on) h (found_shorter on (token_at on) (token_found on.rest on.here)) in
    omega (arith, skipped_within s.rest s.here.line s.here.byte)

-- every text is scanned

gather : (m : ℕ) (s : Spot) (x : Scan) → Found s x → ((c : ℕ) (r : Bytes) → s.rest ≡ c ∷ r → (feed c || blank c) ≡ false) →
    ((k : Spot) → length k.rest < length s.rest → Scanned k.here k.rest (tokens_in m k)) → Scanned s.here s.rest (followed (tokens_in m) x)
gather m s x (at_end e) solid more = subst (λ z. Scanned s.here z []) (sym e) finished
gather m s x (token_there t n within begins fits) solid more =
    let size = length-take-le n s.rest within in
    let some = some_spelt t (take n s.rest) begins.spelt in
    let behind : Scanned (along n s.here) (drop n s.rest) (tokens_in m (further n s)) = more (further n s) (omega (arith, length-drop n s.rest)) in
    token_read t (take n s.rest) (drop n s.rest) begins fits
    (subst (λ k. Scanned (along k s.here) (drop n s.rest) (tokens_in m (further n s))) (sym size) behind)
gather m s x (too_large t n begins fits) solid more = token_too_large t (take n s.rest) (drop n s.rest) begins fits
gather m s x (none_there b r e none) solid more =
    subst (λ z. Scanned s.here z ((broken NoToken at s.here) ∷ [])) (sym e) (no_token (solid b r e) (subst NoneBegins e none))

scanned_in : (m : ℕ) (s : Bytes) (p : Place) → length s < m → Scanned p s (tokens_in m (spot_at s p))
scanned_in zero s p h = absurd (omega arith)
scanned_in (suc m) s p h =
    let on : Spot = skipped s p.line p.byte in
    passing s p.line p.byte _
    (gather m on (token_at on) (token_found on.rest on.here) (skipped_solid s p.line p.byte)
    (λ k less. scanned_in m k.rest k.here (omega (arith, skipped_within s p.line p.byte))))

pub every_text_is_scanned : EveryTextIsScanned
every_text_is_scanned text = scanned_in (suc (length text)) text (place 1 0) (omega arith)

-- and in one way

-- two longest tokens of the same bytes are one
one_begin : (s : Bytes) (t u : Terminal) (f g r q : Bytes) → Begins s t f r → Begins s u g q → (t ≡ u) × (f ≡ g)
one_begin s t u f g r q a b = go (meet f g r q (sym a.cut ∙ b.cut))
  where
    same : f ≡ g → (t ≡ u) × (f ≡ g)
    same e = (one_terminal t u g (subst (Spells t) e a.spelt) b.spelt, e)

    go : Meet f g r q → (t ≡ u) × (f ≡ g)
    go (longer [] h k) = same (sym (h ∙ append-nil f))
    go (longer (c ∷ more) h k) = absurd (a.longest (c ∷ more) q u k (omega arith) (subst (Spells u) h b.spelt))
    go (shorter [] h k) = same (h ∙ append-nil g)
    go (shorter (c ∷ more) h k) = absurd (b.longest (c ∷ more) r t k (omega arith) (subst (Spells t) h a.spelt))

-- what is found where a longest token begins
found_token : (s : Spot) (x : Scan) (t : Terminal) (f r : Bytes) → Found s x → Begins s.rest t f r → Fits t → x ≡ taken t (length f) s
found_token s x t f r (at_end e) b fits =
    let some = some_spelt t f b.spelt in let size = ap length (sym e ∙ b.cut) in absurd (omega (arith, length-append f r))
found_token s x t f r (token_there u n within c h) b fits =
    let o = one_begin s.rest u t (take n s.rest) f (drop n s.rest) r c b in
    ap₂ (λ y z. taken y z s) o.0 (sym (length-take-le n s.rest within) ∙ ap length o.1)
found_token s x t f r (too_large u n c h) b fits =
    let o = one_begin s.rest u t (take n s.rest) f (drop n s.rest) r c b in absurd (h (subst Fits (sym o.0) fits))
found_token s x t f r (none_there c q e none) b fits = absurd (none f r t b.cut b.spelt)

found_large : (s : Spot) (x : Scan) (t : Terminal) (f r : Bytes) → Found s x → Begins s.rest t f r → ¬ (Fits t) → x ≡ faulty TokenTooLarge s.here
found_large s x t f r (at_end e) b large =
    let some = some_spelt t f b.spelt in let size = ap length (sym e ∙ b.cut) in absurd (omega (arith, length-append f r))
found_large s x t f r (token_there u n within c h) b large =
    let o = one_begin s.rest u t (take n s.rest) f (drop n s.rest) r c b in absurd (large (subst Fits o.0 h))
found_large s x t f r (too_large u n c h) b large = refl
found_large s x t f r (none_there c q e none) b large = absurd (none f r t b.cut b.spelt)

found_none : (s : Spot) (x : Scan) (b : ℕ) (r : Bytes) → Found s x → s.rest ≡ b ∷ r → NoneBegins s.rest → x ≡ faulty NoToken s.here
found_none s x b r (at_end e) some none = let z : ◌≡◌ {A = ℕ} 0 1 = cc in absurd (omega arith)
found_none s x b r (token_there u n within c h) some none = absurd (none _ _ u c.cut c.spelt)
found_none s x b r (too_large u n c h) some none = absurd (none _ _ u c.cut c.spelt)
found_none s x b r (none_there c q e n) some none = refl

-- nothing is passed in front of a byte that is no separator
skip_none : (x : ℕ) (s : Bytes) (l b : ℕ) → (feed x || blank x) ≡ false → skipped (x ∷ s) l b ≡ spot_at (x ∷ s) (place l b)
skip_none x s l b h = go (feed x) (blank x) h
  where
    go : (y z : Bool) → (y || z) ≡ false →
        passed y z (skipped s (l + 1) (b + 1)) (skipped s l (b + 1)) (spot_at (x ∷ s) (place l b)) ≡ spot_at (x ∷ s) (place l b)
    go true z h = let w : ◌≡◌ {A = ℕ} 0 1 = cc in absurd (omega arith)
    go false true h = let w : ◌≡◌ {A = ℕ} 0 1 = cc in absurd (omega arith)
    go false false h = refl

skip_blank : (x : ℕ) (s : Bytes) (l b : ℕ) → blank x ≡ true → skipped (x ∷ s) l b ≡ skipped s l (b + 1)
skip_blank x s l b h = go (feed x) (blank x) (grind (arith, nat_tests)) h
  where
    go : (y z : Bool) → y ≡ false → z ≡ true →
        passed y z (skipped s (l + 1) (b + 1)) (skipped s l (b + 1)) (spot_at (x ∷ s) (place l b)) ≡ skipped s l (b + 1)
    go true z e f = let w : ◌≡◌ {A = ℕ} 0 1 = cc in absurd (omega arith)
    go false true e f = refl
    go false false e f = let w : ◌≡◌ {A = ℕ} 0 1 = cc in absurd (omega arith)

-- the bytes of a token are not passed
skip_token : (s : Bytes) (p : Place) (t : Terminal) (f r : Bytes) → Begins s t f r → skipped s p.line p.byte ≡ spot_at s p
skip_token s p t [] r b = absurd (omega (arith, some_spelt t [] b.spelt))
skip_token s p t (c ∷ f) r b =
    subst (λ z. skipped z p.line p.byte ≡ spot_at z p) (sym b.cut) (skip_none c (f ++ r) p.line p.byte (solid_spelt t c f b.spelt))

only : (p : Place) (s : Bytes) (ts : List Token) → Scanned p s ts → (m : ℕ) → length s < m → ts ≡ tokens_in m (spot_at s p)
only p s ts d zero h = absurd (omega arith)
only p s ts finished (suc m) h = refl
only p s ts (line_passed {s = r} d) (suc m) h = only (newline p) r ts d (suc m) (omega arith)
only p s ts (blank_passed {b = b} {s = r} e d) (suc m) h =
    only (along 1 p) r ts d (suc m) (omega arith) ∙ ap (λ k. followed (tokens_in m) (token_at k)) (sym (skip_blank b r p.line p.byte e))
only p s ts (token_read {ts = us} t f r b fits d) (suc m) h =
    let size = ap length b.cut in
    let some = some_spelt t f b.spelt in
    let rest = only (along (length f) p) r us d m (omega (arith, length-append f r)) in
    let behind : drop (length f) s ≡ r = ap (drop (length f)) b.cut ∙ drop_at f r (length f) refl in
    let there = found_token (spot_at s p) (token_at (spot_at s p)) t f r (token_found s p) b fits in
    ap (λ z. (t at p) ∷ z) (rest ∙ ap (λ z. tokens_in m (spot_at z (along (length f) p))) (sym behind))
    ∙ sym (ap (λ k. followed (tokens_in m) (token_at k)) (skip_token s p t f r b) ∙ ap (followed (tokens_in m)) there)
only p s ts (token_too_large t f r b large) (suc m) h =
    let there = found_large (spot_at s p) (token_at (spot_at s p)) t f r (token_found s p) b large in
    sym (ap (λ k. followed (tokens_in m) (token_at k)) (skip_token s p t f r b) ∙ ap (followed (tokens_in m)) there)
only p s ts (no_token {b = b} {s = r} solid none) (suc m) h =
    let there = found_none (spot_at (b ∷ r) p) (token_at (spot_at (b ∷ r) p)) b r (token_found (b ∷ r) p) refl none in
    sym (ap (λ k. followed (tokens_in m) (token_at k)) (skip_none b r p.line p.byte solid) ∙ ap (followed (tokens_in m)) there)

pub one_list_of_tokens : OneListOfTokens
one_list_of_tokens p s ts us a b =
    only p s ts a (suc (length s)) (omega arith) ∙ sym (only p s us b (suc (length s)) (omega arith))

-- the list of tokens, taken token by token

tokens_enough : (m n : ℕ) (s : Spot) → length s.rest < m → length s.rest < n → tokens_in m s ≡ tokens_in n s
tokens_enough zero n s h k = absurd (omega arith)
tokens_enough (suc m) zero s h k = absurd (omega arith)
tokens_enough (suc m) (suc n) s h k = go (next s) refl (λ x less. tokens_enough m n x (omega arith) (omega arith))
  where
    go : (x : Scan) → next s ≡ x → ((k : Spot) → length k.rest < length s.rest → tokens_in m k ≡ tokens_in n k) → followed (tokens_in m) x ≡ followed (tokens_in n) x
    go (found t k) e same = ap (λ z. t ∷ z) (same k (next_shorter s k t e))
    go (ended p k) e same = refl
    go (faulty r p) e same = refl

pub tokens_found : (s k : Spot) (t : Token) → next s ≡ found t k → tokens_from s ≡ t ∷ tokens_from k
tokens_found s k t h =
    let less = next_shorter s k t h in
    ap (followed (tokens_in (length s.rest))) h
    ∙ ap (λ z. t ∷ z) (tokens_enough (length s.rest) (suc (length k.rest)) k less (omega arith))

pub tokens_ended : (s k : Spot) (p : Place) → next s ≡ ended p k → tokens_from s ≡ []
tokens_ended s k p h = ap (followed (tokens_in (length s.rest))) h

pub tokens_broken : (s : Spot) (r : Rule) (p : Place) → next s ≡ faulty r p → tokens_from s ≡ (broken r at p) ∷ []
tokens_broken s r p h = ap (followed (tokens_in (length s.rest))) h

-- the end of the text stands behind its last byte

skipped_end : (s : Bytes) (l b : ℕ) → (skipped s l b).rest ≡ [] → (skipped s l b).here ≡ end_from s l b
skipped_end [] l b h = refl
skipped_end (x ∷ s) l b h = go (feed x) (blank x) (skipped_end s (l + 1) (b + 1)) (skipped_end s l (b + 1)) h
  where
    go : (y z : Bool) → ((skipped s (l + 1) (b + 1)).rest ≡ [] → (skipped s (l + 1) (b + 1)).here ≡ end_from s (l + 1) (b + 1)) →
        ((skipped s l (b + 1)).rest ≡ [] → (skipped s l (b + 1)).here ≡ end_from s l (b + 1)) →
        (passed y z (skipped s (l + 1) (b + 1)) (skipped s l (b + 1)) (spot_at (x ∷ s) (place l b))).rest ≡ [] →
        (passed y z (skipped s (l + 1) (b + 1)) (skipped s l (b + 1)) (spot_at (x ∷ s) (place l b))).here ≡ elim y as (λ _. Place) [ true ↦ end_from s (l + 1) (b + 1) | false ↦ end_from s l (b + 1) ]
    go true z p q h = p h
    go false true p q h = q h
    go false false p q h = let w : ◌≡◌ {A = ℕ} 0 1 = cc in absurd (omega arith)

abbrev Ends : Spot → Scan → Type 0
Ends s (found t k) = Unit {0}
Ends s (ended p k) = (s.rest ≡ []) × (p ≡ s.here)
Ends s (faulty r p) = Unit {0}

found_ends : (s : Spot) (x : Scan) → Found s x → Ends s x
found_ends s x (at_end e) = (e, refl)
found_ends s x (token_there t n within begins fits) = tt
found_ends s x (too_large t n begins fits) = tt
found_ends s x (none_there b r e none) = tt

pub ended_place : (s k : Spot) (p : Place) → next s ≡ ended p k → p ≡ end_from s.rest s.here.line s.here.byte
ended_place s k p h =
    let on : Spot = skipped s.rest s.here.line s.here.byte in
    let e : (on.rest ≡ []) × (p ≡ on.here) = subst (Ends on) h (found_ends on (token_at on) (token_found on.rest on.here)) in
    e.1 ∙ skipped_end s.rest s.here.line s.here.byte e.0
