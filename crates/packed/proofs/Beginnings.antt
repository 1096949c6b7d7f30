-- Where tables begin, as the directory changes.
use Rattle.std.proofs.Common.{◌≡◌, ℕ, zero, suc, ◌+◌, ◌-◌, ◌<◌, true, eqb, List, [], ◌∷◌, ◌++◌, length, get_or, take, set, ℤ, Result, Ok, Err, sym, refl, ap, ◌∙◌, add-zero, add_assoc, arith}
use Rattle.std.proofs.lemmas.Bool.{and_parts, and_from, eqb-true, eq-eqb}
use Rattle.std.proofs.lemmas.List.{set_at, length-take-le}
use Rattle.fault.specs.declared.rules.Fault.{Fault}
use Rattle.directory.specs.Tables.{Opened}
use Rattle.directory.specs.Run.{extent_of, extent}
use Rattle.directory.specs.declared.entry.Entry.{Entry}
use Rattle.directory.proofs.Keeping.{extent_drop}
use Rattle.directory.proofs.Growing.{last_split}
use Rattle.directory.specs.Starts.{starts}

-- two directories side by side
pub starts_append : (n : ℕ) (es fs : List Entry) → starts n es ≡ true → starts (n + extent es) fs ≡ true → starts n (es ++ fs) ≡ true
starts_append n [] fs h k = ap (λ m. starts m fs) (sym (add-zero n)) ∙ k
starts_append n (e ∷ es) fs h k =
    let p = and_parts (eqb e.first n) (starts (n + extent_of e) es) h in
    and_from (eqb e.first n) (starts (n + extent_of e) (es ++ fs)) p.0 (starts_append (n + extent_of e) es fs p.1 (ap (λ m. starts m fs) (add_assoc n (extent_of e) (extent es)) ∙ k))

-- the first of them alone
pub starts_front : (n : ℕ) (es fs : List Entry) → starts n (es ++ fs) ≡ true → starts n es ≡ true
starts_front n [] fs h = refl
starts_front n (e ∷ es) fs h =
    let p = and_parts (eqb e.first n) (starts (n + extent_of e) (es ++ fs)) h in
    and_from (eqb e.first n) (starts (n + extent_of e) es) p.0 (starts_front (n + extent_of e) es fs p.1)

-- an entry knows where its table begins
starts_get_d : (n : ℕ) (es : List Entry) (t : ℕ) (d : Entry) → starts n es ≡ true → t < length es → (get_or es t d).first ≡ n + extent (take t es)
starts_get_d n [] t d h l = absurd (omega arith)
starts_get_d n (e ∷ es) zero d h l = eqb-true e.first n (and_parts (eqb e.first n) (starts (n + extent_of e) es) h).0 ∙ sym (add-zero n)
starts_get_d n (e ∷ es) (suc t) d h l =
    starts_get_d (n + extent_of e) es t d (and_parts (eqb e.first n) (starts (n + extent_of e) es) h).1 (omega arith) ∙ add_assoc n (extent_of e) (extent (take t es))

pub begins_at : (es : List Entry) (t : ℕ) (e : Entry) → starts 0 es ≡ true → t < length es → e ≡ get_or es t e → e.first ≡ extent (take t es)
begins_at es t e h l is = ap (λ x. x.first) is ∙ starts_get_d 0 es t e h l ∙ omega arith

-- a table more, at the end of the run
pub starts_open : (es : List Entry) (e : Entry) → starts 0 es ≡ true → e.first ≡ extent es → starts 0 (es ++ e ∷ []) ≡ true
starts_open es e h is = starts_append 0 es (e ∷ []) h (and_from (eqb e.first (0 + extent es)) true (eq-eqb e.first (0 + extent es) (omega (arith, is))) refl)

-- the same, from what opening a table in the directory comes to
pub starts_opened : (es : List Entry) (cs : List ℤ) (f w : ℕ) (r : Result (Unit {0}) Fault) (fs : List Entry) → starts 0 es ≡ true → extent es ≡ length cs → f ≡ length cs → Opened es w (record { first = f; width = w; count = 0 }) r fs → starts 0 fs ≡ true
starts_opened es cs f w (Ok u) fs h full at o = ap (starts 0) o.1.1.1 ∙ starts_open es (record { first = f; width = w; count = 0 }) h (omega arith)
starts_opened es cs f w (Err x) fs h full at o = ap (starts 0) o.0 ∙ h

-- the last table begins where those before it end
pub starts_end : (es : List Entry) (e : Entry) → starts 0 (es ++ e ∷ []) ≡ true → e.first ≡ extent es
starts_end es e h = go 0 es h ∙ omega arith
  where
    go : (n : ℕ) (es : List Entry) → starts n (es ++ e ∷ []) ≡ true → e.first ≡ n + extent es
    go n [] h = eqb-true e.first n (and_parts (eqb e.first n) true h).0 ∙ sym (add-zero n)
    go n (x ∷ es) h = go (n + extent_of x) es (and_parts (eqb x.first n) (starts (n + extent_of x) (es ++ e ∷ [])) h).1 ∙ add_assoc n (extent_of x) (extent es)

-- and may have other rows there
pub starts_grown : (es : List Entry) (e d : Entry) → 0 < length es → e ≡ get_or es (length es - 1) e → starts 0 es ≡ true → d.first ≡ e.first → starts 0 (set es (length es - 1) d) ≡ true
starts_grown es e d some is h same =
    let front : List Entry = take (length es - 1) es in
    let two : es ≡ front ++ e ∷ [] = last_split es e some is in
    let old : starts 0 (front ++ e ∷ []) ≡ true = ap (starts 0) (sym two) ∙ h in
    let new : set es (length es - 1) d ≡ front ++ d ∷ [] = ap (λ x. set x (length es - 1) d) two ∙ set_at front e [] d (length es - 1) (length-take-le (length es - 1) es (omega arith)) in
    ap (starts 0) new ∙ starts_open front d (starts_front 0 front (e ∷ []) old) (same ∙ starts_end front e old)

-- Dropping the last table.

pub starts_dropped : (es fs : List Entry) (e : Entry) → es ≡ fs ++ e ∷ [] → starts 0 es ≡ true → starts 0 fs ≡ true
starts_dropped es fs e is h = starts_front 0 fs (e ∷ []) (ap (starts 0) (sym is) ∙ h)

-- where it begins, the run is cut
pub cut_at : (es fs : List Entry) (e : Entry) (cs ds : List ℤ) → es ≡ fs ++ e ∷ [] → extent es ≡ length cs → starts 0 es ≡ true → ds ≡ take e.first cs → ds ≡ take (length cs - extent_of e) cs
cut_at es fs e cs ds is full h cut =
    let at : e.first ≡ extent fs = starts_end fs e (ap (starts 0) (sym is) ∙ h) in
    cut ∙ ap (λ n. take n cs) (omega (arith, at, extent_drop es fs e is))

-- Adding to the last table, which e is of.

pub last_begins : (es : List Entry) (e : Entry) → 0 < length es → e ≡ get_or es (length es - 1) e → starts 0 es ≡ true → e.first ≡ extent (take (length es - 1) es)
last_begins es e some is h = begins_at es (length es - 1) e h (omega arith) is

pub add_begun : (es fs : List Entry) (e : Entry) → 0 < length es → e ≡ get_or es (length es - 1) e → starts 0 es ≡ true → fs ≡ set es (length es - 1) (record { first = e.first; width = e.width; count = e.count + 1 }) → starts 0 fs ≡ true
add_begun es fs e some is h fs_is =
    ap (starts 0) fs_is ∙ starts_grown es e (record { first = e.first; width = e.width; count = e.count + 1 }) some is h refl
