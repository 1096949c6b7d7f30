-- Passes: they are counted, and more of them only add lines.
use Rattle.std.proofs.Common.{◌≡◌, ℕ, zero, suc, ◌+◌, ◌-◌, ◌<◌, ◌≤◌, Bool, true, false, cond, List, [], ◌∷◌, ◌++◌, sym, refl, ap, ◌∙◌, subst, append_assoc, append-nil, arith}
use mathlib.Core.Option.{Option, none, some}
use Rattle.plan.specs.Plan as plan
use Rattle.plan.specs.Plan.{Term, type_of, Action, Actions, Actions.◌then◌, Body}
use Rattle.schema.specs.Kinds.{ValueType}
use Rattle.words.specs.Tokens.{Bytes, Place}
use Rattle.meaning.specs.Evaluation.{truth_of, value_in, evaluate}
use Rattle.meaning.specs.Laws.{Begins, MorePassesAddLines, EndingsStay, PassesAreCounted}
use Rattle.meaning.specs.Meaning.{End, End.finished, End.failed, End.without_text, End.without_pass, Ran, ran, behind, on_end, onward, with_value, when_read, with_text, with_pass, turns, with_name, name_in, closing, value_of_text, run, run_all, run_body}
use Rattle.meaning.specs.Values.{Datum, Computed, Computed.computed, Computed.fails}

abbrev Runs : Type 0
Runs = ℕ → List Datum → List Bytes → Ran

-- n passes were given
pub record Counted (n : ℕ) (r : Ran) : Type 0 where
  pub within : r.passes ≤ n
  pub used : r.end ≡ without_pass → r.passes ≡ n

-- q is what r becomes with more passes
abbrev StaysBy : End → Ran → Ran → Type 0
StaysBy (finished vars texts) r q = q ≡ r
StaysBy (failed rule p) r q = q ≡ r
StaysBy without_text r q = q ≡ r
StaysBy without_pass r q = Begins r.lines q.lines

abbrev pub Stays : Ran → Ran → Type 0
Stays r q = StaysBy r.end r q

pub record Lawful (f : Runs) : Type 0 where
  pub counted : (n : ℕ) (vars : List Datum) (texts : List Bytes) → Counted n (f n vars texts)
  pub stays : (n j : ℕ) (vars : List Datum) (texts : List Bytes) → Stays (f n vars texts) (f (n + j) vars texts)

-- Beginnings.

begins_all : (ls : List Bytes) → Begins ls ls
begins_all ls = ([], append-nil ls)

begins_more : (ls ms : List Bytes) → Begins ls (ls ++ ms)
begins_more ls ms = (ms, refl)

begins_on : (a b c : List Bytes) → Begins a b → Begins b c → Begins a c
begins_on a b c p q = (p.0 ++ q.0, sym (append_assoc a p.0 q.0) ∙ (ap (λ z. z ++ q.0) p.1 ∙ q.1))

begins_behind : (ls a b : List Bytes) → Begins a b → Begins (ls ++ a) (ls ++ b)
begins_behind ls a b p = (p.0, append_assoc ls a p.0 ∙ ap (λ z. ls ++ z) p.1)

-- what goes on only adds lines
onward_begins : (n : ℕ) (ls : List Bytes) (k : ℕ) (e : End) (g : Runs) → Begins ls (on_end ls k e n g).lines
onward_begins n ls k (finished vars texts) g = begins_more ls _
onward_begins n ls k (failed r p) g = begins_all ls
onward_begins n ls k without_text g = begins_all ls
onward_begins n ls k without_pass g = begins_all ls

-- Runs that need no pass.

counted_at_once : (n : ℕ) (ls : List Bytes) (vars : List Datum) (texts : List Bytes) → Counted n (ran ls 0 (finished vars texts))
counted_at_once n ls vars texts = record { within = omega arith; used = λ h. let z : ◌≡◌ {A = ℕ} 0 1 = cc in absurd (omega arith) }

stays_same : (r : Ran) → Stays r r
stays_same r = go r.end
  where
    go : (e : End) → StaysBy e r r
    go (finished vars texts) = refl
    go (failed q p) = refl
    go without_text = refl
    go without_pass = begins_all r.lines

-- Runs behind others.

counted_behind : (n k : ℕ) (ls : List Bytes) (r : Ran) → Counted n r → Counted (k + n) (behind ls k r)
counted_behind n k ls r c = record { within = omega (arith, c.within); used = λ h. ap (λ z. k + z) (c.used h) }

stays_behind : (ls : List Bytes) (k : ℕ) (r q : Ran) → Stays r q → Stays (behind ls k r) (behind ls k q)
stays_behind ls k r q h = go r.end h
  where
    go : (e : End) → StaysBy e r q → StaysBy e (behind ls k r) (behind ls k q)
    go (finished vars texts) s = ap (behind ls k) s
    go (failed rule p) s = ap (behind ls k) s
    go without_text s = ap (behind ls k) s
    go without_pass s = begins_behind ls r.lines q.lines s

counted_onward : (n : ℕ) (ls : List Bytes) (k : ℕ) (e : End) (g : Runs) → Counted n (ran ls k e) →
    ((vars : List Datum) (texts : List Bytes) → Counted (n - k) (g (n - k) vars texts)) → Counted n (on_end ls k e n g)
counted_onward n ls k (finished vars texts) g c more =
    let within = c.within in
    let whole : k + (n - k) ≡ n = omega arith in
    subst (λ m. Counted m (behind ls k (g (n - k) vars texts))) whole (counted_behind (n - k) k ls (g (n - k) vars texts) (more vars texts))
counted_onward n ls k (failed r p) g c more = c
counted_onward n ls k without_text g c more = c
counted_onward n ls k without_pass g c more = c

stays_onward : (n j : ℕ) (ls : List Bytes) (k : ℕ) (e : End) (q : Ran) (g h : Runs) → StaysBy e (ran ls k e) q → k ≤ n →
    ((vars : List Datum) (texts : List Bytes) → Stays (g (n - k) vars texts) (h ((n - k) + j) vars texts)) → Stays (on_end ls k e n g) (onward q (n + j) h)
stays_onward n j ls k (finished vars texts) q g h s within more =
    let left : (n - k) + j ≡ (n + j) - k = omega arith in
    subst (λ z. Stays (behind ls k (g (n - k) vars texts)) (onward z (n + j) h)) (sym s)
    (subst (λ m. Stays (behind ls k (g (n - k) vars texts)) (behind ls k (h m vars texts))) left
    (stays_behind ls k (g (n - k) vars texts) (h ((n - k) + j) vars texts) (more vars texts)))
stays_onward n j ls k (failed r p) q g h s within more = ap (λ z. onward z (n + j) h) s
stays_onward n j ls k without_text q g h s within more = ap (λ z. onward z (n + j) h) s
stays_onward n j ls k without_pass q g h s within more =
    begins_on ls q.lines _ s (onward_begins (n + j) q.lines q.passes q.end h)

-- Choices.

counted_value : (n : ℕ) (x : Computed Datum) (f : Datum → Ran) → ((d : Datum) → Counted n (f d)) → Counted n (with_value x f)
counted_value n (computed d) f h = h d
counted_value n (fails r p) f h = record { within = omega arith; used = λ e. let z : ◌≡◌ {A = ℕ} 0 1 = cc in absurd (omega arith) }

stays_value : (x : Computed Datum) (f g : Datum → Ran) → ((d : Datum) → Stays (f d) (g d)) → Stays (with_value x f) (with_value x g)
stays_value (computed d) f g h = h d
stays_value (fails r p) f g h = refl

counted_cond : (n : ℕ) (b : Bool) (x y : Ran) → Counted n x → Counted n y → Counted n (cond b x y)
counted_cond n true x y p q = p
counted_cond n false x y p q = q

stays_cond : (b : Bool) (x y u v : Ran) → Stays x u → Stays y v → Stays (cond b x y) (cond b u v)
stays_cond true x y u v p q = p
stays_cond false x y u v p q = q

counted_name : (n : ℕ) (s : Option Term) (vars : List Datum) (f : Option Bytes → Ran) → ((name : Option Bytes) → Counted n (f name)) → Counted n (with_name s vars f)
counted_name n none vars f h = h none
counted_name n (some t) vars f h = counted_value n (evaluate t vars []) _ (λ d. h (some (name_in (value_in d))))

lacking_counted : (n : ℕ) → Counted n (ran [] 0 without_text)
lacking_counted n = record { within = omega arith; used = λ e. let z : ◌≡◌ {A = ℕ} 0 1 = cc in absurd (omega arith) }

counted_read : (n : ℕ) (o : Option Datum) (texts : List Bytes) (f : Datum → List Bytes → Ran) → ((d : Datum) (ts : List Bytes) → Counted n (f d ts)) → Counted n (when_read o texts f)
counted_read n none texts f h = lacking_counted n
counted_read n (some d) texts f h = h d texts

counted_text : (n : ℕ) (texts : List Bytes) (t : ValueType) (f : Datum → List Bytes → Ran) → ((d : Datum) (ts : List Bytes) → Counted n (f d ts)) → Counted n (with_text texts t f)
counted_text n [] t f h = lacking_counted n
counted_text n (text ∷ texts) t f h = counted_read n (value_of_text t text) texts f h

-- Loops.

-- one pass, with what follows it
pass_counted : (body g : Runs) → Lawful body → (n : ℕ) (vars : List Datum) (texts : List Bytes) →
    ((m : ℕ) → m < n → (vs : List Datum) (ts : List Bytes) → Counted m (g m vs ts)) → Counted n (with_pass n (λ left. onward (body left vars texts) left g))
pass_counted body g lawful zero vars texts more = record { within = omega arith; used = λ e. refl }
pass_counted body g lawful (suc n) vars texts more =
    let r = body n vars texts in
    let c = lawful.counted n vars texts in
    let one : 1 + n ≡ suc n = omega arith in
    subst (λ m. Counted m (behind [] 1 (onward r n g))) one
    (counted_behind n 1 [] (onward r n g) (counted_onward n r.lines r.passes r.end g (record { within = c.within; used = c.used }) (λ vs ts. more (n - r.passes) (omega arith) vs ts)))

pass_stays : (body g h : Runs) → Lawful body → (n j : ℕ) (vars : List Datum) (texts : List Bytes) →
    ((m : ℕ) → m < n → (vs : List Datum) (ts : List Bytes) → Stays (g m vs ts) (h (m + j) vs ts)) →
    Stays (with_pass n (λ left. onward (body left vars texts) left g)) (with_pass (n + j) (λ left. onward (body left vars texts) left h))
pass_stays body g h lawful zero j vars texts more = (_, refl)
pass_stays body g h lawful (suc n) j vars texts more =
    let r = body n vars texts in
    let c = lawful.counted n vars texts in
    let s = lawful.stays n j vars texts in
    let on : suc (n + j) ≡ suc n + j = omega arith in
    subst (λ m. Stays (behind [] 1 (onward r n g)) (with_pass m (λ left. onward (body left vars texts) left h))) on
    (stays_behind [] 1 (onward r n g) (onward (body (n + j) vars texts) (n + j) h)
    (stays_onward n j r.lines r.passes r.end (body (n + j) vars texts) g h s c.within (λ vs ts. more (n - r.passes) (omega arith) vs ts)))

module _ (test : List Datum → Computed Datum) (body : Runs) (lawful : Lawful body) where
  counted_turns : (b n : ℕ) (vars : List Datum) (texts : List Bytes) → n < b → Counted n (turns test body b n vars texts)
  counted_turns zero n vars texts h = absurd (omega arith)
  counted_turns (suc b) n vars texts h =
      counted_value n (test vars) _ (λ so. counted_cond n (truth_of so) _ _
      (pass_counted body (λ m vs ts. turns test body b m vs ts) lawful n vars texts (λ m less vs ts. counted_turns b m vs ts (omega arith)))
      (counted_at_once n [] vars texts))

  stays_turns : (b c n j : ℕ) (vars : List Datum) (texts : List Bytes) → n < b → n + j < c → Stays (turns test body b n vars texts) (turns test body c (n + j) vars texts)
  stays_turns zero c n j vars texts h k = absurd (omega arith)
  stays_turns (suc b) zero n j vars texts h k = absurd (omega arith)
  stays_turns (suc b) (suc c) n j vars texts h k =
      stays_value (test vars) _ _ (λ so. stays_cond (truth_of so) _ _ _ _
      (pass_stays body (λ m vs ts. turns test body b m vs ts) (λ m vs ts. turns test body c m vs ts) lawful n j vars texts
      (λ m less vs ts. stays_turns b c m j vs ts (omega arith) (omega arith)))
      (stays_same (ran [] 0 (finished vars texts))))

-- Bodies: what is done, then the own variables end.

closing_lawful : (k : ℕ) → Lawful (closing k)
closing_lawful k = record { counted = λ n vars texts. counted_at_once n [] _ texts; stays = λ n j vars texts. refl }

then_lawful : (f g : Runs) → Lawful f → Lawful g → Lawful (λ n vars texts. onward (f n vars texts) n g)
then_lawful f g a b =
    record {
      counted = λ n vars texts. let r = f n vars texts in let c = a.counted n vars texts in
          counted_onward n r.lines r.passes r.end g (record { within = c.within; used = c.used }) (λ vs ts. b.counted (n - r.passes) vs ts);
      stays = λ n j vars texts. let r = f n vars texts in
          stays_onward n j r.lines r.passes r.end (f (n + j) vars texts) g g (a.stays n j vars texts) (a.counted n vars texts).within (λ vs ts. b.stays (n - r.passes) j vs ts);
    }

-- Statements: one lemma for each.

lawful_define : (t : ValueType) (places : List Place) → Lawful (run (plan.define t places))
unfolding run
lawful_define t places = record { counted = λ n vars texts. counted_at_once n [] _ texts; stays = λ n j vars texts. refl }

lawful_assign : (t : ValueType) (i : ℕ) (p : Place) (e : Term) → Lawful (run (plan.assign t i p e))
unfolding run
lawful_assign t i p e =
    record {
      counted = λ n vars texts. counted_value n (evaluate e vars []) _ (λ d. counted_at_once n [] _ texts);
      stays = λ n j vars texts. stays_same (run (plan.assign t i p e) n vars texts);
    }

lawful_if : (p : Place) (e : Term) (b : Body) → Lawful (run_body b) → Lawful (run (plan.if_then p e b))
unfolding run
lawful_if p e b law =
    record {
      counted = λ n vars texts. counted_value n (evaluate e vars []) _ (λ so. counted_cond n (truth_of so) _ _ (law.counted n vars texts) (counted_at_once n [] vars texts));
      stays = λ n j vars texts. stays_value (evaluate e vars []) _ _ (λ so. stays_cond (truth_of so) _ _ _ _ (law.stays n j vars texts) (stays_same (ran [] 0 (finished vars texts))));
    }

lawful_else : (p : Place) (e : Term) (b c : Body) → Lawful (run_body b) → Lawful (run_body c) → Lawful (run (plan.if_then_else p e b c))
unfolding run
lawful_else p e b c law other =
    record {
      counted = λ n vars texts. counted_value n (evaluate e vars []) _ (λ so. counted_cond n (truth_of so) _ _ (law.counted n vars texts) (other.counted n vars texts));
      stays = λ n j vars texts. stays_value (evaluate e vars []) _ _ (λ so. stays_cond (truth_of so) _ _ _ _ (law.stays n j vars texts) (other.stays n j vars texts));
    }

lawful_while : (p : Place) (e : Term) (b : Body) → Lawful (run_body b) → Lawful (run (plan.while_do p e b))
unfolding run
lawful_while p e b law =
    record {
      counted = λ n vars texts. counted_turns (λ vs. evaluate e vs []) (run_body b) law (suc n) n vars texts (omega arith);
      stays = λ n j vars texts. stays_turns (λ vs. evaluate e vs []) (run_body b) law (suc n) (suc (n + j)) n j vars texts (omega arith) (omega arith);
    }

lawful_read : (s : Option Term) (t : ValueType) (i : ℕ) (p : Place) → Lawful (run (plan.read_into s t i p))
unfolding run
lawful_read s t i p =
    record {
      counted = λ n vars texts. counted_name n s vars _ (λ name. counted_text n texts t _ (λ d left. counted_at_once n [] _ left));
      stays = λ n j vars texts. stays_same (run (plan.read_into s t i p) n vars texts);
    }

lawful_write : (p : Place) (s : Option Term) (e : Term) → Lawful (run (plan.write_out p s e))
unfolding run
lawful_write p s e =
    record {
      counted = λ n vars texts. counted_value n (evaluate e vars []) _ (λ d. counted_name n s vars _ (λ name. counted_at_once n _ vars texts));
      stays = λ n j vars texts. stays_same (run (plan.write_out p s e) n vars texts);
    }

lawful_nothing : Lawful (run_all plan.nothing)
unfolding run
lawful_nothing = record { counted = λ n vars texts. counted_at_once n [] vars texts; stays = λ n j vars texts. refl }

lawful_then : (a : Action) (rest : Actions) → Lawful (run a) → Lawful (run_all rest) → Lawful (run_all (a then rest))
unfolding run
lawful_then a rest x y = then_lawful (run a) (run_all rest) x y

lawful_body : (actions : Actions) (k : ℕ) (p : Place) → Lawful (run_all actions) → Lawful (run_body (plan.body actions k p))
unfolding run
lawful_body actions k p x = then_lawful (run_all actions) (closing k) x (closing_lawful k)

mutual
  lawful : (a : Action) → Lawful (run a)
  lawful (plan.define t places) = lawful_define t places
  lawful (plan.assign t i p e) = lawful_assign t i p e
  lawful (plan.if_then p e b) = lawful_if p e b (body_lawful b)
  lawful (plan.if_then_else p e b c) = lawful_else p e b c (body_lawful b) (body_lawful c)
  lawful (plan.while_do p e b) = lawful_while p e b (body_lawful b)
  lawful (plan.read_into s t i p) = lawful_read s t i p
  lawful (plan.write_out p s e) = lawful_write p s e

  all_lawful : (rest : Actions) → Lawful (run_all rest)
  all_lawful plan.nothing = lawful_nothing
  all_lawful (a then rest) = lawful_then a rest (lawful a) (all_lawful rest)

  pub body_lawful : (b : Body) → Lawful (run_body b)
  body_lawful (plan.body actions k p) = lawful_body actions k p (all_lawful actions)

-- The laws.

stays_begins : (r q : Ran) → Stays r q → Begins r.lines q.lines
stays_begins r q h = go r.end h
  where
    same : q ≡ r → Begins r.lines q.lines
    same e = subst (λ z. Begins r.lines z.lines) (sym e) (begins_all r.lines)

    go : (e : End) → StaysBy e r q → Begins r.lines q.lines
    go (finished vars texts) s = same s
    go (failed rule p) s = same s
    go without_text s = same s
    go without_pass s = s

stays_ended : (r q : Ran) → Stays r q → ¬ (r.end ≡ without_pass) → q ≡ r
stays_ended r q h ended = go r.end refl h
  where
    go : (e : End) → r.end ≡ e → StaysBy e r q → q ≡ r
    go (finished vars texts) x s = s
    go (failed rule p) x s = s
    go without_text x s = s
    go without_pass x s = absurd (ended x)

pub more_passes_add_lines : MorePassesAddLines
more_passes_add_lines script n k texts = stays_begins _ _ ((body_lawful script).stays n k [] texts)

pub endings_stay : EndingsStay
endings_stay script n k texts ended = stays_ended _ _ ((body_lawful script).stays n k [] texts) ended

pub passes_are_counted : PassesAreCounted
passes_are_counted =
    record {
      within = λ script n texts. ((body_lawful script).counted n [] texts).within;
      used = λ script n texts. ((body_lawful script).counted n [] texts).used;
    }
