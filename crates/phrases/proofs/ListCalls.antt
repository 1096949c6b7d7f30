-- What a list answers, whoever reads its elements.
use Rattle.std.proofs.Common.{◌≡◌, ℕ, ◌-◌, ◌<◌, Bool, true, false, eqb, List, length, set, IfOk, Ok, Err, Result, sym, refl, subst, arith}
use mathlib.Core.Option.{some}
use Rattle.fault.specs.declared.rules.Fault.{Fault}
use Rattle.words.specs.Lexing.{end_of}
use Rattle.words.specs.Tokens.{Bytes}
use Rattle.words.specs.Views.{spoken}
use Rattle.grammar.specs.Parts.{Part, combine, Operator.commas}
use Rattle.grammar.specs.Promise.{any_token}
use Rattle.grammar.specs.Readers.{Outcome, read_level, rest, brackets_at}
use Rattle.tree.specs.Holds.{node_at}
use Rattle.tree.specs.Kept.{Beyond}
use Rattle.tree.specs.declared.nodes.Node.{Node}
use Rattle.tree.proofs.Grown.{below_then, beyond_then}
use Rattle.phrases.specs.declared.parsers.Parser.{Parser}
use Rattle.phrases.specs.declared.sorts.Listed.{Listed}
use Rattle.phrases.specs.Held.{Held}
use Rattle.phrases.specs.Sorts.{item_reader, level_of, relinked}
use Rattle.phrases.specs.States.{Grounded, Stepped, Answers, AnswersAs, AnswersOn, NumbersOn, ahead_at, behind, code_ahead, tokens_ahead, refused_by}
use Rattle.phrases.proofs.ListSteps.{list_first, list_found, list_stops, more_halts, more_first, more_found, held_link, held_some, link_below, link_beyond}
use Rattle.phrases.proofs.Puts.{answered, answer, answers_here, refusal, answers_later}
use Rattle.phrases.proofs.Steps.{refused_at_lem, read_at, stepped_ok, stepped_broken}

module _ (d : Listed) (n : ℕ) (text : Bytes) (xs : List Node) (a b : Parser) (g : Grounded text xs a) where
  -- the list by the grammar
  abbrev pub whole : Outcome
  whole = read_level (item_reader n d) (brackets_at any_token n) (level_of d) (tokens_ahead a)

  -- no element stands at its begin
  pub none_begins : (f : Fault) → AnswersAs (Held (level_of d)) (item_reader n d) a b (Err f) → refused_by (end_of text) whole ≡ some f
  none_begins f i = list_first _ n d _ _ (refusal _ _ _ _ _ _ _ _ _ (i text _ g))

  -- one does, and the list goes on behind it
  pub begins : (z : Parser) (first : ℕ) (r : Result ℕ Fault) → AnswersAs (Held (level_of d)) (item_reader n d) a b (Ok first) → IfOk r (λ _. NumbersOn b z) →
      AnswersOn (Held (level_of d)) (rest (item_reader n d) (brackets_at any_token n) (level_of d)) first b z r → Answers (Held (level_of d)) text whole a.count a z xs z.nodes.now r
  begins z first r i numbers further =
      let v = answered _ text _ _ a b xs b.nodes.now _ (i text _ g) in
      answers_later _ text _ _ _ a b z xs b.nodes.now z.nodes.now r (list_found n d (tokens_ahead a) _ _ v.value) v.below v.beyond numbers (further text _ v.grounded _ _ v.holds)

-- A list that goes on from the elements so far: u is the part so far, which the arena xs holds.
module _ (d : Listed) (n : ℕ) (text : Bytes) (xs : List Node) (a : Parser) (first from : ℕ) (u : Part) (g : Grounded text xs a) (h : Held (level_of d) text xs from a.count first u) where
  -- the rest of the list by the grammar
  abbrev pub onward : Outcome
  onward = rest (item_reader n d) (brackets_at any_token n) (level_of d) u (tokens_ahead a)

  abbrev pub comma : Bool
  comma = eqb 26 (code_ahead (spoken a.ahead.token))

  -- no comma: the list is what it was
  pub stops : comma ≡ false → Answers (Held (level_of d)) text onward from a a xs a.nodes.now (Ok first)
  stops absent = answers_here _ text _ from a xs _ g (answer _ text _ _ a a xs xs _ (record {
    part = u;
    value = list_stops n d u (spoken a.ahead.token) (ahead_at a) (behind a) absent;
    grounded = g;
    below = λ i l. refl;
    beyond = λ i l. refl;
    holds = h;
  }))

  module _ (there : comma ≡ true) where
    -- what stands behind it is no token
    pub broken_behind : (b : Parser) (f : Fault) → Stepped text xs a b (Err f) → refused_by (end_of text) onward ≡ some f
    broken_behind b f s = more_halts (end_of text) n d u (spoken a.ahead.token) (ahead_at a) (behind a) _ there (stepped_broken text _ a b _ s)

    module _ (b : Parser) (s : Stepped text xs a b (Ok tt)) where
      -- no element stands behind it
      pub no_element : (c : Parser) (f : Fault) → AnswersAs (Held (level_of d)) (item_reader n d) b c (Err f) → refused_by (end_of text) onward ≡ some f
      no_element c f i =
          let k = stepped_ok text _ a b _ s in
          more_first (end_of text) n d u (spoken a.ahead.token) (ahead_at a) (behind a) _ there
          (refused_at_lem (end_of text) (item_reader n d) _ _ _ k.1 (refusal _ text _ _ b c xs c.nodes.now _ (i text _ k.0)))

      -- an element is read and linked to the last one, and the list goes on from e, with the arena zs
      pub goes_on : (c e z : Parser) (next : ℕ) (zs : List Node) (r : Result ℕ Fault) → b.count ≡ a.count → AnswersAs (Held (level_of d)) (item_reader n d) b c (Ok next) → b.count < c.count → 0 < a.count →
          zs ≡ set c.nodes.now (a.count - 1) (relinked (node_at c.nodes.now (a.count - 1)) next) → e.count ≡ c.count → IfOk r (λ _. NumbersOn e z) →
          (Grounded text c.nodes.now c → (t : Part) → Held (level_of d) text zs from c.count first t → Answers (Held (level_of d)) text (rest (item_reader n d) (brackets_at any_token n) (level_of d) t (tokens_ahead c)) from e z zs z.nodes.now r) →
          Answers (Held (level_of d)) text onward from a z xs z.nodes.now r
      goes_on c e z next zs r same i grown begun linked counted numbers further =
          let k = stepped_ok text _ a b _ s in
          let v = answered _ text _ _ b c xs c.nodes.now _ (i text _ k.0) in
          let low = held_some d text xs from a.count first u h in
          let below = below_then from from xs c.nodes.now zs (omega arith) (λ j l. v.below j (omega (arith, l, low, same))) (link_below from (a.count - 1) next c.nodes.now zs (omega (arith, low)) linked) in
          let beyond = beyond_then c.count c.count xs c.nodes.now zs (omega arith) v.beyond (link_beyond c.count (a.count - 1) next c.nodes.now zs (omega (arith, low, same, grown)) linked) in
          let room : a.count - 1 < length c.nodes.now = let f = c.fits in let r = a.room in omega (arith, begun, r, f) in
          let held = held_link d text xs c.nodes.now zs from a.count c.count first next (ahead_at a) u v.part h
          (subst (λ m. Held (level_of d) text c.nodes.now m c.count next v.part) same v.holds) (λ j l. v.below j (omega (arith, l, same))) room linked in
          answers_later _ text _ _ from a e z xs zs z.nodes.now r
          (more_found n d u (spoken a.ahead.token) (ahead_at a) (behind a) v.part _ there (read_at (item_reader n d) _ _ _ _ k.1 v.value))
          below (subst (λ m. Beyond m xs zs) (sym counted) beyond) numbers (further v.grounded (combine commas (ahead_at a) u v.part) held)
