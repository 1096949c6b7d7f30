-- What the node of an operator holds, of what its parts held.
use Rattle.std.proofs.Common.{◌≡◌, ℕ, suc, ◌+◌, ◌<◌, Bool, true, false, eqb, List, [], ◌∷◌, Some, None, Option, sym, refl, ap, ◌∙◌, subst, arith}
use mathlib.Core.Option.{some}
use Rattle.fault.specs.declared.rules.Fault.{Fault}
use Rattle.words.specs.declared.tokens.Sign.TheVariants.{LeftParenthesis}
use Rattle.words.specs.Tokens.{Bytes, Place, Terminal, Token, Terminal.sign}
use Rattle.grammar.specs.Parts.{name_part, Part}
use Rattle.grammar.specs.Parts.{Argument.extend_argument}
use Rattle.grammar.specs.Parts.{Level.name_level, Level.type_level, Level.tuple_level}
use Rattle.grammar.specs.Parts.{argument_of, apply, nothing, name_and_expression, type_name_and_expression, table_constant, combine, join_parts, code_in, left_parenthesis, right_brace}
use Rattle.grammar.specs.Promise.{any_token}
use Rattle.grammar.specs.Readers.{Outcome, Outcome.found as read, and_then, expect_token, read_leaf, read_level, read_instance, brackets_at}
use Rattle.phrases.specs.States.{before, broken_in, refused_by, Halts, code_ahead}
use Rattle.phrases.proofs.Steps.{refused_ahead, refused_first}
use Rattle.expressions.specs.declared.sorts.Operator.{Operator}
use Rattle.expressions.specs.declared.sorts.Operator.TheVariants as operator
use Rattle.expressions.specs.declared.sorts.Negation.{Negation}
use Rattle.expressions.specs.declared.sorts.Negation.TheVariants as negation
use Rattle.expressions.specs.declared.sorts.Unary.{Unary}
use Rattle.expressions.specs.declared.sorts.Unary.TheVariants as unary
use Rattle.expressions.specs.Shapes.{negation_of, unary_of, table_reader}
use Rattle.grammar.specs.Tree.{Tuple, Name.named, AtomicType.typed}
use Rattle.grammar.specs.Readers.{begins_with, read_tuple}
use Rattle.phrases.specs.Places.{pays_ahead}
use Rattle.phrases.specs.Sorts.{item_reader, level_of as list_level}
use Rattle.grammar.specs.Parts.{table_expression, first_name, first_type, name_part, type_part}
use Rattle.domain.specs.declared.Domain.{Domain}
use Rattle.tree.specs.Holds.{Says, HoldsName, HoldsType, HoldsExpression, HoldsTuple, Chained}
use Rattle.tree.specs.Kept.{Below}
use Rattle.tree.specs.declared.nodes.Node.{Node}
use Rattle.tree.specs.declared.nodes.What.TheVariants as what
use Rattle.tree.proofs.Stable.{expression_order, expression_stable, name_stable, type_stable}
use Rattle.tree.proofs.Grown.{below_agree}
use Rattle.phrases.specs.Held.{Held}
use Rattle.phrases.proofs.ListSteps.{held_below, one_name, one_type}
use Rattle.expressions.specs.Starts.{operator_node, unary_node, negation_node, table_node, instance_of, listed_of}
use Rattle.expressions.specs.Shapes.{Expressed, Assigned, Inside}
use Rattle.expressions.proofs.Readings.{sort_of, expect_halts, found_halts}

-- an expression stays where its entries stay
pub expressed_below : (text : Bytes) (xs ys : List Node) (from upto i : ℕ) (t : Part) → Below upto xs ys → Expressed text xs from upto i t → Expressed text ys from upto i t
unfolding Expressed
expressed_below text xs ys from upto i t b (e, h) = (e, expression_stable text xs ys from i t.expression (below_agree from (suc i) xs ys (subst (λ n. Below n xs ys) e b)) h)

pub expressed_some : (text : Bytes) (xs : List Node) (from upto i : ℕ) (t : Part) → Expressed text xs from upto i t → from < upto
unfolding Expressed
expressed_some text xs from upto i t (e, h) = let o = expression_order text xs from i t.expression h in omega (arith, e, o)

negation_made : (g : Negation) (text : Bytes) (zs : List Node) (from upto i : ℕ) (t : Part) (p : Place) → Expressed text zs from upto i t → Says zs upto (negation_node g i) p → Expressed text zs from (suc upto) upto (apply (negation_of g) p nothing t)
unfolding Expressed
negation_made negation.Minus text zs from upto i t p (e, h) says = (refl, (i, h, e, says))
negation_made negation.Not text zs from upto i t p (e, h) says = (refl, (i, h, e, says))

pub negation_held : (g : Negation) (text : Bytes) (ys zs : List Node) (from upto i : ℕ) (t : Part) (p : Place) → Expressed text ys from upto i t → Below upto ys zs → Says zs upto (negation_node g i) p → Expressed text zs from (suc upto) upto (apply (negation_of g) p nothing t)
negation_held g text ys zs from upto i t p h b says = negation_made g text zs from upto i t p (expressed_below text ys zs from upto i t b h) says

-- an operator between two operands
between : (o : Operator) (text : Bytes) (zs : List Node) (from m upto i j : ℕ) (t u : Part) (p : Place) → Expressed text zs from m i t → Expressed text zs m upto j u → Says zs upto (operator_node o i j) p → Expressed text zs from (suc upto) upto (combine (sort_of o) p t u)
unfolding Expressed sort_of
between (operator.Logic o) text zs from m upto i j t u p (e, h) (f, k) says =
    let l = expression_order text zs m j u.expression k in
    (refl, (i, j, h, subst (λ n. HoldsExpression text zs n j u.expression) e k, omega (arith, e, l), f, says))
between (operator.Comparison o) text zs from m upto i j t u p (e, h) (f, k) says =
    let l = expression_order text zs m j u.expression k in
    (refl, (i, j, h, subst (λ n. HoldsExpression text zs n j u.expression) e k, omega (arith, e, l), f, says))
between (operator.Sum o) text zs from m upto i j t u p (e, h) (f, k) says =
    let l = expression_order text zs m j u.expression k in
    (refl, (i, j, h, subst (λ n. HoldsExpression text zs n j u.expression) e k, omega (arith, e, l), f, says))
between (operator.Product o) text zs from m upto i j t u p (e, h) (f, k) says =
    let l = expression_order text zs m j u.expression k in
    (refl, (i, j, h, subst (λ n. HoldsExpression text zs n j u.expression) e k, omega (arith, e, l), f, says))

pub operator_held : (o : Operator) (text : Bytes) (xs ys zs : List Node) (from m upto i j : ℕ) (t u : Part) (p : Place) → Expressed text xs from m i t → Expressed text ys m upto j u → Below m xs ys → Below upto ys zs →
    Says zs upto (operator_node o i j) p → Expressed text zs from (suc upto) upto (combine (sort_of o) p t u)
operator_held o text xs ys zs from m upto i j t u p h k b c says =
    let l = expressed_some text ys m upto j u k in
    between o text zs from m upto i j t u p (expressed_below text xs zs from m i t (λ n q. c n (omega (arith, q, l)) ∙ b n q) h) (expressed_below text ys zs m upto j u c k) says

join_made : (text : Bytes) (zs : List Node) (from m n upto i c j : ℕ) (t x u : Part) (p : Place) → Expressed text zs from m i t → Expressed text zs m n c x → Expressed text zs n upto j u → Says zs upto (what.Joined i c j) p →
    Expressed text zs from (suc upto) upto (join_parts p t x u)
unfolding Expressed
join_made text zs from m n upto i c j t x u p (e, h) (f, k) (g, l) says =
    let o = expression_order text zs m c x.expression k in let q = expression_order text zs n j u.expression l in
    (refl, (i, c, j, h, subst (λ w. HoldsExpression text zs w c x.expression) e k, subst (λ w. HoldsExpression text zs w j u.expression) f l, omega (arith, e, o), omega (arith, f, q), g, says))

pub join_held : (text : Bytes) (xs ws ys zs : List Node) (from m n upto i c j : ℕ) (t x u : Part) (p : Place) → Expressed text xs from m i t → Expressed text ws m n c x → Expressed text ys n upto j u → Below m xs ws → Below n ws ys → Below upto ys zs →
    Says zs upto (what.Joined i c j) p → Expressed text zs from (suc upto) upto (join_parts p t x u)
join_held text xs ws ys zs from m n upto i c j t x u p h k l b d e says =
    let o = expressed_some text ws m n c x k in let q = expressed_some text ys n upto j u l in
    join_made text zs from m n upto i c j t x u p
    (expressed_below text xs zs from m i t (λ w z. e w (omega (arith, z, o, q)) ∙ d w (omega (arith, z, o)) ∙ b w z) h)
    (expressed_below text ws zs m n c x (λ w z. e w (omega (arith, z, q)) ∙ d w z) k) (expressed_below text ys zs n upto j u e l) says

-- a name before `=` and the value behind it
assigned_made : (text : Bytes) (ys : List Node) (from m upto i j : ℕ) (x : Bytes) (p : Place) (u : Part) → Held name_level text ys from m j (name_part (named x p)) → Expressed text ys m upto i u → Assigned text ys from upto i (name_and_expression (name_part (named x p)) u)
unfolding Assigned Expressed
assigned_made text ys from m upto i j x p u h (f, k) =
    let (e, a) = one_name text ys from m j (named x p) h in
    let z : from ≡ j = a.0 in
    let o = expression_order text ys m i u.expression k in
    (f, omega (arith, e, o, z), subst (λ n. HoldsName text ys from n (named x p)) (sym z) a, subst (λ n. HoldsExpression text ys n i u.expression) (let y : m ≡ suc from = omega (arith, e, z) in y) k)

pub assigned_held : (text : Bytes) (xs ys : List Node) (from m upto i j : ℕ) (t u : Part) (x : Bytes) (p : Place) → t ≡ name_part (named x p) → Held name_level text xs from m j t → Expressed text ys m upto i u → Below m xs ys →
    Assigned text ys from upto i (name_and_expression t u)
assigned_held text xs ys from m upto i j t u x p e h k b =
    subst (λ v. Assigned text ys from upto i (name_and_expression v u)) (sym e) (assigned_made text ys from m upto i j x p u (subst (Held name_level text ys from m j) e (held_below name_level text xs ys from m j t b h)) k)

-- a type before that
extend_made : (text : Bytes) (ys : List Node) (from m upto i j : ℕ) (d : Domain) (p : Place) (v : Part) → Held type_level text ys from m j (type_part (typed d p)) → Assigned text ys m upto i v → Inside extend_argument text ys from upto i (type_name_and_expression (type_part (typed d p)) v v)
unfolding Inside Assigned
extend_made text ys from m upto i j d p v h (f, lt, a, k) =
    let (e, y) = one_type text ys from m j (typed d p) h in
    let z : from ≡ j = y.0 in
    let w : m ≡ suc from = omega (arith, e, z) in
    (f, omega (arith, w, lt), subst (λ n. HoldsType text ys from n (typed d p)) (sym z) y, subst (λ n. HoldsName text ys n n (first_name v.names)) w a, subst (λ n. HoldsExpression text ys (suc n) i v.expression) w k)

pub extend_held : (text : Bytes) (xs ys : List Node) (from m upto i j : ℕ) (t v : Part) (d : Domain) (p : Place) → t ≡ type_part (typed d p) → Held type_level text xs from m j t → Assigned text ys m upto i v → Below m xs ys →
    Inside extend_argument text ys from upto i (type_name_and_expression t v v)
extend_held text xs ys from m upto i j t v d p e h k b =
    subst (λ w. Inside extend_argument text ys from upto i (type_name_and_expression w v v)) (sym e) (extend_made text ys from m upto i j d p v (subst (Held type_level text ys from m j) e (held_below type_level text xs ys from m j t b h)) k)

-- an operator with brackets
unary_made : (u : Unary) (text : Bytes) (zs : List Node) (from m upto i j : ℕ) (x t : Part) (p : Place) → Inside (argument_of (unary_of u)) text zs from m i x → Expressed text zs m upto j t →
    Says zs upto (unary_node u from i j) p → Expressed text zs from (suc upto) upto (apply (unary_of u) p x t)
unfolding Inside Expressed Assigned Held
unary_made unary.Project text zs from m upto i j x t p (q, e, h) (f, k) says =
    let l = expression_order text zs m j t.expression k in
    (refl, (i, q, j, h, subst (λ n. HoldsExpression text zs n j t.expression) e k, omega (arith, e, l), f, says))
unary_made unary.Rename text zs from m upto i j x t p (q, e, h) (f, k) says =
    let l = expression_order text zs m j t.expression k in
    (refl, (i, q, j, h, subst (λ n. HoldsExpression text zs n j t.expression) e k, omega (arith, e, l), f, says))
unary_made unary.Select text zs from m upto i j x t p (e, h) (f, k) says =
    let l = expression_order text zs m j t.expression k in
    (refl, (i, j, h, subst (λ n. HoldsExpression text zs n j t.expression) e k, omega (arith, e, l), f, says))
unary_made unary.Exists text zs from m upto i j x t p (e, h) (f, k) says =
    let l = expression_order text zs m j t.expression k in
    (refl, (i, j, h, subst (λ n. HoldsExpression text zs n j t.expression) e k, omega (arith, e, l), f, says))
unary_made unary.All text zs from m upto i j x t p (e, h) (f, k) says =
    let l = expression_order text zs m j t.expression k in
    (refl, (i, j, h, subst (λ n. HoldsExpression text zs n j t.expression) e k, omega (arith, e, l), f, says))
unary_made unary.Update text zs from m upto i j x t p (e, lt, a, h) (f, k) says =
    let l = expression_order text zs m j t.expression k in
    (refl, (from, i, j, a, h, subst (λ n. HoldsExpression text zs n j t.expression) e k, lt, omega (arith, e, l), f, says))
unary_made unary.Extend text zs from m upto i j x t p (e, lt, y, a, h) (f, k) says =
    let l = expression_order text zs m j t.expression k in
    let one : from + 1 ≡ suc from = omega arith in (
      refl,
      (
        from,
        suc from,
        i,
        j,
        y,
        a,
        h,
        subst (λ n. HoldsExpression text zs n j t.expression) e k,
        omega arith,
        lt,
        omega (arith, e, l),
        f,
        subst (λ n. Says zs upto (what.Extended from n i j) p) one says,
      ),
    )

pub inside_below : (u : Unary) (text : Bytes) (xs ys : List Node) (from upto i : ℕ) (x : Part) → Below upto xs ys → Inside (argument_of (unary_of u)) text xs from upto i x → Inside (argument_of (unary_of u)) text ys from upto i x
unfolding Inside Assigned
inside_below unary.Project text xs ys from upto i x b h = held_below name_level text xs ys from upto i x b h
inside_below unary.Rename text xs ys from upto i x b h = held_below name_level text xs ys from upto i x b h
inside_below unary.Select text xs ys from upto i x b h = expressed_below text xs ys from upto i x b h
inside_below unary.Exists text xs ys from upto i x b h = expressed_below text xs ys from upto i x b h
inside_below unary.All text xs ys from upto i x b h = expressed_below text xs ys from upto i x b h
inside_below unary.Update text xs ys from upto i x b (e, lt, a, h) = (
  e,
  lt,
  name_stable text xs ys from from (first_name x.names) (below_agree from (suc from) xs ys (λ j l. b j (omega (arith, l, e, lt)))) a,
  expression_stable text xs ys (suc from) i x.expression (below_agree (suc from) (suc i) xs ys (λ j l. b j (omega (arith, l, e)))) h,
)
inside_below unary.Extend text xs ys from upto i x b (e, lt, y, a, h) = (
  e,
  lt,
  type_stable text xs ys from from (first_type x.types) (below_agree from (suc from) xs ys (λ j l. b j (omega (arith, l, e, lt)))) y,
  name_stable text xs ys (suc from) (suc from) (first_name x.names) (below_agree (suc from) (suc (suc from)) xs ys (λ j l. b j (omega (arith, l, e, lt)))) a,
  expression_stable text xs ys (suc (suc from)) i x.expression (below_agree (suc (suc from)) (suc i) xs ys (λ j l. b j (omega (arith, l, e)))) h,
)

pub unary_held : (u : Unary) (text : Bytes) (xs ys zs : List Node) (from m upto i j : ℕ) (x t : Part) (p : Place) → Inside (argument_of (unary_of u)) text xs from m i x → Expressed text ys m upto j t → Below m xs ys → Below upto ys zs →
    Says zs upto (unary_node u from i j) p → Expressed text zs from (suc upto) upto (apply (unary_of u) p x t)
unary_held u text xs ys zs from m upto i j x t p h k b c says =
    let l = expressed_some text ys m upto j t k in
    unary_made u text zs from m upto i j x t p (inside_below u text xs zs from m i x (λ n q. c n (omega (arith, q, l)) ∙ b n q) h) (expressed_below text ys zs m upto j t c k) says

-- a table constant of tuples, and one of types
tuples_made : (text : Bytes) (zs : List Node) (from upto i : ℕ) (t : Part) (p : Place) → Held tuple_level text zs from upto i t → Says zs upto (what.TableOfTuples i) p → Expressed text zs from (suc upto) upto (table_constant p t)
unfolding Held Expressed
tuples_made text zs from upto i t p (l, e, h) says = (refl, go t.tuples h)
  where
    go : (ts : List Tuple) → Chained (HoldsTuple text) zs from l i ts → HoldsExpression text zs from upto (table_expression ts t.types p)
    go [] h = absurd h
    go (x ∷ ts) h = (i, l, h, e, says)

types_made : (text : Bytes) (zs : List Node) (from upto i : ℕ) (t : Part) (p : Place) → Held type_level text zs from upto i t → Says zs upto (what.TableOfTypes i) p → Expressed text zs from (suc upto) upto (table_constant p t)
unfolding Held Expressed
types_made text zs from upto i t p ((l, e, h), z) says = (refl, subst (λ ts. HoldsExpression text zs from upto (table_expression ts t.types p)) (sym z) (i, l, h, e, says))

pub table_held : (b : Bool) (text : Bytes) (ys zs : List Node) (from upto i : ℕ) (t : Part) (p : Place) → Held (list_level (listed_of (instance_of b))) text ys from upto i t → Below upto ys zs → Says zs upto (table_node (instance_of b) i) p → Expressed text zs from (suc upto) upto (table_constant p t)
table_held true text ys zs from upto i t p h b says = tuples_made text zs from upto i t p (held_below tuple_level text ys zs from upto i t b h) says
table_held false text ys zs from upto i t p h b says = types_made text zs from upto i t p (held_below type_level text ys zs from upto i t b h) says

-- a table constant by its parts
pub table_halts : (end : Place) (n : ℕ) (k : Option Terminal) (p : Place) (s : List Token) (f : Fault) → 0 < pays_ahead k → broken_in s ≡ some f → refused_by end (table_reader n (before k p s)) ≡ some f
unfolding table_reader read_instance read_level read_tuple read_leaf expect_token refused_by
table_halts end n None p s f l h = absurd (let z : ⊥ = omega arith in z)
table_halts end n (Some k) p s f l h = refused_ahead end (λ s. and_then (read_instance (brackets_at any_token n) s) (λ t r. and_then (expect_token right_brace r) (λ _ q. read (table_constant p t) q))) s f (instance_halts end n (λ t r. and_then (expect_token right_brace r) (λ _ q. read (table_constant p t) q))) h
  where
    instance_halts : (end : Place) (n : ℕ) (g : Part → List Token → Outcome) → Halts end (λ s. and_then (read_instance (brackets_at any_token n) s) g)
    instance_halts end n g c p q = refl

instance_is : (n : ℕ) (s : List Token) (b : Bool) → b ≡ begins_with left_parenthesis s → read_instance (brackets_at any_token n) s ≡ read_level (item_reader n (listed_of (instance_of b))) (brackets_at any_token n) (list_level (listed_of (instance_of b))) s
unfolding read_instance
instance_is n s true e = rw (← e)
instance_is n s false e = rw (← e)

pub table_first : (end : Place) (n : ℕ) (k : Option Terminal) (p : Place) (s : List Token) (b : Bool) (f : Fault) → 0 < pays_ahead k → b ≡ begins_with left_parenthesis s →
    refused_by end (read_level (item_reader n (listed_of (instance_of b))) (brackets_at any_token n) (list_level (listed_of (instance_of b))) s) ≡ some f → refused_by end (table_reader n (before k p s)) ≡ some f
unfolding table_reader
table_first end n None p s b f l e h = absurd (let z : ⊥ = omega arith in z)
table_first end n (Some k) p s b f l e h =
    refused_first end (read_instance (brackets_at any_token n) s) (λ t r. and_then (expect_token right_brace r) (λ _ q. read (table_constant p t) q)) f (λ t. expect_halts end right_brace (λ _ q. read (table_constant p t) q) (omega arith))
    (ap (refused_by end) (instance_is n s b e) ∙ h)

pub table_second : (end : Place) (n : ℕ) (k : Option Terminal) (p : Place) (s : List Token) (b : Bool) (t : Part) (r : List Token) (f : Fault) → 0 < pays_ahead k → b ≡ begins_with left_parenthesis s →
    read_level (item_reader n (listed_of (instance_of b))) (brackets_at any_token n) (list_level (listed_of (instance_of b))) s ≡ read t r → refused_by end (expect_token right_brace r) ≡ some f → refused_by end (table_reader n (before k p s)) ≡ some f
unfolding table_reader
table_second end n None p s b t r f l e i h = absurd (let z : ⊥ = omega arith in z)
table_second end n (Some k) p s b t r f l e i h = rw (instance_is n s b e ∙ i) (refused_first end (expect_token right_brace r) (λ _ q. read (table_constant p t) q) f (λ u. found_halts end (table_constant p t)) h)

pub table_found : (n : ℕ) (k : Option Terminal) (p : Place) (s : List Token) (b : Bool) (t : Part) (r : List Token) (z : Part) (q : List Token) → 0 < pays_ahead k → b ≡ begins_with left_parenthesis s →
    read_level (item_reader n (listed_of (instance_of b))) (brackets_at any_token n) (list_level (listed_of (instance_of b))) s ≡ read t r → expect_token right_brace r ≡ read z q → table_reader n (before k p s) ≡ read (table_constant p t) q
unfolding table_reader
table_found n None p s b t r z q l e i h = absurd (let y : ⊥ = omega arith in y)
table_found n (Some k) p s b t r z q l e i h = rw (instance_is n s b e ∙ i, h)

-- whether a parenthesis stands first
pub begins_is : (k : Option Terminal) (p : Place) (s : List Token) → eqb (code_in (sign LeftParenthesis)) (code_ahead k) ≡ begins_with left_parenthesis (before k p s)
begins_is None p s = refl
begins_is (Some t) p s = refl
