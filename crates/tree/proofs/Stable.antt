-- What an arena holds, another holds that agrees with it so far; and two lists in a row, linked, are one.
use Rattle.std.proofs.Common.{◌≡◌, ℕ, suc, ◌<◌, ◌≤◌, List, [], ◌∷◌, ◌++◌, Some, sym, ◌∙◌, subst, arith}
use mathlib.Core.Option.{none, some}
use Rattle.words.specs.Tokens.{Bytes, Place}
use Rattle.grammar.specs.Parts.{append_statements}
use Rattle.grammar.specs.Tree.{Statements}
use Rattle.grammar.specs.Tree.{Name.named, Constant.integer_constant, Constant.string_constant, Constant.truth_constant, Tuple.tuple_of, AtomicType.typed}
use Rattle.grammar.specs.Tree.{Attribute.attribute, VariableType.of_domain, VariableType.of_table, Expression.variable, Expression.literal}
use Rattle.grammar.specs.Tree.{Expression.table_of_tuples, Expression.table_of_types, Expression.logical, Expression.compared, Expression.summed}
use Rattle.grammar.specs.Tree.{Expression.multiplied, Expression.joined, Expression.negative, Expression.negated, Expression.projected, Expression.renamed}
use Rattle.grammar.specs.Tree.{Expression.selected, Expression.existing, Expression.everywhere, Expression.updated, Expression.extended, Statement.define}
use Rattle.grammar.specs.Tree.{Statement.assign, Statement.if_then, Statement.if_then_else, Statement.while_do, Statement.read_into, Statement.write_out}
use Rattle.grammar.specs.Tree.{Statements.no_statement, Statements.◌followed_by◌, Block.closed_at}
use Rattle.tree.specs.declared.nodes.Node.{Node}
use Rattle.tree.specs.Holds.{node_at, said, Holder, Chained, HoldsName, HoldsType, HoldsConstant, HoldsAttribute, HoldsTuple, HoldsExpression}
use Rattle.tree.specs.Holds.{HoldsVariableType, HoldsSpecifier, HoldsStatement, HoldsStatements, HoldsBlock}

-- the entries from one number up to another say the same, and those before the last of them are linked in the same way
pub record Agree (from n : ℕ) (xs ys : List Node) : Type 0 where
  pub same : (j : ℕ) → from ≤ j → j < n → said (node_at ys j) ≡ said (node_at xs j)
  pub linked : (j : ℕ) → from ≤ j → suc j < n → (node_at ys j).next ≡ (node_at xs j).next

pub agree_part : (from n low high : ℕ) (xs ys : List Node) → from ≤ low → high ≤ n → Agree from n xs ys → Agree low high xs ys
agree_part from n low high xs ys h k a = record { same = λ j l m. a.same j (omega arith) (omega arith); linked = λ j l m. a.linked j (omega arith) (omega arith) }

-- the entries from one number up to another are linked in the same way, the last of them too
pub record Firm (from n : ℕ) (xs ys : List Node) : Type 0 where
  pub same : (j : ℕ) → from ≤ j → j < n → said (node_at ys j) ≡ said (node_at xs j)
  pub linked : (j : ℕ) → from ≤ j → j < n → (node_at ys j).next ≡ (node_at xs j).next

pub agree_firm : (from n : ℕ) (xs ys : List Node) → Agree from (suc n) xs ys → Firm from n xs ys
agree_firm from n xs ys a = record { same = λ j l m. a.same j l (omega arith); linked = λ j l m. a.linked j l (omega arith) }

pub firm_agree : (from n low high : ℕ) (xs ys : List Node) → from ≤ low → high ≤ n → Firm from n xs ys → Agree low high xs ys
firm_agree from n low high xs ys h k a = record { same = λ j l m. a.same j (omega arith) (omega arith); linked = λ j l m. a.linked j (omega arith) (omega arith) }

pub firm_part : (from n low high : ℕ) (xs ys : List Node) → from ≤ low → high ≤ n → Firm from n xs ys → Firm low high xs ys
firm_part from n low high xs ys h k a = record { same = λ j l m. a.same j (omega arith) (omega arith); linked = λ j l m. a.linked j (omega arith) (omega arith) }

-- what an arena holds in a run of entries, another holds that agrees with it there
abbrev pub Stable : {A : Type 0} → Holder A → Type 0
Stable {A} H = (xs ys : List Node) (from i : ℕ) (x : A) → Agree from (suc i) xs ys → H xs from i x → H ys from i x

-- a run of entries goes up to its root
abbrev pub Ordered : {A : Type 0} → Holder A → Type 0
Ordered {A} H = (ns : List Node) (from i : ℕ) (x : A) → H ns from i x → from ≤ i

-- a list's first root lies in its run of entries
pub chain_order : {A : Type 0} (H : Holder A) → Ordered H → (ns : List Node) (from last first : ℕ) (l : List A) → Chained H ns from last first l → (from ≤ first) × (first ≤ last)
chain_order H o ns from last first [] h = absurd h
chain_order H o ns from last first (x ∷ []) (a, e, z) = (o ns from first x a, omega (arith, e))
chain_order H o ns from last first (x ∷ y ∷ l) (i, a, e, lt, h) = let r = chain_order H o ns (suc first) last i (y ∷ l) h in (o ns from first x a, omega (arith, r.1, lt))

pub chain_stable : {A : Type 0} (H : Holder A) → Ordered H → Stable H → (xs ys : List Node) (from last first : ℕ) (l : List A) → Firm from (suc last) xs ys → Chained H xs from last first l → Chained H ys from last first l
chain_stable H o s xs ys from last first [] g h = absurd h
chain_stable H o s xs ys from last first (x ∷ []) g (a, e, z) =
    let r = o xs from first x a in
    (s xs ys from first x (firm_agree from (suc last) from (suc first) xs ys (omega arith) (omega (arith, e)) g) a, e, g.linked first r (omega (arith, e)) ∙ z)
chain_stable H o s xs ys from last first (x ∷ y ∷ l) g (i, a, e, lt, h) =
    let r = o xs from first x a in
    let q = chain_order H o xs (suc first) last i (y ∷ l) h in (
      i,
      s xs ys from first x (firm_agree from (suc last) from (suc first) xs ys (omega arith) (omega (arith, q.1, lt)) g) a,
      g.linked first r (omega (arith, q.1, lt)) ∙ e,
      lt,
      chain_stable H o s xs ys (suc first) last i (y ∷ l) (firm_part from (suc last) (suc first) (suc last) xs ys (omega (arith, r)) (omega arith) g) h,
    )

-- a list, and one behind it whose first root the last element of the other names
pub chain_append : {A : Type 0} (H : Holder A) → Ordered H → Stable H → (xs ys : List Node) (from last first end next : ℕ) (l m : List A) →
    Agree from (suc last) xs ys → (node_at ys last).next ≡ Some next → last < next → Chained H xs from last first l → Chained H ys (suc last) end next m → Chained H ys from end first (l ++ m)
chain_append H o s xs ys from last first end next [] m g n lt h k = absurd h
chain_append H o s xs ys from last first end next (x ∷ []) [] g n lt h k = absurd k
chain_append H o s xs ys from last first end next (x ∷ []) (y ∷ m) g n lt (a, e, z) k = (
  next,
  s xs ys from first x (agree_part from (suc last) from (suc first) xs ys (omega arith) (omega (arith, e)) g) a,
  subst (λ i. (node_at ys i).next ≡ Some next) (sym e) n,
  omega (arith, e),
  subst (λ i. Chained H ys (suc i) end next (y ∷ m)) (sym e) k,
)
chain_append H o s xs ys from last first end next (x ∷ y ∷ l) m g n lt (i, a, e, b, h) k =
    let r = o xs from first x a in
    let q = chain_order H o xs (suc first) last i (y ∷ l) h in (
      i,
      s xs ys from first x (agree_part from (suc last) from (suc first) xs ys (omega arith) (omega (arith, q.1, b)) g) a,
      g.linked first r (omega (arith, q.1, b)) ∙ e,
      b,
      chain_append H o s xs ys (suc first) last i end next (y ∷ l) m (agree_part from (suc last) (suc first) (suc last) xs ys (omega (arith, r)) (omega arith) g) n lt h k,
    )

module _ (text : Bytes) where
  pub name_order : Ordered (HoldsName text)
  name_order ns from i (named x p) (e, s, h, q) = omega (arith, e)

  pub type_order : Ordered (HoldsType text)
  type_order ns from i (typed d p) (e, h) = omega (arith, e)

  pub constant_order : Ordered (HoldsConstant text)
  constant_order ns from i (integer_constant v p) (e, h) = omega (arith, e)
  constant_order ns from i (string_constant x p) (e, s, h, q) = omega (arith, e)
  constant_order ns from i (truth_constant b p) (e, h) = omega (arith, e)

  pub name_stable : Stable (HoldsName text)
  name_stable xs ys from i (named x p) g (e, s, h, q) = (e, s, g.same i (omega (arith, e)) (omega arith) ∙ h, q)

  pub type_stable : Stable (HoldsType text)
  type_stable xs ys from i (typed d p) g (e, h) = (e, g.same i (omega (arith, e)) (omega arith) ∙ h)

  pub constant_stable : Stable (HoldsConstant text)
  constant_stable xs ys from i (integer_constant v p) g (e, h) = (e, g.same i (omega (arith, e)) (omega arith) ∙ h)
  constant_stable xs ys from i (string_constant x p) g (e, s, h, q) = (e, s, g.same i (omega (arith, e)) (omega arith) ∙ h, q)
  constant_stable xs ys from i (truth_constant b p) g (e, h) = (e, g.same i (omega (arith, e)) (omega arith) ∙ h)

  pub attribute_order : Ordered (HoldsAttribute text)
  attribute_order ns from i (attribute ta tb) (v0, v1, h0, h1, l0, e, h) =
      let o0 = type_order ns from v0 ta h0 in
      let o1 = name_order ns (suc v0) v1 tb h1 in
      omega (arith, o0, o1, l0, e)

  pub attribute_stable : Stable (HoldsAttribute text)
  attribute_stable xs ys from i (attribute ta tb) g (v0, v1, h0, h1, l0, e, h) =
      let o0 = type_order xs from v0 ta h0 in
      let o1 = name_order xs (suc v0) v1 tb h1 in (
        v0,
        v1,
        type_stable xs ys from v0 ta (agree_part from (suc i) from (suc v0) xs ys (omega (arith, o0, o1, l0, e)) (omega (arith, o0, o1, l0, e)) g) h0,
        name_stable xs ys (suc v0) v1 tb (agree_part from (suc i) (suc v0) (suc v1) xs ys (omega (arith, o0, o1, l0, e)) (omega (arith, o0, o1, l0, e)) g) h1,
        l0,
        e,
        g.same i (omega (arith, o0, o1, l0, e)) (omega arith) ∙ h,
      )

  pub tuple_order : Ordered (HoldsTuple text)
  tuple_order ns from i (tuple_of ta p) (f0, v0, h0, e, h) =
      let o0 = chain_order (HoldsConstant text) constant_order ns from v0 f0 ta h0 in
      omega (arith, o0.0, o0.1, e)

  pub tuple_stable : Stable (HoldsTuple text)
  tuple_stable xs ys from i (tuple_of ta p) g (f0, v0, h0, e, h) =
      let o0 = chain_order (HoldsConstant text) constant_order xs from v0 f0 ta h0 in (
        f0,
        v0,
        chain_stable (HoldsConstant text) constant_order constant_stable xs ys from v0 f0 ta (agree_firm from (suc v0) xs ys (agree_part from (suc i) from (suc (suc v0)) xs ys (omega (arith, o0.0, o0.1, e)) (omega (arith, o0.0, o0.1, e)) g)) h0,
        e,
        g.same i (omega (arith, o0.0, o0.1, e)) (omega arith) ∙ h,
      )

  pub expression_order : Ordered (HoldsExpression text)
  expression_order ns from i (variable x) h = name_order ns from i x h
  expression_order ns from i (literal c) h = constant_order ns from i c h
  expression_order ns from i (table_of_tuples ta p) (f0, v0, h0, e, h) =
      let o0 = chain_order (HoldsTuple text) tuple_order ns from v0 f0 ta h0 in
      omega (arith, o0.0, o0.1, e)
  expression_order ns from i (table_of_types ta p) (f0, v0, h0, e, h) =
      let o0 = chain_order (HoldsType text) type_order ns from v0 f0 ta h0 in
      omega (arith, o0.0, o0.1, e)
  expression_order ns from i (logical o p ta tb) (v0, v1, h0, h1, l0, e, h) =
      let o0 = expression_order ns from v0 ta h0 in
      let o1 = expression_order ns (suc v0) v1 tb h1 in
      omega (arith, o0, o1, l0, e)
  expression_order ns from i (compared o p ta tb) (v0, v1, h0, h1, l0, e, h) =
      let o0 = expression_order ns from v0 ta h0 in
      let o1 = expression_order ns (suc v0) v1 tb h1 in
      omega (arith, o0, o1, l0, e)
  expression_order ns from i (summed o p ta tb) (v0, v1, h0, h1, l0, e, h) =
      let o0 = expression_order ns from v0 ta h0 in
      let o1 = expression_order ns (suc v0) v1 tb h1 in
      omega (arith, o0, o1, l0, e)
  expression_order ns from i (multiplied o p ta tb) (v0, v1, h0, h1, l0, e, h) =
      let o0 = expression_order ns from v0 ta h0 in
      let o1 = expression_order ns (suc v0) v1 tb h1 in
      omega (arith, o0, o1, l0, e)
  expression_order ns from i (joined p ta tb tc) (v0, v1, v2, h0, h1, h2, l0, l1, e, h) =
      let o0 = expression_order ns from v0 ta h0 in
      let o1 = expression_order ns (suc v0) v1 tb h1 in
      let o2 = expression_order ns (suc v1) v2 tc h2 in
      omega (arith, o0, o1, o2, l0, l1, e)
  expression_order ns from i (negative p ta) (v0, h0, e, h) =
      let o0 = expression_order ns from v0 ta h0 in
      omega (arith, o0, e)
  expression_order ns from i (negated p ta) (v0, h0, e, h) =
      let o0 = expression_order ns from v0 ta h0 in
      omega (arith, o0, e)
  expression_order ns from i (projected p ta tb) (f0, v0, v1, h0, h1, l0, e, h) =
      let o0 = chain_order (HoldsName text) name_order ns from v0 f0 ta h0 in
      let o1 = expression_order ns (suc v0) v1 tb h1 in
      omega (arith, o0.0, o0.1, o1, l0, e)
  expression_order ns from i (renamed p ta tb) (f0, v0, v1, h0, h1, l0, e, h) =
      let o0 = chain_order (HoldsName text) name_order ns from v0 f0 ta h0 in
      let o1 = expression_order ns (suc v0) v1 tb h1 in
      omega (arith, o0.0, o0.1, o1, l0, e)
  expression_order ns from i (selected p ta tb) (v0, v1, h0, h1, l0, e, h) =
      let o0 = expression_order ns from v0 ta h0 in
      let o1 = expression_order ns (suc v0) v1 tb h1 in
      omega (arith, o0, o1, l0, e)
  expression_order ns from i (existing p ta tb) (v0, v1, h0, h1, l0, e, h) =
      let o0 = expression_order ns from v0 ta h0 in
      let o1 = expression_order ns (suc v0) v1 tb h1 in
      omega (arith, o0, o1, l0, e)
  expression_order ns from i (everywhere p ta tb) (v0, v1, h0, h1, l0, e, h) =
      let o0 = expression_order ns from v0 ta h0 in
      let o1 = expression_order ns (suc v0) v1 tb h1 in
      omega (arith, o0, o1, l0, e)
  expression_order ns from i (updated p ta tb tc) (v0, v1, v2, h0, h1, h2, l0, l1, e, h) =
      let o0 = name_order ns from v0 ta h0 in
      let o1 = expression_order ns (suc v0) v1 tb h1 in
      let o2 = expression_order ns (suc v1) v2 tc h2 in
      omega (arith, o0, o1, o2, l0, l1, e)
  expression_order ns from i (extended p ta tb tc td) (v0, v1, v2, v3, h0, h1, h2, h3, l0, l1, l2, e, h) =
      let o0 = type_order ns from v0 ta h0 in
      let o1 = name_order ns (suc v0) v1 tb h1 in
      let o2 = expression_order ns (suc v1) v2 tc h2 in
      let o3 = expression_order ns (suc v2) v3 td h3 in
      omega (arith, o0, o1, o2, o3, l0, l1, l2, e)

  pub expression_stable : Stable (HoldsExpression text)
  expression_stable xs ys from i (variable x) g h = name_stable xs ys from i x g h
  expression_stable xs ys from i (literal c) g h = constant_stable xs ys from i c g h
  expression_stable xs ys from i (table_of_tuples ta p) g (f0, v0, h0, e, h) =
      let o0 = chain_order (HoldsTuple text) tuple_order xs from v0 f0 ta h0 in (
        f0,
        v0,
        chain_stable (HoldsTuple text) tuple_order tuple_stable xs ys from v0 f0 ta (agree_firm from (suc v0) xs ys (agree_part from (suc i) from (suc (suc v0)) xs ys (omega (arith, o0.0, o0.1, e)) (omega (arith, o0.0, o0.1, e)) g)) h0,
        e,
        g.same i (omega (arith, o0.0, o0.1, e)) (omega arith) ∙ h,
      )
  expression_stable xs ys from i (table_of_types ta p) g (f0, v0, h0, e, h) =
      let o0 = chain_order (HoldsType text) type_order xs from v0 f0 ta h0 in (
        f0,
        v0,
        chain_stable (HoldsType text) type_order type_stable xs ys from v0 f0 ta (agree_firm from (suc v0) xs ys (agree_part from (suc i) from (suc (suc v0)) xs ys (omega (arith, o0.0, o0.1, e)) (omega (arith, o0.0, o0.1, e)) g)) h0,
        e,
        g.same i (omega (arith, o0.0, o0.1, e)) (omega arith) ∙ h,
      )
  expression_stable xs ys from i (logical o p ta tb) g (v0, v1, h0, h1, l0, e, h) =
      let o0 = expression_order xs from v0 ta h0 in
      let o1 = expression_order xs (suc v0) v1 tb h1 in (
        v0,
        v1,
        expression_stable xs ys from v0 ta (agree_part from (suc i) from (suc v0) xs ys (omega (arith, o0, o1, l0, e)) (omega (arith, o0, o1, l0, e)) g) h0,
        expression_stable xs ys (suc v0) v1 tb (agree_part from (suc i) (suc v0) (suc v1) xs ys (omega (arith, o0, o1, l0, e)) (omega (arith, o0, o1, l0, e)) g) h1,
        l0,
        e,
        g.same i (omega (arith, o0, o1, l0, e)) (omega arith) ∙ h,
      )
  expression_stable xs ys from i (compared o p ta tb) g (v0, v1, h0, h1, l0, e, h) =
      let o0 = expression_order xs from v0 ta h0 in
      let o1 = expression_order xs (suc v0) v1 tb h1 in (
        v0,
        v1,
        expression_stable xs ys from v0 ta (agree_part from (suc i) from (suc v0) xs ys (omega (arith, o0, o1, l0, e)) (omega (arith, o0, o1, l0, e)) g) h0,
        expression_stable xs ys (suc v0) v1 tb (agree_part from (suc i) (suc v0) (suc v1) xs ys (omega (arith, o0, o1, l0, e)) (omega (arith, o0, o1, l0, e)) g) h1,
        l0,
        e,
        g.same i (omega (arith, o0, o1, l0, e)) (omega arith) ∙ h,
      )
  expression_stable xs ys from i (summed o p ta tb) g (v0, v1, h0, h1, l0, e, h) =
      let o0 = expression_order xs from v0 ta h0 in
      let o1 = expression_order xs (suc v0) v1 tb h1 in (
        v0,
        v1,
        expression_stable xs ys from v0 ta (agree_part from (suc i) from (suc v0) xs ys (omega (arith, o0, o1, l0, e)) (omega (arith, o0, o1, l0, e)) g) h0,
        expression_stable xs ys (suc v0) v1 tb (agree_part from (suc i) (suc v0) (suc v1) xs ys (omega (arith, o0, o1, l0, e)) (omega (arith, o0, o1, l0, e)) g) h1,
        l0,
        e,
        g.same i (omega (arith, o0, o1, l0, e)) (omega arith) ∙ h,
      )
  expression_stable xs ys from i (multiplied o p ta tb) g (v0, v1, h0, h1, l0, e, h) =
      let o0 = expression_order xs from v0 ta h0 in
      let o1 = expression_order xs (suc v0) v1 tb h1 in (
        v0,
        v1,
        expression_stable xs ys from v0 ta (agree_part from (suc i) from (suc v0) xs ys (omega (arith, o0, o1, l0, e)) (omega (arith, o0, o1, l0, e)) g) h0,
        expression_stable xs ys (suc v0) v1 tb (agree_part from (suc i) (suc v0) (suc v1) xs ys (omega (arith, o0, o1, l0, e)) (omega (arith, o0, o1, l0, e)) g) h1,
        l0,
        e,
        g.same i (omega (arith, o0, o1, l0, e)) (omega arith) ∙ h,
      )
  expression_stable xs ys from i (joined p ta tb tc) g (v0, v1, v2, h0, h1, h2, l0, l1, e, h) =
      let o0 = expression_order xs from v0 ta h0 in
      let o1 = expression_order xs (suc v0) v1 tb h1 in
      let o2 = expression_order xs (suc v1) v2 tc h2 in (
        v0,
        v1,
        v2,
        expression_stable xs ys from v0 ta (agree_part from (suc i) from (suc v0) xs ys (omega (arith, o0, o1, o2, l0, l1, e)) (omega (arith, o0, o1, o2, l0, l1, e)) g) h0,
        expression_stable xs ys (suc v0) v1 tb (agree_part from (suc i) (suc v0) (suc v1) xs ys (omega (arith, o0, o1, o2, l0, l1, e)) (omega (arith, o0, o1, o2, l0, l1, e)) g) h1,
        expression_stable xs ys (suc v1) v2 tc (agree_part from (suc i) (suc v1) (suc v2) xs ys (omega (arith, o0, o1, o2, l0, l1, e)) (omega (arith, o0, o1, o2, l0, l1, e)) g) h2,
        l0,
        l1,
        e,
        g.same i (omega (arith, o0, o1, o2, l0, l1, e)) (omega arith) ∙ h,
      )
  expression_stable xs ys from i (negative p ta) g (v0, h0, e, h) =
      let o0 = expression_order xs from v0 ta h0 in (
        v0,
        expression_stable xs ys from v0 ta (agree_part from (suc i) from (suc v0) xs ys (omega (arith, o0, e)) (omega (arith, o0, e)) g) h0,
        e,
        g.same i (omega (arith, o0, e)) (omega arith) ∙ h,
      )
  expression_stable xs ys from i (negated p ta) g (v0, h0, e, h) =
      let o0 = expression_order xs from v0 ta h0 in (
        v0,
        expression_stable xs ys from v0 ta (agree_part from (suc i) from (suc v0) xs ys (omega (arith, o0, e)) (omega (arith, o0, e)) g) h0,
        e,
        g.same i (omega (arith, o0, e)) (omega arith) ∙ h,
      )
  expression_stable xs ys from i (projected p ta tb) g (f0, v0, v1, h0, h1, l0, e, h) =
      let o0 = chain_order (HoldsName text) name_order xs from v0 f0 ta h0 in
      let o1 = expression_order xs (suc v0) v1 tb h1 in (
        f0,
        v0,
        v1,
        chain_stable (HoldsName text) name_order name_stable xs ys from v0 f0 ta (agree_firm from (suc v0) xs ys (agree_part from (suc i) from (suc (suc v0)) xs ys (omega (arith, o0.0, o0.1, o1, l0, e)) (omega (arith, o0.0, o0.1, o1, l0, e)) g)) h0,
        expression_stable xs ys (suc v0) v1 tb (agree_part from (suc i) (suc v0) (suc v1) xs ys (omega (arith, o0.0, o0.1, o1, l0, e)) (omega (arith, o0.0, o0.1, o1, l0, e)) g) h1,
        l0,
        e,
        g.same i (omega (arith, o0.0, o0.1, o1, l0, e)) (omega arith) ∙ h,
      )
  expression_stable xs ys from i (renamed p ta tb) g (f0, v0, v1, h0, h1, l0, e, h) =
      let o0 = chain_order (HoldsName text) name_order xs from v0 f0 ta h0 in
      let o1 = expression_order xs (suc v0) v1 tb h1 in (
        f0,
        v0,
        v1,
        chain_stable (HoldsName text) name_order name_stable xs ys from v0 f0 ta (agree_firm from (suc v0) xs ys (agree_part from (suc i) from (suc (suc v0)) xs ys (omega (arith, o0.0, o0.1, o1, l0, e)) (omega (arith, o0.0, o0.1, o1, l0, e)) g)) h0,
        expression_stable xs ys (suc v0) v1 tb (agree_part from (suc i) (suc v0) (suc v1) xs ys (omega (arith, o0.0, o0.1, o1, l0, e)) (omega (arith, o0.0, o0.1, o1, l0, e)) g) h1,
        l0,
        e,
        g.same i (omega (arith, o0.0, o0.1, o1, l0, e)) (omega arith) ∙ h,
      )
  expression_stable xs ys from i (selected p ta tb) g (v0, v1, h0, h1, l0, e, h) =
      let o0 = expression_order xs from v0 ta h0 in
      let o1 = expression_order xs (suc v0) v1 tb h1 in (
        v0,
        v1,
        expression_stable xs ys from v0 ta (agree_part from (suc i) from (suc v0) xs ys (omega (arith, o0, o1, l0, e)) (omega (arith, o0, o1, l0, e)) g) h0,
        expression_stable xs ys (suc v0) v1 tb (agree_part from (suc i) (suc v0) (suc v1) xs ys (omega (arith, o0, o1, l0, e)) (omega (arith, o0, o1, l0, e)) g) h1,
        l0,
        e,
        g.same i (omega (arith, o0, o1, l0, e)) (omega arith) ∙ h,
      )
  expression_stable xs ys from i (existing p ta tb) g (v0, v1, h0, h1, l0, e, h) =
      let o0 = expression_order xs from v0 ta h0 in
      let o1 = expression_order xs (suc v0) v1 tb h1 in (
        v0,
        v1,
        expression_stable xs ys from v0 ta (agree_part from (suc i) from (suc v0) xs ys (omega (arith, o0, o1, l0, e)) (omega (arith, o0, o1, l0, e)) g) h0,
        expression_stable xs ys (suc v0) v1 tb (agree_part from (suc i) (suc v0) (suc v1) xs ys (omega (arith, o0, o1, l0, e)) (omega (arith, o0, o1, l0, e)) g) h1,
        l0,
        e,
        g.same i (omega (arith, o0, o1, l0, e)) (omega arith) ∙ h,
      )
  expression_stable xs ys from i (everywhere p ta tb) g (v0, v1, h0, h1, l0, e, h) =
      let o0 = expression_order xs from v0 ta h0 in
      let o1 = expression_order xs (suc v0) v1 tb h1 in (
        v0,
        v1,
        expression_stable xs ys from v0 ta (agree_part from (suc i) from (suc v0) xs ys (omega (arith, o0, o1, l0, e)) (omega (arith, o0, o1, l0, e)) g) h0,
        expression_stable xs ys (suc v0) v1 tb (agree_part from (suc i) (suc v0) (suc v1) xs ys (omega (arith, o0, o1, l0, e)) (omega (arith, o0, o1, l0, e)) g) h1,
        l0,
        e,
        g.same i (omega (arith, o0, o1, l0, e)) (omega arith) ∙ h,
      )
  expression_stable xs ys from i (updated p ta tb tc) g (v0, v1, v2, h0, h1, h2, l0, l1, e, h) =
      let o0 = name_order xs from v0 ta h0 in
      let o1 = expression_order xs (suc v0) v1 tb h1 in
      let o2 = expression_order xs (suc v1) v2 tc h2 in (
        v0,
        v1,
        v2,
        name_stable xs ys from v0 ta (agree_part from (suc i) from (suc v0) xs ys (omega (arith, o0, o1, o2, l0, l1, e)) (omega (arith, o0, o1, o2, l0, l1, e)) g) h0,
        expression_stable xs ys (suc v0) v1 tb (agree_part from (suc i) (suc v0) (suc v1) xs ys (omega (arith, o0, o1, o2, l0, l1, e)) (omega (arith, o0, o1, o2, l0, l1, e)) g) h1,
        expression_stable xs ys (suc v1) v2 tc (agree_part from (suc i) (suc v1) (suc v2) xs ys (omega (arith, o0, o1, o2, l0, l1, e)) (omega (arith, o0, o1, o2, l0, l1, e)) g) h2,
        l0,
        l1,
        e,
        g.same i (omega (arith, o0, o1, o2, l0, l1, e)) (omega arith) ∙ h,
      )
  expression_stable xs ys from i (extended p ta tb tc td) g (v0, v1, v2, v3, h0, h1, h2, h3, l0, l1, l2, e, h) =
      let o0 = type_order xs from v0 ta h0 in
      let o1 = name_order xs (suc v0) v1 tb h1 in
      let o2 = expression_order xs (suc v1) v2 tc h2 in
      let o3 = expression_order xs (suc v2) v3 td h3 in (
        v0,
        v1,
        v2,
        v3,
        type_stable xs ys from v0 ta (agree_part from (suc i) from (suc v0) xs ys (omega (arith, o0, o1, o2, o3, l0, l1, l2, e)) (omega (arith, o0, o1, o2, o3, l0, l1, l2, e)) g) h0,
        name_stable xs ys (suc v0) v1 tb (agree_part from (suc i) (suc v0) (suc v1) xs ys (omega (arith, o0, o1, o2, o3, l0, l1, l2, e)) (omega (arith, o0, o1, o2, o3, l0, l1, l2, e)) g) h1,
        expression_stable xs ys (suc v1) v2 tc (agree_part from (suc i) (suc v1) (suc v2) xs ys (omega (arith, o0, o1, o2, o3, l0, l1, l2, e)) (omega (arith, o0, o1, o2, o3, l0, l1, l2, e)) g) h2,
        expression_stable xs ys (suc v2) v3 td (agree_part from (suc i) (suc v2) (suc v3) xs ys (omega (arith, o0, o1, o2, o3, l0, l1, l2, e)) (omega (arith, o0, o1, o2, o3, l0, l1, l2, e)) g) h3,
        l0,
        l1,
        l2,
        e,
        g.same i (omega (arith, o0, o1, o2, o3, l0, l1, l2, e)) (omega arith) ∙ h,
      )

  pub variable_type_order : Ordered (HoldsVariableType text)
  variable_type_order ns from i (of_domain ta) (v0, h0, e, h) =
      let o0 = type_order ns from v0 ta h0 in
      omega (arith, o0, e)
  variable_type_order ns from i (of_table ts p) (f, m, l, a, d, b, e, h) =
      let o = chain_order (HoldsAttribute text) attribute_order ns from m f ts a in omega (arith, o.0, o.1, d, e)

  pub variable_type_stable : Stable (HoldsVariableType text)
  variable_type_stable xs ys from i (of_domain ta) g (v0, h0, e, h) =
      let o0 = type_order xs from v0 ta h0 in (
        v0,
        type_stable xs ys from v0 ta (agree_part from (suc i) from (suc v0) xs ys (omega (arith, o0, e)) (omega (arith, o0, e)) g) h0,
        e,
        g.same i (omega (arith, o0, e)) (omega arith) ∙ h,
      )
  variable_type_stable xs ys from i (of_table ts p) g (f, m, l, a, d, b, e, h) =
      let o = chain_order (HoldsAttribute text) attribute_order xs from m f ts a in (
        f,
        m,
        l,
        chain_stable (HoldsAttribute text) attribute_order attribute_stable xs ys from m f ts
            (agree_firm from (suc m) xs ys (agree_part from (suc i) from (suc (suc m)) xs ys (omega arith) (omega (arith, d, e)) g)) a,
        d,
        g.same l (omega (arith, o.0, o.1, d, e)) (omega (arith, e)) ∙ b,
        e,
        g.same i (omega (arith, o.0, o.1, d, e)) (omega arith) ∙ h,
      )

  pub specifier_order : (p : Place) → Ordered (HoldsSpecifier text p)
  specifier_order p ns from i none (e, h) = omega (arith, e)
  specifier_order p ns from i (some a) (l, x, e, h) = let o = expression_order ns from l a x in omega (arith, o, e)

  pub specifier_stable : (p : Place) → Stable (HoldsSpecifier text p)
  specifier_stable p xs ys from i none g (e, h) = (e, g.same i (omega (arith, e)) (omega arith) ∙ h)
  specifier_stable p xs ys from i (some a) g (l, x, e, h) =
      let o = expression_order xs from l a x in
      (l, expression_stable xs ys from l a (agree_part from (suc i) from (suc l) xs ys (omega arith) (omega (arith, e)) g) x, e, g.same i (omega (arith, o, e)) (omega arith) ∙ h)

  mutual
    pub statement_order : Ordered (HoldsStatement text)
    statement_order ns from i (define ta tb) (v0, f1, v1, h0, h1, l0, e, h) =
        let o0 = variable_type_order ns from v0 ta h0 in
        let o1 = chain_order (HoldsName text) name_order ns (suc v0) v1 f1 tb h1 in
        omega (arith, o0, o1.0, o1.1, l0, e)
    statement_order ns from i (assign ta tb) (v0, v1, h0, h1, l0, e, h) =
        let o0 = name_order ns from v0 ta h0 in
        let o1 = expression_order ns (suc v0) v1 tb h1 in
        omega (arith, o0, o1, l0, e)
    statement_order ns from i (if_then p ta tb) (v0, v1, h0, h1, l0, e, h) =
        let o0 = expression_order ns from v0 ta h0 in
        let o1 = block_order ns (suc v0) v1 tb h1 in
        omega (arith, o0, o1, l0, e)
    statement_order ns from i (if_then_else p ta tb tc) (v0, v1, v2, h0, h1, h2, l0, l1, e, h) =
        let o0 = expression_order ns from v0 ta h0 in
        let o1 = block_order ns (suc v0) v1 tb h1 in
        let o2 = block_order ns (suc v1) v2 tc h2 in
        omega (arith, o0, o1, o2, l0, l1, e)
    statement_order ns from i (while_do p ta tb) (v0, v1, h0, h1, l0, e, h) =
        let o0 = expression_order ns from v0 ta h0 in
        let o1 = block_order ns (suc v0) v1 tb h1 in
        omega (arith, o0, o1, l0, e)
    statement_order ns from i (read_into p ta tb) (v0, v1, h0, h1, l0, e, h) =
        let o0 = specifier_order p ns from v0 ta h0 in
        let o1 = name_order ns (suc v0) v1 tb h1 in
        omega (arith, o0, o1, l0, e)
    statement_order ns from i (write_out p ta tb) (v0, v1, h0, h1, l0, e, h) =
        let o0 = specifier_order p ns from v0 ta h0 in
        let o1 = expression_order ns (suc v0) v1 tb h1 in
        omega (arith, o0, o1, l0, e)

    pub statements_order : (ns : List Node) (from last first : ℕ) (b : Statements) → HoldsStatements text ns from last first b → (from ≤ first) × (first ≤ last)
    statements_order ns from last first no_statement h = absurd h
    statements_order ns from last first (a followed_by no_statement) (x, e, z) = (statement_order ns from first a x, omega (arith, e))
    statements_order ns from last first (a followed_by (b followed_by c)) (i, x, e, lt, h) =
        let r = statements_order ns (suc first) last i (b followed_by c) h in (statement_order ns from first a x, omega (arith, r.1, lt))

    pub block_order : Ordered (HoldsBlock text)
    block_order ns from i (closed_at b q) (f, l, a, e, h) = let o = statements_order ns from l f b a in omega (arith, o.0, o.1, e)

  mutual
    pub statement_stable : Stable (HoldsStatement text)
    statement_stable xs ys from i (define ta tb) g (v0, f1, v1, h0, h1, l0, e, h) =
        let o0 = variable_type_order xs from v0 ta h0 in
        let o1 = chain_order (HoldsName text) name_order xs (suc v0) v1 f1 tb h1 in (
          v0,
          f1,
          v1,
          variable_type_stable xs ys from v0 ta (agree_part from (suc i) from (suc v0) xs ys (omega (arith, o0, o1.0, o1.1, l0, e)) (omega (arith, o0, o1.0, o1.1, l0, e)) g) h0,
          chain_stable (HoldsName text) name_order name_stable xs ys (suc v0) v1 f1 tb (agree_firm (suc v0) (suc v1) xs ys (agree_part from (suc i) (suc v0) (suc (suc v1)) xs ys (omega (arith, o0, o1.0, o1.1, l0, e)) (omega (arith, o0, o1.0, o1.1, l0, e)) g)) h1,
          l0,
          e,
          g.same i (omega (arith, o0, o1.0, o1.1, l0, e)) (omega arith) ∙ h,
        )
    statement_stable xs ys from i (assign ta tb) g (v0, v1, h0, h1, l0, e, h) =
        let o0 = name_order xs from v0 ta h0 in
        let o1 = expression_order xs (suc v0) v1 tb h1 in (
          v0,
          v1,
          name_stable xs ys from v0 ta (agree_part from (suc i) from (suc v0) xs ys (omega (arith, o0, o1, l0, e)) (omega (arith, o0, o1, l0, e)) g) h0,
          expression_stable xs ys (suc v0) v1 tb (agree_part from (suc i) (suc v0) (suc v1) xs ys (omega (arith, o0, o1, l0, e)) (omega (arith, o0, o1, l0, e)) g) h1,
          l0,
          e,
          g.same i (omega (arith, o0, o1, l0, e)) (omega arith) ∙ h,
        )
    statement_stable xs ys from i (if_then p ta tb) g (v0, v1, h0, h1, l0, e, h) =
        let o0 = expression_order xs from v0 ta h0 in
        let o1 = block_order xs (suc v0) v1 tb h1 in (
          v0,
          v1,
          expression_stable xs ys from v0 ta (agree_part from (suc i) from (suc v0) xs ys (omega (arith, o0, o1, l0, e)) (omega (arith, o0, o1, l0, e)) g) h0,
          block_stable xs ys (suc v0) v1 tb (agree_part from (suc i) (suc v0) (suc v1) xs ys (omega (arith, o0, o1, l0, e)) (omega (arith, o0, o1, l0, e)) g) h1,
          l0,
          e,
          g.same i (omega (arith, o0, o1, l0, e)) (omega arith) ∙ h,
        )
    statement_stable xs ys from i (if_then_else p ta tb tc) g (v0, v1, v2, h0, h1, h2, l0, l1, e, h) =
        let o0 = expression_order xs from v0 ta h0 in
        let o1 = block_order xs (suc v0) v1 tb h1 in
        let o2 = block_order xs (suc v1) v2 tc h2 in (
          v0,
          v1,
          v2,
          expression_stable xs ys from v0 ta (agree_part from (suc i) from (suc v0) xs ys (omega (arith, o0, o1, o2, l0, l1, e)) (omega (arith, o0, o1, o2, l0, l1, e)) g) h0,
          block_stable xs ys (suc v0) v1 tb (agree_part from (suc i) (suc v0) (suc v1) xs ys (omega (arith, o0, o1, o2, l0, l1, e)) (omega (arith, o0, o1, o2, l0, l1, e)) g) h1,
          block_stable xs ys (suc v1) v2 tc (agree_part from (suc i) (suc v1) (suc v2) xs ys (omega (arith, o0, o1, o2, l0, l1, e)) (omega (arith, o0, o1, o2, l0, l1, e)) g) h2,
          l0,
          l1,
          e,
          g.same i (omega (arith, o0, o1, o2, l0, l1, e)) (omega arith) ∙ h,
        )
    statement_stable xs ys from i (while_do p ta tb) g (v0, v1, h0, h1, l0, e, h) =
        let o0 = expression_order xs from v0 ta h0 in
        let o1 = block_order xs (suc v0) v1 tb h1 in (
          v0,
          v1,
          expression_stable xs ys from v0 ta (agree_part from (suc i) from (suc v0) xs ys (omega (arith, o0, o1, l0, e)) (omega (arith, o0, o1, l0, e)) g) h0,
          block_stable xs ys (suc v0) v1 tb (agree_part from (suc i) (suc v0) (suc v1) xs ys (omega (arith, o0, o1, l0, e)) (omega (arith, o0, o1, l0, e)) g) h1,
          l0,
          e,
          g.same i (omega (arith, o0, o1, l0, e)) (omega arith) ∙ h,
        )
    statement_stable xs ys from i (read_into p ta tb) g (v0, v1, h0, h1, l0, e, h) =
        let o0 = specifier_order p xs from v0 ta h0 in
        let o1 = name_order xs (suc v0) v1 tb h1 in (
          v0,
          v1,
          specifier_stable p xs ys from v0 ta (agree_part from (suc i) from (suc v0) xs ys (omega (arith, o0, o1, l0, e)) (omega (arith, o0, o1, l0, e)) g) h0,
          name_stable xs ys (suc v0) v1 tb (agree_part from (suc i) (suc v0) (suc v1) xs ys (omega (arith, o0, o1, l0, e)) (omega (arith, o0, o1, l0, e)) g) h1,
          l0,
          e,
          g.same i (omega (arith, o0, o1, l0, e)) (omega arith) ∙ h,
        )
    statement_stable xs ys from i (write_out p ta tb) g (v0, v1, h0, h1, l0, e, h) =
        let o0 = specifier_order p xs from v0 ta h0 in
        let o1 = expression_order xs (suc v0) v1 tb h1 in (
          v0,
          v1,
          specifier_stable p xs ys from v0 ta (agree_part from (suc i) from (suc v0) xs ys (omega (arith, o0, o1, l0, e)) (omega (arith, o0, o1, l0, e)) g) h0,
          expression_stable xs ys (suc v0) v1 tb (agree_part from (suc i) (suc v0) (suc v1) xs ys (omega (arith, o0, o1, l0, e)) (omega (arith, o0, o1, l0, e)) g) h1,
          l0,
          e,
          g.same i (omega (arith, o0, o1, l0, e)) (omega arith) ∙ h,
        )

    pub statements_stable : (xs ys : List Node) (from last first : ℕ) (b : Statements) → Firm from (suc last) xs ys → HoldsStatements text xs from last first b → HoldsStatements text ys from last first b
    statements_stable xs ys from last first no_statement g h = absurd h
    statements_stable xs ys from last first (a followed_by no_statement) g (x, e, z) =
        let r = statement_order xs from first a x in
        (statement_stable xs ys from first a (firm_agree from (suc last) from (suc first) xs ys (omega arith) (omega (arith, e)) g) x, e, g.linked first r (omega (arith, e)) ∙ z)
    statements_stable xs ys from last first (a followed_by (b followed_by c)) g (i, x, e, lt, h) =
        let r = statement_order xs from first a x in
        let q = statements_order xs (suc first) last i (b followed_by c) h in (
          i,
          statement_stable xs ys from first a (firm_agree from (suc last) from (suc first) xs ys (omega arith) (omega (arith, q.1, lt)) g) x,
          g.linked first r (omega (arith, q.1, lt)) ∙ e,
          lt,
          statements_stable xs ys (suc first) last i (b followed_by c) (firm_part from (suc last) (suc first) (suc last) xs ys (omega (arith, r)) (omega arith) g) h,
        )

    pub block_stable : Stable (HoldsBlock text)
    block_stable xs ys from i (closed_at b q) g (f, l, a, e, h) =
        let o = statements_order xs from l f b a in (
          f,
          l,
          statements_stable xs ys from l f b (agree_firm from (suc l) xs ys (agree_part from (suc i) from (suc (suc l)) xs ys (omega arith) (omega (arith, e)) g)) a,
          e,
          g.same i (omega (arith, o.0, o.1, e)) (omega arith) ∙ h,
        )

  -- statements, and others behind them whose first root the last of the former names
  pub statements_append : (xs ys : List Node) (from last first end next : ℕ) (b c : Statements) →
      Agree from (suc last) xs ys → (node_at ys last).next ≡ Some next → last < next → HoldsStatements text xs from last first b → HoldsStatements text ys (suc last) end next c →
      HoldsStatements text ys from end first (append_statements b c)
  statements_append xs ys from last first end next no_statement c g n lt h k = absurd h
  statements_append xs ys from last first end next (a followed_by no_statement) no_statement g n lt h k = absurd k
  statements_append xs ys from last first end next (a followed_by no_statement) (b followed_by c) g n lt (x, e, z) k = (
    next,
    statement_stable xs ys from first a (agree_part from (suc last) from (suc first) xs ys (omega arith) (omega (arith, e)) g) x,
    subst (λ i. (node_at ys i).next ≡ Some next) (sym e) n,
    omega (arith, e),
    subst (λ i. HoldsStatements text ys (suc i) end next (b followed_by c)) (sym e) k,
  )
  statements_append xs ys from last first end next (a followed_by (b followed_by d)) c g n lt (i, x, e, j, h) k =
      let r = statement_order xs from first a x in
      let q = statements_order xs (suc first) last i (b followed_by d) h in (
        i,
        statement_stable xs ys from first a (agree_part from (suc last) from (suc first) xs ys (omega arith) (omega (arith, q.1, j)) g) x,
        g.linked first r (omega (arith, q.1, j)) ∙ e,
        j,
        statements_append xs ys (suc first) last i end next (b followed_by d) c (agree_part from (suc last) (suc first) (suc last) xs ys (omega (arith, r)) (omega arith) g) n lt h k,
      )
