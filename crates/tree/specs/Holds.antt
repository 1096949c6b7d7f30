-- When an arena holds a tree. The nodes of a part lie in one run of entries, from its first to its root, which is the last:
-- no entry between is anything else, every child lies below its parent, and the run of a child ends where the next one's begins.
use Rattle.std.specs.Prelude.{◌≡◌, ℕ, suc, ◌<◌, List, [], ◌∷◌, Some, None, slice_index_or}
use Rattle.std.proofs.Math.Option.{Option, none, some}
use Rattle.words.specs.Tokens.{Bytes, Place}
use Rattle.fault.specs.Places.{nowhere}
use Rattle.words.specs.Spans.{part_of}
use Rattle.words.specs.declared.spans.Span.{Span}
use Rattle.grammar.specs.Tree.{Name, Constant, Tuple, AtomicType, Attribute, VariableType, Expression, Statement, Statements, Block}
use Rattle.grammar.specs.Tree.{Name.named, Constant.integer_constant, Constant.string_constant, Constant.truth_constant, Tuple.tuple_of, AtomicType.typed}
use Rattle.grammar.specs.Tree.{Attribute.attribute, VariableType.of_domain, VariableType.of_table, Expression.variable, Expression.literal}
use Rattle.grammar.specs.Tree.{Expression.table_of_tuples, Expression.table_of_types, Expression.logical, Expression.compared, Expression.summed}
use Rattle.grammar.specs.Tree.{Expression.multiplied, Expression.joined, Expression.negative, Expression.negated, Expression.projected, Expression.renamed}
use Rattle.grammar.specs.Tree.{Expression.selected, Expression.existing, Expression.everywhere, Expression.updated, Expression.extended, Statement.define}
use Rattle.grammar.specs.Tree.{Statement.assign, Statement.if_then, Statement.if_then_else, Statement.while_do, Statement.read_into, Statement.write_out}
use Rattle.grammar.specs.Tree.{Statements.no_statement, Statements.◌followed_by◌, Block.closed_at}
use Rattle.tree.specs.declared.nodes.What.{What}
use Rattle.tree.specs.declared.nodes.What.TheVariants as what
use Rattle.tree.specs.declared.nodes.Node.{Node}

-- an entry that holds no node
abbrev pub empty : Node
empty = record { what = what.Nothing; place = nowhere; next = None }

abbrev pub node_at : List Node → ℕ → Node
node_at ns i = slice_index_or ns i empty

-- a node but for its place in a list
pub record Said : Type 0 where
  pub what : What
  pub place : Place

abbrev pub said : Node → Said
said n = record { what = n.what; place = n.place }

abbrev pub says : What → Place → Said
says w p = record { what = w; place = p }

-- entry i says this, at this place of the text
abbrev pub Says : List Node → ℕ → What → Place → Type 0
Says ns i w p = said (node_at ns i) ≡ says w p

-- where a statement that begins with it has its place
abbrev pub name_at : Name → Place
name_at (named x p) = p

abbrev pub type_at : AtomicType → Place
type_at (typed d p) = p

abbrev pub variable_type_at : VariableType → Place
variable_type_at (of_domain y) = type_at y
variable_type_at (of_table xs p) = p

-- what an arena holds in the entries from the first number to the second
abbrev pub Holder : Type 0 → Type 1
Holder A = List Node → ℕ → ℕ → A → Type 0

-- the elements of a list: its entries go from the first number to the second, the third is the root of the first element
abbrev pub Chained : {A : Type 0} → Holder A → List Node → ℕ → ℕ → ℕ → List A → Type 0
Chained H ns from last first [] = ⊥
Chained H ns from last first (x ∷ []) = (H ns from first x) × (first ≡ last) × ((node_at ns first).next ≡ None)
Chained H ns from last first (x ∷ y ∷ ys) =
    (next : ℕ) × (H ns from first x) × ((node_at ns first).next ≡ Some next) × (first < next) × Chained H ns (suc first) last next (y ∷ ys)

module _ (text : Bytes) where
  -- a name or a string is a part of the text
  abbrev pub HoldsName : Holder Name
  HoldsName ns from i (named x p) = (from ≡ i) × (s : Span) × (Says ns i (what.Name s) p) × (part_of s text ≡ Some x)

  abbrev pub HoldsType : Holder AtomicType
  HoldsType ns from i (typed d p) = (from ≡ i) × Says ns i (what.AtomicType d) p

  abbrev pub HoldsConstant : Holder Constant
  HoldsConstant ns from i (integer_constant v p) = (from ≡ i) × Says ns i (what.Integer v) p
  HoldsConstant ns from i (string_constant x p) = (from ≡ i) × (s : Span) × (Says ns i (what.Text s) p) × (part_of s text ≡ Some x)
  HoldsConstant ns from i (truth_constant b p) = (from ≡ i) × Says ns i (what.Truth b) p

  abbrev pub HoldsAttribute : Holder Attribute
  HoldsAttribute ns from i (attribute y x) =
      (t : ℕ) × (l : ℕ) × (HoldsType ns from t y) × (HoldsName ns (suc t) l x) × (t < l) × (i ≡ suc l) × Says ns i (what.Attribute t l) (type_at y)

  abbrev pub HoldsTuple : Holder Tuple
  HoldsTuple ns from i (tuple_of xs p) =
      (f : ℕ) × (l : ℕ) × (Chained HoldsConstant ns from l f xs) × (i ≡ suc l) × Says ns i (what.Tuple f) p

  abbrev pub HoldsExpression : Holder Expression
  HoldsExpression ns from i (variable x) = HoldsName ns from i x
  HoldsExpression ns from i (literal c) = HoldsConstant ns from i c
  HoldsExpression ns from i (table_of_tuples xs p) =
      (f : ℕ) × (l : ℕ) × (Chained HoldsTuple ns from l f xs) × (i ≡ suc l) × Says ns i (what.TableOfTuples f) p
  HoldsExpression ns from i (table_of_types ys p) =
      (f : ℕ) × (l : ℕ) × (Chained HoldsType ns from l f ys) × (i ≡ suc l) × Says ns i (what.TableOfTypes f) p
  HoldsExpression ns from i (logical o p a b) =
      (m : ℕ) × (l : ℕ) × (HoldsExpression ns from m a) × (HoldsExpression ns (suc m) l b) × (m < l) × (i ≡ suc l) × Says ns i (what.Logical o m l) p
  HoldsExpression ns from i (compared o p a b) =
      (m : ℕ) × (l : ℕ) × (HoldsExpression ns from m a) × (HoldsExpression ns (suc m) l b) × (m < l) × (i ≡ suc l) × Says ns i (what.Compared o m l) p
  HoldsExpression ns from i (summed o p a b) =
      (m : ℕ) × (l : ℕ) × (HoldsExpression ns from m a) × (HoldsExpression ns (suc m) l b) × (m < l) × (i ≡ suc l) × Says ns i (what.Summed o m l) p
  HoldsExpression ns from i (multiplied o p a b) =
      (m : ℕ) × (l : ℕ) × (HoldsExpression ns from m a) × (HoldsExpression ns (suc m) l b) × (m < l) × (i ≡ suc l) × Says ns i (what.Multiplied o m l) p
  HoldsExpression ns from i (joined p a c b) =
      (k : ℕ) × (m : ℕ) × (l : ℕ) × (HoldsExpression ns from k a) × (HoldsExpression ns (suc k) m c) × (HoldsExpression ns (suc m) l b) ×
      (k < m) × (m < l) × (i ≡ suc l) × Says ns i (what.Joined k m l) p
  HoldsExpression ns from i (negative p a) = (l : ℕ) × (HoldsExpression ns from l a) × (i ≡ suc l) × Says ns i (what.Negative l) p
  HoldsExpression ns from i (negated p a) = (l : ℕ) × (HoldsExpression ns from l a) × (i ≡ suc l) × Says ns i (what.Negated l) p
  HoldsExpression ns from i (projected p xs a) =
      (f : ℕ) × (m : ℕ) × (l : ℕ) × (Chained HoldsName ns from m f xs) × (HoldsExpression ns (suc m) l a) × (m < l) × (i ≡ suc l) × Says ns i (what.Projected f l) p
  HoldsExpression ns from i (renamed p xs a) =
      (f : ℕ) × (m : ℕ) × (l : ℕ) × (Chained HoldsName ns from m f xs) × (HoldsExpression ns (suc m) l a) × (m < l) × (i ≡ suc l) × Says ns i (what.Renamed f l) p
  HoldsExpression ns from i (selected p c a) =
      (m : ℕ) × (l : ℕ) × (HoldsExpression ns from m c) × (HoldsExpression ns (suc m) l a) × (m < l) × (i ≡ suc l) × Says ns i (what.Selected m l) p
  HoldsExpression ns from i (existing p c a) =
      (m : ℕ) × (l : ℕ) × (HoldsExpression ns from m c) × (HoldsExpression ns (suc m) l a) × (m < l) × (i ≡ suc l) × Says ns i (what.Existing m l) p
  HoldsExpression ns from i (everywhere p c a) =
      (m : ℕ) × (l : ℕ) × (HoldsExpression ns from m c) × (HoldsExpression ns (suc m) l a) × (m < l) × (i ≡ suc l) × Says ns i (what.Everywhere m l) p
  HoldsExpression ns from i (updated p x v a) =
      (k : ℕ) × (m : ℕ) × (l : ℕ) × (HoldsName ns from k x) × (HoldsExpression ns (suc k) m v) × (HoldsExpression ns (suc m) l a) ×
      (k < m) × (m < l) × (i ≡ suc l) × Says ns i (what.Updated k m l) p
  HoldsExpression ns from i (extended p y x v a) =
      (t : ℕ) × (k : ℕ) × (m : ℕ) × (l : ℕ) × (HoldsType ns from t y) × (HoldsName ns (suc t) k x) × (HoldsExpression ns (suc k) m v) ×
      (HoldsExpression ns (suc m) l a) × (t < k) × (k < m) × (m < l) × (i ≡ suc l) × Says ns i (what.Extended t k m l) p

  abbrev pub HoldsVariableType : Holder VariableType
  HoldsVariableType ns from i (of_domain y) = (l : ℕ) × (HoldsType ns from l y) × (i ≡ suc l) × Says ns i (what.Type l) (type_at y)
  HoldsVariableType ns from i (of_table xs p) =
      (f : ℕ) × (m : ℕ) × (l : ℕ) × (Chained HoldsAttribute ns from m f xs) × (l ≡ suc m) × (Says ns l (what.TableType f) p) × (i ≡ suc l) × Says ns i (what.Type l) p

  -- a specifier stands at its statement's word, an absent one too
  abbrev pub HoldsSpecifier : Place → Holder (Option Expression)
  HoldsSpecifier p ns from i none = (from ≡ i) × Says ns i what.NoSpecifier p
  HoldsSpecifier p ns from i (some e) = (l : ℕ) × (HoldsExpression ns from l e) × (i ≡ suc l) × Says ns i (what.Specifier l) p

  abbrev mutual
    pub HoldsStatement : Holder Statement
    HoldsStatement ns from i (define y xs) =
        (t : ℕ) × (f : ℕ) × (l : ℕ) × (HoldsVariableType ns from t y) × (Chained HoldsName ns (suc t) l f xs) × (t < l) × (i ≡ suc l) × Says ns i (what.Define t f) (variable_type_at y)
    HoldsStatement ns from i (assign x e) =
        (m : ℕ) × (l : ℕ) × (HoldsName ns from m x) × (HoldsExpression ns (suc m) l e) × (m < l) × (i ≡ suc l) × Says ns i (what.Assign m l) (name_at x)
    HoldsStatement ns from i (if_then p e a) =
        (m : ℕ) × (l : ℕ) × (HoldsExpression ns from m e) × (HoldsBlock ns (suc m) l a) × (m < l) × (i ≡ suc l) × Says ns i (what.IfThen m l) p
    HoldsStatement ns from i (if_then_else p e a b) =
        (k : ℕ) × (m : ℕ) × (l : ℕ) × (HoldsExpression ns from k e) × (HoldsBlock ns (suc k) m a) × (HoldsBlock ns (suc m) l b) ×
        (k < m) × (m < l) × (i ≡ suc l) × Says ns i (what.IfThenElse k m l) p
    HoldsStatement ns from i (while_do p e a) =
        (m : ℕ) × (l : ℕ) × (HoldsExpression ns from m e) × (HoldsBlock ns (suc m) l a) × (m < l) × (i ≡ suc l) × Says ns i (what.While m l) p
    HoldsStatement ns from i (read_into p s x) =
        (m : ℕ) × (l : ℕ) × (HoldsSpecifier p ns from m s) × (HoldsName ns (suc m) l x) × (m < l) × (i ≡ suc l) × Says ns i (what.Read m l) p
    HoldsStatement ns from i (write_out p s e) =
        (m : ℕ) × (l : ℕ) × (HoldsSpecifier p ns from m s) × (HoldsExpression ns (suc m) l e) × (m < l) × (i ≡ suc l) × Says ns i (what.Write m l) p

    -- the elements of a list of statements, as those of any list
    pub HoldsStatements : List Node → ℕ → ℕ → ℕ → Statements → Type 0
    HoldsStatements ns from last first no_statement = ⊥
    HoldsStatements ns from last first (a followed_by no_statement) = (HoldsStatement ns from first a) × (first ≡ last) × ((node_at ns first).next ≡ None)
    HoldsStatements ns from last first (a followed_by (b followed_by bs)) =
        (next : ℕ) × (HoldsStatement ns from first a) × ((node_at ns first).next ≡ Some next) × (first < next) × HoldsStatements ns (suc first) last next (b followed_by bs)

    -- statements stand at the word that closes them
    pub HoldsBlock : Holder Block
    HoldsBlock ns from i (closed_at b q) = (f : ℕ) × (l : ℕ) × (HoldsStatements ns from l f b) × (i ≡ suc l) × Says ns i (what.Statements f) q

  -- the whole tree, its root at entry i, where its last `end` stands
  abbrev pub HoldsProgram : List Node → ℕ → Block → Type 0
  HoldsProgram ns i (closed_at b q) = (l : ℕ) × (HoldsBlock ns 0 l (closed_at b q)) × (i ≡ suc l) × Says ns i (what.Program l) q
