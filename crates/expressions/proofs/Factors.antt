-- A factor by the token that it begins with, and a bracket.
use Rattle.std.proofs.Common.{◌≡◌, ℕ, zero, suc, ◌<◌, true, false, eqb, List, ◌∷◌, pos, Some, None, Ok, Err, Option, Result, sym, refl, ap, ◌∙◌, subst, arith}
use Rattle.std.proofs.lemmas.Bool.{eqb-true}
use Rattle.fault.specs.declared.rules.Fault.{Fault}
use Rattle.words.specs.declared.tokens.Word.TheVariants.{Program, End, Table, If, Then, Else, While, Do, Read, Write, Join, Not, Project, Select, Exists}
use Rattle.words.specs.declared.tokens.Word.TheVariants.{All, Update, Extend, Rename}
use Rattle.words.specs.declared.tokens.Sum.TheVariants.{Plus, Minus}
use Rattle.words.specs.declared.tokens.Sign.TheVariants.{LeftParenthesis, RightParenthesis, LeftBracket, RightBracket, LeftBrace, RightBrace, Semicolon}
use Rattle.words.specs.declared.tokens.Sign.TheVariants.{Comma, Assign}
use Rattle.words.specs.Lexing.{end_of}
use Rattle.words.specs.Tokens.{Bytes, Place, Terminal, Token, Token.◌at◌, Terminal.word, Terminal.sign, Terminal.domain, Terminal.logic, Terminal.comparison}
use Rattle.words.specs.Tokens.{Terminal.sum, Terminal.product, Terminal.truth, Terminal.integer, Terminal.string, Terminal.name, Terminal.broken}
use Rattle.grammar.specs.Parts.{expression_part, name_part, constant_part, Part, Level}
use Rattle.grammar.specs.Parts.{Leaf.name_leaf, Leaf.type_leaf, Leaf.constant_leaf, Level.name_level, Level.constant_level}
use Rattle.grammar.specs.Parts.{argument_of, apply, right_parenthesis, left_bracket, right_bracket, assign_token}
use Rattle.grammar.specs.Promise.{any_token}
use Rattle.grammar.specs.Readers.{Cause.cannot_follow, Outcome, Outcome.found as read, Outcome.refused_at, and_then, expect_token, read_leaf, read_bracket, read_argument, openings, factors_at, brackets_at, expressions_at}
use Rattle.phrases.specs.Places.{pays_ahead}
use Rattle.phrases.specs.States.{before, refused_by, opened, code_ahead}
use Rattle.expressions.specs.declared.sorts.Unary.{Unary}
use Rattle.expressions.specs.declared.sorts.Unary.TheVariants as unary
use Rattle.expressions.specs.declared.sorts.Negation.{Negation}
use Rattle.expressions.specs.declared.sorts.Negation.TheVariants as negation
use Rattle.expressions.specs.declared.sorts.Start.{Start}
use Rattle.expressions.specs.declared.sorts.Start.TheVariants as start
use Rattle.expressions.specs.Starts.{start_in}
use Rattle.expressions.specs.Shapes.{negation_of, unary_of, negation_behind, assigned_reader, inside_reader, unary_behind, enclosed_behind, table_reader}
use Rattle.grammar.specs.Tree.{Expression.variable, Expression.literal, Name, Name.named, Constant.integer_constant, Constant.string_constant, Constant.truth_constant, Constant}
use Rattle.words.specs.Numbers.{value_of}
use Rattle.tree.specs.declared.nodes.Node.{Node}
use Rattle.phrases.specs.declared.parsers.Parser.{Parser}
use Rattle.phrases.specs.Held.{Held}
use Rattle.phrases.specs.States.{Answers, tokens_ahead}
use Rattle.phrases.proofs.Scans.{pays_some}
use Rattle.phrases.proofs.ListSteps.{one_name}
use Rattle.expressions.specs.Shapes.{Expressed}

then_assoc : (x : Outcome) (f g : Part → List Token → Outcome) → and_then (and_then x f) g ≡ and_then x (λ t r. and_then (f t r) g)
then_assoc (read t r) f g = refl
then_assoc (refused_at c r) f g = refl

then_same : (x : Outcome) (g h : Part → List Token → Outcome) → ((t : Part) (r : List Token) → g t r ≡ h t r) → and_then x g ≡ and_then x h
then_same (read t r) g h e = e t r
then_same (refused_at c r) g h e = refl

-- two readers that find their part at one token
leaf_answers : (l : Level) (text : Bytes) (o q : Outcome) (u v : Part) (s : List Token) (from : ℕ) (a b : Parser) (xs ys : List Node) (r : Result ℕ Fault) → o ≡ read u s → q ≡ read v s →
    ((upto i : ℕ) → Held l text ys from upto i u → Expressed text ys from upto i v) → Answers (Held l) text o from a b xs ys r → Answers Expressed text q from a b xs ys r
unfolding Answers refused_by
leaf_answers l text o q u v s from a b xs ys (Ok i) e f h d =
    let z : read u s ≡ read d.part (tokens_ahead b) = sym e ∙ d.value in
    let x : d.part ≡ u = cc in let y : s ≡ tokens_ahead b = cc in
    record { part = v; value = f ∙ ap (read v) y; grounded = d.grounded; below = d.below; beyond = d.beyond; holds = h b.count i (subst (Held l text ys from b.count i) x d.holds) }
leaf_answers l text o q u v s from a b xs ys (Err x) e f h d = ap (refused_by (end_of text)) f ∙ sym (ap (refused_by (end_of text)) e) ∙ d

name_expressed : (text : Bytes) (ys : List Node) (from upto i : ℕ) (x : Name) → Held name_level text ys from upto i (name_part x) → Expressed text ys from upto i (expression_part (variable x))
unfolding Expressed
name_expressed text ys from upto i x h = one_name text ys from upto i x h

constant_expressed : (text : Bytes) (ys : List Node) (from upto i : ℕ) (c : Constant) → Held constant_level text ys from upto i (constant_part c) → Expressed text ys from upto i (expression_part (literal c))
unfolding Held Expressed
constant_expressed text ys from upto i c (l, e, (a, w, z)) = (omega (arith, e, w), a)

-- brackets and operand in one chain
argument_is : (n : ℕ) (u : Unary) (p : Place) (s : List Token) → and_then (read_argument (expressions_at any_token n) (brackets_at any_token n) (argument_of (unary_of u)) s) (λ x r. and_then (factors_at any_token n r) (λ t q. read (apply (unary_of u) p x t) q)) ≡ unary_behind (unary_of u) n p s
unfolding read_argument unary_behind inside_reader assigned_reader
argument_is n unary.Project p s = then_assoc (expect_token left_bracket s) _ _ ∙ then_same (expect_token left_bracket s) _ _ (λ z r. then_assoc (inside_reader n (argument_of (unary_of unary.Project)) r) _ _ ∙ then_same (inside_reader n (argument_of (unary_of unary.Project)) r) _ _ (λ t q. then_assoc (expect_token right_bracket q) _ _))
argument_is n unary.Rename p s = then_assoc (expect_token left_bracket s) _ _ ∙ then_same (expect_token left_bracket s) _ _ (λ z r. then_assoc (inside_reader n (argument_of (unary_of unary.Rename)) r) _ _ ∙ then_same (inside_reader n (argument_of (unary_of unary.Rename)) r) _ _ (λ t q. then_assoc (expect_token right_bracket q) _ _))
argument_is n unary.Select p s = then_assoc (expect_token left_bracket s) _ _ ∙ then_same (expect_token left_bracket s) _ _ (λ z r. then_assoc (inside_reader n (argument_of (unary_of unary.Select)) r) _ _ ∙ then_same (inside_reader n (argument_of (unary_of unary.Select)) r) _ _ (λ t q. then_assoc (expect_token right_bracket q) _ _))
argument_is n unary.Exists p s = then_assoc (expect_token left_bracket s) _ _ ∙ then_same (expect_token left_bracket s) _ _ (λ z r. then_assoc (inside_reader n (argument_of (unary_of unary.Exists)) r) _ _ ∙ then_same (inside_reader n (argument_of (unary_of unary.Exists)) r) _ _ (λ t q. then_assoc (expect_token right_bracket q) _ _))
argument_is n unary.All p s = then_assoc (expect_token left_bracket s) _ _ ∙ then_same (expect_token left_bracket s) _ _ (λ z r. then_assoc (inside_reader n (argument_of (unary_of unary.All)) r) _ _ ∙ then_same (inside_reader n (argument_of (unary_of unary.All)) r) _ _ (λ t q. then_assoc (expect_token right_bracket q) _ _))
argument_is n unary.Update p s = then_assoc (expect_token left_bracket s) _ _ ∙ then_same (expect_token left_bracket s) _ _ (λ z r.
    then_assoc (read_leaf name_leaf r) _ _ ∙ then_same (read_leaf name_leaf r) _ _ (λ x q. then_assoc (expect_token assign_token q) _ _ ∙ then_same (expect_token assign_token q) _ _ (λ y o.
    then_assoc (expressions_at any_token n o) _ _ ∙ then_same (expressions_at any_token n o) _ _ (λ t i. then_assoc (expect_token right_bracket i) _ _))) ∙
    sym (then_assoc (read_leaf name_leaf r) _ _ ∙ then_same (read_leaf name_leaf r) _ _ (λ x q. then_assoc (expect_token assign_token q) _ _ ∙ then_same (expect_token assign_token q) _ _ (λ y o. then_assoc (expressions_at any_token n o) _ _))))
argument_is n unary.Extend p s = then_assoc (expect_token left_bracket s) _ _ ∙ then_same (expect_token left_bracket s) _ _ (λ z r.
    then_assoc (read_leaf type_leaf r) _ _ ∙ then_same (read_leaf type_leaf r) _ _ (λ w v. then_assoc (read_leaf name_leaf v) _ _ ∙ then_same (read_leaf name_leaf v) _ _ (λ x q. then_assoc (expect_token assign_token q) _ _ ∙ then_same (expect_token assign_token q) _ _ (λ y o.
    then_assoc (expressions_at any_token n o) _ _ ∙ then_same (expressions_at any_token n o) _ _ (λ t i. then_assoc (expect_token right_bracket i) _ _)))) ∙
    sym (then_assoc (read_leaf type_leaf r) _ _ ∙ then_same (read_leaf type_leaf r) _ _ (λ w v. then_assoc (assigned_reader n v) _ _ ∙ then_assoc (read_leaf name_leaf v) _ _ ∙ then_same (read_leaf name_leaf v) _ _ (λ x q. then_assoc (expect_token assign_token q) _ _ ∙ then_same (expect_token assign_token q) _ _ (λ y o. then_assoc (expressions_at any_token n o) _ _)))))

operator_at : (n : ℕ) (u : Unary) (w : Terminal) (p : Place) (s : List Token) → factors_at any_token (suc n) ((w at p) ∷ s) ≡ and_then (read_argument (expressions_at any_token n) (brackets_at any_token n) (argument_of (unary_of u)) s) (λ x r. and_then (factors_at any_token n r) (λ t q. read (apply (unary_of u) p x t) q)) →
    factors_at any_token (suc n) ((w at p) ∷ s) ≡ opened (suc n) (unary_behind (unary_of u)) ((w at p) ∷ s)
unfolding opened
operator_at n u w p s e = e ∙ argument_is n u p s

unary_token : Unary → Terminal
unary_token unary.Project = word Project
unary_token unary.Rename = word Rename
unary_token unary.Select = word Select
unary_token unary.Exists = word Exists
unary_token unary.All = word All
unary_token unary.Update = word Update
unary_token unary.Extend = word Extend

unary_at : (n : ℕ) (u : Unary) (p : Place) (s : List Token) → factors_at any_token n ((unary_token u at p) ∷ s) ≡ opened n (unary_behind (unary_of u)) ((unary_token u at p) ∷ s)
unfolding unary_token factors_at openings opened expressions_at brackets_at read_bracket
unary_at zero unary.Project p s = refl
unary_at zero unary.Rename p s = refl
unary_at zero unary.Select p s = refl
unary_at zero unary.Exists p s = refl
unary_at zero unary.All p s = refl
unary_at zero unary.Update p s = refl
unary_at zero unary.Extend p s = refl
unary_at (suc n) unary.Project p s = operator_at n unary.Project (word Project) p s refl
unary_at (suc n) unary.Rename p s = operator_at n unary.Rename (word Rename) p s refl
unary_at (suc n) unary.Select p s = operator_at n unary.Select (word Select) p s refl
unary_at (suc n) unary.Exists p s = operator_at n unary.Exists (word Exists) p s refl
unary_at (suc n) unary.All p s = operator_at n unary.All (word All) p s refl
unary_at (suc n) unary.Update p s = operator_at n unary.Update (word Update) p s refl
unary_at (suc n) unary.Extend p s = operator_at n unary.Extend (word Extend) p s refl

negation_token : Negation → Terminal
negation_token negation.Minus = sum Minus
negation_token negation.Not = word Not

negation_at : (n : ℕ) (g : Negation) (p : Place) (s : List Token) → factors_at any_token n ((negation_token g at p) ∷ s) ≡ opened n (negation_behind (negation_of g)) ((negation_token g at p) ∷ s)
unfolding negation_token factors_at openings read_argument opened negation_behind
negation_at zero negation.Minus p s = refl
negation_at zero negation.Not p s = refl
negation_at (suc n) negation.Minus p s = refl
negation_at (suc n) negation.Not p s = refl

parenthesis_at : (n : ℕ) (p : Place) (s : List Token) → factors_at any_token n ((sign LeftParenthesis at p) ∷ s) ≡ opened n (enclosed_behind right_parenthesis) ((sign LeftParenthesis at p) ∷ s)
unfolding factors_at brackets_at expressions_at openings opened enclosed_behind
parenthesis_at zero p s = refl
parenthesis_at (suc n) p s = refl

-- how a factor is read that begins with this token, by what begins there
abbrev By : ℕ → Start → Option Terminal → Type 0
By n start.Name k = (p : Place) (s : List Token) → (x : Name) × (read_leaf name_leaf (before k p s) ≡ read (name_part x) s) × (factors_at any_token n (before k p s) ≡ read (expression_part (variable x)) s)
By n start.Constant k = (p : Place) (s : List Token) → (c : Constant) × (read_leaf constant_leaf (before k p s) ≡ read (constant_part c) s) × (factors_at any_token n (before k p s) ≡ read (expression_part (literal c)) s)
By n (start.Negation g) k = (p : Place) (s : List Token) → factors_at any_token n (before k p s) ≡ opened n (negation_behind (negation_of g)) (before k p s)
By n (start.Unary u) k = (p : Place) (s : List Token) → factors_at any_token n (before k p s) ≡ opened n (unary_behind (unary_of u)) (before k p s)
By n start.Parenthesis k = (p : Place) (s : List Token) → factors_at any_token n (before k p s) ≡ opened n (enclosed_behind right_parenthesis) (before k p s)
By n start.Brace k = (p : Place) (s : List Token) → factors_at any_token n (before k p s) ≡ table_reader n (before k p s)
By n start.Nothing k = (p : Place) (s : List Token) → factors_at any_token n (before k p s) ≡ refused_at cannot_follow (before k p s)

factor_by : (n : ℕ) (k : Option Terminal) → By n (start_in k) k
unfolding factors_at read_leaf table_reader negation_token unary_token brackets_at read_bracket
factor_by n None = λ p s. refl
factor_by n (Some (word Program)) = λ p s. refl
factor_by n (Some (word End)) = λ p s. refl
factor_by n (Some (word Table)) = λ p s. refl
factor_by n (Some (word If)) = λ p s. refl
factor_by n (Some (word Then)) = λ p s. refl
factor_by n (Some (word Else)) = λ p s. refl
factor_by n (Some (word While)) = λ p s. refl
factor_by n (Some (word Do)) = λ p s. refl
factor_by n (Some (word Read)) = λ p s. refl
factor_by n (Some (word Write)) = λ p s. refl
factor_by n (Some (word Join)) = λ p s. refl
factor_by n (Some (word Not)) = λ p s. negation_at n negation.Not p s
factor_by n (Some (word Project)) = λ p s. unary_at n unary.Project p s
factor_by n (Some (word Select)) = λ p s. unary_at n unary.Select p s
factor_by n (Some (word Exists)) = λ p s. unary_at n unary.Exists p s
factor_by n (Some (word All)) = λ p s. unary_at n unary.All p s
factor_by n (Some (word Update)) = λ p s. unary_at n unary.Update p s
factor_by n (Some (word Extend)) = λ p s. unary_at n unary.Extend p s
factor_by n (Some (word Rename)) = λ p s. unary_at n unary.Rename p s
factor_by n (Some (sign LeftParenthesis)) = λ p s. parenthesis_at n p s
factor_by n (Some (sign RightParenthesis)) = λ p s. refl
factor_by n (Some (sign LeftBracket)) = λ p s. refl
factor_by n (Some (sign RightBracket)) = λ p s. refl
factor_by n (Some (sign LeftBrace)) = λ p s. refl
factor_by n (Some (sign RightBrace)) = λ p s. refl
factor_by n (Some (sign Semicolon)) = λ p s. refl
factor_by n (Some (sign Comma)) = λ p s. refl
factor_by n (Some (sign Assign)) = λ p s. refl
factor_by n (Some (domain d)) = λ p s. refl
factor_by n (Some (logic o)) = λ p s. refl
factor_by n (Some (comparison o)) = λ p s. refl
factor_by n (Some (product o)) = λ p s. refl
factor_by n (Some (truth b)) = λ p s. (truth_constant b p, refl, refl)
factor_by n (Some (integer x)) = λ p s. (integer_constant (pos (value_of x)) p, refl, refl)
factor_by n (Some (string x)) = λ p s. (string_constant x p, refl, refl)
factor_by n (Some (name x)) = λ p s. (named x p, refl, refl)
factor_by n (Some (broken r)) = λ p s. refl
factor_by n (Some (sum Plus)) = λ p s. refl
factor_by n (Some (sum Minus)) = λ p s. negation_at n negation.Minus p s

begun : (n : ℕ) (k : Option Terminal) (x : Start) → x ≡ start_in k → By n x k
begun n k x e = subst (λ x. By n x k) (sym e) (factor_by n k)

pub factor_name : (n : ℕ) (text : Bytes) (k : Option Terminal) (p : Place) (s : List Token) (from : ℕ) (a b : Parser) (xs ys : List Node) (r : Result ℕ Fault) → start.Name ≡ start_in k →
    Answers (Held name_level) text (read_leaf name_leaf (before k p s)) from a b xs ys r → Answers Expressed text (factors_at any_token n (before k p s)) from a b xs ys r
factor_name n text k p s from a b xs ys r e h =
    let (x, f, g) = begun n k start.Name e p s in leaf_answers name_level text _ _ (name_part x) (expression_part (variable x)) s from a b xs ys r f g (λ upto i. name_expressed text ys from upto i x) h

pub factor_constant : (n : ℕ) (text : Bytes) (k : Option Terminal) (p : Place) (s : List Token) (from : ℕ) (a b : Parser) (xs ys : List Node) (r : Result ℕ Fault) → start.Constant ≡ start_in k →
    Answers (Held constant_level) text (read_leaf constant_leaf (before k p s)) from a b xs ys r → Answers Expressed text (factors_at any_token n (before k p s)) from a b xs ys r
factor_constant n text k p s from a b xs ys r e h =
    let (c, f, g) = begun n k start.Constant e p s in leaf_answers constant_level text _ _ (constant_part c) (expression_part (literal c)) s from a b xs ys r f g (λ upto i. constant_expressed text ys from upto i c) h

pub factor_negation : (n : ℕ) (g : Negation) (k : Option Terminal) (p : Place) (s : List Token) → start.Negation g ≡ start_in k → factors_at any_token n (before k p s) ≡ opened n (negation_behind (negation_of g)) (before k p s)
factor_negation n g k p s e = begun n k (start.Negation g) e p s

pub factor_unary : (n : ℕ) (u : Unary) (k : Option Terminal) (p : Place) (s : List Token) → start.Unary u ≡ start_in k → factors_at any_token n (before k p s) ≡ opened n (unary_behind (unary_of u)) (before k p s)
factor_unary n u k p s e = begun n k (start.Unary u) e p s

pub factor_parenthesis : (n : ℕ) (k : Option Terminal) (p : Place) (s : List Token) → start.Parenthesis ≡ start_in k → factors_at any_token n (before k p s) ≡ opened n (enclosed_behind right_parenthesis) (before k p s)
factor_parenthesis n k p s e = begun n k start.Parenthesis e p s

pub factor_brace : (n : ℕ) (k : Option Terminal) (p : Place) (s : List Token) → start.Brace ≡ start_in k → factors_at any_token n (before k p s) ≡ table_reader n (before k p s)
factor_brace n k p s e = begun n k start.Brace e p s

pub factor_nothing : (n : ℕ) (k : Option Terminal) (p : Place) (s : List Token) → start.Nothing ≡ start_in k → factors_at any_token n (before k p s) ≡ refused_at cannot_follow (before k p s)
factor_nothing n k p s e = begun n k start.Nothing e p s

-- a factor begins with a token
pub start_pays : (k : Option Terminal) (x : Start) → x ≡ start_in k → (x ≡ start.Nothing → ⊥) → 0 < pays_ahead k
start_pays None x e h = absurd (h e)
start_pays (Some t) x e h = let z = pays_some t in omega (arith, z)

-- a bracket by its first sign
pub bracket_there : (n : ℕ) (k : Option Terminal) (p : Place) (s : List Token) → eqb 21 (code_ahead k) ≡ true → brackets_at any_token n (before k p s) ≡ opened n (enclosed_behind right_bracket) (before k p s)
unfolding brackets_at read_bracket expect_token openings opened enclosed_behind expressions_at factors_at
bracket_there n None p s e = absurd (let z = eqb-true 21 29 e in omega (arith, z))
bracket_there zero (Some t) p s e = rw e
bracket_there (suc n) (Some t) p s e = rw e

pub bracket_else : (n : ℕ) (k : Option Terminal) (p : Place) (s : List Token) → eqb 21 (code_ahead k) ≡ false → brackets_at any_token n (before k p s) ≡ refused_at cannot_follow (before k p s)
unfolding brackets_at read_bracket expect_token
bracket_else n None p s e = refl
bracket_else n (Some t) p s e = rw e
