-- What a function answers by what the call at its end has answered.
use Rattle.std.proofs.Common.{◌≡◌, ℕ, suc, ◌<◌, List, IfOk, Ok, Err, Result, sym, refl, ap, ◌∙◌, subst, arith}
use mathlib.Core.Option.{some}
use Rattle.fault.specs.declared.rules.Fault.{Fault}
use Rattle.words.specs.declared.tokens.Sign.TheVariants.{LeftParenthesis, RightParenthesis, LeftBracket, RightBracket, LeftBrace, RightBrace, Semicolon}
use Rattle.words.specs.declared.tokens.Sign.TheVariants.{Comma, Assign}
use Rattle.words.specs.Lexing.{end_of}
use Rattle.words.specs.Tokens.{Bytes, Place, Token, Token.◌at◌, Terminal.sign}
use Rattle.grammar.specs.Parts.{Part}
use Rattle.grammar.specs.Parts.{Argument.names_argument, Argument.condition_argument, Argument.update_argument, Argument.extend_argument}
use Rattle.grammar.specs.Parts.{Leaf.name_leaf, Leaf.type_leaf, Level.name_level, Level.type_level}
use Rattle.grammar.specs.Parts.{argument_of, name_and_expression, type_name_and_expression, code_of, assign_token, origin}
use Rattle.grammar.specs.Promise.{any_token}
use Rattle.grammar.specs.Readers.{Outcome, Outcome.found as read, Reader, expect_token, read_leaf, read_level, brackets_at, expressions_at}
use Rattle.phrases.specs.Places.{pays_ahead}
use Rattle.phrases.specs.States.{refused_by, opened}
use Rattle.expressions.specs.declared.sorts.Level.{Level as Rank}
use Rattle.expressions.specs.declared.sorts.Unary.{Unary}
use Rattle.expressions.specs.declared.sorts.Unary.TheVariants as unary
use Rattle.expressions.specs.Shapes.{unary_of, assigned_reader, inside_reader}
use Rattle.words.specs.declared.tokens.Sign.{Sign}
use Rattle.expressions.specs.declared.sorts.Bracketed.{Bracketed}
use Rattle.domain.specs.declared.Domain.{Domain}
use Rattle.grammar.specs.Tree.{Name.named, AtomicType.typed}
use Rattle.grammar.specs.Parts.{name_part, type_part}
use Rattle.tree.specs.Kept.{Below, Beyond}
use Rattle.tree.specs.declared.nodes.Node.{Node}
use Rattle.phrases.specs.declared.parsers.Parser.{Parser}
use Rattle.phrases.specs.Held.{Held}
use Rattle.phrases.specs.States.{Holding, Done, Answers, Grounded, Numbers, tokens_ahead, ahead_at, behind}
use Rattle.phrases.proofs.Steps.{opened_is}
use Rattle.words.specs.Views.{spoken}
use Rattle.expressions.specs.Starts.{bracketed_of}
use Rattle.expressions.specs.Shapes.{Expressed, Assigned, Inside, argument_for}
use Rattle.phrases.specs.declared.sorts.Listed.{Listed}
use Rattle.phrases.specs.Sorts.{item_reader, level_of as list_level}
use Rattle.expressions.proofs.Readings.{onward, assigned_third, assigned_found, extend_second, extend_found}
use Rattle.expressions.proofs.Nodes.{assigned_held, extend_held}

-- the same outcome by another name
pub answers_same : (P : Holding) (text : Bytes) (o q : Outcome) (from : ℕ) (a b : Parser) (xs ys : List Node) (r : Result ℕ Fault) → o ≡ q → Answers P text q from a b xs ys r → Answers P text o from a b xs ys r
answers_same P text o q from a b xs ys r e h = subst (λ x. Answers P text x from a b xs ys r) (sym e) h

-- a sign was passed behind the part
pub done_passed : (P : Holding) (text : Bytes) (o q : Outcome) (from : ℕ) (a b d e : Parser) (xs ys : List Node) (i : ℕ) (v : Done P text q b.count b d xs ys i) → b.count ≡ from → e.count ≡ d.count → Grounded text ys e → o ≡ read v.part (tokens_ahead e) →
    Answers P text o from a e xs e.nodes.now (Ok i)
unfolding Answers
done_passed P text o q from a b d e xs ys i v f g k z =
    subst (λ l. Answers P text o from a e xs l (Ok i)) (sym k.entries) (record {
      part = v.part;
      value = z;
      grounded = k;
      below = subst (λ n. Below n xs ys) f v.below;
      beyond = subst (λ n. Beyond n xs ys) (sym g) v.beyond;
      holds = subst (λ n. P text ys n e.count i v.part) f (subst (λ n. P text ys b.count n i v.part) (sym g) v.holds);
    })

-- behind a token that opened a depth
pub opened_refused : (end : Place) (n m : ℕ) (g : ℕ → Place → Reader) (a b : Parser) (f : Fault) → n ≡ suc m → 0 < pays_ahead (spoken a.ahead.token) → tokens_ahead b ≡ behind a → refused_by end (g m (ahead_at a) (tokens_ahead b)) ≡ some f →
    refused_by end (opened n g (tokens_ahead a)) ≡ some f
opened_refused end n m g a b f e l h k = ap (refused_by end) (opened_is n m g a (tokens_ahead b) e l h) ∙ k

-- the value behind `=`
pub assigned_answers : (text : Bytes) (n : ℕ) (a b e z : Parser) (xs ys zs : List Node) (j : ℕ) (x : Bytes) (p : Place) (w : Part) (v : Done (Held name_level) text (read_leaf name_leaf (tokens_ahead a)) a.count a b xs ys j) (r : Result ℕ Fault) →
    v.part ≡ name_part (named x p) → a.count < b.count → e.count ≡ b.count → expect_token assign_token (tokens_ahead b) ≡ read w (tokens_ahead e) → IfOk r (λ _. Numbers e z) →
    Answers Expressed text (expressions_at any_token n (tokens_ahead e)) e.count e z ys zs r → Answers Assigned text (assigned_reader n (tokens_ahead a)) a.count a z xs zs r
unfolding Answers
assigned_answers text n a b e z xs ys zs j x p w v (Ok i) t grown c k m d =
    record {
      part = name_and_expression v.part d.part;
      value = assigned_found n _ _ _ _ _ _ _ v.value k d.value;
      grounded = d.grounded;
      below = λ l h. d.below l (omega (arith, h, grown, c)) ∙ v.below l h;
      beyond = λ l h. d.beyond l h ∙ v.beyond l (omega (arith, h, c, m.grown));
      holds = assigned_held text ys zs a.count b.count z.count i j v.part d.part x p t v.holds (subst (λ q. Expressed text zs q z.count i d.part) c d.holds) (λ l h. d.below l (omega (arith, h, c)));
    }
assigned_answers text n a b e z xs ys zs j x p w v (Err f) t grown c k m d = assigned_third (end_of text) n _ _ _ _ _ f v.value k d

-- the rest behind a type
pub extended_answers : (text : Bytes) (n : ℕ) (a b z : Parser) (xs ys zs : List Node) (j : ℕ) (k : Domain) (p : Place) (v : Done (Held type_level) text (read_leaf type_leaf (tokens_ahead a)) a.count a b xs ys j) (r : Result ℕ Fault) →
    v.part ≡ type_part (typed k p) → a.count < b.count → IfOk r (λ _. Numbers b z) →
    Answers Assigned text (assigned_reader n (tokens_ahead b)) b.count b z ys zs r → Answers (Inside extend_argument) text (inside_reader n extend_argument (tokens_ahead a)) a.count a z xs zs r
unfolding Answers
extended_answers text n a b z xs ys zs j k p v (Ok i) t grown m d =
    record {
      part = type_name_and_expression v.part d.part d.part;
      value = extend_found n _ _ _ _ _ v.value d.value;
      grounded = d.grounded;
      below = λ l h. d.below l (omega (arith, h, grown)) ∙ v.below l h;
      beyond = λ l h. d.beyond l h ∙ v.beyond l (omega (arith, h, m.grown));
      holds = extend_held text ys zs a.count b.count z.count i j v.part d.part k p t v.holds d.holds d.below;
    }
extended_answers text n a b z xs ys zs j k p v (Err f) t grown m d = extend_second (end_of text) n _ _ _ f v.value d

-- what stands in brackets, by its sort
pub inside_names : (text : Bytes) (n : ℕ) (s : List Token) (from : ℕ) (a b : Parser) (xs ys : List Node) (r : Result ℕ Fault) → Answers (Held name_level) text (read_level (read_leaf name_leaf) (brackets_at any_token n) name_level s) from a b xs ys r →
    Answers (Inside names_argument) text (inside_reader n names_argument s) from a b xs ys r
unfolding Answers Inside inside_reader
inside_names text n s from a b xs ys (Ok i) d = record { part = d.part; value = d.value; grounded = d.grounded; below = d.below; beyond = d.beyond; holds = d.holds }
inside_names text n s from a b xs ys (Err f) d = d

pub inside_condition : (text : Bytes) (n : ℕ) (s : List Token) (from : ℕ) (a b : Parser) (xs ys : List Node) (r : Result ℕ Fault) → Answers Expressed text (expressions_at any_token n s) from a b xs ys r →
    Answers (Inside condition_argument) text (inside_reader n condition_argument s) from a b xs ys r
unfolding Answers Inside inside_reader
inside_condition text n s from a b xs ys (Ok i) d = record { part = d.part; value = d.value; grounded = d.grounded; below = d.below; beyond = d.beyond; holds = d.holds }
inside_condition text n s from a b xs ys (Err f) d = d

pub inside_update : (text : Bytes) (n : ℕ) (s : List Token) (from : ℕ) (a b : Parser) (xs ys : List Node) (r : Result ℕ Fault) → Answers Assigned text (assigned_reader n s) from a b xs ys r →
    Answers (Inside update_argument) text (inside_reader n update_argument s) from a b xs ys r
unfolding Answers Inside inside_reader
inside_update text n s from a b xs ys (Ok i) d = record { part = d.part; value = d.value; grounded = d.grounded; below = d.below; beyond = d.beyond; holds = d.holds }
inside_update text n s from a b xs ys (Err f) d = d

pub argument_same : (u : Unary) → argument_for (bracketed_of u) ≡ argument_of (unary_of u)
argument_same unary.Project = refl
argument_same unary.Rename = refl
argument_same unary.Select = refl
argument_same unary.Exists = refl
argument_same unary.All = refl
argument_same unary.Update = refl
argument_same unary.Extend = refl

pub argument_of_lem : (u : Unary) (b : Bracketed) → b ≡ bracketed_of u → argument_for b ≡ argument_of (unary_of u)
argument_of_lem u b e = ap argument_for e ∙ argument_same u

-- a sign has a number of its own
pub sign_code : (g : Sign) → code_of (sign g at origin) < 28
sign_code LeftParenthesis = omega arith
sign_code RightParenthesis = omega arith
sign_code LeftBracket = omega arith
sign_code RightBracket = omega arith
sign_code LeftBrace = omega arith
sign_code RightBrace = omega arith
sign_code Semicolon = omega arith
sign_code Comma = omega arith
sign_code Assign = omega arith

-- a list of elements by another name of its sort
pub instance_answers : (n : ℕ) (text : Bytes) (l k : Listed) (s : List Token) (from : ℕ) (a b : Parser) (xs ys : List Node) (r : Result ℕ Fault) → l ≡ k →
    Answers (Held (list_level l)) text (read_level (item_reader n l) (brackets_at any_token n) (list_level l) s) from a b xs ys r → Answers (Held (list_level k)) text (read_level (item_reader n k) (brackets_at any_token n) (list_level k) s) from a b xs ys r
instance_answers n text l k s from a b xs ys r e h = subst (λ j. Answers (Held (list_level j)) text (read_level (item_reader n j) (brackets_at any_token n) (list_level j) s) from a b xs ys r) e h

-- what follows, by another name of its level
pub onward_answers : (n : ℕ) (text : Bytes) (l k : Rank) (t : Part) (s : List Token) (from : ℕ) (a b : Parser) (xs ys : List Node) (r : Result ℕ Fault) → l ≡ k →
    Answers Expressed text (onward n l t s) from a b xs ys r → Answers Expressed text (onward n k t s) from a b xs ys r
onward_answers n text l k t s from a b xs ys r e h = subst (λ j. Answers Expressed text (onward n j t s) from a b xs ys r) e h
