-- What is promised of the grammar: every list of tokens is a program with one tree, or has one fault at one token, and never both.
-- Depth: the statements of the program have depth 1, so n depths below them are allowed where the limit is n + 1.
use Rattle.std.specs.Prelude.{ℕ, zero, suc, ◌-◌, List, [], ◌∷◌, ◌++◌, ◌≡◌, true, ◌||◌, ◌⊎◌, leb, length}
use Rattle.fault.specs.Limits.{depth}
use Rattle.fault.specs.declared.rules.Rule.{Rule}
use Rattle.fault.specs.declared.rules.Rule.TheVariants.{CannotFollow, TooDeep}
use Rattle.words.specs.Tokens.{Place, Terminal, Token, Token.◌at◌, Terminal.word, Terminal.sign, Terminal.domain, Terminal.logic, Terminal.comparison}
use Rattle.words.specs.Tokens.{Terminal.sum, Terminal.product, Terminal.truth, Terminal.integer, Terminal.string, Terminal.name, Terminal.broken}
use Rattle.grammar.specs.Tree.{Block}
use Rattle.grammar.specs.Grammar.{Symbol.program, Reads, Leave}

-- the depths that a script may open below that of its first statements
abbrev pub allowed : ℕ
allowed = depth - 1

-- every token may open a depth
abbrev pub any_token : Leave
any_token n s = true

-- the lowest e depths are opened by one of the last x tokens, or not at all
abbrev pub only_last : ℕ → ℕ → Leave
only_last e x n s = leb e n || leb (length s) x

-- e depths more than n
abbrev pub raise : ℕ → ℕ → ℕ
raise zero n = n
raise (suc e) n = suc (raise e n)

-- the tokens of a program that opens at most n depths
abbrev pub Program : ℕ → List Token → Block → Type 0
Program n s b = Reads any_token program n s [] b

-- the beginning of some program, of any depth
abbrev pub Begins : List Token → Type 0
Begins p = (n : ℕ) × (w : List Token) × (b : Block) × Program n (p ++ w) b

-- the beginning of some program, and no token of the beginning opens more than n depths: what follows may
abbrev pub BeginsWithin : ℕ → List Token → Type 0
BeginsWithin n p = (e : ℕ) × (w : List Token) × (b : Block) × Reads (only_last e (length w)) program (raise e n) (p ++ w) [] b

-- the rule that a token breaks where it cannot follow; what is no token breaks the rule that it has
abbrev pub refusal_in : Terminal → Rule
refusal_in (word w) = CannotFollow
refusal_in (sign g) = CannotFollow
refusal_in (domain d) = CannotFollow
refusal_in (logic o) = CannotFollow
refusal_in (comparison o) = CannotFollow
refusal_in (sum o) = CannotFollow
refusal_in (product o) = CannotFollow
refusal_in (truth b) = CannotFollow
refusal_in (integer x) = CannotFollow
refusal_in (string x) = CannotFollow
refusal_in (name x) = CannotFollow
refusal_in (broken r) = r

abbrev pub refusal : Token → Rule
refusal (k at p) = refusal_in k

-- why the rule c is broken where the tokens p come before and the tokens r follow
abbrev pub Breaks : ℕ → Rule → List Token → List Token → Type 0
Breaks n c p [] = (c ≡ CannotFollow) × ((m : ℕ) (b : Block) → ¬ (Program m p b))
Breaks n c p (k ∷ r) =
    ((c ≡ refusal k) × (¬ (Begins (p ++ (k ∷ []))))) ⊎
    ((c ≡ TooDeep) × Begins (p ++ (k ∷ [])) × (¬ (BeginsWithin n (p ++ (k ∷ [])))))

-- the fault c of the tokens s where r are left of them: all before is the beginning of a program, and here it breaks
abbrev pub Placed : ℕ → List Token → Rule → List Token → Type 0
Placed n s c r = (p : List Token) × (s ≡ p ++ r) × BeginsWithin n p × Breaks n c p r

-- where the tokens begin that are left, in a text that ends at `end`
abbrev pub place_in : Place → List Token → Place
place_in end [] = end
place_in end ((k at p) ∷ r) = p

-- every list of tokens is a program or has a fault
abbrev pub Decided : Type 0
Decided = (n : ℕ) (s : List Token) → ((b : Block) × Program n s b) ⊎ ((c : Rule) × (r : List Token) × Placed n s c r)

-- a program has one tree, whatever depths are allowed
abbrev pub OneTree : Type 0
OneTree = (n m : ℕ) (s : List Token) (a b : Block) → Program n s a → Program m s b → a ≡ b

-- a fault is one rule at one place
abbrev pub OneFault : Type 0
OneFault = (n : ℕ) (s : List Token) (c d : Rule) (r q : List Token) → Placed n s c r → Placed n s d q → (c ≡ d) × (r ≡ q)

-- no program has a fault
abbrev pub NeverBoth : Type 0
NeverBoth = (n : ℕ) (s : List Token) (b : Block) (c : Rule) (r : List Token) → Program n s b → ¬ (Placed n s c r)
