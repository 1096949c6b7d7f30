-- The parser's state as the grammar sees it, and what a step of it does.
use Rattle.std.specs.Prelude.{◌≡◌, ℕ, zero, suc, ◌+◌, ◌<◌, ◌≤◌, List, [], ◌∷◌, length, Some, None, Ok, Err, Option, Result, OnOk}
use Rattle.std.proofs.Math.Option.{Option as Maybe, none, some}
use Rattle.fault.specs.declared.rules.Fault.{Fault}
use Rattle.fault.specs.declared.rules.Rule.{Rule}
use Rattle.words.specs.Tokens.{Bytes, Place, Terminal, Token, Token.◌at◌, Terminal.word, Terminal.sign, Terminal.domain, Terminal.logic, Terminal.comparison}
use Rattle.words.specs.Tokens.{Terminal.sum, Terminal.product, Terminal.truth, Terminal.integer, Terminal.string, Terminal.name, Terminal.broken}
use Rattle.words.specs.Lexing.{end_of}
use Rattle.words.specs.Views.{spoken, standing}
use Rattle.grammar.specs.Parts.{Part, code_in, origin, place_part}
use Rattle.grammar.specs.Promise.{place_in}
use Rattle.grammar.specs.Readers.{Cause.cannot_follow, Cause.too_deep, Outcome, Outcome.found, Outcome.refused_at, Reader, expect_token, told}
use Rattle.grammar.specs.Parts.{place_of}
use Rattle.tree.specs.Kept.{Below, Beyond}
use Rattle.tree.specs.declared.nodes.Node.{Node}
use Rattle.tree.specs.declared.nodes.What.{What}
use Rattle.phrases.specs.declared.parsers.Parser.{Parser}
use Rattle.phrases.specs.Places.{pays_ahead, worth_of, following, Lies, TellsAhead}

-- the place of the token ahead
abbrev pub ahead_at : Parser → Place
ahead_at p = p.ahead.place

-- a token before others; the end of the text has none
abbrev pub before : Option Terminal → Place → List Token → List Token
before (Some t) p s = (t at p) ∷ s
before None p s = []

-- the tokens behind the one ahead
abbrev pub behind : Parser → List Token
behind p = following (standing p.scanner)

-- the tokens that are still to be read
abbrev pub tokens_ahead : Parser → List Token
tokens_ahead p = before (spoken p.ahead.token) (ahead_at p) (behind p)

-- how many nodes the rest of the text can pay for: what the token ahead pays, and the bytes behind it
abbrev pub worth : Parser → ℕ
worth p = worth_of (spoken p.ahead.token) (standing p.scanner)

-- the state stands in this text, and these are the entries of its arena
pub record Grounded (text : Bytes) (arena : List Node) (p : Parser) : Type 0 where
  pub lies : Lies text (standing p.scanner)
  pub tells : TellsAhead text (spoken p.ahead.token) (ahead_at p)
  pub entries : p.nodes.now ≡ arena

-- a token is ahead, and not the text's end
abbrev pub AtToken : Parser → Type 0
AtToken p = 0 < pays_ahead (spoken p.ahead.token)

-- a state and a later one have the same lent arena
abbrev pub SameArena : Parser → Parser → Type 0
SameArena a b = b.nodes.ghost_name ≡ a.nodes.ghost_name

-- the arena keeps its length
abbrev pub SameLength : Parser → Parser → Type 0
SameLength a b = length b.nodes.now ≡ length a.nodes.now

-- words and signs by number, the end by one of its own
abbrev pub code_ahead : Option Terminal → ℕ
code_ahead (Some t) = code_in t
code_ahead None = 29

abbrev pub fault_at : Rule → Place → Fault
fault_at r p = record { rule = r; place = p }

-- the fault of what is no token
abbrev pub broken_at : Terminal → Place → Maybe Fault
broken_at (broken r) p = some (fault_at r p)
broken_at (word w) p = none
broken_at (sign g) p = none
broken_at (domain d) p = none
broken_at (logic o) p = none
broken_at (comparison o) p = none
broken_at (sum o) p = none
broken_at (product o) p = none
broken_at (truth b) p = none
broken_at (integer x) p = none
broken_at (string x) p = none
broken_at (name x) p = none

abbrev pub broken_in : List Token → Maybe Fault
broken_in [] = none
broken_in ((t at p) ∷ s) = broken_at t p

-- the fault that a reading comes to: its refusal, or what is no token next, which stops the scanner
unfoldable pub refused_by : Place → Outcome → Maybe Fault
refused_by end (refused_at c r) = some (fault_at (told c r) (place_in end r))
refused_by end (found t r) = broken_in r

-- a reader that gives back what is no token, or refuses there
abbrev pub Halts : Place → Reader → Type 0
Halts end g = (c : Rule) (p : Place) (q : List Token) → refused_by end (g ((broken c at p) ∷ q)) ≡ some (fault_at c p)

-- one token on
unfoldable pub Stepped : Bytes → List Node → Parser → Parser → Result (Unit {0}) Fault → Type 0
Stepped text arena a b (Ok u) = (Grounded text arena b) × (tokens_ahead b ≡ behind a)
Stepped text arena a b (Err f) = broken_in (behind a) ≡ some f

-- the token ahead was to be this one
unfoldable pub Expected : Bytes → List Node → Terminal → Parser → Parser → Result (Unit {0}) Fault → Type 0
Expected text arena w a b (Ok u) = (Grounded text arena b) × (expect_token (w at origin) (tokens_ahead a) ≡ found (place_part (ahead_at a)) (tokens_ahead b))
Expected text arena w a b (Err f) = refused_by (end_of text) (expect_token (w at origin) (tokens_ahead a)) ≡ some f

-- behind a token that opens a depth, where n may still be opened
unfoldable pub opened : ℕ → (ℕ → Place → Reader) → Reader
opened n g [] = refused_at cannot_follow []
opened zero g (k ∷ s) = refused_at too_deep (k ∷ s)
opened (suc n) g (k ∷ s) = g n (place_of k) s

-- a depth is opened, and its token passed
unfoldable pub Opened : Bytes → List Node → ℕ → Parser → Parser → Result ℕ Fault → Type 0
Opened text arena n a b (Ok m) = (n ≡ suc m) × (Grounded text arena b) × (tokens_ahead b ≡ behind a)
Opened text arena n a b (Err f) = (g : ℕ → Place → Reader) → ((m : ℕ) (p : Place) → Halts (end_of text) (g m p)) → refused_by (end_of text) (opened n g (tokens_ahead a)) ≡ some f

-- one node more is taken, and nothing is read
pub record Counted (a b : Parser) : Type 0 where
  pub scanner : b.scanner ≡ a.scanner
  pub ahead : b.ahead ≡ a.ahead
  pub count : b.count ≡ suc a.count

abbrev pub new_node : What → Place → Node
new_node w p = record { what = w; place = p; next = None }

-- nodes are paid for, and a token at least is read
pub record Numbers (a b : Parser) : Type 0 where
  pub thrifty : b.count + worth b ≤ a.count + worth a
  pub onward : worth b < worth a
  pub grown : a.count < b.count

-- the same, where perhaps no token is read
pub record NumbersOn (a b : Parser) : Type 0 where
  pub thrifty : b.count + worth b ≤ a.count + worth a
  pub onward : worth b ≤ worth a
  pub grown : a.count ≤ b.count

-- what the nodes of a part are: in this text, in this arena, from this entry up to that one, by this index
abbrev pub Holding : Type 1
Holding = Bytes → List Node → ℕ → ℕ → ℕ → Part → Type 0

-- a reading has found its part, and the arena holds it in the entries from one on; nothing else in it has changed
pub record Done (P : Holding) (text : Bytes) (o : Outcome) (from : ℕ) (a b : Parser) (xs ys : List Node) (i : ℕ) : Type 0 where
  pub part : Part
  pub value : o ≡ found part (tokens_ahead b)
  pub grounded : Grounded text ys b
  pub below : Below from xs ys
  pub beyond : Beyond b.count xs ys
  pub holds : P text ys from b.count i part

unfoldable pub Answers : Holding → Bytes → Outcome → ℕ → Parser → Parser → List Node → List Node → Result ℕ Fault → Type 0
Answers P text o from a b xs ys (Ok i) = Done P text o from a b xs ys i
Answers P text o from a b xs ys (Err f) = refused_by (end_of text) o ≡ some f

-- a function of the parser answers as the reader does on the tokens ahead, and puts its nodes into the free entries
abbrev pub AnswersAs : Holding → Reader → Parser → Parser → Result ℕ Fault → Type 0
AnswersAs P reader a b r = (text : Bytes) (arena : List Node) → Grounded text arena a → Answers P text (reader (tokens_ahead a)) a.count a b arena b.nodes.now r

-- one that goes on from a part which the arena holds, by the index i
abbrev pub AnswersOn : Holding → (Part → Reader) → ℕ → Parser → Parser → Result ℕ Fault → Type 0
AnswersOn P reader i a b r =
    (text : Bytes) (arena : List Node) → Grounded text arena a → (from : ℕ) (t : Part) → P text arena from a.count i t → Answers P text (reader t (tokens_ahead a)) from a b arena b.nodes.now r

-- what a function that reads a part does: the same lent arena at its length, a token at least and its nodes paid for, and the reader's answer
pub record Follows (P : Holding) (reader : Reader) (a b : Parser) (r : Result ℕ Fault) : Type 0 where
  pub lent : SameArena a b × SameLength a b
  pub numbers : OnOk r (Numbers a b)
  pub answer : AnswersAs P reader a b r

-- the same of one that goes on, where perhaps no token is read
pub record GoesOn (P : Holding) (reader : Part → Reader) (i : ℕ) (a b : Parser) (r : Result ℕ Fault) : Type 0 where
  pub lent : SameArena a b × SameLength a b
  pub numbers : OnOk r (NumbersOn a b)
  pub answer : AnswersOn P reader i a b r
