-- How many tokens of each kind a list has, or the fault that ends it.
use Rattle.std.specs.Prelude.{ℕ, ◌+◌, List, [], ◌∷◌, Some, None, Ok, Err, Option, Result}
use Rattle.fault.specs.declared.rules.Fault.{Fault}
use Rattle.fault.specs.declared.rules.Rule.{Rule}
use Rattle.words.specs.declared.tallies.Tally.{Tally}
use Rattle.words.specs.Tokens.{Place, Terminal, Token, Token.◌at◌}
use Rattle.words.specs.Tokens.{Terminal.word, Terminal.domain, Terminal.logic, Terminal.truth, Terminal.sign, Terminal.comparison, Terminal.sum, Terminal.product, Terminal.name, Terminal.integer, Terminal.string, Terminal.broken}

abbrev pub nothing : Tally
nothing = record { words = 0; names = 0; integers = 0; strings = 0; signs = 0; lines = 0 }

abbrev pub total : Tally → ℕ
total t = t.words + (t.names + (t.integers + (t.strings + t.signs)))

abbrev one_word : ℕ → Tally → Tally
one_word l t = record { words = t.words + 1; names = t.names; integers = t.integers; strings = t.strings; signs = t.signs; lines = l }

abbrev one_name : ℕ → Tally → Tally
one_name l t = record { words = t.words; names = t.names + 1; integers = t.integers; strings = t.strings; signs = t.signs; lines = l }

abbrev one_integer : ℕ → Tally → Tally
one_integer l t = record { words = t.words; names = t.names; integers = t.integers + 1; strings = t.strings; signs = t.signs; lines = l }

abbrev one_string : ℕ → Tally → Tally
one_string l t = record { words = t.words; names = t.names; integers = t.integers; strings = t.strings + 1; signs = t.signs; lines = l }

abbrev one_sign : ℕ → Tally → Tally
one_sign l t = record { words = t.words; names = t.names; integers = t.integers; strings = t.strings; signs = t.signs + 1; lines = l }

-- one more of its kind, on line l
abbrev pub counted : Terminal → ℕ → Tally → Tally
counted (word w) = one_word
counted (domain d) = one_word
counted (logic o) = one_word
counted (truth b) = one_word
counted (sign x) = one_sign
counted (comparison o) = one_sign
counted (sum o) = one_sign
counted (product o) = one_sign
counted (name n) = one_name
counted (integer ds) = one_integer
counted (string bs) = one_string
counted (broken r) = λ l t. t

abbrev pub counted_as : Option Terminal → ℕ → Tally → Tally
counted_as (Some t) l = counted t l
counted_as None l = λ t. t

abbrev pub fault_at : Rule → Place → Fault
fault_at r p = record { rule = r; place = p }

-- the rule that a terminal breaks
abbrev pub breaks : Terminal → Option Rule
breaks (word w) = None
breaks (domain d) = None
breaks (logic o) = None
breaks (truth b) = None
breaks (sign x) = None
breaks (comparison o) = None
breaks (sum o) = None
breaks (product o) = None
breaks (name n) = None
breaks (integer ds) = None
breaks (string bs) = None
breaks (broken r) = Some r

abbrev pub unless_broken : Option Rule → Place → Result Tally Fault → Result Tally Fault
unless_broken (Some r) p others = Err (fault_at r p)
unless_broken None p others = others

-- the tokens counted one by one, up to what is no token
abbrev pub tallied : Tally → List Token → Result Tally Fault
tallied y [] = Ok y
tallied y ((t at p) ∷ ts) = unless_broken (breaks t) p (tallied (counted t p.line y) ts)
