-- Scripts with what they yield, from the text on: one table, established by one computation.
use Rattle.std.specs.Prelude.{◌≡◌, ℕ, List, [], ◌∷◌, ◌++◌, Ok, Err, codes}
use Rattle.fault.specs.Limits.{cells}
use Rattle.fault.specs.Rules.{number_of}
use Rattle.fault.specs.declared.rules.Rule.{Rule}
use Rattle.code.specs.Generation.{code_of, strings_of}
use Rattle.grammar.specs.Promise.{any_token, allowed}
use Rattle.grammar.specs.Readers.{Outcome, Outcome.found, Outcome.refused_at, program_at, wholly, told}
use Rattle.grammar.specs.Tree.{Block, Block.closed_at}
use Rattle.plan.specs.Plan.{Body}
use Rattle.plan.specs.Planning.{planned_program}
use Rattle.typing.specs.Checker.{Answer, check_program}
use Rattle.words.specs.Lexing.{tokens, end_of}
use Rattle.words.specs.Tokens.{Bytes, Place, Token, Token.◌at◌}
use Rattle.machine.specs.Runs.{Run, run, moves, begin}
use Rattle.machine.specs.State.{Condition, Condition.going, Condition.waiting, Condition.showing, Condition.done, Condition.failed}

-- what becomes of a script: a fault by number, line and byte; or its lines, its steps, and the fault that ended it, if one did
pub data Report : Type 0 where
  refused : ℕ → ℕ → ℕ → Report
  unfinished : Report
  finished : List Bytes → ℕ → Report
  stopped : List Bytes → ℕ → ℕ → ℕ → ℕ → Report

abbrev pub by_condition : Condition → List Bytes → ℕ → Report
by_condition going ls n = unfinished
by_condition (waiting name t i) ls n = unfinished
by_condition (showing name t x k) ls n = unfinished
by_condition done ls n = finished ls n
by_condition (failed f) ls n = stopped ls n (number_of f.rule) f.place.line f.place.byte

abbrev pub report_of : Run → Report
report_of r = by_condition r.state.condition r.lines r.steps

-- over an empty store of a capacity, with these texts; 64 moves are enough for every script here
abbrev pub ran_by : ℕ → List Bytes → Body → Report
ran_by capacity texts script = report_of (moves 64 (code_of script) (run (begin capacity (strings_of script)) [] texts 0))

abbrev pub checked_by : ℕ → List Bytes → Answer (Unit {0}) → Block → Report
checked_by capacity texts (Ok u) b = ran_by capacity texts (planned_program b)
checked_by capacity texts (Err f) b = refused (number_of f.rule) f.place.line f.place.byte

abbrev pub place_at : List Token → Bytes → Place
place_at [] text = end_of text
place_at ((t at p) ∷ rest) text = p

abbrev pub refused_as : Rule → Place → Report
refused_as r p = refused (number_of r) p.line p.byte

abbrev pub parsed_by : ℕ → List Bytes → Outcome → Bytes → Report
parsed_by capacity texts (found t rest) text = let b = closed_at t.statements t.place in checked_by capacity texts (check_program b) b
parsed_by capacity texts (refused_at c rest) text = refused_as (told c rest) (place_at rest text)

-- from the text on
abbrev pub report : ℕ → List Bytes → Bytes → Report
report capacity texts text = parsed_by capacity texts (wholly (program_at any_token allowed (tokens text))) text

-- a script stands inside `program` .. `end`, with one space on each side
abbrev pub script : Bytes → Bytes
script inner = codes "program " ++ (inner ++ codes " end")

pub record Specimen : Type 0 where
  pub inner : Bytes
  pub expected : Report

abbrev pub specimen : Bytes → Report → Specimen
specimen s r = record { inner = s; expected = r }

abbrev pub line : Bytes → List Bytes
line s = (s ++ codes "\n") ∷ []

abbrev pub table : List Specimen
table =
    specimen (codes "write 7") (finished (line (codes "7")) 3) ∷
    specimen (codes "write 1;") (refused 21 1 17) ∷
    specimen (codes "write 1 == 2 == 3") (refused 21 1 21) ∷
    specimen (codes "integer a; a = true") (refused 34 1 19) ∷
    specimen (codes "write -7 / 2") (finished (line (codes "-3")) 6) ∷
    specimen (codes "write 9223372036854775807 + 1") (stopped [] 3 41 1 34) ∷
    specimen (codes "write true or 1 / 0 == 1") (finished (line (codes "true")) 6) ∷
    specimen (codes "write exists [true] {integer}") (finished (line (codes "false")) 4) ∷
    specimen (codes "write all [false] {integer}") (finished (line (codes "true")) 4) ∷
    specimen (codes "write {(1),(2)} == {(2),(1)}") (finished (line (codes "true")) 5) ∷ []

abbrev pub outcomes : List Specimen → List Report
outcomes [] = []
outcomes (x ∷ xs) = report cells [] (script x.inner) ∷ outcomes xs

abbrev pub expectations : List Specimen → List Report
expectations [] = []
expectations (x ∷ xs) = x.expected ∷ expectations xs

-- An update that makes two rows equal: the rows (3,"x") and (4,"x") are read, and one row is written.
abbrev pub rows_fall : Bytes
rows_fall = codes "table(integer a, string b) t; read t; write update [a = 1] t"

abbrev pub two_rows : Bytes
two_rows = codes "(a:i,b:s)\n" ++ (codes "(3,\"x\")\n" ++ (codes "(4,\"x\")\n" ++ codes "end\n"))

abbrev pub RowsFallTogether : Type 0
RowsFallTogether =
    report cells (two_rows ∷ []) (script rows_fall) ≡ finished (codes "(a:i,b:s)\n" ∷ codes "(1,\"x\")\n" ∷ codes "end\n" ∷ []) 10

-- Two cells hold two rows of one column, and a third is refused at the constant.
abbrev pub two_tuples : Bytes
two_tuples = codes "write {(1),(2)}"

abbrev pub three_tuples : Bytes
three_tuples = codes "write {(1),(2),(3)}"

pub record CellsRunOut : Type 0 where
  pub fit : report 2 [] (script two_tuples) ≡ finished (codes "(?:i)\n" ∷ codes "(1)\n" ∷ codes "(2)\n" ∷ codes "end\n" ∷ []) 3
  pub full : report 2 [] (script three_tuples) ≡ stopped [] 1 43 1 14

-- the whole table
abbrev pub SpecimensStand : Type 0
SpecimensStand = outcomes table ≡ expectations table
