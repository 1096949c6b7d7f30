-- What holds of the code of every script.
use Rattle.std.specs.Prelude.{ℕ, suc, ◌+◌, ◌-◌, ◌≤◌, [], ◌∷◌, length, ℤ, pos, negsuc}
use Rattle.plan.specs.Plan.{Body}
use Rattle.code.specs.Generation.{Code, code_of}
use Rattle.code.specs.Instructions.{Operation, Instruction.◌on◌}
use Rattle.code.specs.Instructions.{Operation.HALT, Operation.NEWATOM, Operation.NEWTAB, Operation.POP, Operation.LDINT, Operation.LDSTR, Operation.LDTAB, Operation.IATTR, Operation.SATTR, Operation.ENDTAB, Operation.LOB, Operation.STO, Operation.LAT, Operation.SKIP, Operation.SKIPF, Operation.EQU, Operation.NEQ, Operation.IGT, Operation.IGE, Operation.ILT, Operation.ILE, Operation.SGT, Operation.SGE, Operation.SLT, Operation.SLE, Operation.PLUS, Operation.MINUS, Operation.TIMES, Operation.DIV, Operation.UMI, Operation.NEG, Operation.JOIN, Operation.ENDJOIN, Operation.SEL, Operation.ENDSEL, Operation.EXS, Operation.ENDEXS, Operation.ALL, Operation.ENDALL, Operation.ENDUPD, Operation.ENDEXT, Operation.UPD, Operation.EXT, Operation.PROJ, Operation.ATTR, Operation.ENDPROJ, Operation.GET, Operation.FGET, Operation.PRINT, Operation.FPRINT}

-- a jump at i leads to an instruction, of which the last is at `last`
abbrev pub Jumps : ℤ → ℕ → ℕ → Type 0
Jumps (pos n) i last = i + n ≤ last
Jumps (negsuc n) i last = suc n ≤ i

-- where an instruction at i may lead: a jump to its target, an operator past its bracket, the end of a bracket back to its beginning
abbrev pub Lands : Operation → ℕ → ℕ → Type 0
Lands HALT i last = Unit {0}
Lands (NEWATOM x) i last = Unit {0}
Lands (NEWTAB x) i last = Unit {0}
Lands (POP x) i last = Unit {0}
Lands (LDINT x) i last = Unit {0}
Lands (LDSTR x) i last = Unit {0}
Lands (LDTAB x y) i last = Unit {0}
Lands (IATTR x) i last = Unit {0}
Lands (SATTR x) i last = Unit {0}
Lands ENDTAB i last = Unit {0}
Lands (LOB x) i last = Unit {0}
Lands (STO x) i last = Unit {0}
Lands (LAT c k s) i last = Unit {0}
Lands (SKIP z) i last = Jumps z i last
Lands (SKIPF z) i last = Jumps z i last
Lands EQU i last = Unit {0}
Lands NEQ i last = Unit {0}
Lands IGT i last = Unit {0}
Lands IGE i last = Unit {0}
Lands ILT i last = Unit {0}
Lands ILE i last = Unit {0}
Lands SGT i last = Unit {0}
Lands SGE i last = Unit {0}
Lands SLT i last = Unit {0}
Lands SLE i last = Unit {0}
Lands PLUS i last = Unit {0}
Lands MINUS i last = Unit {0}
Lands TIMES i last = Unit {0}
Lands DIV i last = Unit {0}
Lands UMI i last = Unit {0}
Lands NEG i last = Unit {0}
Lands (JOIN gap) i last = i + (gap + 2) ≤ last
Lands (ENDJOIN gap) i last = gap ≤ i
Lands (SEL gap) i last = i + (gap + 2) ≤ last
Lands (ENDSEL gap) i last = gap ≤ i
Lands (EXS gap) i last = i + (gap + 2) ≤ last
Lands (ENDEXS gap) i last = gap ≤ i
Lands (ALL gap) i last = i + (gap + 2) ≤ last
Lands (ENDALL gap) i last = gap ≤ i
Lands (ENDUPD gap) i last = gap ≤ i
Lands (ENDEXT gap) i last = gap ≤ i
Lands (UPD k s gap) i last = i + (gap + 2) ≤ last
Lands (EXT s gap) i last = i + (gap + 2) ≤ last
Lands (PROJ x) i last = Unit {0}
Lands (ATTR x y) i last = Unit {0}
Lands ENDPROJ i last = Unit {0}
Lands (GET x y) i last = Unit {0}
Lands (FGET x y) i last = Unit {0}
Lands (PRINT x) i last = Unit {0}
Lands (FPRINT x) i last = Unit {0}

-- every instruction from position i on
abbrev pub AllLand : ℕ → ℕ → Code → Type 0
AllLand i last [] = Unit {0}
AllLand i last ((o on p) ∷ rest) = Lands o i last × AllLand (suc i) last rest

-- every jump and every gap of a script lands on an instruction of the script
abbrev pub JumpsLand : Type 0
JumpsLand = (script : Body) → AllLand 0 (length (code_of script) - 1) (code_of script)
