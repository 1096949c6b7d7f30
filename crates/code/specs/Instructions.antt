-- The fifty instructions. Sizes and offsets count cells, and every domain takes one.
-- Lengths of jumps are relative to the instruction itself; a gap is the length of a bracket's code.
use Rattle.std.specs.Prelude.{ℕ, ℤ}
use Rattle.schema.specs.Kinds.{ValueType}
use Rattle.words.specs.Tokens.{Place}

pub data Operation : Type 0 where
  -- the end of the script
  HALT : Operation
  -- a new variable: an atom of a size, a table of a width; k variables end
  NEWATOM NEWTAB POP : ℕ → Operation
  -- an integer, or a boolean as 1 or 0; a string by its number
  LDINT : ℤ → Operation
  LDSTR : ℕ → Operation
  -- a table constant: its width and the number of its tuples, then its cells, then its end
  LDTAB : ℕ → ℕ → Operation
  IATTR : ℤ → Operation
  SATTR : ℕ → Operation
  ENDTAB : Operation
  -- a variable by its number; an attribute by the distance of its bracket, its column and size
  LOB STO : ℕ → Operation
  LAT : ℕ → ℕ → ℕ → Operation
  -- jumps, the second where the operand is false
  SKIP SKIPF : ℤ → Operation
  -- comparisons: of any two values, of integers, of strings
  EQU NEQ IGT IGE ILT ILE SGT SGE SLT SLE : Operation
  PLUS MINUS TIMES DIV UMI NEG : Operation
  -- operators with a bracket, and its end, which goes back to the bracket's first instruction
  JOIN ENDJOIN SEL ENDSEL EXS ENDEXS ALL ENDALL ENDUPD ENDEXT : ℕ → Operation
  -- the column that is updated, its size, the gap
  UPD : ℕ → ℕ → ℕ → Operation
  -- the size of the new column, the gap
  EXT : ℕ → ℕ → Operation
  -- a projection: how many columns, each by number and size, its end
  PROJ : ℕ → Operation
  ATTR : ℕ → ℕ → Operation
  ENDPROJ : Operation
  -- a variable is read, without and with a name; a value is printed, likewise
  GET FGET : ℕ → ValueType → Operation
  PRINT FPRINT : ValueType → Operation

infix 70 ◌on◌
-- an instruction and its place in the script
pub data Instruction : Type 0 where
  ◌on◌ : Operation → Place → Instruction
