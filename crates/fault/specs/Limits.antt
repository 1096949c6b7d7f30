-- The limits of the engine. Every definition and every promise speaks of these names.
use Rattle.std.specs.Prelude.{ℕ}
use Rattle.fault.specs.declared.limits.Limits.{Limits}

-- bytes of a script's text
abbrev pub script_bytes : ℕ
script_bytes = 16384

-- bytes of a name
abbrev pub name_bytes : ℕ
name_bytes = 32

-- bytes of a string
abbrev pub string_bytes : ℕ
string_bytes = 255

-- the largest integer that a script writes
abbrev pub integer_max : ℕ
integer_max = 9223372036854775807

-- depths of a script
abbrev pub depth : ℕ
depth = 24

-- columns of a table
abbrev pub columns : ℕ
columns = 16

-- variables in scope, hidden ones too
abbrev pub variables : ℕ
variables = 64

-- attributes in scope that the checker has room for
abbrev pub attributes : ℕ
attributes = 512

-- nodes of a tree
abbrev pub nodes : ℕ
nodes = 16384

-- instructions of a script
abbrev pub instructions : ℕ
instructions = 4096

-- strings of a script
abbrev pub literals : ℕ
literals = 8192

-- tables of a store
abbrev pub tables : ℕ
tables = 256

-- cells of a store
abbrev pub cells : ℕ
cells = 4096

-- bytes of a supplied text
abbrev pub text_bytes : ℕ
text_bytes = 65536

-- bytes that a line buffer has at least
abbrev pub line_bytes : ℕ
line_bytes = 4200

-- different strings that a run reads
abbrev pub read_strings : ℕ
read_strings = 1024

-- bytes of the strings that a run reads
abbrev pub read_bytes : ℕ
read_bytes = 32768

abbrev pub limits : Limits
limits =
    record {
      script_bytes = script_bytes;
      name_bytes = name_bytes;
      string_bytes = string_bytes;
      integer_max = integer_max;
      depth = depth;
      columns = columns;
      variables = variables;
      attributes = attributes;
      nodes = nodes;
      instructions = instructions;
      literals = literals;
      tables = tables;
      cells = cells;
      text_bytes = text_bytes;
      line_bytes = line_bytes;
      read_strings = read_strings;
      read_bytes = read_bytes;
    }
