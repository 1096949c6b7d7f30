-- What a directory and a run of cells stand for: each entry takes its rows from the run, one table after the other.
use Rattle.std.specs.Prelude.{ℕ, zero, suc, ◌+◌, ◌*◌, List, [], ◌∷◌, take, drop, ℤ}
use Rattle.store.specs.Meaning.{Row, Table, Store}
use Rattle.directory.specs.declared.entry.Entry.{Entry}

-- the first n rows of w cells
abbrev pub chunk : ℕ → ℕ → List ℤ → List Row
chunk zero w cs = []
chunk (suc n) w cs = take w cs ∷ chunk n w (drop w cs)

-- the cells of a table
abbrev pub extent_of : Entry → ℕ
extent_of e = e.count * e.width

abbrev pub extent : List Entry → ℕ
extent [] = 0
extent (e ∷ es) = extent_of e + extent es

abbrev pub table_of : Entry → List ℤ → Table
table_of e cs = record { width = e.width; rows = chunk e.count e.width cs }

abbrev pub decode : List Entry → List ℤ → List Table
decode [] cs = []
decode (e ∷ es) cs = table_of e cs ∷ decode es (drop (extent_of e) cs)

-- the store of capacity c
abbrev pub laid : ℕ → List Entry → List ℤ → Store
laid c es cs = record { capacity = c; tables = decode es cs }
