-- What a list of widths and a list of numbered lines stand for.
use Rattle.std.specs.Prelude.{ℕ, ◌+◌, Bool, true, not, cond, ◌&&◌, List, [], ◌∷◌, map, length, take, ◌==◌, nat_lt}
use Rattle.std.specs.List.{filter, list_any}
use Rattle.store.specs.Meaning.{Row, Table, Store, same_row}
use Rattle.ledger.specs.declared.line.Line.{Line}

-- the lines of a table
abbrev pub lines_of : ℕ → List Line → List Line
lines_of t ls = filter (λ l. l.table == t) ls

-- their rows, at this width
abbrev pub rows_of : ℕ → List Line → List Row
rows_of w ls = map (λ l. take w l.cells) ls

-- whether one of the table's lines begins with the row
abbrev pub has_line : ℕ → Row → List Line → Bool
has_line t row ls = list_any (λ l. (l.table == t) && same_row (take (length row) l.cells) row) ls

-- the tables of these widths, the first of them with number t
abbrev pub numbered : ℕ → List ℕ → List Line → List Table
numbered t [] ls = []
numbered t (w ∷ ws) ls = record { width = w; rows = rows_of w (lines_of t ls) } ∷ numbered (t + 1) ws ls

abbrev pub tables_of : List ℕ → List Line → List Table
tables_of ws ls = numbered 0 ws ls

abbrev pub written : ℕ → List ℕ → List Line → Store
written c ws ls = record { capacity = c; tables = tables_of ws ls }

-- every line belongs to one of the first n tables
abbrev pub below : ℕ → List Line → Bool
below n [] = true
below n (l ∷ ls) = nat_lt l.table n && below n ls

-- the lines of all other tables
abbrev pub without : ℕ → List Line → List Line
without t ls = filter (λ l. not (l.table == t)) ls

-- the lines of one table given to another
abbrev pub renumbered : ℕ → ℕ → List Line → List Line
renumbered from to ls = map (λ l. cond (l.table == from) (record { table = to; cells = l.cells }) l) ls
