-- How chained cells stand for a store: each table's cells are those on its chain, and the others are on the free chain.
use Rattle.std.specs.Prelude.{◌≡◌, ℕ, zero, suc, Bool, true, false, not, ◌&&◌, Option, None, Some, List, [], ◌∷◌, ◌++◌, map, length, ℤ, pos, ◌==◌, nat_lt, slice_index, slice_index_or, slice_set}
use Rattle.store.specs.Meaning.{Store}
use Rattle.directory.specs.Run.{laid, extent_of}
use Rattle.chained.specs.declared.links.Link.{Link}
use Rattle.directory.specs.declared.entry.Entry.{Entry}

-- what the cells hold
abbrev pub values : List Link → List ℤ
values ls = map (λ l. l.value) ls

-- the cell that each is linked to
abbrev pub nexts : List Link → List ℕ
nexts ls = map (λ l. l.next) ls

-- the first n cells of the chain that begins at h
abbrev pub walk : List ℕ → ℕ → ℕ → List ℕ
walk ns zero h = []
walk ns (suc n) h = h ∷ walk ns n (slice_index ns h)

-- where the chain is after n links
abbrev pub step : List ℕ → ℕ → ℕ → ℕ
step ns zero h = h
step ns (suc n) h = step ns n (slice_index ns h)

-- the cells of all tables, table after table
abbrev pub places : List ℕ → List Entry → List ℕ
places ns [] = []
places ns (e ∷ es) = walk ns (extent_of e) e.first ++ places ns es

-- and the n free ones after them
abbrev pub chains : List ℕ → List Entry → ℕ → ℕ → List ℕ
chains ns es n free = places ns es ++ walk ns n free

-- what the cells at these places hold
abbrev pub gather : List ℤ → List ℕ → List ℤ
gather cs is = map (λ i. slice_index_or cs i (pos 0)) is

-- the run of cells that the tables have
abbrev pub run : List Entry → List ℤ → List ℕ → List ℤ
run es cs ns = gather cs (places ns es)

abbrev pub chained : ℕ → List Entry → List ℤ → List ℕ → Store
chained c es cs ns = laid c es (run es cs ns)

-- no place twice

abbrev pub absent : ℕ → List ℕ → Bool
absent x [] = true
absent x (y ∷ ys) = not (x == y) && absent x ys

abbrev pub distinct : List ℕ → Bool
distinct [] = true
distinct (x ∷ xs) = absent x xs && distinct xs

-- every place below n
abbrev pub under : ℕ → List ℕ → Bool
under n [] = true
under n (x ∷ xs) = nat_lt x n && under n xs

-- a chain of n cells that begins at h lies in the cells
abbrev pub Reaches : List Link → ℕ → ℕ → Type 0
Reaches ls n h = under (length ls) (walk (nexts ls) n h) ≡ true

-- what a search answers: nothing if it found the row, else the last cell that it went over
abbrev pub searched : Bool → ℕ → Option ℕ
searched true last = None
searched false last = Some last

-- xs written into the cells at the places is, one by one
abbrev pub put : List ℤ → List ℕ → List ℤ → List ℤ
put cs [] xs = cs
put cs (i ∷ is) [] = cs
put cs (i ∷ is) (x ∷ xs) = put (slice_set cs i x) is xs

-- a chain of n cells joined to another: where it begins, and the links

abbrev pub head_of : ℕ → ℕ → ℕ → ℕ
head_of zero first next = next
head_of (suc n) first next = first

abbrev pub joined : List ℕ → ℕ → ℕ → ℕ → List ℕ
joined ns zero first next = ns
joined ns (suc n) first next = slice_set ns (step ns n first) next
