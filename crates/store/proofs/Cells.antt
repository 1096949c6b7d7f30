-- How many cells a list of tables uses, as tables come, go and grow.
use Rattle.std.proofs.Common.{◌≡◌, ℕ, zero, suc, ◌+◌, ◌*◌, ◌<◌, ◌≤◌, List, [], ◌∷◌, ◌++◌, length, get_or, take, set, sym, ap, ◌∙◌, add_assoc, add-mul, one-mul, arith}
use Rattle.std.proofs.lemmas.List.{length-append}
use Rattle.store.specs.Meaning.{Row, Table, no_table, size, used}
use Rattle.store.proofs.Cases.{grown}

pub used_append : (ts us : List Table) → used (ts ++ us) ≡ used ts + used us
used_append [] us = omega arith
used_append (t ∷ ts) us = ap (λ n. size t + n) (used_append ts us) ∙ sym (add_assoc (size t) (used ts) (used us))

-- a table in the place of another
pub used_set : (ts : List Table) (n : ℕ) (u : Table) → n < length ts → used (set ts n u) + size (get_or ts n no_table) ≡ used ts + size u
used_set [] n u l = absurd (omega arith)
used_set (t ∷ ts) zero u l = omega arith
used_set (t ∷ ts) (suc n) u l = omega (arith, used_set ts n u (omega arith))

-- the tables before one, and that one
pub used_take : (ts : List Table) (n : ℕ) → n < length ts → used (take n ts) + size (get_or ts n no_table) ≤ used ts
used_take [] n l = absurd (omega arith)
used_take (t ∷ ts) zero l = omega arith
used_take (t ∷ ts) (suc n) l = omega (arith, used_take ts n (omega arith))

-- a row more uses its width
pub size_grown : (t : Table) (r : Row) → size (grown t r) ≡ size t + t.width
size_grown t r =
    ap (λ n. n * t.width) (length-append t.rows (r ∷ [])) ∙ add-mul (length t.rows) 1 t.width ∙ ap (λ n. size t + n) (one-mul t.width)
