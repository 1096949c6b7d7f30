-- Directories whose tables begin one after the other, and how the beginnings are set anew.
use Rattle.std.proofs.Common.{◌≡◌, ℕ, suc, ◌+◌, ◌<◌, ◌≤◌, true, eqb, List, [], ◌∷◌, ◌++◌, length, get_or, take, drop, set, ℤ, sym, refl, ap, ◌∙◌, ap₂, add-zero, add_assoc, arith}
use Rattle.std.proofs.lemmas.Bool.{and_from, eq-eqb}
use Rattle.std.proofs.lemmas.List.{append-nil, take_all, drop_all, append_assoc, get_or_at, set_at, take_more, drop_more, length-take-le, length-append, length-drop}
use Rattle.directory.specs.Run.{extent_of, extent, decode, table_of}
use Rattle.directory.specs.Starts.{starts, restarted}
use Rattle.directory.specs.declared.entry.Entry.{Entry}
use Rattle.directory.proofs.Decoding.{extent_more, extent_take}

pub length_restarted : (n : ℕ) (es : List Entry) → length (restarted n es) ≡ length es
length_restarted n [] = refl
length_restarted n (e ∷ es) = ap suc (length_restarted (n + extent_of e) es)

pub extent_restarted : (n : ℕ) (es : List Entry) → extent (restarted n es) ≡ extent es
extent_restarted n [] = refl
extent_restarted n (e ∷ es) = ap (λ m. extent_of e + m) (extent_restarted (n + extent_of e) es)

-- the tables are the same
pub decode_restarted : (n : ℕ) (es : List Entry) (cs : List ℤ) → decode (restarted n es) cs ≡ decode es cs
decode_restarted n [] cs = refl
decode_restarted n (e ∷ es) cs = ap (λ ts. table_of e cs ∷ ts) (decode_restarted (n + extent_of e) es (drop (extent_of e) cs))

-- and the entries know where they begin
pub starts_restarted : (n : ℕ) (es : List Entry) → starts n (restarted n es) ≡ true
starts_restarted n [] = refl
starts_restarted n (e ∷ es) = and_from (eqb n n) (starts (n + extent_of e) (restarted (n + extent_of e) es)) (eq-eqb n n refl) (starts_restarted (n + extent_of e) es)

restarted_append : (n : ℕ) (es fs : List Entry) → restarted n (es ++ fs) ≡ restarted n es ++ restarted (n + extent es) fs
restarted_append n [] fs = ap (λ m. restarted m fs) (sym (add-zero n))
restarted_append n (e ∷ es) fs =
    ap (λ x. record { first = n; width = e.width; count = e.count } ∷ x) (restarted_append (n + extent_of e) es fs ∙ ap (λ m. restarted (n + extent_of e) es ++ restarted m fs) (add_assoc n (extent_of e) (extent es)))

-- one turn of the loop that sets them: `now` are the entries with the first i of them set
module _ (es now : List Entry) (i at : ℕ) (d : Entry) (l : i < length es) (inv : now ≡ restarted 0 (take i es) ++ drop i es) (at_is : at ≡ extent (take i es)) where
  front_long : length (restarted 0 (take i es)) ≡ i
  front_long = length_restarted 0 (take i es) ∙ length-take-le i es (omega arith)

  split_here : now ≡ restarted 0 (take i es) ++ get_or es i d ∷ drop (i + 1) es
  split_here = inv ∙ ap (λ x. restarted 0 (take i es) ++ x) (drop_more es i d l)

  pub restart_same : get_or now i d ≡ get_or es i d
  restart_same = ap (λ x. get_or x i d) split_here ∙ get_or_at (restarted 0 (take i es)) (get_or es i d) (drop (i + 1) es) d i front_long

  pub restart_length : length now ≡ length es
  restart_length = ap length inv ∙ omega (arith, length-append (restarted 0 (take i es)) (drop i es), front_long, length-drop i es)

  pub restart_fits : at + extent_of (get_or now i d) ≤ extent es
  restart_fits = omega (arith, at_is, ap extent_of restart_same, extent_take es i d l)

  pub restart_set : set now i (record { first = at; width = (get_or now i d).width; count = (get_or now i d).count }) ≡ restarted 0 (take (i + 1) es) ++ drop (i + 1) es
  restart_set =
      let new : Entry = record { first = at; width = (get_or now i d).width; count = (get_or now i d).count } in
      let old : Entry = get_or es i d in
      let more : restarted 0 (take (i + 1) es) ≡ restarted 0 (take i es) ++ new ∷ [] =
      ap (restarted 0) (take_more es i d l) ∙ restarted_append 0 (take i es) (old ∷ []) ∙ ap₂ (λ m (x : Entry). restarted 0 (take i es) ++ record { first = m; width = x.width; count = x.count } ∷ []) (omega (arith, at_is)) (sym restart_same) in
      ap (λ x. set x i new) split_here ∙ set_at (restarted 0 (take i es)) old (drop (i + 1) es) new i front_long ∙ sym (ap (λ x. x ++ drop (i + 1) es) more ∙ append_assoc (restarted 0 (take i es)) (new ∷ []) (drop (i + 1) es))

  pub restart_at : at + extent_of (get_or now i d) ≡ extent (take (i + 1) es)
  restart_at = omega (arith, at_is, ap extent_of restart_same, extent_more es i d l)

-- all entries are set
pub restart_all : (es now : List Entry) (i : ℕ) → length es ≤ i → now ≡ restarted 0 (take i es) ++ drop i es → now ≡ restarted 0 es
restart_all es now i l inv = inv ∙ ap₂ (λ x y. restarted 0 x ++ y) (take_all i es l) (drop_all i es l) ∙ append-nil (restarted 0 es)
