-- What is written is right, and so reads back; and each value has one text only.
use Rattle.std.proofs.Common.{◌≡◌, ℕ, zero, suc, ◌-◌, ◌^◌, ◌<◌, ◌≤◌, Bool, true, false, List, [], ◌∷◌, ◌++◌, get_or, ℤ, pos, negsuc, neg_ℤ, Some, None, codes, decimal, Option, sym, refl, ap, ◌∙◌, subst, ap₂, inl, inr, arith, rules}
use lib.Signed.{mag}
use Rattle.std.specs.Fmt.{signed_decimal}
use Rattle.std.proofs.lemmas.Fmt.{digits_decimal, digits_value-decimal, first_decimal, decimal_digit, decimal-digits_value}
use Rattle.std.proofs.lemmas.Str.Parse.{IsNumeralModel, numerals_by_fold}
use Rattle.domain.specs.declared.Domain.{Domain}
use Rattle.domain.specs.declared.Domain.TheVariants.{Integer, String, Boolean}
use Rattle.schema.specs.Columns.{Column}
use Rattle.texts.specs.Formats.{Word, Many, Entries, opening, comma}
use Rattle.words.specs.Letters.{digit}
use Rattle.std.specs.List.{list_all}
use Rattle.texts.specs.Language.{Value, Value.integer, Value.string, Value.boolean, most, least, worth, CountText, IntegerText, BooleanText, ValueText, shown_name, NameText, kind, ColumnText, HeadingText, RowText, domains, ending, TableText, AtomText}
use Rattle.texts.specs.Reading.{read_table, read_atom}
use Rattle.texts.specs.Lines.{value_bytes, bytes_of_name, column_bytes, entries_bytes, heading_line, row_line, row_lines, table_lines, atom_line}
use Rattle.texts.specs.Roundtrip.{Fits, RowFits, RowsFit, TablesReadBack, AtomsReadBack, OneText}
use Rattle.texts.proofs.Whole.{exact}
use Rattle.texts.proofs.Listings.{table_reads, atom_reads}
use Rattle.texts.proofs.Values.{worth_least}

-- digits, and the number that they write, in this crate's words
own : IsNumeralModel (λ ds. list_all digit ds ≡ true) (worth 0)
own = numerals_by_fold _ (search rules) worth (search rules)

count_from : (limit n : ℕ) (ds : List ℕ) → list_all digit ds ≡ true → 48 < get_or ds 0 0 → n ≡ worth 0 ds → n ≤ limit → CountText limit n ds
count_from limit n [] d h e k = absurd (omega (arith, h))
count_from limit n (b ∷ ds) d h e k = record {
  value = b;
  front = b ∷ [];
  back = ds;
  parts = refl;
  begins = (refl, grind (arith, d, h));
  ends = (grind (arith, d), e ∙ ap (λ z. worth z ds) (omega arith), k);
}

count_decimal : (limit n : ℕ) → 0 < n → n ≤ limit → n < 2 ^ 64 → CountText limit n (decimal n)
count_decimal limit n h k s = count_from limit n (decimal n) (digits_decimal own n s) (first_decimal n h s) (sym (digits_value-decimal own n s)) k

pub integer_right : (z : ℤ) → mag z ≤ most → IntegerText z (signed_decimal z)
integer_right (pos zero) h = inr (inl (refl, decimal_digit 0 (omega arith)))
integer_right (pos (suc n)) h = inr (inr (record { value = suc n; is = refl; text = count_decimal most (suc n) (omega arith) h (omega (arith, h)) }))
integer_right (negsuc n) h = inl (record {
  value = tt;
  front = codes "-";
  back = decimal (suc n);
  parts = refl;
  begins = (refl, refl);
  ends = record { value = suc n; is = refl; text = count_decimal least (suc n) (omega arith) (omega (arith, h)) (omega (arith, h)) };
})

pub value_right : (d : Domain) (v : Value) → Fits d v → ValueText d v (value_bytes v)
value_right Integer (integer z) h = record { value = z; is = refl; text = integer_right z h }
value_right Integer (string s) h = absurd h
value_right Integer (boolean b) h = absurd h
value_right String (integer z) h = absurd h
value_right String (string s) h = record { value = s; is = refl; text = (h.0, h.1, refl) }
value_right String (boolean b) h = absurd h
value_right Boolean (integer z) h = absurd h
value_right Boolean (string s) h = absurd h
value_right Boolean (boolean true) h = record { value = true; is = refl; text = inl (refl, refl) }
value_right Boolean (boolean false) h = record { value = false; is = refl; text = inr (refl, refl) }

pub entries_right : (before : List ℕ) (ds : List Domain) (vs : List Value) → RowFits ds vs → Entries ValueText before ds vs (entries_bytes value_bytes before vs)
entries_right before [] [] h = (refl, refl)
entries_right before [] (v ∷ vs) h = absurd h
entries_right before (d ∷ ds) [] h = absurd h
entries_right before (d ∷ ds) (v ∷ vs) h = record {
  value = tt;
  front = before;
  back = value_bytes v ++ entries_bytes value_bytes comma vs;
  parts = refl;
  begins = (refl, refl);
  ends = record {
    value = v;
    front = value_bytes v;
    back = entries_bytes value_bytes comma vs;
    parts = refl;
    begins = value_right d v h.0;
    ends = record { value = vs; is = refl; text = entries_right comma ds vs h.1 };
  };
}

pub row_right : (ds : List Domain) (vs : List Value) → RowFits ds vs → RowText ds vs (row_line vs)
row_right ds vs h = record { value = tt; front = opening; back = entries_bytes value_bytes [] vs; parts = refl; begins = (refl, refl); ends = entries_right [] ds vs h }

name_right : (o : Option (List ℕ)) → NameText o tt (bytes_of_name o)
name_right None = (refl, refl)
name_right (Some n) = inr (refl, refl)

column_right : (c : Column) → ColumnText c tt (column_bytes c)
column_right c = record { value = tt; front = bytes_of_name (shown_name c.name); back = kind c.domain; parts = refl; begins = name_right (shown_name c.name); ends = (refl, refl) }

-- a heading's value: one for each column
abbrev pub marks : List Column → List (Unit {0})
marks [] = []
marks (c ∷ cs) = tt ∷ marks cs

columns_right : (before : List ℕ) (cs : List Column) → Entries ColumnText before cs (marks cs) (entries_bytes column_bytes before cs)
columns_right before [] = (refl, refl)
columns_right before (c ∷ cs) = record {
  value = tt;
  front = before;
  back = column_bytes c ++ entries_bytes column_bytes comma cs;
  parts = refl;
  begins = (refl, refl);
  ends = record {
    value = tt;
    front = column_bytes c;
    back = entries_bytes column_bytes comma cs;
    parts = refl;
    begins = column_right c;
    ends = record { value = marks cs; is = refl; text = columns_right comma cs };
  };
}

pub heading_right : (cs : List Column) → HeadingText cs (marks cs) (heading_line cs)
heading_right cs = record { value = tt; front = opening; back = entries_bytes column_bytes [] cs; parts = refl; begins = (refl, refl); ends = columns_right [] cs }

pub rows_right : (ds : List Domain) (rows : List (List Value)) → RowsFit ds rows → Many (RowText ds) (Word ending []) rows (row_lines rows)
rows_right ds [] h = (refl, refl)
rows_right ds (row ∷ rows) h = (row_line row, row_lines rows, refl, row_right ds row h.0, rows_right ds rows h.1)

pub table_right : (cs : List Column) (rows : List (List Value)) → RowsFit (domains cs) rows → TableText cs rows (table_lines cs rows)
table_right cs rows h = record {
  value = marks cs;
  front = heading_line cs;
  back = row_lines rows ++ [];
  parts = refl;
  begins = heading_right cs;
  ends = record { value = rows; front = row_lines rows; back = []; parts = refl; begins = rows_right (domains cs) rows h; ends = (refl, refl) };
}

pub atom_right : (d : Domain) (v : Value) → Fits d v → AtomText d v (atom_line v)
atom_right d v h = record {
  value = v;
  front = value_bytes v;
  back = codes "\n";
  parts = refl;
  begins = value_right d v h;
  ends = record { value = v; front = codes "\n"; back = []; parts = refl; begins = (refl, refl); ends = (refl, refl) };
}

pub tables_read_back : TablesReadBack
tables_read_back cs rows h = ((exact (TableText cs) (read_table cs) (table_reads cs)).accepts (table_lines cs rows) rows).1 (table_right cs rows h)

pub atoms_read_back : AtomsReadBack
atoms_read_back d v h = ((exact (AtomText d) (read_atom d) (atom_reads d)).accepts (atom_line v) v).1 (atom_right d v h)

-- One text only.

-- a count is written as it is read
count_only : (limit n : ℕ) (p : List ℕ) → limit < 2 ^ 64 → CountText limit n p → (p ≡ decimal n) × (n ≤ limit) × (0 < n)
count_only limit n p small t =
    let whole : p ≡ t.value ∷ t.back = t.parts ∙ ap (λ z. z ++ t.back) t.begins.0 in
    let digits : list_all digit (t.value ∷ t.back) ≡ true = grind (arith, t.begins.1, t.ends.0) in
    let value : worth 0 (t.value ∷ t.back) ≡ n = sym (t.ends.1 ∙ ap (λ z. worth z t.back) (omega arith)) in
    let written : decimal (worth 0 (t.value ∷ t.back)) ≡ t.value ∷ t.back = decimal-digits_value own (t.value ∷ t.back) digits (omega arith) (λ e. absurd (grind (arith, t.begins.1, e))) (omega (arith, value, t.ends.2)) in
    (whole ∙ (sym written ∙ ap decimal value), t.ends.2, grind (arith, t.begins.1, t.ends.1, worth_least (t.value - 48) t.back))

integer_only : (z : ℤ) (p : List ℕ) → IntegerText z p → (p ≡ signed_decimal z) × (mag z ≤ most)
integer_only z p (inl t) =
    let c = count_only least t.ends.value t.back (omega arith) t.ends.text in
    below t.ends.value z p t.ends.is (t.parts ∙ ap₂ (λ x y. x ++ y) t.begins.1 c.0) c.1 c.2
  where
    below : (n : ℕ) (z : ℤ) (p : List ℕ) → z ≡ neg_ℤ (pos n) → p ≡ 45 ∷ decimal n → n ≤ least → 0 < n → (p ≡ signed_decimal z) × (mag z ≤ most)
    below zero z p e h k l = absurd (omega arith)
    below (suc n) z p e h k l = subst (λ w. (p ≡ signed_decimal w) × (mag w ≤ most)) (sym e) (h, omega arith)
integer_only z p (inr (inl t)) = subst (λ w. (p ≡ signed_decimal w) × (mag w ≤ most)) (sym t.0) (t.1 ∙ sym (decimal_digit 0 (omega arith)), omega arith)
integer_only z p (inr (inr t)) =
    let c = count_only most t.value p (omega arith) t.text in
    subst (λ w. (p ≡ signed_decimal w) × (mag w ≤ most)) (sym t.is) (c.0, c.1)

pub one_text : OneText
one_text Integer v p t = let c = integer_only t.value p t.text in subst (λ w. (p ≡ value_bytes w) × Fits Integer w) (sym t.is) c
one_text String v p t = subst (λ w. (p ≡ value_bytes w) × Fits String w) (sym t.is) (t.text.2, (t.text.0, t.text.1))
one_text Boolean v p t = subst (λ w. (p ≡ value_bytes w) × Fits Boolean w) (sym t.is) (only t.value t.text, tt)
  where
    only : (b : Bool) → BooleanText b p → p ≡ value_bytes (boolean b)
    only b (inl u) = u.1 ∙ ap (λ x. value_bytes (boolean x)) (sym u.0)
    only b (inr u) = u.1 ∙ ap (λ x. value_bytes (boolean x)) (sym u.0)
