-- The exit of a `?` inside a reader: the fault is handed on as it came, and the reader stands where it was refused.
use Rattle.std.proofs.Common.{◌≡◌, ℕ, List, Err, Result, sym, ap, ◌∙◌, subst}
use Rattle.fault.specs.declared.rules.Fault.{Fault}
use Rattle.texts.specs.Readers as texts
use Rattle.texts.specs.Readers.{Reading, Reading.refused}
use Rattle.listing.specs.declared.reader.Reader.{Reader}
use Rattle.listing.specs.Seen.{rest, seen_as, AtFault, ReadsAs, fault_at}

-- what is handed on
abbrev pub Handed : {A : Type 0} → Result A Fault → Fault → Type 0
Handed x f = (y : Fault) × (x ≡ Err y) × (y ≡ f)

handed_is : {A : Type 0} (x : Result A Fault) (f : Fault) → Handed x f → x ≡ Err f
handed_is x f p = p.1 ∙ ap Err p.2

-- it is seen as the refusal
pub seen_as_err : {A B : Type 0} (h : List ℕ → A → B) (s : Reader) (x : Result A Fault) (f : Fault) (g : Reading B) → Handed x f → refused f.rule (rest s) ≡ g → seen_as h s x ≡ g
seen_as_err h s x f g p e = ap (seen_as h s) (handed_is x f p) ∙ e

-- and its place stays
pub at_err : {A : Type 0} (s : Reader) (x : Result A Fault) (f : Fault) → Handed x f → f ≡ fault_at f.rule s.text.now s.at → AtFault s x
at_err s x f p e = subst (AtFault s) (sym (handed_is x f p)) e

-- so the answer is that of the format's reader if the refusal is
pub reads_err : {A B : Type 0} {h : List ℕ → A → B} {reader : texts.Reader B} {from to : Reader} {x : Result A Fault} {f : Fault} →
    Handed x f → f ≡ fault_at f.rule to.text.now to.at → refused f.rule (rest to) ≡ reader (rest from) → to.text.now ≡ from.text.now → ReadsAs h reader from to x
reads_err {h = h} {to = to} {x = x} {f = f} p place value same = record { value = seen_as_err h to x f _ p value; place = at_err to x f p place; same = same }
