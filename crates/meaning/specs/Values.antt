-- Values, rows and tables: when they are equal, how they compare, and what arithmetic gives.
use Rattle.std.specs.Prelude.{suc, ◌/◌, Bool, true, false, cond, not, ◌&&◌, ◌||◌, List, [], ◌∷◌, ◌++◌, ℤ, pos, negsuc, ◌+ℤ◌, ◌-ℤ◌, ◌*ℤ◌, neg_ℤ, ◌==◌, nat_le, nat_lt}
use Rattle.std.specs.Int.Signed.{mag}
use Rattle.std.specs.Str.{bytes_eq}
use Rattle.fault.specs.Limits.{integer_max}
use Rattle.fault.specs.declared.rules.Rule.{Rule}
use Rattle.fault.specs.declared.rules.Rule.TheVariants.{OutOfRange, ZeroDivisor}
use Rattle.texts.specs.Language.{Value, Value.integer, Value.string, Value.boolean}
use Rattle.words.specs.Tokens.{Bytes, Place}
use Rattle.words.specs.declared.tokens.Comparison.{Comparison}
use Rattle.words.specs.declared.tokens.Comparison.TheVariants.{Equal, NotEqual, Greater, GreaterEqual, Less, LessEqual}
use Rattle.words.specs.declared.tokens.Product.{Product}
use Rattle.words.specs.declared.tokens.Product.TheVariants.{Times, Divide}
use Rattle.words.specs.declared.tokens.Sum.{Sum}
use Rattle.words.specs.declared.tokens.Sum.TheVariants.{Plus, Minus}

abbrev pub Row : Type 0
Row = List Value

-- what a variable or an expression holds
pub data Datum : Type 0 where
  atomic : Value → Datum
  table : List Row → Datum

-- Equality.

abbrev pub same_integer : ℤ → ℤ → Bool
same_integer (pos a) (pos b) = a == b
same_integer (pos a) (negsuc b) = false
same_integer (negsuc a) (pos b) = false
same_integer (negsuc a) (negsuc b) = a == b

abbrev pub same_boolean : Bool → Bool → Bool
same_boolean true b = b
same_boolean false b = not b

abbrev pub same_value : Value → Value → Bool
same_value (integer x) (integer y) = same_integer x y
same_value (integer x) (string t) = false
same_value (integer x) (boolean b) = false
same_value (string s) (integer y) = false
same_value (string s) (string t) = bytes_eq s t
same_value (string s) (boolean b) = false
same_value (boolean a) (integer y) = false
same_value (boolean a) (string t) = false
same_value (boolean a) (boolean b) = same_boolean a b

abbrev pub same_row : Row → Row → Bool
same_row [] [] = true
same_row [] (w ∷ ws) = false
same_row (v ∷ vs) [] = false
same_row (v ∷ vs) (w ∷ ws) = same_value v w && same_row vs ws

-- the row is among these
abbrev pub has : List Row → Row → Bool
has [] r = false
has (x ∷ xs) r = same_row x r || has xs r

-- Every row that comes to a table comes by this: at the end, unless it is there already.
abbrev pub insert : List Row → Row → List Row
insert rows r = cond (has rows r) rows (rows ++ (r ∷ []))

abbrev pub insert_all : List Row → List Row → List Row
insert_all rows [] = rows
insert_all rows (r ∷ more) = insert_all (insert rows r) more

-- every row of the one is among the other
abbrev pub contains : List Row → List Row → Bool
contains rows [] = true
contains rows (r ∷ more) = has rows r && contains rows more

-- tables with the same rows in any order are equal
abbrev pub same_datum : Datum → Datum → Bool
same_datum (atomic v) (atomic w) = same_value v w
same_datum (atomic v) (table ws) = false
same_datum (table vs) (atomic w) = false
same_datum (table vs) (table ws) = contains ws vs && contains vs ws

-- Order.

abbrev pub less_integer : ℤ → ℤ → Bool
less_integer (pos a) (pos b) = nat_lt a b
less_integer (pos a) (negsuc b) = false
less_integer (negsuc a) (pos b) = true
less_integer (negsuc a) (negsuc b) = nat_lt b a

-- strings by unsigned bytes, a prefix first
abbrev pub less_bytes : Bytes → Bytes → Bool
less_bytes [] [] = false
less_bytes [] (b ∷ t) = true
less_bytes (a ∷ s) [] = false
less_bytes (a ∷ s) (b ∷ t) = cond (a == b) (less_bytes s t) (nat_lt a b)

abbrev pub less_value : Value → Value → Bool
less_value (integer x) (integer y) = less_integer x y
less_value (integer x) (string t) = false
less_value (integer x) (boolean b) = false
less_value (string s) (integer y) = false
less_value (string s) (string t) = less_bytes s t
less_value (string s) (boolean b) = false
less_value (boolean a) v = false

abbrev pub less : Datum → Datum → Bool
less (atomic v) (atomic w) = less_value v w
less (atomic v) (table ws) = false
less (table vs) d = false

abbrev pub compare : Comparison → Datum → Datum → Bool
compare Equal a b = same_datum a b
compare NotEqual a b = not (same_datum a b)
compare Greater a b = less b a
compare GreaterEqual a b = not (less a b)
compare Less a b = less a b
compare LessEqual a b = not (less b a)

-- Arithmetic.

-- what is computed, or the fault that ends the script, at the operator's place
pub data Computed (A : Type 0) : Type 0 where
  computed : A → Computed A
  fails : Rule → Place → Computed A

abbrev pub bind : {A B : Type 0} → Computed A → (A → Computed B) → Computed B
bind (computed a) f = f a
bind (fails r p) f = fails r p

-- a signed 64-bit integer
abbrev pub in_range : ℤ → Bool
in_range z = nat_le (mag z) integer_max

abbrev pub ranged : Place → ℤ → Computed Datum
ranged p z = cond (in_range z) (computed (atomic (integer z))) (fails OutOfRange p)

-- division drops the fraction, toward zero
abbrev pub quotient : ℤ → ℤ → ℤ
quotient (pos a) (pos b) = pos (a / b)
quotient (pos a) (negsuc b) = neg_ℤ (pos (a / suc b))
quotient (negsuc a) (pos b) = neg_ℤ (pos (suc a / b))
quotient (negsuc a) (negsuc b) = pos (suc a / suc b)

abbrev pub is_zero : ℤ → Bool
is_zero (pos n) = n == 0
is_zero (negsuc n) = false

abbrev pub sum_of : Sum → Place → ℤ → ℤ → Computed Datum
sum_of Plus p x y = ranged p (x +ℤ y)
sum_of Minus p x y = ranged p (x -ℤ y)

abbrev pub product_of : Product → Place → ℤ → ℤ → Computed Datum
product_of Times p x y = ranged p (x *ℤ y)
product_of Divide p x y = cond (is_zero y) (fails ZeroDivisor p) (ranged p (quotient x y))
