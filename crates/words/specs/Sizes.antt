-- Which bytes are a text, and what becomes of those that are none.
use Rattle.std.specs.Prelude.{◌≡◌, ℕ, ◌<◌, ◌≤◌, List, Ok, Err, vec_items, vec_len, Result, Vec}
use Rattle.std.specs.declared.alloc.Global.{Global}
use Rattle.fault.specs.Limits.{script_bytes}
use Rattle.fault.specs.Places.{nowhere}
use Rattle.fault.specs.declared.rules.Fault.{Fault}
use Rattle.fault.specs.declared.rules.Rule.TheVariants.{TextTooLong}
use Rattle.words.specs.declared.texts.Text.{Text}
use Rattle.words.specs.declared.sizing.Oversized.{Oversized}

abbrev pub text_bytes : Text → List ℕ
text_bytes t = vec_items t.bytes

-- the fault of a text that is too long, outside any place
abbrev pub too_long : Fault
too_long = record { rule = TextTooLong; place = nowhere }

-- bytes that are few enough are the text, others come back with fault 1
abbrev pub Sized : Vec ℕ Global → Result Text Oversized → Type 0
Sized bytes (Ok t) = (vec_len bytes ≤ script_bytes) × (text_bytes t ≡ vec_items bytes)
Sized bytes (Err o) = (script_bytes < vec_len bytes) × (o.bytes ≡ bytes) × (o.fault ≡ too_long)
