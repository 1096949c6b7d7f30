-- The values that lines show, and the bytes of their strings.
use Rattle.std.specs.Prelude.{ℕ, List, map, take, Some, None, Option}
use Rattle.texts.specs.Language as language
use Rattle.listing.specs.Seen.{part}
use Rattle.lines.specs.declared.shown.Sources.{Sources}
use Rattle.lines.specs.declared.shown.Text.{Text}
use Rattle.lines.specs.declared.shown.Text.TheVariants as text
use Rattle.lines.specs.declared.shown.Shown.{Shown}
use Rattle.lines.specs.declared.shown.Shown.TheVariants as shown

-- the bytes of a string
abbrev pub text_of : Sources → Text → List ℕ
text_of s (text.Literal p) = part s.script.now p
text_of s (text.Read p) = part s.pool.now p

-- the value that is shown
abbrev pub value_of : Sources → Shown → language.Value
value_of s (shown.Integer z) = language.Value.integer z
value_of s (shown.String t) = language.Value.string (text_of s t)
value_of s (shown.Boolean b) = language.Value.boolean b

abbrev pub values_of : Sources → ℕ → List Shown → List language.Value
values_of s width values = map (value_of s) (take width values)

-- the name of a source, if it has one
abbrev pub name_of : Sources → Option Text → Option (List ℕ)
name_of s None = None
name_of s (Some t) = Some (text_of s t)
