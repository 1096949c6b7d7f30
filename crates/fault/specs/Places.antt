-- Places of a text.
use Rattle.fault.specs.declared.places.Place.{Place}

-- the place of what lies outside any text
abbrev pub nowhere : Place
nowhere = record { line = 0; byte = 0 }
