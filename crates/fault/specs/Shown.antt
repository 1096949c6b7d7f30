-- How a fault is told: `fault 11 scan line 3 byte 41`.
use Rattle.std.specs.Prelude.{ℕ, List, ◌++◌, codes, decimal}
use Rattle.fault.specs.declared.places.Place.{Place}
use Rattle.fault.specs.declared.rules.Fault.{Fault}
use Rattle.fault.specs.declared.rules.Layer.{Layer}
use Rattle.fault.specs.declared.rules.Layer.TheVariants.{Host, Scan, Grammar, Schema, Size, Machine, Store, Heading, Row, Cell, Supply}
use Rattle.fault.specs.Rules.{number_of, layer_of}

abbrev pub layer_name : Layer → List ℕ
layer_name Host = codes "host"
layer_name Scan = codes "scan"
layer_name Grammar = codes "grammar"
layer_name Schema = codes "schema"
layer_name Size = codes "size"
layer_name Machine = codes "machine"
layer_name Store = codes "store"
layer_name Heading = codes "heading"
layer_name Row = codes "row"
layer_name Cell = codes "cell"
layer_name Supply = codes "supply"

abbrev pub place_line : Place → List ℕ
place_line p = codes "line " ++ (decimal p.line ++ (codes " byte " ++ decimal p.byte))

abbrev pub fault_line : Fault → List ℕ
fault_line f =
    codes "fault " ++ (decimal (number_of f.rule) ++ (codes " " ++ (layer_name (layer_of f.rule) ++
    (codes " " ++ place_line f.place))))
