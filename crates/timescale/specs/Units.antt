-- Units as texts, and a unit as a part of a second.
use Rattle.std.specs.Prelude.{ℕ, List, [], ◌∷◌, pos, Float, Option, Some, None}
use Prim.Native.String.{String}
use Rattle.std.specs.Float.{binary64}
use Rattle.std.specs.Float.Ieee.{div, of_int}
use Rattle.text.specs.Names.{lookup}
use Rattle.timescale.specs.Ieee.{unit_name, per_second}
use Rattle.timescale.specs.declared.TimescaleUnit.{TimescaleUnit}

abbrev pub named : TimescaleUnit → String × (Option TimescaleUnit)
named u = (unit_name u, Some u)

abbrev pub units : List (String × (Option TimescaleUnit))
units =
    named TimescaleUnit.S ∷ named TimescaleUnit.MS ∷ named TimescaleUnit.US ∷ named TimescaleUnit.NS ∷ named TimescaleUnit.PS ∷ named TimescaleUnit.FS ∷ []

-- the unit that a text names
unfoldable pub parse_unit : List ℕ → Option TimescaleUnit
parse_unit w = lookup units None w

-- one unit in seconds: 1 divided by the units in a second, both as IEEE 754's binary64, rounded once
abbrev pub seconds : TimescaleUnit → Float
seconds u = div binary64 (of_int binary64 (pos 1)) (of_int binary64 (pos (per_second u)))
