-- The units' numbers: places in the crate's order, from 0; numbers past the last mean the last.
use Rattle.std.specs.Prelude.{ℕ, List, [], ◌∷◌, get_or}
use Rattle.timescale.specs.declared.TimescaleUnit.{TimescaleUnit}

abbrev pub unit_order : List TimescaleUnit
unit_order = TimescaleUnit.S ∷ TimescaleUnit.MS ∷ TimescaleUnit.US ∷ TimescaleUnit.NS ∷ TimescaleUnit.PS ∷ TimescaleUnit.FS ∷ []

abbrev pub unit_number : TimescaleUnit → ℕ
unit_number TimescaleUnit.S = 0
unit_number TimescaleUnit.MS = 1
unit_number TimescaleUnit.US = 2
unit_number TimescaleUnit.NS = 3
unit_number TimescaleUnit.PS = 4
unit_number TimescaleUnit.FS = 5

unfoldable pub unit_of : ℕ → TimescaleUnit
unit_of n = get_or unit_order n TimescaleUnit.FS
