-- IEEE 1364's units of time: their names, and how many make a second.
use Rattle.std.specs.Prelude.{ℕ, ◌^◌}
use Prim.Native.String.{String}
use Rattle.timescale.specs.declared.TimescaleUnit.{TimescaleUnit}

abbrev pub unit_name : TimescaleUnit → String
unit_name TimescaleUnit.S = "s"
unit_name TimescaleUnit.MS = "ms"
unit_name TimescaleUnit.US = "us"
unit_name TimescaleUnit.NS = "ns"
unit_name TimescaleUnit.PS = "ps"
unit_name TimescaleUnit.FS = "fs"

abbrev pub per_second : TimescaleUnit → ℕ
per_second TimescaleUnit.S = 1
per_second TimescaleUnit.MS = 10 ^ 3
per_second TimescaleUnit.US = 10 ^ 6
per_second TimescaleUnit.NS = 10 ^ 9
per_second TimescaleUnit.PS = 10 ^ 12
per_second TimescaleUnit.FS = 10 ^ 15
