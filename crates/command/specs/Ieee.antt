-- IEEE 1364's keywords of a four-state dump, without their `$`: to be read beside the standard.
use Prim.Native.String.{String}
use Rattle.std.specs.Prelude.{List, [], ◌∷◌}

abbrev pub declarations : List String
declarations = "comment" ∷ "date" ∷ "enddefinitions" ∷ "scope" ∷ "timescale" ∷ "upscope" ∷ "var" ∷ "version" ∷ []

abbrev pub simulations : List String
simulations = "dumpall" ∷ "dumpoff" ∷ "dumpon" ∷ "dumpvars" ∷ []

-- what closes each of them
abbrev pub closing : String
closing = "end"
