-- IEEE 1364's types of scopes and of variables, by name and in the standard's order: to be read beside it.
use Prim.Native.String.{String}
use Rattle.std.specs.Prelude.{List, [], ◌∷◌}

abbrev pub scope_names : List String
scope_names = "begin" ∷ "fork" ∷ "function" ∷ "module" ∷ "task" ∷ []

abbrev pub var_names : List String
var_names =
    "event" ∷ "integer" ∷ "parameter" ∷ "real" ∷ "reg" ∷ "supply0" ∷ "supply1" ∷ "time" ∷ "tri" ∷ "triand" ∷ "trior" ∷ "trireg" ∷ "tri0"
    ∷ "tri1" ∷ "wand" ∷ "wire" ∷ "wor" ∷ []
