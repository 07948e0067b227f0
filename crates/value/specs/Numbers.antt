-- The values' numbers: places in the crate's order, from 0; numbers past the last mean the last.
use Rattle.std.specs.Prelude.{ℕ, List, [], ◌∷◌, get_or, Option, Some, None}
use Rattle.value.specs.declared.Value.{Value}

abbrev pub value_order : List Value
value_order = Value.V0 ∷ Value.V1 ∷ Value.X ∷ Value.Z ∷ []

abbrev pub value_number : Value → ℕ
value_number Value.V0 = 0
value_number Value.V1 = 1
value_number Value.X = 2
value_number Value.Z = 3

unfoldable pub value_for : ℕ → Value
value_for n = get_or value_order n Value.Z

-- the number of what a byte means; of none as of the last
abbrev pub number_meant : Option Value → ℕ
number_meant (Some v) = value_number v
number_meant None = 3
