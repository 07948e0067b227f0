-- Rows with a text outside their buffer: what 25 asks of a table.
use Rattle.std.specs.Prelude.{ℕ, Bool, false, not, ◌||◌, List, [], ◌∷◌}
use Rattle.text.specs.Texts.{is_within}
use Rattle.rows.specs.declared.Row.{Row}

abbrev pub row_outside : List ℕ → Row → Bool
row_outside s (Row.Scope p k t) = not (is_within s t)
row_outside s (Row.Var p v) = not (is_within s v.reference)
row_outside s (Row.Comment p t) = not (is_within s t)
row_outside s Row.None = false

unfoldable pub some_outside : List ℕ → List Row → Bool
some_outside s [] = false
some_outside s (r ∷ rs) = row_outside s r || some_outside s rs
