-- The commands that a header amounts to: date, version and timescale where present, the rows with the upscopes between them, the
-- upscopes that are left, and the end of the definitions.
use Rattle.timescale.specs.declared.TimescaleUnit.{TimescaleUnit}
use Rattle.text.specs.declared.Text.{Text}
use Rattle.std.specs.Prelude.{ℕ, ◌+◌, ◌-◌, List, [], ◌∷◌, ◌++◌, length, replicate, Option, Some, None}
use Rattle.command.specs.Meaning.{Meaning, Remark, comment, date, version, remark, timescale, scope_def, upscope, var_def, enddefinitions}
use Rattle.scope.specs.declared.Var.{Var}
use Rattle.text.specs.Texts.{part}
use Rattle.rows.specs.Good.{open_to}
use Rattle.header.specs.declared.Header.{Header}
use Rattle.rows.specs.declared.Row.{Row}

abbrev pub remark_of : Remark → List ℕ → Option Text → List Meaning
remark_of k s None = []
remark_of k s (Some t) = remark k (part s t) ∷ []

abbrev pub timescale_of : Option (ℕ × TimescaleUnit) → List Meaning
timescale_of None = []
timescale_of (Some (n, u)) = timescale n u ∷ []

-- the upscopes from these open scopes to those
abbrev pub upscopes : List ℕ → List ℕ → List Meaning
upscopes st st' = replicate (length st - length st') upscope

abbrev pub var_meaning : List ℕ → Var → Meaning
var_meaning s v = var_def v.var_type v.size v.code (part s v.reference) v.index

-- the rows from number n on, where these scopes are open, innermost first
unfoldable pub row_meanings : List ℕ → ℕ → List ℕ → List Row → List Meaning
row_meanings s n st [] = upscopes st [] ++ (enddefinitions ∷ [])
row_meanings s n st (Row.Scope p k t ∷ rs) =
    upscopes st (open_to p st) ++ (scope_def k (part s t) ∷ row_meanings s (n + 1) (n ∷ open_to p st) rs)
row_meanings s n st (Row.Var p v ∷ rs) =
    upscopes st (open_to p st) ++ (var_meaning s v ∷ row_meanings s (n + 1) (open_to p st) rs)
row_meanings s n st (Row.Comment p t ∷ rs) =
    upscopes st (open_to p st) ++ (remark comment (part s t) ∷ row_meanings s (n + 1) (open_to p st) rs)
row_meanings s n st (Row.None ∷ rs) = row_meanings s (n + 1) st rs

abbrev pub kept_meanings : List ℕ → Header → List Meaning
kept_meanings s h = remark_of date s h.date ++ (remark_of version s h.version ++ timescale_of h.timescale)

unfoldable pub header_meanings : List ℕ → Header → List Row → List Meaning
header_meanings s h rs = kept_meanings s h ++ row_meanings s 0 [] rs
