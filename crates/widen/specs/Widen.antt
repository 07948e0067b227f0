-- Widening: a vector in lower case, filled with 0 at its left to a width of at most 1,024.
use Rattle.std.specs.Prelude.{ℕ, ◌-◌, Bool, false, cond, List, [], ◌∷◌, ◌++◌, map, leb, length, replicate, Option, Some, None, Result, Ok, Err}
use Rattle.command.specs.declared.Refusal.{Refusal}
use Rattle.text.specs.Texts.{outside, part, put_answer, put_bytes}
use Rattle.text.specs.declared.Text.{Text}
use Rattle.value.specs.Values.{are_values, lower, value_byte}
use Rattle.value.specs.declared.Value.{Value}

-- how many values are missing at the left; a width above 1,024 asks for none
unfoldable pub missing : ℕ → ℕ → ℕ
missing width n = cond (leb width 1024) (width - n) 0

unfoldable pub widened : List ℕ → ℕ → List ℕ
widened v width = replicate (missing width (length v)) (value_byte Value.V0) ++ map lower v

-- at least one value, and nothing else
unfoldable pub is_widenable : List ℕ → Bool
is_widenable [] = false
is_widenable (b ∷ v) = are_values (b ∷ v)

abbrev pub wrote : Option ℕ → Result ℕ Refusal
wrote (Some n) = Ok n
wrote None = Err Refusal.NoRoom

-- 25, then 15, then 21
unfoldable pub widen_answer : List ℕ → Text → ℕ → List ℕ → Result ℕ Refusal
widen_answer s t width out =
    cond (outside s t) (Err Refusal.BadPlace)
    (cond (is_widenable (part s t)) (wrote (put_answer (widened (part s t) width) out)) (Err Refusal.InvalidValueChar))

unfoldable pub widen_bytes : List ℕ → Text → ℕ → List ℕ → List ℕ
widen_bytes s t width out =
    cond (outside s t) out (cond (is_widenable (part s t)) (put_bytes (widened (part s t) width) out) out)
