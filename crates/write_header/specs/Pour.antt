-- Commands written one after the other: what the private functions that write promise.
use Rattle.std.specs.Prelude.{ℕ, ◌+◌, ◌-◌, ◌≤◌, ◌≡◌, cond, List, [], ◌∷◌, ◌++◌, leb, length, Result, Ok, Err}
use Rattle.command.specs.Meaning.{Meaning}
use Rattle.command.specs.declared.Refusal.{Refusal}
use Rattle.write.specs.Layout.{layout, writable, state_after}
use Rattle.emit.specs.Put.{stored}
use Rattle.write.specs.declared.Writer.{Writer}
use Rattle.write_header.specs.Written.{Outcome}

-- all is written, and no more can be, with so many bytes in the output o
abbrev pub whole : ℕ → Writer → List ℕ → Outcome
whole at w o = record { answer = Ok (at, w); left = o }

abbrev pub stop : Refusal → ℕ → Writer → List ℕ → Outcome
stop e at w o = record { answer = Err (e, at, w); left = o }

-- what comes of the commands that are still to come, at the state w and the place `at` of the output o
unfoldable pub pour : List ℕ → ℕ → Writer → List Meaning → Outcome
pour o at w [] = whole at w o
pour o at w (m ∷ ms) =
    cond (writable w m)
    (cond (leb (length (layout m)) (length o - at))
    (pour (stored o at (layout m)) (at + length (layout m)) (state_after w m) ms)
    (stop Refusal.NoRoom at w o))
    (stop Refusal.NotWritable at w o)

-- these commands were written, and the rest from where they end gives the same outcome; or this is the outcome
abbrev pub Writes : List ℕ → ℕ → Writer → List Meaning → ℕ → Result (ℕ × ℕ × Writer) (Refusal × ℕ × Writer) → List ℕ → Type 0
Writes o at w ms row (Ok (row', at', w')) left =
    (row' ≡ row) × (at' ≤ length left) × ((more : List Meaning) → pour o at w (ms ++ more) ≡ pour left at' w' more)
Writes o at w ms row (Err (e, at', w')) left = (more : List Meaning) → pour o at w (ms ++ more) ≡ stop e at' w' left
