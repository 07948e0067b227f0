-- Bytes of printable ASCII.
use Rattle.std.specs.Prelude.{ℕ, ◌≤◌, ◌<◌, List, get_or}

-- those from `at` up to e are
abbrev pub Plain : List ℕ → ℕ → ℕ → Type 0
Plain s at e = (i : ℕ) → at ≤ i → i < e → (32 < get_or s i 0) × (get_or s i 0 < 127)
