-- The most scopes that are open at once, and the most rows of a header's table.
use Rattle.std.specs.Prelude.{ℕ}

abbrev pub most_levels : ℕ
most_levels = 64

abbrev pub most_rows : ℕ
most_rows = 4096
