-- IEEE 1364's characters of an identifier code, `!` to `~`: to be read beside the standard.
use Rattle.std.specs.Prelude.{ℕ}

abbrev pub first_character : ℕ
first_character = 33

abbrev pub last_character : ℕ
last_character = 126
