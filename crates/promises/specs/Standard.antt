-- The tables by which commands are read and written, held to IEEE 1364 (the Ieee.antt of each leaf): the same names and characters, up
-- to what is named here. The units' names are the standard's list itself (timescale/specs/Ieee.antt).
use Rattle.std.specs.Prelude.{ℕ, ◌≤◌, ◌≡◌, true, [], ◌∷◌, ◌++◌}
use Rattle.text.specs.Bytes.{bytes}
use Rattle.text.specs.Names.{names_of, same_names}
use Rattle.value.specs.Values.{values, letters_of}
use Rattle.value.specs.Ieee.{value_characters}
use Rattle.idcode.specs.Id.{is_id_byte}
use Rattle.idcode.specs.Ieee.{first_character, last_character}
use Rattle.scope.specs.Types.{scope_types, var_types}
use Rattle.scope.specs.Ieee.{scope_names, var_names}
use Rattle.command.specs.Words.{words}
use Rattle.command.specs.Ieee.{declarations, simulations, closing}

pub record Standard : Type 0 where
  -- the characters of a scalar's and of a vector's value
  pub characters : letters_of values ≡ bytes value_characters
  -- the characters of an id
  pub ids : (b : ℕ) → is_id_byte b ≡ true → (first_character ≤ b) × (b ≤ last_character)
  pub all_ids : (b : ℕ) → first_character ≤ b → b ≤ last_character → is_id_byte b ≡ true
  pub scopes : same_names (names_of scope_types) scope_names ≡ true
  -- `string` is no type of the standard: simulators write it, and the crate takes it
  pub variables : same_names (names_of var_types) (var_names ++ ("string" ∷ [])) ≡ true
  pub keywords : same_names (names_of words) (declarations ++ (simulations ++ (closing ∷ []))) ≡ true
