-- What 22 asks of texts.
use Rattle.std.specs.Prelude.{ℕ, Bool, true, false, not, ◌&&◌, List, [], ◌∷◌, leb, eqb, length}
use Rattle.command.specs.Words.{end_mark}
use Rattle.real.specs.Real.{is_real}
use Rattle.text.specs.Bytes.{has, holds, is_token}
use Rattle.value.specs.Values.{values, firsts_of}
use Rattle.utf8.specs.Utf8.{valid_utf8}
use Rattle.white_space.specs.WhiteSpace.{trimmed}

-- no White_Space at either end
unfoldable pub is_trimmed : List ℕ → Bool
is_trimmed t = eqb (trimmed t).start 0 && eqb (trimmed t).len (length t)

-- the text of a comment, a date, a version
unfoldable pub is_remark : List ℕ → Bool
is_remark t = valid_utf8 t && is_trimmed t && not (holds end_mark t)

-- a string, a reference, a scope's name: UTF-8, not empty, no whitespace
unfoldable pub is_name : List ℕ → Bool
is_name t = is_token t && valid_utf8 t

-- values as they are written
unfoldable pub are_lower : List ℕ → Bool
are_lower [] = true
are_lower (b ∷ v) = has (firsts_of values) b && are_lower v

-- at least one
unfoldable pub is_vector : List ℕ → Bool
is_vector [] = false
is_vector (b ∷ v) = are_lower (b ∷ v)

unfoldable pub is_short_real : List ℕ → Bool
is_short_real t = is_real t && leb (length t) 32
