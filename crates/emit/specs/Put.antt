-- Texts put into a buffer, and the three that are put most: timestamps, and changes of scalars and vectors.
use Rattle.std.specs.Prelude.{ℕ, ◌+◌, ◌≤◌, List, [], ◌∷◌, ◌++◌, map, length, take, drop, set, Option, Some, None}
use Rattle.idcode.specs.Id.{id_text}
use Rattle.number.specs.Decimal.{decimal_of}
use Rattle.text.specs.Bytes.{bytes}
use Rattle.value.specs.Values.{lower}

-- words joined
abbrev pub concat : List (List ℕ) → List ℕ
concat [] = []
concat (w ∷ ws) = w ++ concat ws

-- the buffer o with the word w from the place `at` on
unfoldable pub stored : List ℕ → ℕ → List ℕ → List ℕ
stored o at w = take at o ++ (w ++ drop (at + length w) o)

abbrev pub time_text : ℕ → List ℕ
time_text n = concat (bytes "#" ∷ decimal_of n ∷ bytes "\n" ∷ [])

abbrev pub scalar_text : ℕ → ℕ → List ℕ
scalar_text value id = concat ((value ∷ []) ∷ id_text id ∷ bytes "\n" ∷ [])

abbrev pub vector_text : List ℕ → ℕ → List ℕ
vector_text v id = concat (bytes "b" ∷ map lower v ∷ bytes " " ∷ id_text id ∷ bytes "\n" ∷ [])

-- ---- what the private `close` asks and leaves
-- a byte is left before and after what p says to stand
abbrev pub Inside : Option ℕ → ℕ → Type 0
Inside (Some n) len = n + 2 ≤ len
Inside None len = Unit {0}

abbrev pub closed_answer : Option ℕ → Option ℕ
closed_answer (Some n) = Some (n + 2)
closed_answer None = None

abbrev pub closed_bytes : ℕ → Option ℕ → List ℕ → List ℕ
closed_bytes first (Some n) o = set (set o 0 first) (n + 1) 10
closed_bytes first None o = o
