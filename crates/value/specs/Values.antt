-- The four values, and vectors as texts of them.
use Rattle.std.specs.Prelude.{ℕ, Bool, true, false, cond, ◌&&◌, List, [], ◌∷◌, ◌++◌, map, ltb, leb, eqb, length, drop, get_or, replicate, Option, Some, None}
use Prim.Native.String.{String}
use Rattle.text.specs.Bytes.{bytes, has}
use Rattle.value.specs.Numbers.{value_number}
use Rattle.value.specs.declared.Value.{Value}
use Rattle.value.specs.declared.vector.Written.{Written}

-- The values' characters, said here alone: the bytes that mean a value, in the order of `value_number`; it is written as the first of them.
abbrev pub values : List (String × Value)
values = ("0", Value.V0) ∷ ("1", Value.V1) ∷ ("xX", Value.X) ∷ ("zZ", Value.Z) ∷ []

-- all of them, and those that are written
abbrev pub letters_of : List (String × Value) → List ℕ
letters_of [] = []
letters_of (e ∷ r) = bytes e.0 ++ letters_of r

abbrev pub firsts_of : List (String × Value) → List ℕ
firsts_of [] = []
firsts_of (e ∷ r) = get_or (bytes e.0) 0 0 ∷ firsts_of r

abbrev pub value_in : List (String × Value) → ℕ → Option Value
value_in [] b = None
value_in (e ∷ r) b = cond (has (bytes e.0) b) (Some e.1) (value_in r b)

unfoldable pub value_of : ℕ → Option Value
value_of b = value_in values b

-- a value as a text: one byte
abbrev pub value_text : List ℕ → Option Value
value_text [] = None
value_text (b ∷ []) = value_of b
value_text (b ∷ c ∷ r) = None

abbrev pub of_bool : Bool → Value
of_bool true = Value.V1
of_bool false = Value.V0

-- the byte that a value is written as
abbrev pub value_byte : Value → ℕ
value_byte v = get_or (firsts_of values) (value_number v) 0

-- ---- vectors
-- does a byte mean a value? do all of a text's?
unfoldable pub is_value : ℕ → Bool
is_value b = has (letters_of values) b

unfoldable pub are_values : List ℕ → Bool
are_values [] = true
are_values (b ∷ v) = is_value b && are_values v

-- the value at a place; none where the text ends before it or no value stands there
abbrev pub bit_in : Option Value → Option Value
bit_in (Some v) = Some v
bit_in None = None

unfoldable pub bit_at : List ℕ → ℕ → Option Value
bit_at s i = cond (ltb i (length s)) (bit_in (value_of (get_or s i 0))) None

-- a value's byte in lower case: `X` is `x`, `Z` is `z`
unfoldable pub lower : ℕ → ℕ
lower b = cond (eqb b 88) 120 (cond (eqb b 90) 122 b)

-- a vector written in lower case at the start of a buffer: the answer, and the buffer then
unfoldable pub lower_answer : List ℕ → List ℕ → Written
lower_answer s out =
    cond (are_values s) (cond (leb (length s) (length out)) (Written.Count (length s)) Written.NoRoom) Written.InvalidValue

unfoldable pub lower_bytes : List ℕ → List ℕ → List ℕ
lower_bytes s out = cond (are_values s && leb (length s) (length out)) (map lower s ++ drop (length s) out) out

-- a vector of one value
abbrev pub filled_with : Value → ℕ → List ℕ
filled_with v width = replicate width (value_byte v)
