-- The text of a real: an optional sign, then `inf`, `infinity`, `nan` in any letter case, or digits with at most one point and at
-- least one digit, then optionally `e` or `E`, an optional sign and at least one digit.
use Rattle.std.specs.Prelude.{ℕ, ◌+◌, Bool, true, false, cond, ◌&&◌, ◌||◌, List, [], ◌∷◌, map, eqb, leb, length, drop}
use Rattle.number.specs.Decimal.{is_digit, all_digits}
use Rattle.text.specs.Bytes.{bytes, equal, has}

-- the digits that a list begins with
unfoldable pub digits_in : List ℕ → List ℕ
digits_in [] = []
digits_in (b ∷ r) = cond (is_digit b) (b ∷ digits_in r) []

abbrev pub some : List ℕ → Bool
some [] = false
some (b ∷ r) = true

unfoldable pub lower_case : ℕ → ℕ
lower_case b = cond (leb 65 b && leb b 90) (b + 32) b

-- without its sign
unfoldable pub unsigned : List ℕ → List ℕ
unsigned [] = []
unsigned (b ∷ r) = cond (has (bytes "+-") b) r (b ∷ r)

unfoldable pub is_named : List ℕ → Bool
is_named r = let l = map lower_case r in equal l (bytes "inf") || equal l (bytes "infinity") || equal l (bytes "nan")

unfoldable pub is_exponent : List ℕ → Bool
is_exponent [] = true
is_exponent (b ∷ r) = has (bytes "eE") b && some (unsigned r) && all_digits (unsigned r)

-- what follows the first digits: were there some?
unfoldable pub is_rest : Bool → List ℕ → Bool
is_rest d [] = d
is_rest d (b ∷ r) = cond (eqb b 46) ((d || some (digits_in r)) && is_exponent (drop (length (digits_in r)) r)) (d && is_exponent (b ∷ r))

unfoldable pub is_decimal : List ℕ → Bool
is_decimal r = is_rest (some (digits_in r)) (drop (length (digits_in r)) r)

unfoldable pub is_real : List ℕ → Bool
is_real w = is_named (unsigned w) || is_decimal (unsigned w)
