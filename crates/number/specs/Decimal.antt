-- Decimal numbers as texts: what a text means, and the text of a number.
use Rattle.std.specs.Prelude.{ℕ, zero, suc, ◌+◌, ◌-◌, ◌*◌, ◌/◌, ◌%◌, ◌^◌, ◌<◌, Bool, true, false, cond, List, [], ◌∷◌, ◌++◌, leb, ltb, eqb, ℤ, pos, negsuc, neg_ℤ, Option, Some, None}
use Rattle.text.specs.Bytes.{bytes}

-- `0` to `9`
unfoldable pub is_digit : ℕ → Bool
is_digit b = cond (leb 48 b) (leb b 57) false

unfoldable pub all_digits : List ℕ → Bool
all_digits [] = true
all_digits (b ∷ s) = cond (is_digit b) (all_digits s) false

-- the number whose digits are those of v and then those of the text
unfoldable pub value : ℕ → List ℕ → ℕ
value v [] = v
value v (b ∷ s) = value (v * 10 + (b - 48)) s

-- the number of v's digits and then the text's, where those are digits and the number is below the limit
unfoldable pub number_from : ℕ → ℕ → List ℕ → Option ℕ
number_from limit v s = cond (all_digits s) (cond (ltb (value v s) limit) (Some (value v s)) None) None

-- at least one digit
unfoldable pub digits_below : ℕ → List ℕ → Option ℕ
digits_below limit [] = None
digits_below limit (b ∷ s) = number_from limit 0 (b ∷ s)

-- the text behind a `+`, or all of it where it has none
unfoldable pub unsigned : List ℕ → List ℕ
unsigned [] = []
unsigned (b ∷ s) = cond (eqb b 43) s (b ∷ s)

-- what a text means as a number below the limit
unfoldable pub parse_below : ℕ → List ℕ → Option ℕ
parse_below limit s = digits_below limit (unsigned s)

abbrev pub narrow : Option ℕ → Option ℕ
narrow (Some v) = Some v
narrow None = None

-- a number that is accepted is below the limit
abbrev pub Below : ℕ → Option ℕ → Type 0
Below limit (Some v) = v < limit
Below limit None = Unit {0}

abbrev pub plain : Option ℕ → Option ℤ
plain (Some v) = Some (pos v)
plain None = None

abbrev pub negated : Option ℕ → Option ℤ
negated (Some v) = Some (neg_ℤ (pos v))
negated None = None

-- behind a `-` the digits of up to 2^31, else a number below 2^31
unfoldable pub parse_signed : List ℕ → Option ℤ
parse_signed [] = None
parse_signed (b ∷ s) = cond (eqb b 45) (negated (digits_below (2 ^ 31 + 1) s)) (plain (parse_below (2 ^ 31) (b ∷ s)))

-- the digits of n: its last digit behind those of n / 10, where n has more than one (and n has at most `more` + 1)
unfoldable pub digits_of : ℕ → ℕ → List ℕ
digits_of zero n = (48 + n % 10) ∷ []
digits_of (suc more) n = cond (ltb n 10) [] (digits_of more (n / 10)) ++ (48 + n % 10) ∷ []

-- the text of a number: no needless zero in front
abbrev pub decimal_of : ℕ → List ℕ
decimal_of n = digits_of n n

-- the text of a number with a sign: a `-` before the digits of one below zero
abbrev pub signed_of : ℤ → List ℕ
signed_of (pos n) = decimal_of n
signed_of (negsuc n) = bytes "-" ++ decimal_of (suc n)
