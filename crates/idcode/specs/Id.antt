-- Id codes: what a text means, the text of a code, and the code after one.
use Rattle.idcode.specs.declared.InvalidIdCode.{InvalidIdCode}
use Rattle.idcode.specs.declared.IdCode.{IdCode}
use Rattle.std.specs.Prelude.{ℕ, zero, suc, ◌+◌, ◌-◌, ◌*◌, ◌/◌, ◌%◌, ◌^◌, Bool, true, false, cond, List, [], ◌∷◌, leb, eqb, Option, Some, None, Result, Ok, Err}
use Rattle.idcode.specs.Ieee.{first_character, last_character}
use Rattle.idcode.specs.declared.InvalidIdCode.TheVariants.{Empty, InvalidChars, TooLong}

-- a byte of an id text: 33 to 126
unfoldable pub is_id_byte : ℕ → Bool
is_id_byte b = cond (leb first_character b) (leb b last_character) false

unfoldable pub all_id : List ℕ → Bool
all_id [] = true
all_id (b ∷ s) = cond (is_id_byte b) (all_id s) false

-- the longest part at the text's end that has id bytes alone
unfoldable pub id_tail : List ℕ → List ℕ
id_tail [] = []
id_tail (b ∷ s) = cond (all_id (b ∷ s)) (b ∷ s) (id_tail s)

-- the sum of (byte - 32) × 94^position, where the first byte has position k
unfoldable pub sum_from : ℕ → List ℕ → ℕ
sum_from k [] = 0
sum_from k (b ∷ s) = (b - 32) * 94 ^ k + sum_from (suc k) s

abbrev pub id_sum : List ℕ → ℕ
id_sum s = sum_from 0 s

-- Read from the last byte: too long if the id bytes at the end already sum to 2^64 or more, since the overflow is
-- met before any bad byte; else a bad byte refuses; else the text means its sum, minus 1.
unfoldable pub parse_id : List ℕ → Result IdCode InvalidIdCode
parse_id [] = Err Empty
parse_id (b ∷ s) =
    cond (leb (2 ^ 64) (id_sum (id_tail (b ∷ s)))) (Err TooLong)
    (cond (all_id (b ∷ s)) (Ok (record { 0 = id_sum (b ∷ s) - 1 })) (Err InvalidChars))

-- the text whose sum is n, in at most `most` bytes: the digits of n in base 94, counted 1 to 94, the smallest place first
unfoldable pub text_of : ℕ → ℕ → List ℕ
text_of zero n = []
text_of (suc most) zero = []
text_of (suc most) (suc m) = (33 + m % 94) ∷ text_of most (m / 94)

-- the text of a code: it has the sum code + 1
abbrev pub id_text : ℕ → List ℕ
id_text code = text_of (suc code) (suc code)

-- the code after one; the largest number has none
unfoldable pub following : ℕ → Option IdCode
following code = cond (eqb code (2 ^ 64 - 1)) None (Some (record { 0 = code + 1 }))
