-- Texts of a known length: the digits of a number two by two, and an id of one byte.
use Prim.Native.Nat.{ℕ, ◌+◌, ◌/◌, ◌%◌, ◌≤◌, ◌<◌}
use mathlib.Core.Path.{◌≡◌}
use mathlib.Core.List.{List, [], ◌∷◌, ◌++◌, append_assoc}
use native.Mathlib.Omega.{arith}
use Rattle.idcode.specs.Id.{text_of, id_text}
use Rattle.idcode.proofs.Laws.{text-room}
use Rattle.number.specs.Decimal.{decimal_of}
use Rattle.number.proofs.Writing.{one-digit, more-digits}

abbrev pub pair : ℕ → List ℕ
pair n = (48 + n / 10) ∷ (48 + n % 10) ∷ []

first-pair : (n : ℕ) → 10 ≤ n → n < 100 → decimal_of n ≡ pair n
first-pair n h g = rw (more-digits n h, one-digit (n / 10) (omega arith))

last-pair : (n : ℕ) → 100 ≤ n → decimal_of n ≡ decimal_of (n / 100) ++ pair (n % 100)
last-pair n h =
    let front : n / 10 / 10 ≡ n / 100 = omega arith in
    let tens : n / 10 % 10 ≡ n % 100 / 10 = omega arith in
    let ones : n % 10 ≡ n % 100 % 10 = omega arith in
    rw (more-digits n (omega arith), more-digits (n / 10) (omega arith), front, tens, ones)
    (append_assoc (decimal_of (n / 100)) ((48 + n % 100 / 10) ∷ []) ((48 + n % 100 % 10) ∷ []))

pub four-pairs : (n : ℕ) → 10000000 ≤ n → n < 100000000
    → decimal_of n ≡ pair (n / 10000 / 100) ++ pair (n / 10000 % 100) ++ pair (n % 10000 / 100) ++ pair (n % 10000 % 100)
four-pairs n h g =
    let high : n / 100 / 100 ≡ n / 10000 = omega arith in
    let third : n / 100 % 100 ≡ n % 10000 / 100 = omega arith in
    let last : n % 100 ≡ n % 10000 % 100 = omega arith in
    rw (
      last-pair n (omega arith),
      last-pair (n / 100) (omega arith),
      high,
      last-pair (n / 10000) (omega arith),
      first-pair (n / 10000 / 100) (omega arith) (omega arith),
      third,
      last,
    )

pub one_byte : (id : ℕ) → id < 94 → id_text id ≡ (33 + id) ∷ []
unfolding text_of
one_byte id h =
    let low : id % 94 ≡ id = omega arith in
    let high : id / 94 ≡ 0 = omega arith in
    rw (low, high, text-room id 0 0 (omega arith) (omega arith))
