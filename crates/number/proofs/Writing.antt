-- Laws of the text of a number: its digits one by one, its length, and that reading it gives the number.
use Rattle.std.specs.Prelude.{Some}
use Prim.Native.Nat.{ℕ, zero, suc, ◌+◌, ◌-◌, ◌*◌, ◌/◌, ◌%◌, ◌^◌, ◌≤◌, ◌<◌}
use mathlib.Core.Path.{◌≡◌, refl, sym, ◌∙◌}
use mathlib.Core.Bool.{true, cond}
use mathlib.Core.List.{List, [], ◌∷◌, ◌++◌}
use native.Mathlib.Nat.{le_refl, pow-suc}
use native.Mathlib.Decide.{dec_lt}
use native.Mathlib.Omega.{arith}
use borrow.Author.Tests.{lt-ltb, le-ltb}
use lib.Dec.{ltb}
use lib.ListN.{length, get_or, length-append}
use Rattle.text.proofs.Lists.{cond_both}
use Rattle.number.specs.Decimal.{is_digit, all_digits, value, number_from, digits_below, parse_below, digits_of, decimal_of}
use Rattle.number.proofs.Laws.{digit, no_sign, sign-no}

-- ---- its digits
-- more room than the number changes nothing
room : (k l n : ℕ) → n ≤ k → n ≤ l → digits_of k n ≡ digits_of l n
unfolding digits_of
room zero zero n h g = refl
room zero (suc l) n h g = let z : n ≡ 0 = omega arith in rw z
room (suc k) zero n h g = let z : n ≡ 0 = omega arith in rw z
room (suc k) (suc l) n h g = rw (room k l (n / 10) (omega arith) (omega arith))

-- what stands before the last digit
abbrev pub front : ℕ → List ℕ
front n = cond (ltb n 10) [] (decimal_of (n / 10))

pub last-digit : (n : ℕ) → decimal_of n ≡ front n ++ (48 + n % 10) ∷ []
unfolding digits_of
last-digit zero = refl
last-digit (suc m) = rw (room m (suc m / 10) (suc m / 10) (omega arith) (le_refl _))

pub one-digit : (n : ℕ) → n < 10 → decimal_of n ≡ (48 + n) ∷ []
one-digit n h = let e : n % 10 ≡ n = omega arith in rw (last-digit n, lt-ltb n 10 h, e)

pub more-digits : (n : ℕ) → 10 ≤ n → decimal_of n ≡ decimal_of (n / 10) ++ (48 + n % 10) ∷ []
more-digits n h = rw (last-digit n, le-ltb n 10 h)

-- what holds of one digit, and of a number where it holds of its tenth, holds of every number
by-tenths : (P : ℕ → Type 0) → ((n : ℕ) → n < 10 → P n) → ((n : ℕ) → 10 ≤ n → P (n / 10) → P n) → (n : ℕ) → P n
by-tenths P one more n = go n n (le_refl n)
  where
    pick : (n : ℕ) → P (n / 10) → Dec (n < 10) → P n
    pick n p (yes h) = one n h
    pick n p (no h) = more n (omega arith) p

    go : (k n : ℕ) → n ≤ k → P n
    go zero n h = one n (omega arith)
    go (suc k) n h = pick n (go k (n / 10) (omega arith)) (dec_lt n 10)

-- ---- its length
pub length-one : (n : ℕ) → n < 10 → length (decimal_of n) ≡ 1
length-one n h = rw (one-digit n h)

pub length_more : (n : ℕ) → 10 ≤ n → length (decimal_of n) ≡ suc (length (decimal_of (n / 10)))
length_more n h = rw (more-digits n h) (simp length-append (omega arith))

pub some : (n : ℕ) → 0 < length (decimal_of n)
some n = rw (last-digit n) (simp length-append (omega arith))

short-step : (k n : ℕ) → length (decimal_of (n / 10)) ≤ suc k → Dec (n < 10) → length (decimal_of n) ≤ suc (suc k)
short-step k n ih (yes g) = omega (arith, length-one n g)
short-step k n ih (no g) = omega (arith, length_more n (omega arith))

pub short : (k n : ℕ) → n < 10 ^ suc k → length (decimal_of n) ≤ suc k
short zero n h = omega (arith, length-one n h)
short (suc k) n h = let p = pow-suc 10 (suc k) in short-step k n (short k (n / 10) (omega arith)) (dec_lt n 10)

-- ---- reading it
value-snoc : (v b : ℕ) (s : List ℕ) → value v (s ++ b ∷ []) ≡ value v s * 10 + (b - 48)
unfolding value
value-snoc v b [] = refl
value-snoc v b (a ∷ s) = value-snoc (v * 10 + (a - 48)) b s

all_snoc : (b : ℕ) (s : List ℕ) → is_digit b ≡ true → all_digits s ≡ true → all_digits (s ++ b ∷ []) ≡ true
unfolding all_digits
all_snoc b [] h e = rw h
all_snoc b (a ∷ s) h e = let t = cond_both (is_digit a) (all_digits s) e in rw t.0 (all_snoc b s h t.1)

pub value-decimal : (n : ℕ) → value 0 (decimal_of n) ≡ n
unfolding value
value-decimal =
    by-tenths (λ (n : ℕ). value 0 (decimal_of n) ≡ n) (λ n h. rw (one-digit n h) (omega arith))
    (λ n h ih. rw (more-digits n h, value-snoc 0 (48 + n % 10) (decimal_of (n / 10)), ih) (omega arith))

pub digits_decimal : (n : ℕ) → all_digits (decimal_of n) ≡ true
unfolding all_digits
digits_decimal =
    by-tenths (λ (n : ℕ). all_digits (decimal_of n) ≡ true)
    (λ n h. rw (one-digit n h, digit (48 + n) (omega arith) (omega arith)))
    (λ n h ih. rw (more-digits n h) (all_snoc (48 + n % 10) (decimal_of (n / 10)) (digit _ (omega arith) (omega arith)) ih))

read : (limit n : ℕ) (s : List ℕ) → 0 < length s → all_digits s ≡ true → value 0 s ≡ n → n < limit → digits_below limit s ≡ Some n
unfolding digits_below number_from
read limit n [] l e v h = absurd (omega arith)
read limit n (b ∷ s) l e v h = rw (e, v, lt-ltb n limit h)

-- what is written for a number is read as that number, under any limit above it: as digits alone, and where a `+` may stand before them
pub digits-written : (limit n : ℕ) → n < limit → digits_below limit (decimal_of n) ≡ Some n
digits-written limit n h = read limit n (decimal_of n) (some n) (digits_decimal n) (value-decimal n) h

-- it begins with no sign
pub unsigned-decimal : (m n : ℕ) → m < 48 → get_or (decimal_of n) 0 0 ≡ m → ⊥
unsigned-decimal m n g = no_sign m (decimal_of n) g (some n) (digits_decimal n)

pub read-written : (limit n : ℕ) → n < limit → parse_below limit (decimal_of n) ≡ Some n
read-written limit n h = sym (sign-no limit (decimal_of n) (unsigned-decimal 43 n (omega arith))) ∙ digits-written limit n h
