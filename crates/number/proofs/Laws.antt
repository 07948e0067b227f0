-- Laws of what a text means as a number, each for every limit.
use Prim.Native.Nat.{ℕ, ◌+◌, ◌-◌, ◌*◌, ◌≤◌, ◌<◌}
use mathlib.Core.Path.{◌≡◌, refl}
use mathlib.Core.Bool.{true, false}
use mathlib.Core.List.{List, [], ◌∷◌}
use native.Mathlib.Nat.{le_refl}
use native.Mathlib.Omega.{arith}
use borrow.Author.Tests.{leb-true, le-leb, lt-leb, lt-ltb, le-ltb, ltb-true, eq-eqb, ne_eqb}
use lib.Dec.{eqb, leb, ltb}
use lib.ListN.{length, get_or, take, drop}
use denote.Ref.{Bor}
use Rattle.std.proofs.Common.{Option, Some, None}
use Rattle.std.specs.Cmp.Lexicographic.{pointwise}
use Rattle.std.specs.Option.{MatchOption, unwrap_or}
use Rattle.text.proofs.Slices.{mark-first, mark-other}
use Rattle.text.proofs.Lists.{by-test, cond_both, cond_same}
use Rattle.number.specs.Decimal.{is_digit, all_digits, value, number_from, digits_below, unsigned, parse_below, Below}

-- ---- one byte
pub digit : (b : ℕ) → 48 ≤ b → b ≤ 57 → is_digit b ≡ true
unfolding is_digit
digit b h g = rw (le-leb 48 b h, le-leb b 57 g)

pub low_byte : (b : ℕ) → b < 48 → is_digit b ≡ false
unfolding is_digit
low_byte b h = rw (lt-leb 48 b h)

pub high_byte : (b : ℕ) → 57 < b → is_digit b ≡ false
unfolding is_digit
high_byte b h = rw (lt-leb b 57 h) (cond_same (leb 48 b) false)

pub digit-range : (b : ℕ) → is_digit b ≡ true → (48 ≤ b) × (b ≤ 57)
unfolding is_digit
digit-range b e = let h = cond_both (leb 48 b) (leb b 57) e in (leb-true 48 b h.0, leb-true b 57 h.1)

-- a text of digits begins with no sign
pub no_sign : (m : ℕ) (s : List ℕ) → m < 48 → 0 < length s → all_digits s ≡ true → get_or s 0 0 ≡ m → ⊥
unfolding all_digits
no_sign m [] g l e q = omega arith
no_sign m (b ∷ s) g l e q = omega (arith, (digit-range b (cond_both (is_digit b) (all_digits s) e).0).0)

-- ---- the number of v's digits and then a text's
value_grows : (v : ℕ) (s : List ℕ) → v ≤ value v s
unfolding value
value_grows v [] = le_refl v
value_grows v (b ∷ s) = omega (arith, value_grows (v * 10 + (b - 48)) s)

pub from_end : (limit v : ℕ) → v < limit → number_from limit v [] ≡ Some v
unfolding number_from all_digits value
from_end limit v h = rw (lt-ltb v limit h)

pub from-digit : (limit v b : ℕ) (s : List ℕ) → is_digit b ≡ true → number_from limit v (b ∷ s) ≡ number_from limit (v * 10 + (b - 48)) s
unfolding number_from all_digits value
from-digit limit v b s e = rw e

pub from-bad : (limit v b : ℕ) (s : List ℕ) → is_digit b ≡ false → number_from limit v (b ∷ s) ≡ None
unfolding number_from all_digits
from-bad limit v b s e = rw e

pub from-large : (limit v : ℕ) (s : List ℕ) → limit ≤ v → number_from limit v s ≡ None
unfolding number_from
from-large limit v s h =
    let big : limit ≤ value v s = omega (arith, value_grows v s) in
    rw (le-ltb (value v s) limit big) (cond_same (all_digits s) None)

-- ---- what is accepted is below the limit
from-below : (limit v : ℕ) (s : List ℕ) → Below limit (number_from limit v s)
unfolding number_from
from-below limit v s =
    by-test (all_digits s)
    (λ e. rw e (by-test (ltb (value v s) limit) (λ q. rw q (ltb-true (value v s) limit q)) (λ q. rw q tt)))
    (λ e. rw e tt)

pub digits-below : (limit : ℕ) (s : List ℕ) → Below limit (digits_below limit s)
unfolding digits_below
digits-below limit [] = tt
digits-below limit (b ∷ s) = from-below limit 0 (b ∷ s)

pub parse-below : (limit : ℕ) (s : List ℕ) → Below limit (parse_below limit s)
unfolding parse_below
parse-below limit s = digits-below limit (unsigned s)

-- also below a larger one
below_more : (a b : ℕ) (n : Option ℕ) → a ≤ b → Below a n → Below b n
below_more a b (Some v) h g = omega arith
below_more a b None h g = tt

pub under : (a b : ℕ) (m n : Option ℕ) → m ≡ n → Below a n → a ≤ b → Below b m
under a b m n e g h = rw e (below_more a b n h g)

pub accepted : (limit v : ℕ) (s : List ℕ) → parse_below limit s ≡ Some v → v < limit
accepted limit v s e = rw e at (parse-below limit s)

-- ---- the sign
pub sign-no : (limit : ℕ) (s : List ℕ) → (get_or s 0 0 ≡ 43 → ⊥) → digits_below limit s ≡ parse_below limit s
unfolding parse_below unsigned
sign-no limit [] h = refl
sign-no limit (b ∷ s) h = rw (ne_eqb b 43 h)

-- the text behind a `+`, as `strip_prefix` and `unwrap_or` give it
pub sign-stripped : (s : List ℕ) (whole : Bor (List ℕ)) (r : Option (Bor (List ℕ)))
    → MatchOption r (pointwise eqb (take 1 s) (43 ∷ []) ≡ false)
    (λ x. (pointwise eqb (take 1 s) (43 ∷ []) ≡ true) × (x.now ≡ drop 1 s) × (length x.now + 1 ≡ length s))
    → whole.now ≡ s → (unwrap_or r whole).now ≡ unsigned s
unfolding unsigned
sign-stripped [] whole None m e = e
sign-stripped (b ∷ s) whole None m e = rw (ne_eqb b 43 (mark-other 43 (b ∷ s) (omega arith) m)) e
sign-stripped [] whole (Some x) m e = m.1
sign-stripped (b ∷ s) whole (Some x) m e = rw (eq-eqb b 43 (mark-first 43 (b ∷ s) m.0)) m.1
