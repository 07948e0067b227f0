-- A real's text is a token, and ASCII. Assumes nothing.
use Prim.Native.Nat.{ℕ, ◌≤◌, ◌<◌}
use mathlib.Core.Path.{◌≡◌, refl, sym, ◌∙◌}
use mathlib.Core.Bool.{Bool, true, false, ◌&&◌, ◌||◌, false≢true}
use mathlib.Core.List.{List, [], ◌∷◌, map}
use native.Mathlib.Omega.{arith}
use borrow.Author.Tests.{leb-true, eqb-true}
use lib.Dec.{eqb, leb}
use lib.ListN.{length, drop}
use Rattle.text.specs.Bytes.{bytes, equal, has}
use Rattle.text.proofs.Equal.{equal-true}
use Rattle.text.proofs.Has.{of-each}
use Rattle.text.proofs.Lists.{by-test, both, either}
use Rattle.text.proofs.Each.{Each}
use Rattle.number.specs.Decimal.{is_digit, all_digits}
use Rattle.real.specs.Real.{digits_in, some, lower_case, unsigned, is_named, is_exponent, is_rest, is_decimal, is_real}
use Rattle.number.proofs.Laws.{digit-range}
use Rattle.promises.proofs.Plain.{Printed, printed, printed-digits, Plain, plain}

-- a real's byte, as a number
ink : (b : ℕ) → leb 33 b && leb b 126 ≡ true → Printed b
ink b e = let h = both (leb 33 b) (leb b 126) e in printed b (leb-true 33 b h.0) (leb-true b 126 h.1)

after-digits : (r : List ℕ) → Each Printed (drop (length (digits_in r)) r) → Each Printed r
unfolding digits_in
after-digits [] e = e
after-digits (b ∷ r) e =
    by-test (is_digit b)
    (λ q. let d = digit-range b q in (printed b (omega (arith, d.0)) (omega (arith, d.1)), after-digits r (rw q at e)))
    (λ q. rw q at e)

after-sign : (r : List ℕ) → Each Printed (unsigned r) → Each Printed r
unfolding unsigned
after-sign [] e = e
after-sign (b ∷ r) e =
    by-test (has (bytes "+-") b) (λ q. (of-each Printed (bytes "+-") b (ink 43 refl, (ink 45 refl, tt)) q, rw q at e)) (λ q. rw q at e)

exponent : (r : List ℕ) → is_exponent r ≡ true → Each Printed r
unfolding is_exponent
exponent [] e = tt
exponent (b ∷ r) e =
    let x = both (has (bytes "eE") b && some (unsigned r)) (all_digits (unsigned r)) e in
    let y = both (has (bytes "eE") b) (some (unsigned r)) x.0 in
    (of-each Printed (bytes "eE") b (ink 101 refl, (ink 69 refl, tt)) y.0, after-sign r (printed-digits (unsigned r) x.1))

tail : (d : Bool) (r : List ℕ) → is_rest d r ≡ true → Each Printed r
unfolding is_rest
tail d [] e = tt
tail d (b ∷ r) e =
    by-test (eqb b 46)
    (λ q.
    let h = both (d || some (digits_in r)) (is_exponent (drop (length (digits_in r)) r)) (rw q at e) in
    (rw (eqb-true b 46 q) (ink 46 refl), after-digits r (exponent _ h.1)))
    (λ q. exponent (b ∷ r) (both d (is_exponent (b ∷ r)) (rw q at e)).1)

low : (b : ℕ) → Printed (lower_case b) → Printed b
unfolding lower_case
low b p =
    by-test (leb 65 b && leb b 90)
    (λ q. let h = both (leb 65 b) (leb b 90) q in printed b (omega (arith, leb-true 65 b h.0)) (omega (arith, leb-true b 90 h.1)))
    (λ q. rw q at p)

lows : (r : List ℕ) → Each Printed (map lower_case r) → Each Printed r
lows [] e = tt
lows (b ∷ r) e = (low b e.0, lows r e.1)

-- the texts of names, once
named : (r : List ℕ) → is_named r ≡ true → Each Printed r
unfolding is_named
named r e =
    let l : List ℕ = map lower_case r in
    let i = ink 105 refl in
    let n = ink 110 refl in
    let f = ink 102 refl in
    let inf : Each Printed (bytes "inf") = (i, (n, (f, tt))) in
    let infinity : Each Printed (bytes "infinity") = (i, (n, (f, (i, (n, (i, (ink 116 refl, (ink 121 refl, tt)))))))) in
    let nan : Each Printed (bytes "nan") = (n, (ink 97 refl, (n, tt))) in
    lows r
    (either (equal l (bytes "inf") || equal l (bytes "infinity")) (equal l (bytes "nan")) e
    (λ q. either (equal l (bytes "inf")) (equal l (bytes "infinity")) q (λ x. rw (equal-true _ _ x) inf) (λ x. rw (equal-true _ _ x) infinity))
    (λ x. rw (equal-true _ _ x) nan))

all-printed : (w : List ℕ) → is_real w ≡ true → Each Printed w
unfolding is_real is_decimal
all-printed w e =
    let u : List ℕ = unsigned w in
    after-sign w (either (is_named u) _ e (named u) (λ q. after-digits u (tail _ _ q)))

empty-real : is_real [] ≡ false
unfolding is_real is_decimal is_rest is_named unsigned digits_in equal
empty-real = refl

not-empty : (w : List ℕ) → is_real w ≡ true → 0 < length w
not-empty [] e = absurd (false≢true (sym empty-real ∙ e))
not-empty (b ∷ w) e = omega arith

pub plain-real : (w : List ℕ) → is_real w ≡ true → length w ≤ 32 → Plain w
plain-real w e l = plain w (not-empty w e) l (all-printed w e)
