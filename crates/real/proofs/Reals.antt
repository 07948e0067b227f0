-- Laws of the form of a real.
use Prim.Native.Nat.{ℕ, suc, ◌≤◌, ◌<◌}
use mathlib.Core.Path.{◌≡◌, refl, sym, ap₂, ◌∙◌}
use mathlib.Core.Bool.{Bool, true, false, ◌&&◌, false≢true}
use mathlib.Core.List.{List, [], ◌∷◌, map}
use native.Mathlib.Omega.{arith}
use borrow.Author.Tests.{lt-ltb, leb-true, leb-false}
use lib.Dec.{eqb, leb, ltb, eqb-suc-suc, eqb-zero-suc}
use lib.ListN.{length, drop, get_or}
use Rattle.std.proofs.Common.{Option, IsTrue, ◌↔◌}
use Rattle.std.specs.Char.{to_ascii_lowercase}
use Rattle.std.specs.List.{AllWithin, HoldsAt}
use Rattle.std.specs.Option.{MatchOption, unwrap_or}
use Rattle.std.proofs.lemmas.Iterator.{index_from_first}
use Rattle.std.proofs.lemmas.Str.Ascii.{lowercase_is}
use Rattle.text.specs.Bytes.{bytes, equal, has}
use Rattle.text.proofs.Lists.{by-test}
use Rattle.text.proofs.Equal.{equal-refl, equal-true}
use Rattle.number.specs.Decimal.{is_digit, all_digits}
use Rattle.real.specs.Real.{digits_in, some, lower_case, unsigned, is_exponent}

-- ---- a text in small letters
lower : (b : ℕ) → to_ascii_lowercase b ≡ lower_case b
unfolding lower_case
lower b =
    by-test (leb 65 b)
    (λ p. by-test (leb b 90) (λ q. rw (p, q) ((lowercase_is b).0 (leb-true 65 b p, leb-true b 90 q))) (λ q. rw (p, q) ((lowercase_is b).2 (omega (arith, leb-false b 90 q)))))
    (λ p. rw p ((lowercase_is b).1 (omega (arith, leb-false 65 b p))))

lowered : (s : List ℕ) → map to_ascii_lowercase s ≡ map lower_case s
lowered [] = refl
lowered (b ∷ s) = ap₂ (λ (x : ℕ) (l : List ℕ). x ∷ l) (lower b) (lowered s)

-- what the library says of two texts in any letter case, of which the second is in small letters
pub is_word : (s w : List ℕ) (t : Bool) → map to_ascii_lowercase w ≡ w → IsTrue t ↔ (map to_ascii_lowercase s ≡ map to_ascii_lowercase w)
    → t ≡ equal (map lower_case s) w
is_word s w t e h =
    by-test (equal (map lower_case s) w)
    (λ q. rw q (h.1 (lowered s ∙ equal-true (map lower_case s) w q ∙ sym e)))
    (λ q. rw q (by-test t (λ p. absurd (false≢true (sym q ∙ rw (sym (lowered s) ∙ h.0 p ∙ e) (equal-refl w)))) (λ p. p)))

-- ---- the digits that a text begins with are as many as the place of the first other byte, which r is, says
pub digits-count : (s : List ℕ) (r : Option ℕ)
    → MatchOption r (AllWithin (λ b. is_digit b ≡ true) s 0 (length s))
    (λ i. (i < length s) × HoldsAt (λ b. is_digit b ≡ false) s i × AllWithin (λ b. is_digit b ≡ true) s 0 i)
    → unwrap_or r (length s) ≡ length (digits_in s)
unfolding digits_in
digits-count s r h =
    sym (index_from_first (λ l. length (digits_in l)) (λ b. is_digit b ≡ false) (λ b. is_digit b ≡ true) refl (λ b l e. rw e) (λ b l e. rw e (omega arith)) s r h)

pub digits_within : (s : List ℕ) → length (digits_in s) ≤ length s
unfolding digits_in
digits_within [] = omega arith
digits_within (b ∷ s) = by-test (is_digit b) (λ e. rw e (omega (arith, digits_within s))) (λ e. rw e (omega arith))

pub all_counted : (s : List ℕ) → eqb (length (digits_in s)) (length s) ≡ all_digits s
unfolding digits_in all_digits
all_counted [] = refl
all_counted (b ∷ s) =
    by-test (is_digit b) (λ e. rw e (eqb-suc-suc (length (digits_in s)) (length s) ∙ all_counted s)) (λ e. rw e (eqb-zero-suc (length s)))

pub some_counted : (s : List ℕ) → some s ≡ ltb 0 (length s)
some_counted [] = refl
some_counted (b ∷ s) = sym (lt-ltb 0 (suc (length s)) (omega arith))

-- ---- the exponent
pub exponent_some : (s : List ℕ) → 0 < length s → has (bytes "eE") (get_or s 0 0) ≡ true
    → is_exponent s ≡ (ltb 0 (length (unsigned (drop 1 s))) && eqb (length (digits_in (unsigned (drop 1 s)))) (length (unsigned (drop 1 s))))
unfolding is_exponent
exponent_some [] h e = absurd (omega arith)
exponent_some (b ∷ s) h e = rw (e, all_counted (unsigned s), some_counted (unsigned s))
