-- A number of 32 bits written by its size: below zero with a sign before it.
use Prim.Native.Nat.{ℕ}
use mathlib.Core.Path.{◌≡◌, refl, sym, ◌∙◌, ap}
use mathlib.Core.Bool.{true, false, false≢true}
use mathlib.Core.List.{◌++◌}
use native.Mathlib.Omega.{arith}
use borrow.Author.Tests.{le-leb}
use lib.IntN.{ℤ, pos, negsuc, nat_abs}
use lib.ListN.{length, take}
use lib.Signed.{le_z}
use mir.Syntax.{Width, w32}
use mir.Val.{SFits, of_z, to_z}
use mir.ValLaws.{to_z-of_z}
use Rattle.text.specs.Bytes.{bytes}
use Rattle.text.specs.Texts.{spelled, text_in}
use Rattle.text.specs.declared.Spelled.{Spelled}
use Rattle.text.proofs.Rows.{joins}
use Rattle.number.specs.Decimal.{decimal_of, signed_of}
use Rattle.number.proofs.Signs.{signed-short}

-- a number as its bits have it
abbrev held : Width → ℤ → ℤ
held w z = to_z w (of_z w z)

-- ---- not below zero
from_zero : (z : ℤ) → le_z (pos 0) z ≡ true → decimal_of (nat_abs z) ≡ signed_of z
from_zero (pos n) e = refl
from_zero (negsuc n) e = absurd (false≢true e)

module _ (z : ℤ) (f : SFits w32 z) where
  kept : held w32 z ≡ z
  kept = to_z-of_z w32 z f

  pub write-from-zero : le_z (pos 0) (held w32 z) ≡ true → decimal_of (nat_abs (held w32 z)) ≡ signed_of z
  write-from-zero e = rw kept (from_zero z (rw kept at e))

-- ---- below zero
minus : (z : ℤ) → le_z (pos 0) z ≡ false → bytes "-" ++ decimal_of (nat_abs z) ≡ signed_of z
minus (pos n) e = absurd (false≢true (sym e ∙ le-leb 0 n (omega arith)))
minus (negsuc n) e = refl

module _ (z : ℤ) (f : SFits w32 z) (e : le_z (pos 0) (held w32 z) ≡ false) where
  pub signed_is : bytes "-" ++ decimal_of (nat_abs (held w32 z)) ≡ signed_of z
  signed_is = minus (held w32 z) e ∙ ap signed_of (kept z f)

  pub write_signed : (m : ℕ) (a b r : Spelled) → m ≡ nat_abs (held w32 z) → a ≡ spelled (bytes "-") → b ≡ spelled (decimal_of m)
      → r ≡ spelled (take 32 (text_in a ++ text_in b)) → r ≡ spelled (signed_of z)
  write_signed m a b r h p q j =
      (rw (p, q, h) at j) ∙ joins (bytes "-") (decimal_of (nat_abs (held w32 z))) (omega (arith, ap length signed_is, signed-short z f))
      ∙ ap spelled signed_is
