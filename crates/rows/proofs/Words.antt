-- The words of a row: numbers of 32 bits by two's complement, as the machine turns them, and a row stored.
use Prim.Native.Nat.{ℕ, suc, ◌-◌, ◌^◌, ◌≤◌, ◌<◌}
use mathlib.Core.Path.{◌≡◌, refl, ◌∙◌}
use mathlib.Core.Bool.{true, ◌&&◌}
use native.Mathlib.Omega.{arith}
use borrow.Author.Tests.{lt-ltb, le-ltb, ltb-true, eqb-true}
use lib.Dec.{eqb, ltb}
use lib.IntN.{ℤ, pos, negsuc, ◌-ℤ◌}
use lib.ListN.{length}
use mir.Syntax.{Width, w32, w64}
use mir.Val.{SFits, of_z, to_z}
use mir.ValLaws.{to_z-of_z, to_z_pos}
use Rattle.text.proofs.Lists.{by-test, both}
use Rattle.rows.specs.Rows.{signed_of, is_index, listed}
use Rattle.rows.specs.declared.RowWords.{RowWords}

-- a number as its bits have it
abbrev held : Width → ℤ → ℤ
held w z = to_z w (of_z w z)

-- ---- a word read as a number of 32 bits
pub signed_is : (w : ℕ) → to_z w32 w ≡ signed_of w
unfolding signed_of
signed_is w = by-test (ltb w (2 ^ 31)) (λ e. rw e) (λ e. rw e)

-- a word over 32 bits
pub signed-over : (w : ℕ) → 4294967296 ≤ w → signed_of w ≡ negsuc 0
unfolding signed_of
signed-over w h =
    let e : 2 ^ 32 - suc w ≡ 0 = omega arith in
    rw (le-ltb w (2 ^ 31) (omega arith), e)

module _ (w : ℕ) (lo : 2147483648 ≤ w) (hi : w < 4294967296) where
  lowered : to_z w64 w -ℤ pos 4294967296 ≡ negsuc (4294967296 - suc w)
  lowered = rw (to_z_pos w64 w (omega arith), lt-ltb w 4294967296 hi)

  pub lower-fits : SFits w64 (to_z w64 w -ℤ pos 4294967296)
  lower-fits = rw lowered (record { sfits = omega arith })

  lower-held : held w64 (to_z w64 w -ℤ pos 4294967296) ≡ negsuc (4294967296 - suc w)
  lower-held = to_z-of_z w64 _ lower-fits ∙ lowered

  pub lower-narrow : SFits w32 (held w64 (to_z w64 w -ℤ pos 4294967296))
  lower-narrow = rw lower-held (record { sfits = omega arith })

  pub lower-signed : held w32 (held w64 (to_z w64 w -ℤ pos 4294967296)) ≡ signed_of w
  unfolding signed_of
  lower-signed = to_z-of_z w32 _ lower-narrow ∙ lower-held ∙ rw (le-ltb w (2 ^ 31) lo)

-- ---- the words of an index are of 32 bits
pub index-fits : (f a b : ℕ) → is_index f a b ≡ true → (a < 4294967296) × (b < 4294967296)
unfolding is_index
index-fits f a b e =
    by-test (eqb f 0)
    (λ q. let x = both (eqb a 0) (eqb b 0) (rw q at e) in (omega (arith, eqb-true a 0 x.0), omega (arith, eqb-true b 0 x.1)))
    (λ q.
    by-test (eqb f 1)
    (λ r. let x = both (ltb a (2 ^ 32)) (eqb b 0) (rw (q, r) at e) in (ltb-true a (2 ^ 32) x.0, omega (arith, eqb-true b 0 x.1)))
    (λ r.
    let x = both (eqb f 2 && ltb a (2 ^ 32)) (ltb b (2 ^ 32)) (rw (q, r) at e) in
    let y = both (eqb f 2) (ltb a (2 ^ 32)) x.0 in
    (ltb-true a (2 ^ 32) y.1, ltb-true b (2 ^ 32) x.1)))

-- ---- a row's words are ten
pub ten : (w : RowWords) → length (listed w) ≡ 10
unfolding listed
ten w = refl
