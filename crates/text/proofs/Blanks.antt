-- Which bytes are no whitespace.
use Prim.Native.Nat.{ℕ, ◌<◌}
use mathlib.Core.Path.{◌≡◌}
use mathlib.Core.Bool.{false}
use native.Mathlib.Omega.{arith}
use borrow.Author.Tests.{ne_eqb}
use Rattle.text.specs.Bytes.{is_blank}

pub blank-no : (b : ℕ) → (b ≡ 32 → ⊥) → (b ≡ 10 → ⊥) → (b ≡ 13 → ⊥) → (b ≡ 9 → ⊥) → is_blank b ≡ false
unfolding is_blank
blank-no b p q r t = rw (ne_eqb b 32 p, ne_eqb b 10 q, ne_eqb b 13 r, ne_eqb b 9 t)

-- none above the space
pub solid : (b : ℕ) → 32 < b → is_blank b ≡ false
solid b h = blank-no b (λ e. omega arith) (λ e. omega arith) (λ e. omega arith) (λ e. omega arith)
