-- Runs of printable ASCII. Assumes nothing.
use Prim.Native.Nat.{ℕ, ◌≤◌}
use mathlib.Core.List.{List}
use native.Mathlib.Omega.{arith}
use borrow.Author.Tests.{ltb-true, ltb-false}
use lib.Dec.{ltb}
use Rattle.text.specs.Plain.{Plain}
use Rattle.text.proofs.Lists.{by-test}

-- two runs that meet, or overlap
pub plain-join : (s : List ℕ) (a b c d : ℕ) → Plain s a b → Plain s c d → c ≤ b → Plain s a d
plain-join s a b c d p q h i k g =
    by-test (ltb i b) (λ t. p i k (ltb-true i b t)) (λ t. q i (omega (arith, ltb-false i b t)) g)
