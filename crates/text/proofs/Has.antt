-- Laws of `has`, by each byte of its list.
use Prim.Native.Nat.{ℕ}
use mathlib.Core.Path.{◌≡◌, refl, sym, subst}
use mathlib.Core.Bool.{true, false, false≢true}
use mathlib.Core.List.{List, [], ◌∷◌}
use borrow.Author.Tests.{eqb-true}
use lib.Dec.{eqb}
use Rattle.text.specs.Bytes.{has}
use Rattle.text.proofs.Each.{Each}
use Rattle.text.proofs.Lists.{by-test, either, neither}

pub of-each : (P : ℕ → Type 0) (l : List ℕ) (b : ℕ) → Each P l → has l b ≡ true → P b
unfolding has
of-each P [] b p e = absurd (false≢true e)
of-each P (x ∷ l) b p e =
    either (eqb b x) (has l b) e (λ q. subst P (sym (eqb-true b x q)) p.0) (λ q. of-each P l b p.1 q)

-- a list that has not b is one of bytes that are not b
pub has-not : (l : List ℕ) (b : ℕ) → Each (λ x. b ≡ x → ⊥) l → has l b ≡ false
has-not l b p = by-test (has l b) (λ e. absurd (of-each (λ x. b ≡ x → ⊥) l b p e refl)) (λ e. e)

pub each-not : (l : List ℕ) (b : ℕ) → has l b ≡ false → Each (λ x. eqb b x ≡ false) l
unfolding has
each-not [] b e = tt
each-not (x ∷ l) b e = let n = neither (eqb b x) (has l b) e in (n.0, each-not l b n.1)
