-- Laws of equal byte strings, of marks, and of the first mark.
use Prim.Native.Nat.{ℕ, ◌≤◌, ◌<◌}
use mathlib.Core.Path.{◌≡◌, refl, sym, ap, ap₂, ◌∙◌}
use mathlib.Core.Bool.{Bool, true, false, ◌&&◌, false≢true}
use mathlib.Core.List.{List, [], ◌∷◌, ◌++◌}
use native.Mathlib.Omega.{arith}
use borrow.Author.Tests.{eq-eqb, ne_eqb, eqb-true}
use lib.Dec.{eqb}
use lib.ListN.{length, take}
use Rattle.text.specs.Bytes.{equal, has, starts}
use Rattle.text.proofs.Lists.{by-test, both, neither}

pub equal-refl : (l : List ℕ) → equal l l ≡ true
unfolding equal
equal-refl [] = refl
equal-refl (x ∷ l) = rw (eq-eqb x x refl, equal-refl l)

pub equal-true : (a b : List ℕ) → equal a b ≡ true → a ≡ b
unfolding equal
equal-true [] [] e = refl
equal-true [] (y ∷ b) e = absurd (false≢true e)
equal-true (x ∷ a) [] e = absurd (false≢true e)
equal-true (x ∷ a) (y ∷ b) e =
    let h = both (eqb x y) (equal a b) e in
    ap₂ (λ (h : ℕ) (t : List ℕ). h ∷ t) (eqb-true x y h.0) (equal-true a b h.1)

-- ---- marks
eqb-sym : (x y : ℕ) → eqb x y ≡ eqb y x
eqb-sym x y =
    by-test (eqb x y) (λ e. e ∙ sym (eq-eqb y x (sym (eqb-true x y e))))
    (λ e. e ∙ sym (ne_eqb y x (λ q. absurd (false≢true (sym e ∙ eq-eqb x y (sym q))))))

pub starts-equal : (m r : List ℕ) → starts m r ≡ equal (take (length m) r) m
unfolding starts equal
starts-equal [] r = refl
starts-equal (x ∷ m) [] = refl
starts-equal (x ∷ m) (b ∷ r) = rw (eqb-sym x b, starts-equal m r)

pub starts-long : (m r : List ℕ) → starts m r ≡ true → length m ≤ length r
unfolding starts
starts-long [] r e = omega arith
starts-long (x ∷ m) [] e = absurd (false≢true e)
starts-long (x ∷ m) (b ∷ r) e = omega (arith, starts-long m r (both (eqb x b) (starts m r) e).1)

pub starts-short : (m r : List ℕ) → length r < length m → starts m r ≡ false
starts-short m r h = by-test (starts m r) (λ e. absurd (omega (arith, starts-long m r e))) (λ e. e)

pub starts-self : (m r : List ℕ) → starts m (m ++ r) ≡ true
unfolding starts
starts-self [] r = refl
starts-self (x ∷ m) r = rw (eq-eqb x x refl) (starts-self m r)

-- a byte that the mark does not have ends what it can be found in
pub starts-cut : (m a : List ℕ) (b : ℕ) (t : List ℕ) → has m b ≡ false → starts m (a ++ b ∷ t) ≡ starts m a
unfolding starts has
starts-cut [] a b t h = refl
starts-cut (x ∷ m) [] b t h =
    rw (ne_eqb x b (λ q. absurd (false≢true (sym (neither (eqb b x) (has m b) h).0 ∙ eq-eqb b x (sym q)))))
starts-cut (x ∷ m) (y ∷ a) b t h = ap (λ (u : Bool). eqb x y && u) (starts-cut m a b t (neither (eqb b x) (has m b) h).1)

-- where there is room for the mark, what is appended does not matter
pub starts_more : (m r z : List ℕ) → length m ≤ length r → starts m (r ++ z) ≡ starts m r
unfolding starts
starts_more [] r z h = refl
starts_more (x ∷ m) [] z h = absurd (omega arith)
starts_more (x ∷ m) (b ∷ r) z h = ap (λ (u : Bool). eqb x b && u) (starts_more m r z (omega arith))
