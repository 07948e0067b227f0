-- Laws of tests and of lists that every crate cites.
use Prim.Native.Nat.{ℕ, ◌+◌, ◌-◌, ◌≤◌, ◌<◌}
use mathlib.Core.Path.{◌≡◌, refl, sym}
use mathlib.Core.Bool.{Bool, true, false, cond, not, ◌&&◌, ◌||◌, false≢true}
use mathlib.Core.List.{List, ◌∷◌}
use native.Mathlib.Decide.{dec_lt}
use native.Mathlib.Nat.{le_refl}
use native.Mathlib.Omega.{arith}
use native.Mathlib.Numerals.{add-one}
use lib.ListN.{length, take, drop, get_or, length-drop}
use lib.Seq.{drop-cons, take_all}

pub by-test : {P : Type 0} (t : Bool) → (t ≡ true → P) → (t ≡ false → P) → P
by-test true p q = p refl
by-test false p q = q refl

pub both : (a b : Bool) → (a && b) ≡ true → (a ≡ true) × (b ≡ true)
both true b e = (refl, e)
both false b e = absurd (false≢true e)

-- of two tests joined by `or`, neither holds
pub neither : (a b : Bool) → (a || b) ≡ false → (a ≡ false) × (b ≡ false)
neither true b e = absurd (false≢true (sym e))
neither false b e = (refl, e)

-- of two tests joined by `or`, one holds
pub either : {P : Type 0} (a b : Bool) → (a || b) ≡ true → (a ≡ true → P) → (b ≡ true → P) → P
either true b e f g = f refl
either false b e f g = g e

-- `cond` as `and`, and where both ways are the same
pub cond_both : (a b : Bool) → cond a b false ≡ true → (a ≡ true) × (b ≡ true)
cond_both true b e = (refl, e)
cond_both false b e = absurd (false≢true e)

pub cond_same : {A : Type 0} (t : Bool) (x : A) → cond t x x ≡ x
cond_same true x = refl
cond_same false x = refl

pub and-false : (a : Bool) → (a && false) ≡ false
and-false true = refl
and-false false = refl

pub not-swap : (a : Bool) → not a ≡ true → a ≡ false
not-swap true e = absurd (false≢true e)
not-swap false e = refl

pub drop-step : (s : List ℕ) (p : ℕ) → p < length s → drop p s ≡ get_or s p 0 ∷ drop (p + 1) s
drop-step s p h = rw (add-one, drop-cons s p 0)

-- a part that goes to the end, as `&s[k..]` is given, is what is left
pub take_rest : (s : List ℕ) (k : ℕ) → take (length s - k) (drop k s) ≡ drop k s
take_rest s k = take_all (length s - k) (drop k s) (simp length-drop (le_refl _))

-- ---- one place more: what holds from `at` up to i, and at i, holds up to e
pub one_more : (P : ℕ → Type 0) (at i e : ℕ) → e ≡ i + 1 → ((j : ℕ) → at ≤ j → j < i → P j) → P i
    → (j : ℕ) → at ≤ j → j < e → P j
one_more P at i e n up here j l u = last (dec_lt j i)
  where
    last : Dec (j < i) → P j
    last (yes k) = up j l k
    last (no k) = let q : j ≡ i = omega arith in rw q here
