-- Laws of an order: the values of a type, each once, so that a value's number is its place, counted from 0, and a number past the last
-- means the last.
--     past                   past the end of a list stands the default
--     Below, none_below      what the last arm of a match on the numbers below k knows
--     Numbers, of-numbers    what holds of each of n numbers
--     Order                  of a type: its values, the last of them and the number of each; `kept`, `small`, `same` and `last_of` follow
use Prim.Native.Nat.{ℕ, zero, suc, ◌+◌, ◌≤◌, ◌<◌}
use mathlib.Core.Path.{◌≡◌, refl, sym, ap, ◌∙◌}
use mathlib.Core.List.{List, [], ◌∷◌}
use native.Mathlib.Omega.{arith}
use borrow.Author.Tests.{eqb-true, eqb-false, ltb-true, ltb-false}
use lib.Dec.{eqb, ltb}
use lib.ListN.{length, get_or}
use Rattle.text.proofs.Lists.{by-test}

pub past : {A : Type 0} (l : List A) (n : ℕ) (d : A) → length l ≤ n → get_or l n d ≡ d
past [] n d h = refl
past (x ∷ l) zero d h = absurd (omega arith)
past (x ∷ l) (suc n) d h = past l n d (omega arith)

abbrev pub Below : ℕ → ℕ → Type 0
Below zero n = Unit
Below (suc k) n = Below k n × (n ≡ k → ⊥)

pub none_below : (k n : ℕ) → Below k n → k ≤ n
none_below zero n h = omega arith
none_below (suc k) n h = let a = none_below k n h.0 in let b = h.1 in omega arith

-- P holds of each of the n numbers from i on
abbrev pub Numbers : (ℕ → Type 0) → (i n : ℕ) → Type 0
Numbers P i zero = Unit {0}
Numbers P i (suc n) = P i × Numbers P (suc i) n

pub of-numbers : (P : ℕ → Type 0) (i n : ℕ) → Numbers P i n → (k : ℕ) → i ≤ k → k < i + n → P k
of-numbers P i zero h k l u = absurd (omega arith)
of-numbers P i (suc n) h k l u =
    by-test (eqb k i) (λ e. rw (eqb-true k i e) h.0)
    (λ e. let x : k ≡ i → ⊥ = eqb-false k i e in of-numbers P (suc i) n h.1 k (omega arith) (omega arith))

pub record Order {A : Type 0} (order : List A) (last : A) (number : A → ℕ) : Type 0 where
  pub back : (x : A) → get_or order (number x) last ≡ x
  pub each : Numbers (λ n. number (get_or order n last) ≡ n) 0 (length order)
  pub whole : number last + 1 ≡ length order

module _ {A : Type 0} {order : List A} {last : A} {number : A → ℕ} (o : Order order last number) where
  -- a number is that of the value that it means
  pub kept : (n : ℕ) → n < length order → number (get_or order n last) ≡ n
  kept n h = of-numbers (λ m. number (get_or order m last) ≡ m) 0 (length order) o.each n (omega arith) (omega arith)

  -- a value's number is a place of the order
  pub small : (x : A) → number x < length order
  small x =
      by-test (ltb (number x) (length order)) (λ e. ltb-true (number x) (length order) e)
      (λ e.
      let is_last : x ≡ last = sym (o.back x) ∙ past order (number x) last (omega (arith, ltb-false (number x) (length order) e)) in
      let same : number x ≡ number last = ap number is_last in
      omega (arith, same, o.whole))

  -- values of one number are one
  pub same : (x y : A) → number x ≡ number y → x ≡ y
  same x y e = sym (o.back x) ∙ ap (λ (n : ℕ). get_or order n last) e ∙ o.back y

  -- the last arm of a match on the numbers before the last's
  pub last_of : (n : ℕ) → Below (number last) n → last ≡ get_or order n last
  last_of n h =
      let l = none_below (number last) n h in
      by-test (eqb n (number last)) (λ e. rw (eqb-true n (number last) e) (sym (o.back last)))
      (λ e. let k = eqb-false n (number last) e in sym (past order n last (omega (arith, o.whole))))
