-- Bytes counted by a test: where as many are counted as stand there, each has the property that the test is of. Assumes nothing.
use Prim.Native.Nat.{ℕ, ◌+◌, ◌≤◌, ◌<◌}
use mathlib.Core.Path.{◌≡◌}
use mathlib.Core.List.{List}
use native.Mathlib.Omega.{arith}
use lib.ListN.{get_or}
use Rattle.text.proofs.Lists.{one_more}

-- the bytes from `at` up to e have the property P
abbrev pub Each : (ℕ → Type 0) → List ℕ → ℕ → ℕ → Type 0
Each P s at e = (i : ℕ) → at ≤ i → i < e → P (get_or s i 0)

-- what a test counts of the byte b
abbrev pub Counts : (ℕ → Type 0) → ℕ → ℕ → Type 0
Counts P b n = (n ≤ 1) × (n ≡ 1 → P b)

-- n of the k bytes from `at` on were counted
pub record Among (P : ℕ → Type 0) (s : List ℕ) (at k n : ℕ) : Type 0 where
  pub few : n ≤ k
  pub each : n ≡ k → Each P s at (at + k)

module _ (P : ℕ → Type 0) (s : List ℕ) (at : ℕ) where
  pub among_one : (n : ℕ) → Counts P (get_or s at 0) n → Among P s at 1 n
  among_one n t = record { few = t.0; each = λ e i l u. let q : i ≡ at = omega arith in rw q (t.1 e) }

  pub among-more : (k n m : ℕ) → Among P s at k n → Counts P (get_or s (at + k) 0) m → Among P s at (k + 1) (n + m)
  among-more k n m a t =
      record {
        few = omega (arith, a.few, t.0);
        each = λ e.
            one_more (λ i. P (get_or s i 0)) at (at + k) (at + (k + 1)) (omega arith) (a.each (omega (arith, a.few, t.0)))
            (t.1 (omega (arith, a.few, t.0)));
      }

  -- eight are counted, four by four
  pub eight-counted : {a b c d e f g h : ℕ} → Counts P (get_or s at 0) a → Counts P (get_or s (at + 1) 0) b → Counts P (get_or s (at + 2) 0) c
      → Counts P (get_or s (at + 3) 0) d → Counts P (get_or s (at + 4) 0) e → Counts P (get_or s (at + 5) 0) f → Counts P (get_or s (at + 6) 0) g
      → Counts P (get_or s (at + 7) 0) h → a + b + c + d + (e + f + g + h) ≡ 8 → Each P s at (at + 8)
  eight-counted a b c d e f g h n =
      let four = among-more 3 _ _ (among-more 2 _ _ (among-more 1 _ _ (among_one _ a) b) c) d in
      (among-more 7 _ _ (among-more 6 _ _ (among-more 5 _ _ (among-more 4 _ _ four e) f) g) h).each (omega arith)
