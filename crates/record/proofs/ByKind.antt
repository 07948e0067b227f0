-- What holds of each kind of record.
use Prim.Native.Nat.{ℕ, ◌≤◌}
use native.Mathlib.Omega.{arith}
use Rattle.text.proofs.Orders.{of-numbers}

pub by_kind : (P : ℕ → Type 0) → P 1 → P 2 → P 3 → P 4 → P 5 → P 6 → P 7 → P 8 → P 9 → P 10 → P 11 → P 12 → P 13 → P 14 → P 15
    → (k : ℕ) → 1 ≤ k → k ≤ 15 → P k
by_kind P a b c d e f g h i j k l m n o kind least most =
    of-numbers P 1 15 (a, (b, (c, (d, (e, (f, (g, (h, (i, (j, (k, (l, (m, (n, (o, tt))))))))))))))) kind least (omega arith)
