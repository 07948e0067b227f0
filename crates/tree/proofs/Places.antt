-- What 25 asks of rows: which of them have a text outside the source.
use Prim.Native.Nat.{ℕ, zero, suc, ◌+◌, ◌-◌, ◌*◌, ◌/◌, ◌≤◌, ◌<◌, min}
use mathlib.Core.Path.{◌≡◌, refl, sym, ap, ◌∙◌}
use mathlib.Core.Bool.{Bool, true, false, not, ◌&&◌, ◌||◌, and-true, and-false}
use mathlib.Core.List.{List}
use native.Mathlib.Omega.{arith}
use native.Mathlib.Decide.{dec_lt}
use borrow.Author.Tests.{lt-ltb, le-ltb}
use lib.Dec.{eqb}
use lib.ListN.{length, get_or}
use Rattle.rows.specs.Peek.{kind_of}
use Rattle.std.specs.List.{list_any, range_with_len}
use Rattle.rows.specs.Rows.{text_at, words_at, row_at, rows_from, rows_of}
use Rattle.rows.specs.declared.Row.{Row}
use Rattle.rows.proofs.Peeking.{row-cases}
use Rattle.text.specs.Texts.{is_within}
use Rattle.text.proofs.Lists.{neither}
use Rattle.tree.specs.Chain.{rest}
use Rattle.tree.specs.Place.{row_outside, some_outside}
use Rattle.tree.proofs.Rows.{rest-cons, rest-nil}

-- ---- row i lies outside if the text that its words say does, and they are a row
pub row-outside : (s table : List ℕ) (i : ℕ) → i < length table / 10
    → row_outside s (row_at table i)
    ≡ (not (is_within s (text_at (get_or table (10 * i + 5) 0) (get_or table (10 * i + 6) 0))) && not (eqb (kind_of (row_at table i)) 0))
unfolding row_at
row-outside s table i l =
    let x = not (is_within s (text_at (get_or table (10 * i + 5) 0) (get_or table (10 * i + 6) 0))) in
    let y = sym (and-true x) in
    rw (lt-ltb i (length table / 10) l)
    (row-cases (λ r. row_outside s r ≡ (x && not (eqb (kind_of r) 0))) (words_at table (10 * i)) y (λ _ _. y) y (sym (and-false x)))

-- ---- the rows from row i on
none_row : (table : List ℕ) (i : ℕ) → length table / 10 ≤ i → row_at table i ≡ Row.None
unfolding row_at
none_row table i h = rw (le-ltb i (length table / 10) h)

none-outside : (s table : List ℕ) (i k : ℕ) → length table / 10 ≤ i → some_outside s (rows_from table i k) ≡ false
unfolding some_outside rows_from
none-outside s table i zero h = refl
none-outside s table i (suc k) h = rw (none_row table i h) (none-outside s table (i + 1) k (omega arith))

module _ (s table : List ℕ) (n i : ℕ) where
  pub outside-past : length table / 10 ≤ i → some_outside s (rest table n i) ≡ false
  outside-past h = none-outside s table i (n - i) h

  pub outside-end : i ≤ n → n ≤ i → some_outside s (rest table n i) ≡ false
  unfolding some_outside
  outside-end h k = let e : i ≡ n = omega arith in rw (e, rest-nil table n)

  module _ (l : i < n) where
    pub outside-here : row_outside s (row_at table i) ≡ true → some_outside s (rest table n i) ≡ true
    unfolding some_outside
    outside-here e = rw (rest-cons table n i l, e)

    pub outside-more : row_outside s (row_at table i) ≡ false → some_outside s (rest table n i) ≡ some_outside s (rest table n (i + 1))
    unfolding some_outside
    outside-more e = rw (rest-cons table n i l, e)

-- those that the table holds tell of all
held : (s table : List ℕ) (i m k : ℕ) → m ≤ k → (m < k → length table / 10 ≤ i + m) → some_outside s (rows_from table i m) ≡ some_outside s (rows_from table i k)
unfolding some_outside rows_from
held s table i zero zero h f = refl
held s table i zero (suc k) h f = sym (none-outside s table i (suc k) (omega (arith, f (omega arith))))
held s table i (suc m) zero h f = absurd (omega arith)
held s table i (suc m) (suc k) h f =
    ap (λ (b : Bool). row_outside s (row_at table i) || b) (held s table (i + 1) m k (omega arith) (λ l. omega (arith, f (omega arith))))

one_outside : (s table : List ℕ) (i k : ℕ) → list_any (λ j. row_outside s (row_at table j)) (range_with_len i k) ≡ some_outside s (rows_from table i k)
unfolding some_outside rows_from
one_outside s table i zero = refl
one_outside s table i (suc k) = ap (λ (b : Bool). row_outside s (row_at table i) || b) (one_outside s table (i + 1) k)

pub any-outside : (s table : List ℕ) (m count : ℕ) → m ≡ min count (length table / 10)
    → list_any (λ j. row_outside s (row_at table j)) (range_with_len 0 m) ≡ some_outside s (rows_of table count)
any-outside s table m count h = one_outside s table 0 m ∙ held s table 0 m count (omega arith) (λ l. omega arith)

pub all_placed : (s table : List ℕ) (i k : ℕ) → some_outside s (rows_from table i k) ≡ false
    → (j : ℕ) → i ≤ j → j < i + k → row_outside s (row_at table j) ≡ false
unfolding some_outside rows_from
all_placed s table i zero e j h l = absurd (omega arith)
all_placed s table i (suc k) e j h l =
    let a = neither (row_outside s (row_at table i)) (some_outside s (rows_from table (i + 1) k)) e in
    elim (dec_lt i j) [
      | yes q ↦ all_placed s table (i + 1) k a.1 j (omega arith) (omega arith)
      | no q ↦ let x : j ≡ i = omega arith in rw x a.0
    ]
