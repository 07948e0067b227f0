-- Laws of `fill_rows`: its length, one more row, rows past the end, and that it places the rows of a table.
use mathlib.Core.Path.{◌≡◌, refl, ap, ◌∙◌}
use mathlib.Core.Logic.{⊎_elim}
use Prim.Native.Nat.{ℕ, zero, suc, ◌+◌, ◌<◌, ◌≤◌, min}
use native.Mathlib.Nat.{not-suc-le-zero, le_of_suc-le-suc}
use native.Mathlib.Omega.{arith}
use mathlib.Core.List.{List, [], ◌∷◌, ◌++◌}
use lib.ListN.{length, set, drop}
use Rattle.rows.specs.Rows.{row_at, rows_from}
use Rattle.lent_rows.specs.declared.HeaderRow.{HeaderRow}
use Rattle.lent_rows.specs.Rows.{struct_of, structs, fill_rows}
use Rattle.std.proofs.lemmas.Bool.{cases_lt}

module _ (ws : List ℕ) where
  pub length-fill : (i n : ℕ) (old : List HeaderRow) → length (fill_rows i n ws old) ≡ length old
  unfolding fill_rows
  length-fill i zero old = refl
  length-fill i (suc n) [] = refl
  length-fill i (suc n) (r ∷ old) = ap suc (length-fill (i + 1) n old)

  pub one_more : (i k j : ℕ) (old : List HeaderRow) → j ≡ i + k → k < length old → set (fill_rows i k ws old) k (struct_of (row_at ws j)) ≡ fill_rows i (suc k) ws old
  unfolding fill_rows
  one_more i k j [] e h = absurd (not-suc-le-zero h)
  one_more i zero j (r ∷ old) e h = let at : j ≡ i = omega arith in ap (λ (m : ℕ). struct_of (row_at ws m) ∷ old) at
  one_more i (suc k) j (r ∷ old) e h = ap (λ (l : List HeaderRow). struct_of (row_at ws i) ∷ l) (one_more (i + 1) k j old (omega arith) (le_of_suc-le-suc h))

  past : (i n : ℕ) (old : List HeaderRow) → length old ≤ n → fill_rows i (length old) ws old ≡ fill_rows i n ws old
  unfolding fill_rows
  past i zero [] h = refl
  past i (suc n) [] h = refl
  past i zero (r ∷ old) h = absurd (not-suc-le-zero h)
  past i (suc n) (r ∷ old) h = ap (λ (l : List HeaderRow). struct_of (row_at ws i) ∷ l) (past (i + 1) n old (le_of_suc-le-suc h))

  -- as many as there are places
  pub as_many : (n m : ℕ) (old : List HeaderRow) → m ≡ min n (length old) → fill_rows 0 m ws old ≡ fill_rows 0 n ws old
  as_many n m old e = ⊎_elim
      (λ (h : n < length old). let is : m ≡ n = omega arith in ap (λ (k : ℕ). fill_rows 0 k ws old) is)
      (λ (h : length old ≤ n). let is : m ≡ length old = omega arith in ap (λ (k : ℕ). fill_rows 0 k ws old) is ∙ past 0 n old h)
      (cases_lt n (length old))

  pub filled-rows : (i n : ℕ) (old : List HeaderRow) → n ≤ length old → fill_rows i n ws old ≡ structs (rows_from ws i n) ++ drop n old
  unfolding fill_rows structs rows_from
  filled-rows i zero old h = refl
  filled-rows i (suc n) [] h = absurd (not-suc-le-zero h)
  filled-rows i (suc n) (r ∷ old) h = ap (λ (l : List HeaderRow). struct_of (row_at ws i) ∷ l) (filled-rows (i + 1) n old (le_of_suc-le-suc h))
