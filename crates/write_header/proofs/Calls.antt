-- The rows from the first on, and the whole header.
use Rattle.std.specs.Prelude.{Result, Ok, Err}
use Prim.Native.Nat.{ℕ}
use mathlib.Core.Path.{◌≡◌, refl, sym, ap, ◌∙◌}
use mathlib.Core.Bool.{true, false}
use mathlib.Core.List.{List, [], ◌∷◌, ◌++◌}
use Rattle.command.specs.Meaning.{enddefinitions}
use Rattle.command.specs.declared.Refusal.{Refusal}
use Rattle.rows.specs.Good.{is_good_table}
use Rattle.header.specs.Header.{inner}
use Rattle.rows.specs.Rows.{top, parent_of, rows_of}
use Rattle.header.specs.declared.Header.{Header}
use Rattle.rows.specs.declared.Row.{Row}
use Rattle.write.specs.declared.Writer.{Writer}
use Rattle.write_header.specs.Levels.{WritesScope}
use Rattle.write_header.specs.Meanings.{row_meanings, kept_meanings, header_meanings}
use Rattle.write_header.specs.Pour.{pour, whole, stop, Writes}
use Rattle.write_header.specs.Written.{Outcome, Does, misplaced, header_call}
use Rattle.write_header.proofs.Poured.{poured-all}
use Rattle.tree.proofs.Rows.{rest_all}
use Rattle.write_header.proofs.Rows.{good-parts, top-end}

-- an outcome that is this one
pub of-outcome : {x : Outcome} (y : Outcome) → x ≡ y → Does y.answer y.left x
of-outcome y e = rw e (record { answers = refl; leaves = refl })

pub does-too : {r : Result (ℕ × Writer) (Refusal × ℕ × Writer)} {o : List ℕ} {x y : Outcome} → x ≡ y → Does r o y → Does r o x
does-too e d = rw e d

pour-end : (o : List ℕ) (at : ℕ) (w : Writer) → pour o at w [] ≡ whole at w o
unfolding pour
pour-end o at w = refl

top-inner : inner [] ≡ parent_of top
unfolding parent_of
top-inner = refl

-- ---- the rows
module _ (s table : List ℕ) (n : ℕ) (o : List ℕ) (at : ℕ) (w : Writer) (g : is_good_table (rows_of table n) ≡ true) where
  abbrev all : Outcome
  all = pour o at w (row_meanings s 0 [] (rows_of table n))

  pub rows-stop : {e : Refusal} {at₁ : ℕ} {w₁ : Writer} {o₁ : List ℕ} → WritesScope s table n 64 top 0 o at w (Err (e, at₁, w₁)) o₁
      → Does (Err (e, at₁, w₁)) o₁ all
  rows-stop {e} {at₁} {w₁} {o₁} x =
      of-outcome (stop e at₁ w₁ o₁) (ap (λ (rs : List Row). pour o at w (row_meanings s 0 [] rs)) (sym (rest_all table n)) ∙ x [] refl top-inner (good-parts table n g).1)

  -- the rows are written, and the end of the definitions
  module _ (i₁ at₁ : ℕ) (w₁ : Writer) (o₁ : List ℕ) (x : WritesScope s table n 64 top 0 o at w (Ok (i₁, at₁, w₁)) o₁) where
    to_end : all ≡ pour o₁ at₁ w₁ (enddefinitions ∷ [])
    to_end =
        let q = x.4 [] refl top-inner (good-parts table n g).1 in
        ap (λ (rs : List Row). pour o at w (row_meanings s 0 [] rs)) (sym (rest_all table n))
        ∙ q.1 ∙ ap (pour o₁ at₁ w₁) (top-end s table n i₁ x.1 x.3 q.0)

    pub end-stop : {e : Refusal} {at₂ : ℕ} {w₂ : Writer} {o₂ : List ℕ} → Writes o₁ at₁ w₁ (enddefinitions ∷ []) 0 (Err (e, at₂, w₂)) o₂
        → Does (Err (e, at₂, w₂)) o₂ all
    end-stop {e} {at₂} {w₂} {o₂} y = of-outcome (stop e at₂ w₂ o₂) (to_end ∙ y [])

    pub end_whole : {i₂ at₂ : ℕ} {w₂ : Writer} {o₂ : List ℕ} → Writes o₁ at₁ w₁ (enddefinitions ∷ []) 0 (Ok (i₂, at₂, w₂)) o₂
        → Does (Ok (at₂, w₂)) o₂ all
    end_whole {i₂} {at₂} {w₂} {o₂} y = of-outcome (whole at₂ w₂ o₂) (to_end ∙ y.2 [] ∙ pour-end o₂ at₂ w₂)

-- ---- the whole header
module _ (w : Writer) (s : List ℕ) (h : Header) (table : List ℕ) (n : ℕ) (o : List ℕ) where
  pub bad-place : misplaced s h (rows_of table n) ≡ true → Does (Err (Refusal.BadPlace, 0, w)) o (header_call w s h table n o)
  unfolding header_call
  bad-place e = rw e (record { answers = refl; leaves = refl })

  module _ (e : misplaced s h (rows_of table n) ≡ false) where
    pub bad-table : is_good_table (rows_of table n) ≡ false → Does (Err (Refusal.BadTable, 0, w)) o (header_call w s h table n o)
    unfolding header_call
    bad-table g = rw (e, g) (record { answers = refl; leaves = refl })

    pub call-pours : is_good_table (rows_of table n) ≡ true → header_call w s h table n o ≡ pour o 0 w (kept_meanings s h ++ row_meanings s 0 [] (rows_of table n))
    unfolding header_call header_meanings
    call-pours g = rw (e, g) (sym (poured-all w (header_meanings s h (rows_of table n)) o))
