-- The part of a flat table that is lent to the reading of a header, said of the whole table, and the rows of it in the lent list.
use mathlib.Core.Path.{◌≡◌, refl, ap, sym, ◌∙◌}
use Prim.Native.Nat.{ℕ, ◌*◌, ◌/◌, ◌≤◌, min}
use native.Mathlib.Omega.{arith}
use mathlib.Core.List.{List, [], ◌++◌, append_assoc}
use lib.ListN.{length, take, drop, length-replicate, take-append-drop}
use lib.Seq.{length-take-le, drop-append-le}
use Rattle.header.specs.Header.{Outcome, header_of, read_rows, nothing, answer_of}
use Rattle.rows.specs.Rows.{filled, words_of}
use Rattle.header.specs.declared.HeaderAnswer.{HeaderAnswer}
use Rattle.rows.specs.declared.Row.{Row}
use Rattle.rows.proofs.Fits.{filled-back}
use Rattle.header.proofs.Good.{header-room}
use Rattle.header.proofs.Kept.{header-fits}
use Rattle.parser.specs.All.{commands}
use Rattle.token.specs.declared.Cursor.{Cursor}
use Rattle.lent_rows.specs.declared.HeaderRow.{HeaderRow}
use Rattle.lent_rows.specs.Rows.{structs, placed, header_in, header_into, front, fill_rows, blank}
use Rattle.lent_rows.proofs.Filling.{filled-rows}

pub front_length : (flat : List ℕ) (n : ℕ) → length (front flat n) ≡ 10 * min n (length flat / 10)
front_length flat n = length-take-le (10 * min n (length flat / 10)) flat (omega arith)

pub blank-length : length blank ≡ 40960
unfolding blank
blank-length = length-replicate {A = ℕ} 40960 0

module _ (s : List ℕ) (c : Cursor) where
  -- the rows' words in a part of the table, and after it the table as it was
  pub whole : (flat : List ℕ) (k : ℕ) → let rs : List Row = (header_of s c (take k flat)).rows in filled rs (take k flat) ++ drop k flat ≡ filled rs flat
  whole flat k =
      let rs : List Row = (header_of s c (take k flat)).rows in
      let room : 10 * length rs ≤ length (take k flat) = omega (arith, header-room s c (take k flat)) in
      append_assoc (words_of rs) (drop (10 * length rs) (take k flat)) (drop k flat)
      ∙ ap (λ (l : List ℕ). words_of rs ++ l) (sym (drop-append-le (10 * length rs) (take k flat) (drop k flat) room) ∙ ap (drop (10 * length rs)) (take-append-drop k flat))

  -- what `read_header` gives on a table with room for as many rows
  pub of-table : (table : List ℕ) → header_of s c table ≡ header_in s c (length table / 10)
  of-table table = refl

  -- ---- a table of 4,096 rows
  pub same-header : (n : ℕ) → header_into s c blank n ≡ header_in s c n
  same-header n =
      let room : min 4096 (length (front blank n) / 10) ≡ min 4096 n = omega (arith, front_length blank n, blank-length) in
      ap (λ (k : ℕ). read_rows k (commands s c) [] 0 nothing) room

  pub all_placed : (old : List HeaderRow) → let rs : List Row = (header_into s c blank (length old)).rows in fill_rows 0 (length rs) (filled rs blank) old ≡ placed rs old
  all_placed old =
      let rs : List Row = (header_into s c blank (length old)).rows in
      let room : length rs ≤ length old = omega (arith, header-room s c (front blank (length old)), front_length blank (length old)) in
      filled-rows (filled rs blank) 0 (length rs) old room
      ∙ ap (λ (l : List Row). structs l ++ drop (length rs) old) (filled-back rs blank (header-fits s c (front blank (length old))))

  -- the two calls of `read_rows`
  pub read : (old rows : List HeaderRow) (a : HeaderAnswer) (flat : List ℕ) → let o : Outcome = header_into s c blank (length old) in
      (a ≡ answer_of o) × (flat ≡ filled o.rows blank) → rows ≡ fill_rows 0 a.count flat old
      → (a ≡ answer_of (header_in s c (length old))) × (rows ≡ placed (header_in s c (length old)).rows old)
  read old rows a flat e f =
      let o : Outcome = header_into s c blank (length old) in (
        e.0 ∙ ap answer_of (same-header (length old)),
        f ∙ ap (λ (x : HeaderAnswer). fill_rows 0 x.count flat old) e.0 ∙ ap (λ (l : List ℕ). fill_rows 0 (length o.rows) l old) e.1
            ∙ all_placed old ∙ ap (λ (x : Outcome). placed x.rows old) (same-header (length old)),
      )
