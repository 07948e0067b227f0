-- A row is read back from its words, and rows from the table that they fill, where their numbers fit the words.
use Rattle.std.specs.Prelude.{Option, Some, None}
use Rattle.rows.specs.declared.RowNumber.{RowNumber}
use Prim.Native.Nat.{ℕ, ◌+◌, ◌*◌, ◌/◌, ◌^◌, ◌<◌}
use mathlib.Core.Path.{◌≡◌, refl, sym, ap, ◌∙◌}
use mathlib.Core.Bool.{true}
use mathlib.Core.List.{List, [], ◌∷◌, ◌++◌, append_assoc}
use native.Mathlib.Omega.{arith}
use native.Mathlib.Nat.{add-zero}
use borrow.Author.Tests.{lt-ltb, ne_eqb}
use lib.Dec.{ltb}
use lib.IntN.{ℤ, pos, negsuc}
use lib.ListN.{length, get_or, drop, length-append, length-drop}
use lib.Seq.{drop_at, drop-drop, get_or-drop}
use mir.Syntax.{w32}
use mir.Val.{SFits, of_z}
use mir.ValLaws.{to_z-of_z, of_z_fits}
use Rattle.text.proofs.Each.{Each}
use Rattle.scope.specs.Index.{SizedIndex}
use Rattle.scope.proofs.Types.{scope-back, var-back}
use Rattle.scope.specs.declared.ReferenceIndex.{ReferenceIndex}
use Rattle.rows.specs.Rows.{top, parent_word, parent_of, word_of, signed_of, index_form, index_first, index_second, is_index, index_of, words_in, listed, row_words, all_zero, row_of, words_at, row_at, words_of, rows_from, rows_of, filled}
use Rattle.rows.specs.declared.Row.{Row}
use Rattle.rows.specs.declared.RowWords.{RowWords}
use Rattle.rows.proofs.Words.{ten, signed_is}

-- ---- what fits: a parent that is not taken for top, a width and numbers of 32 bits
abbrev pub ParentFits : Option RowNumber → Type 0
ParentFits None = Unit {0}
ParentFits (Some n) = n.0 < top

abbrev pub Fits : Row → Type 0
Fits (Row.Scope p k t) = ParentFits p
Fits (Row.Var p v) = ParentFits p × (v.size < 2 ^ 32) × SizedIndex v.index
Fits (Row.Comment p t) = ParentFits p
Fits Row.None = Unit {0}

parent-back : (p : Option RowNumber) → ParentFits p → parent_of (parent_word p) ≡ p
unfolding parent_of
parent-back None f = refl
parent-back (Some n) f = let apart : n.0 ≡ top → ⊥ = λ e. omega arith in rw (ne_eqb n.0 top apart)

word-is : (z : ℤ) → word_of z ≡ of_z w32 z
word-is (pos n) = refl
word-is (negsuc n) = refl

word_back : (z : ℤ) → SFits w32 z → (ltb (word_of z) (2 ^ 32) ≡ true) × (signed_of (word_of z) ≡ z)
word_back z f = rw (word-is z) (lt-ltb (of_z w32 z) (2 ^ 32) (of_z_fits w32 z f).fits, sym (signed_is (of_z w32 z)) ∙ to_z-of_z w32 z f)

pub index_back : (x : ReferenceIndex) → SizedIndex x
    → (is_index (index_form x) (index_first x) (index_second x) ≡ true) × (index_of (index_form x) (index_first x) (index_second x) ≡ x)
unfolding is_index index_of
index_back ReferenceIndex.None f = (refl, refl)
index_back (ReferenceIndex.BitSelect a) f = let x = word_back a f in (rw x.0, ap ReferenceIndex.BitSelect x.1)
index_back (ReferenceIndex.Range a b) f =
    let x = word_back a f.0 in
    let y = word_back b f.1 in
    (rw (x.0, y.0), rw (x.1, y.1))

pub row_back : (r : Row) → Fits r → row_of (words_in r) ≡ r
unfolding row_of all_zero
row_back (Row.Scope p k t) f = rw ((scope-back k).0, (scope-back k).1, parent-back p f)
row_back (Row.Var p v) f =
    let x = index_back v.index f.2 in
    rw ((var-back v.var_type).0, (var-back v.var_type).1, lt-ltb v.size (2 ^ 32) f.1, x.0, x.1, parent-back p f.0)
row_back (Row.Comment p t) f = rw (parent-back p f)
row_back Row.None f = refl

-- ---- rows in a table
module _ (table : List ℕ) (at : ℕ) (w : RowWords) (x : List ℕ) (e : drop at table ≡ listed w ++ x) where
  word_at : (j : ℕ) → get_or table (at + j) 0 ≡ get_or (listed w ++ x) j 0
  word_at j = sym (get_or-drop at table j 0) ∙ ap (λ (l : List ℕ). get_or l j 0) e

  words-at : words_at table at ≡ w
  unfolding listed
  words-at =
      let first : get_or table at 0 ≡ w.kind = ap (λ (j : ℕ). get_or table j 0) (sym (add-zero at)) ∙ word_at 0 in
      rw (first, word_at 1, word_at 2, word_at 3, word_at 4, word_at 5, word_at 6, word_at 7, word_at 8, word_at 9)

module _ (table : List ℕ) (i : ℕ) (r : Row) (x : List ℕ) (e : drop (10 * i) table ≡ row_words r ++ x) where
  room : 10 * i + 10 + length x ≡ length table
  room = omega (arith, ap length e, length-drop (10 * i) table, length-append (row_words r) x, ten (words_in r))

  row-at : Fits r → row_at table i ≡ r
  unfolding row_at
  row-at f = rw (lt-ltb i (length table / 10) (omega (arith, room)), words-at table (10 * i) (words_in r) x e) (row_back r f)

  row_next : drop (10 * (i + 1)) table ≡ x
  row_next =
      let k : 10 * (i + 1) ≡ 10 * i + 10 = omega arith in
      rw k (sym (drop-drop 10 (10 * i) table) ∙ ap (drop 10) e ∙ drop_at (row_words r) x 10 (ten (words_in r)))

rows_back : (table : List ℕ) (i : ℕ) (rs : List Row) (x : List ℕ) → drop (10 * i) table ≡ words_of rs ++ x → Each Fits rs → rows_from table i (length rs) ≡ rs
unfolding rows_from words_of
rows_back table i [] x e f = refl
rows_back table i (r ∷ rs) x e f =
    let e' : drop (10 * i) table ≡ row_words r ++ (words_of rs ++ x) = e ∙ append_assoc (row_words r) (words_of rs) x in
    rw (row-at table i r (words_of rs ++ x) e' f.0) (ap (λ (l : List Row). r ∷ l) (rows_back table (i + 1) rs x (row_next table i r (words_of rs ++ x) e') f.1))

-- the rows of a table that rows fill are those
pub filled-back : (rs : List Row) (table : List ℕ) → Each Fits rs → rows_of (filled rs table) (length rs) ≡ rs
filled-back rs table f = rows_back (filled rs table) 0 rs (drop (10 * length rs) table) refl f
