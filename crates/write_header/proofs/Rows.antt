-- The rows of a table that are still to be written, and what the first of them does.
--     here-scope, here-var, here-comment    row i stands in the innermost open scope: its command, and then the rows after it
--     pop                                   row i stands further out, or there is none: the innermost scope is closed
--     top-end                               no scope is open, and no row is left
use Rattle.std.specs.Prelude.{Option, Some, None}
use Rattle.rows.specs.declared.RowNumber.{RowNumber}
use Prim.Native.Nat.{ℕ, suc, ◌+◌, ◌-◌, ◌≤◌, ◌<◌}
use mathlib.Core.Path.{◌≡◌, refl, sym, ap, ◌∙◌}
use mathlib.Core.Bool.{Bool, true, false, cond, ◌&&◌, false≢true}
use mathlib.Core.List.{List, [], ◌∷◌}
use native.Mathlib.Omega.{arith}
use native.Mathlib.Nat.{sub_self, sub-zero}
use native.Mathlib.Decide.{dec_lt}
use borrow.Author.Tests.{eq-eqb, ne_eqb, ltb-true, leb-true}
use lib.Dec.{eqb, ltb, leb}
use lib.ListN.{length}
use Rattle.command.specs.Meaning.{comment, remark, scope_def, upscope, enddefinitions}
use Rattle.rows.specs.Good.{is_parent, open_to, is_good_from, is_good_table}
use Rattle.header.specs.Header.{inner}
use Rattle.rows.specs.Rows.{top, parent_word, parent_of, row_at, rows_of}
use Rattle.rows.specs.declared.Row.{Row}
use Rattle.scope.specs.declared.ScopeType.{ScopeType}
use Rattle.scope.specs.declared.Var.{Var}
use Rattle.text.specs.Texts.{part}
use Rattle.text.specs.declared.Text.{Text}
use Rattle.text.proofs.Lists.{both}
use Rattle.rows.specs.Peek.{parent_in}
use Rattle.tree.specs.Chain.{parent_at, rest}
use Rattle.tree.proofs.Rows.{scope-parent, var-parent, comment-parent, rest-cons, rest-nil, rest_all, length-rows, open-other, good-end}
use Rattle.write_header.specs.Meanings.{upscopes, var_meaning, row_meanings}

-- ---- the scopes that stay open
open-inner : (st : List ℕ) → open_to (inner st) st ≡ st
unfolding open_to
open-inner [] = refl
open-inner (n ∷ st) = rw (eq-eqb n n refl)

parent-other : (p : Option RowNumber) (n : ℕ) (st : List ℕ) → (parent_word p ≡ n → ⊥) → is_parent p (n ∷ st) ≡ is_parent p st
unfolding is_parent
parent-other None n st h = refl
parent-other (Some q) n st h = rw (ne_eqb q.0 n h)

open-cond : (t : Bool) (a b : List ℕ) (k : ℕ) → length a ≤ k → length b ≤ k → length (cond t a b) ≤ k
open-cond true a b k h l = h
open-cond false a b k h l = l

open-length : (p : Option RowNumber) (st : List ℕ) → length (open_to p st) ≤ length st
unfolding open_to
open-length None st = omega arith
open-length (Some q) [] = omega arith
open-length (Some q) (n ∷ st) =
    let h = open-length (Some q) st in open-cond (eqb q.0 n) (n ∷ st) (open_to (Some q) st) (suc (length st)) (omega arith) (omega arith)

up_none : (st : List ℕ) → upscopes st st ≡ []
up_none st = rw (sub_self (length st))

up_one : (n : ℕ) (st : List ℕ) (p : Option RowNumber) → (parent_word p ≡ n → ⊥)
    → upscopes (n ∷ st) (open_to p (n ∷ st)) ≡ upscope ∷ upscopes st (open_to p st)
up_one n st p h =
    let l = open-length p st in
    let e : suc (length st) - length (open_to p st) ≡ suc (length st - length (open_to p st)) = omega arith in
    rw (open-other p n st h, e)

-- ---- a row whose parent is another than the innermost open scope
good-out : (r : Row) (rs : List Row) (i n : ℕ) (st : List ℕ) → (parent_in r ≡ n → ⊥) → is_good_from i (n ∷ st) (r ∷ rs) ≡ is_good_from i st (r ∷ rs)
unfolding is_good_from
good-out (Row.Scope p k t) rs i n st h = rw (open-other p n st h, parent-other p n st h)
good-out (Row.Var p v) rs i n st h = rw (open-other p n st h, parent-other p n st h)
good-out (Row.Comment p t) rs i n st h = rw (open-other p n st h, parent-other p n st h)
good-out Row.None rs i n st h = refl

row_out : (s : List ℕ) (r : Row) (rs : List Row) (i n : ℕ) (st : List ℕ) → (parent_in r ≡ n → ⊥) → is_good_from i st (r ∷ rs) ≡ true
    → row_meanings s i (n ∷ st) (r ∷ rs) ≡ upscope ∷ row_meanings s i st (r ∷ rs)
unfolding row_meanings is_good_from
row_out s (Row.Scope p k t) rs i n st h g = rw (up_one n st p h, open-other p n st h)
row_out s (Row.Var p v) rs i n st h g = rw (up_one n st p h, open-other p n st h)
row_out s (Row.Comment p t) rs i n st h g = rw (up_one n st p h, open-other p n st h)
row_out s Row.None rs i n st h g = absurd (false≢true g)

row-end : (s : List ℕ) (i n : ℕ) (st : List ℕ) → row_meanings s i (n ∷ st) [] ≡ upscope ∷ row_meanings s i st []
unfolding row_meanings
row-end s i n st = rw (sub-zero (suc (length st)), sub-zero (length st))

module _ (s table : List ℕ) (n i : ℕ) (st : List ℕ) where
  pub pop : (m : ℕ) → i ≤ n → (i < n → parent_at table i ≡ m → ⊥) → is_good_from i (m ∷ st) (rest table n i) ≡ true
      → (is_good_from i st (rest table n i) ≡ true)
      × (row_meanings s i (m ∷ st) (rest table n i) ≡ upscope ∷ row_meanings s i st (rest table n i))
  unfolding parent_at
  pop m h out g = elim (dec_lt i n) [
    | yes l ↦
        let q = sym (good-out (row_at table i) (rest table n (i + 1)) i m st (out l)) ∙ (rw (rest-cons table n i l) at g) in
        rw (rest-cons table n i l) (q, row_out s (row_at table i) (rest table n (i + 1)) i m st (out l) q)
    | no l ↦ let e : i ≡ n = omega arith in rw (e, rest-nil table n) (good-end n st, row-end s n m st)
  ]

  -- ---- a row whose parent is the innermost open scope
  module _ (l : i < n) (me : inner st ≡ parent_of (parent_at table i)) (g : is_good_from i st (rest table n i) ≡ true) where
    same : {p : Option RowNumber} → parent_of (parent_at table i) ≡ p → open_to p st ≡ st
    same e = ap (λ (q : Option RowNumber). open_to q st) (sym (me ∙ e)) ∙ open-inner st

    -- what is good of a row r is good of row i
    of_row : {r : Row} → row_at table i ≡ r → is_good_from i st (r ∷ rest table n (i + 1)) ≡ true
    of_row e = sym (rw (rest-cons table n i l, e)) ∙ g

    pub here-scope : {p : Option RowNumber} {k : ScopeType} {t : Text} → row_at table i ≡ Row.Scope p k t
        → (length st < 64) × (is_good_from (i + 1) (i ∷ st) (rest table n (i + 1)) ≡ true)
        × (row_meanings s i st (rest table n i) ≡ scope_def k (part s t) ∷ row_meanings s (i + 1) (i ∷ st) (rest table n (i + 1)))
    unfolding is_good_from row_meanings
    here-scope {p} e =
        let o = same (scope-parent table i e) in
        let a = both (is_parent p st && ltb (length st) 64) (is_good_from (i + 1) (i ∷ st) (rest table n (i + 1))) (rw o at (of_row e)) in (
          ltb-true (length st) 64 (both (is_parent p st) (ltb (length st) 64) a.0).1,
          a.1,
          rw (rest-cons table n i l, e, o, up_none st),
        )

    pub here-var : {p : Option RowNumber} {v : Var} → row_at table i ≡ Row.Var p v
        → (is_good_from (i + 1) st (rest table n (i + 1)) ≡ true)
        × (row_meanings s i st (rest table n i) ≡ var_meaning s v ∷ row_meanings s (i + 1) st (rest table n (i + 1)))
    unfolding is_good_from row_meanings
    here-var {p} e =
        let o = same (var-parent table i e) in (
          (both (is_parent p st) (is_good_from (i + 1) st (rest table n (i + 1))) (rw o at (of_row e))).1,
          rw (rest-cons table n i l, e, o, up_none st),
        )

    pub here-comment : {p : Option RowNumber} {t : Text} → row_at table i ≡ Row.Comment p t
        → (is_good_from (i + 1) st (rest table n (i + 1)) ≡ true)
        × (row_meanings s i st (rest table n i) ≡ remark comment (part s t) ∷ row_meanings s (i + 1) st (rest table n (i + 1)))
    unfolding is_good_from row_meanings
    here-comment {p} e =
        let o = same (comment-parent table i e) in (
          (both (is_parent p st) (is_good_from (i + 1) st (rest table n (i + 1))) (rw o at (of_row e))).1,
          rw (rest-cons table n i l, e, o, up_none st),
        )

    pub here-none : row_at table i ≡ Row.None → ⊥
    unfolding is_good_from
    here-none e = false≢true (of_row e)

-- ---- the whole table, and its end
top-parent : (p : Option RowNumber) → is_parent p [] ≡ true → parent_word p ≡ top
unfolding is_parent
top-parent None e = refl
top-parent (Some q) e = absurd (false≢true e)

good-top : (r : Row) (rs : List Row) (i : ℕ) → is_good_from i [] (r ∷ rs) ≡ true → parent_in r ≡ top
unfolding is_good_from
good-top (Row.Scope p k t) rs i g =
    let a = both (is_parent p [] && ltb (length (open_to p [])) 64) (is_good_from (i + 1) (i ∷ open_to p []) rs) g in
    top-parent p (both (is_parent p []) (ltb (length (open_to p [])) 64) a.0).0
good-top (Row.Var p v) rs i g = top-parent p (both (is_parent p []) (is_good_from (i + 1) (open_to p []) rs) g).0
good-top (Row.Comment p t) rs i g = top-parent p (both (is_parent p []) (is_good_from (i + 1) (open_to p []) rs) g).0
good-top Row.None rs i g = refl

row_last : (s : List ℕ) (i : ℕ) → row_meanings s i [] [] ≡ enddefinitions ∷ []
unfolding row_meanings
row_last s i = refl

pub top-end : (s table : List ℕ) (n i : ℕ) → i ≤ n → (i < n → parent_at table i ≡ top → ⊥) → is_good_from i [] (rest table n i) ≡ true
    → row_meanings s i [] (rest table n i) ≡ enddefinitions ∷ []
unfolding parent_at
top-end s table n i h out g = elim (dec_lt i n) [
  | yes l ↦ absurd (out l (good-top (row_at table i) (rest table n (i + 1)) i (rw (rest-cons table n i l) at g)))
  | no l ↦ let e : i ≡ n = omega arith in rw (e, rest-nil table n) (row_last s n)
]

pub good-parts : (table : List ℕ) (n : ℕ) → is_good_table (rows_of table n) ≡ true → (n ≤ 4096) × (is_good_from 0 [] (rest table n 0) ≡ true)
unfolding is_good_table
good-parts table n e =
    let a = both (leb (length (rows_of table n)) 4096) (is_good_from 0 [] (rows_of table n)) e in
    (omega (arith, leb-true (length (rows_of table n)) 4096 a.0, length-rows table 0 n), rw (rest_all table n) a.1)

-- a scope's number is no parent at top
pub scope-inner : (i : ℕ) (st : List ℕ) → i < top → inner (i ∷ st) ≡ parent_of i
unfolding parent_of
scope-inner i st h = rw (ne_eqb i top (λ e. omega (arith, e)))
