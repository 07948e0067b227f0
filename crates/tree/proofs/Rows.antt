-- The rows of a table from one on, their parents, and the scopes that stay open before one.
use Rattle.std.specs.Prelude.{Option, Some, None}
use Rattle.rows.specs.declared.RowNumber.{RowNumber}
use Prim.Native.Nat.{ℕ, zero, suc, ◌+◌, ◌-◌, ◌*◌, ◌/◌, ◌≤◌, ◌<◌}
use mathlib.Core.Path.{◌≡◌, refl, ap, subst}
use mathlib.Core.Bool.{true}
use mathlib.Core.List.{List, [], ◌∷◌}
use native.Mathlib.Omega.{arith}
use native.Mathlib.Nat.{sub_self, sub-zero}
use borrow.Author.Tests.{ne_eqb}
use lib.Dec.{ltb}
use lib.ListN.{length}
use Rattle.rows.specs.Good.{open_to, is_good_from}
use Rattle.rows.specs.Rows.{parent_word, parent_of, words_at, row_at, rows_from, rows_of}
use Rattle.rows.specs.declared.Row.{Row}
use Rattle.scope.specs.declared.ScopeType.{ScopeType}
use Rattle.scope.specs.declared.Var.{Var}
use Rattle.text.specs.declared.Text.{Text}
use Rattle.text.proofs.Lists.{by-test}
use Rattle.rows.proofs.Peeking.{word-of, row-cases}
use Rattle.tree.specs.Chain.{parent_at, rest}

-- ---- a row's parent is that of its word
unfoldable Named : Row → Type 0
Named (Row.Scope p k t) = parent_of (parent_word p) ≡ p
Named (Row.Var p v) = parent_of (parent_word p) ≡ p
Named (Row.Comment p t) = parent_of (parent_word p) ≡ p
Named Row.None = Unit {0}

module _ (w : ℕ) where
  twice : parent_of (parent_word (parent_of w)) ≡ parent_of w
  twice = ap parent_of (word-of w)

  named-scope : (k : ScopeType) (t : Text) → Named (Row.Scope (parent_of w) k t)
  unfolding Named
  named-scope k t = twice

  named-var : (v : Var) → Named (Row.Var (parent_of w) v)
  unfolding Named
  named-var v = twice

  named-comment : (t : Text) → Named (Row.Comment (parent_of w) t)
  unfolding Named
  named-comment t = twice

named_none : Named Row.None
unfolding Named
named_none = tt

named : (table : List ℕ) (i : ℕ) → Named (row_at table i)
unfolding row_at
named table i =
    by-test (ltb i (length table / 10))
    (λ e.
    rw e
    (row-cases Named (words_at table (10 * i)) (named-scope _ _ _) (λ _ _. named-var _ _) (named-comment _ _) named_none))
    (λ e. rw e named_none)

module _ (table : List ℕ) (i : ℕ) where
  pub scope-parent : {p : Option RowNumber} {k : ScopeType} {t : Text} → row_at table i ≡ Row.Scope p k t → parent_of (parent_at table i) ≡ p
  unfolding parent_at Named
  scope-parent e = rw e (subst Named e (named table i))

  pub var-parent : {p : Option RowNumber} {v : Var} → row_at table i ≡ Row.Var p v → parent_of (parent_at table i) ≡ p
  unfolding parent_at Named
  var-parent e = rw e (subst Named e (named table i))

  pub comment-parent : {p : Option RowNumber} {t : Text} → row_at table i ≡ Row.Comment p t → parent_of (parent_at table i) ≡ p
  unfolding parent_at Named
  comment-parent e = rw e (subst Named e (named table i))

-- ---- the rows from one on
pub rest-cons : (table : List ℕ) (n i : ℕ) → i < n → rest table n i ≡ row_at table i ∷ rest table n (i + 1)
unfolding rows_from
rest-cons table n i h = let e : n - i ≡ suc (n - (i + 1)) = omega arith in rw e

pub rest-nil : (table : List ℕ) (n : ℕ) → rest table n n ≡ []
unfolding rows_from
rest-nil table n = rw (sub_self n)

pub rest_all : (table : List ℕ) (n : ℕ) → rest table n 0 ≡ rows_of table n
rest_all table n = rw (sub-zero n)

pub length-rows : (table : List ℕ) (i k : ℕ) → length (rows_from table i k) ≡ k
unfolding rows_from
length-rows table i zero = refl
length-rows table i (suc k) = ap suc (length-rows table (i + 1) k)

-- ---- the scopes that stay open
pub open-other : (p : Option RowNumber) (n : ℕ) (st : List ℕ) → (parent_word p ≡ n → ⊥) → open_to p (n ∷ st) ≡ open_to p st
unfolding open_to
open-other None n st h = refl
open-other (Some q) n st h = rw (ne_eqb q.0 n h)

-- ---- no row is left
pub good-end : (i : ℕ) (st : List ℕ) → is_good_from i st [] ≡ true
unfolding is_good_from
good-end i st = refl

pub last_row : (table : List ℕ) (n i : ℕ) (st : List ℕ) → i ≤ n → n ≤ i → is_good_from i st (rest table n i) ≡ true
last_row table n i st h k = let e : i ≡ n = omega arith in rw (e, rest-nil table n) (good-end n st)
