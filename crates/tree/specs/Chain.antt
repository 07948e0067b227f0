-- The open scopes as a chain of parents in the table itself: what the private functions that judge a table promise.
use Rattle.tree.specs.declared.Spot.{Spot}
use Rattle.std.specs.Prelude.{ℕ, zero, suc, ◌+◌, ◌-◌, ◌≤◌, ◌<◌, ◌≡◌, Bool, false, ◌&&◌, List, [], ◌∷◌, eqb, Option, Some, None}
use Rattle.scope.specs.Limits.{most_levels}
use Rattle.rows.specs.Good.{open_to, is_good_from}
use Rattle.rows.specs.Rows.{top, parent_of, row_at, rows_from}
use Rattle.rows.specs.declared.Row.{Row}
use Rattle.rows.specs.Peek.{kind_of, parent_in}

-- the rows from row i on
abbrev pub rest : List ℕ → ℕ → ℕ → List Row
rest table n i = rows_from table i (n - i)

unfoldable pub parent_at : List ℕ → ℕ → ℕ
parent_at table i = parent_in (row_at table i)

-- is row i a variable of the scope p?
abbrev pub is_var_of : List ℕ → ℕ → ℕ → Bool
is_var_of table i p = eqb (kind_of (row_at table i)) 2 && eqb (parent_at table i) p

-- d scopes, innermost first, of which the first is `cur` and each next is the parent of the one before
unfoldable pub chain : List ℕ → ℕ → ℕ → List ℕ
chain table cur zero = []
chain table cur (suc d) = cur ∷ chain table (parent_at table cur) d

-- the parent of the outermost
unfoldable pub base : List ℕ → ℕ → ℕ → ℕ
base table cur zero = cur
base table cur (suc d) = base table (parent_at table cur) d

-- each of them has a number
unfoldable pub Under : List ℕ → ℕ → ℕ → Type 0
Under table cur zero = Unit {0}
Under table cur (suc d) = (cur < top) × Under table (parent_at table cur) d

-- the chain from cur' is what stays open of the chain from `cur` before an item of p
pub record Unwound (table : List ℕ) (p cur d cur' d' : ℕ) : Type 0 where
  pub left : chain table cur' d' ≡ open_to (parent_of p) (chain table cur d)
  pub same : base table cur' d' ≡ base table cur d
  pub under : Under table cur' d'
  pub fewer : d' ≤ d

-- Row i, where the chain from `cur` is open: the rows are good if those after it are, where the chain from cur' is.
pub record StandsOn (table : List ℕ) (i cur d cur' d' : ℕ) : Type 0 where
  pub ends : base table cur' d' ≡ top
  pub under : Under table cur' d'
  pub deep : d' ≤ most_levels
  pub goes : (rs : List Row) → is_good_from i (chain table cur d) (row_at table i ∷ rs) ≡ is_good_from (i + 1) (chain table cur' d') rs

abbrev pub Stands : List ℕ → ℕ → ℕ → ℕ → Option Spot → Type 0
Stands table i cur d (Some spot) = StandsOn table i cur d spot.cur spot.depth
Stands table i cur d None = (rs : List Row) → is_good_from i (chain table cur d) (row_at table i ∷ rs) ≡ false
