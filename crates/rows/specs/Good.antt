-- Good tables: each parent is top, the row before if that is a scope, or an ancestor of the row before; at most 64 scopes are nested,
-- and at most 4,096 rows.
use Rattle.rows.specs.declared.RowNumber.{RowNumber}
use Rattle.std.specs.Prelude.{ℕ, ◌+◌, Bool, true, false, cond, ◌&&◌, List, [], ◌∷◌, eqb, leb, ltb, length, Option, Some, None}
use Rattle.scope.specs.Limits.{most_levels, most_rows}
use Rattle.rows.specs.declared.Row.{Row}

-- the scopes that may be parents of the next row, innermost first: the row before if that is a scope, and its ancestors.
-- Does a parent stand among them?
unfoldable pub is_parent : Option RowNumber → List ℕ → Bool
is_parent None st = true
is_parent (Some p) [] = false
is_parent (Some p) (n ∷ st) = cond (eqb p.0 n) true (is_parent (Some p) st)

-- those that stay open: the parent and its ancestors
unfoldable pub open_to : Option RowNumber → List ℕ → List ℕ
open_to None st = []
open_to (Some p) [] = []
open_to (Some p) (n ∷ st) = cond (eqb p.0 n) (n ∷ st) (open_to (Some p) st)

-- the rows from number n on, where these may be parents
unfoldable pub is_good_from : ℕ → List ℕ → List Row → Bool
is_good_from n st [] = true
is_good_from n st (Row.Scope p k t ∷ rs) = is_parent p st && ltb (length (open_to p st)) most_levels && is_good_from (n + 1) (n ∷ open_to p st) rs
is_good_from n st (Row.Var p v ∷ rs) = is_parent p st && is_good_from (n + 1) (open_to p st) rs
is_good_from n st (Row.Comment p t ∷ rs) = is_parent p st && is_good_from (n + 1) (open_to p st) rs
is_good_from n st (Row.None ∷ rs) = false

unfoldable pub is_good_table : List Row → Bool
is_good_table rs = leb (length rs) most_rows && is_good_from 0 [] rs
