-- Goals of `rows::peek::parent_at` that the search leaves.
use Prim.Native.Nat.{◌/◌, ◌<◌}
use mathlib.Core.Path.{sym, ◌∙◌}
use lib.ListN.{length}
use Rattle.rows.proofs.Peeking.{row-held}
use borrow.Author.Rules.{rules}
use Rattle.rows.proofs.peek.parent_at.Goals as goal
use Rattle.rows.proofs.peek.parent_at.Goals.{Else-kind_at-eq0}

-- row i is one, and so it stands in the table
inside : (c : Else-kind_at-eq0) → c.args.i < length c.args.rows.now / 10
inside c = (row-held _ _ (λ e. c.if-kind_at-eq0.false (c.kind_at.ensures ∙ e))).0

pub overflow_mul-result : goal.overflow_mul-result
overflow_mul-result c = let h = inside (goal.at.overflow_mul-result c).Else-kind_at-eq0 in search rules

pub overflow_add-result : goal.overflow_add-result
overflow_add-result c = let h = inside (goal.at.overflow_add-result c).Else-kind_at-eq0 in search rules

pub offset_bounds-rows-i : goal.offset_bounds-rows-i
offset_bounds-rows-i c = let h = inside (goal.at.offset_bounds-rows-i c).Else-kind_at-eq0 in search rules

pub bounds-rows-i : goal.bounds-rows-i
bounds-rows-i c = let h = inside (goal.at.bounds-rows-i c).Else-kind_at-eq0 in search rules

pub returns : goal.returns
returns c = sym (row-held _ _ (λ e. c.if-kind_at-eq0.false (c.kind_at.ensures ∙ e))).1
