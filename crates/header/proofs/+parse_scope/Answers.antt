-- Goals of `header::parse_scope` that the search leaves.
use Prim.Native.Nat.{ℕ}
use mathlib.Core.Path.{◌≡◌, ◌∙◌}
use lib.ListN.{length}
use Rattle.header.proofs.Levels.{Reached, reached-vars, reached-leaf, reached-scope, ends-other, ends-refused, ends-within}
use Rattle.header.proofs.+parse_scope.Goals as goal
use Rattle.header.proofs.+parse_scope.Goals.{After-take_vars-vars}

-- after the variables: the table's length, and what is reached
past-vars : (t : ℕ) (c : After-take_vars-vars t) →
    let a = c.args in
    let v = c.take_vars-vars.result in
    let m = c.take_vars-vars.new.rows in
    (length m ≡ length a.rows.now)
    × Reached a.input.now a.cap a.parent a.levels a.from a.rows.now a.made v.cursor m v.count
past-vars t c = let i = c.loop-d.invariant in (c.take_vars-vars.auto.rows ∙ i.0, reached-vars i.1 _ _ _ c.take_vars-vars.ensures)

pub loop-d-preserved-in-Leaf : goal.loop-d-preserved-in-Leaf
loop-d-preserved-in-Leaf t c =
    let b = past-vars t (goal.at.loop-d-preserved-in-Leaf t c).After-take_vars-vars in
    let g = rw c.in-Leaf.is at c.take_item.ensures in
    (c.take_item.auto.rows ∙ b.0, reached-leaf b.1 _ _ g)

pub loop-d-preserved : goal.loop-d-preserved
loop-d-preserved t c =
    let b = past-vars t (goal.at.loop-d-preserved t c).After-take_vars-vars in
    let g = rw c.in-Scope.is at c.take_item.ensures in
    let f = rw c.in-Ok.is at c.parse_scope.ensures in
    (c.parse_scope.auto.rows ∙ c.take_item.auto.rows ∙ b.0, reached-scope b.1 _ _ _ _ _ g f)

pub returns-in-Err : goal.returns-in-Err
returns-in-Err t c =
    let g = rw c.in-Scope.is at c.take_item.ensures in
    let f = rw c.in-Err.is at c.parse_scope.ensures in
    ends-within (past-vars t (goal.at.returns-in-Err t c).After-take_vars-vars).1 _ _ _ _ _ _ _ g f

pub returns-in-Other : goal.returns-in-Other
returns-in-Other t c =
    let g = rw c.in-Other.is at c.take_item.ensures in
    ends-other (past-vars t (goal.at.returns-in-Other t c).After-take_vars-vars).1 _ _ _ _ g c.close.ensures

pub returns-in-Refused : goal.returns-in-Refused
returns-in-Refused t c =
    let g = rw c.in-Refused.is at c.take_item.ensures in
    ends-refused (past-vars t (goal.at.returns-in-Refused t c).After-take_vars-vars).1 _ _ _ _ g
