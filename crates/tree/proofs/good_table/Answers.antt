-- Goals of `tree::good_table` that the search leaves.
use mathlib.Core.Path.{sym, ◌∙◌}
use native.Mathlib.Omega.{arith}
use Rattle.tree.proofs.Rows.{last_row}
use Rattle.tree.proofs.Chains.{too_many, good_start, base-start, under-start, row-off, row_on}
use Rattle.tree.proofs.good_table.Goals as goal

pub returns-then-n-gt-MOST_ROWS : goal.returns-then-n-gt-MOST_ROWS
returns-then-n-gt-MOST_ROWS c = sym (too_many _ _ c.if-n-gt-MOST_ROWS.true)

pub loop-i-init : goal.loop-i-init
loop-i-init c = (omega arith, base-start _, under-start _, good_start _ _ c.if-n-gt-MOST_ROWS.false)

pub stand-requires : goal.stand-requires
stand-requires c = let l = c.loop-i in (omega arith, l.invariant.0, l.invariant.1, l.invariant.2)

pub returns-in-None : goal.returns-in-None
returns-in-None c =
    let l = c.loop-i in
    sym (l.invariant.3 ∙ row-off _ _ _ _ _ c.loop-i-test.true (rw c.in-None.is at c.stand.ensures))

pub loop-i-preserved : goal.loop-i-preserved
loop-i-preserved c =
    let l = c.loop-i in
    let x = rw c.in-Some.is at c.stand.ensures in
    (x.deep, x.ends, x.under, l.invariant.3 ∙ row_on _ _ _ _ _ c.loop-i-test.true x)

pub returns : goal.returns
returns c =
    let l = c.loop-i in
    sym (l.invariant.3 ∙ last_row _ _ _ _ (omega arith) c.loop-i-test.false)
