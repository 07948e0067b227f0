-- Goals of `number::digits_most` that the search leaves.
use mathlib.Core.Path.{sym, ◌∙◌}
use native.Mathlib.Omega.{arith}
use borrow.Author.Tests.{eqb-true, eqb-false, ltb-false}
use Rattle.number.proofs.Laws.{low_byte, high_byte}
use Rattle.number.proofs.Reading.{read_none, read-start, read-bad, read-large, read_more, read_done}
use Rattle.number.proofs.digits_most.Goals as goal
use Rattle.number.proofs.digits_most.Goals.{then-b-lt48-via-then-b-lt48, then-b-lt48-via-else-b-lt48+then-b-gt57, then-most-d-via-then-most-d, then-most-d-via-else-most-d+then-most-d-2}

pub returns-then-is_empty : goal.returns-then-is_empty
returns-then-is_empty c = read_none _ _ (eqb-true _ _ (sym c.is_empty.ensures ∙ c.if-is_empty.true))

pub loop-b-init : goal.loop-b-init
loop-b-init c = read-start _ _ (eqb-false _ _ (sym c.is_empty.ensures ∙ c.if-is_empty.false))

pub returns-then-b-lt48 : goal.returns-then-b-lt48
returns-then-b-lt48 c =
    read-bad _ _ _ _ c.loop-b.invariant c.loop-b-test.true
    (elim c.then-b-lt48.branch [ then-b-lt48-via-then-b-lt48 w ↦ low_byte _ w.if-b-lt48.true | then-b-lt48-via-else-b-lt48+then-b-gt57 w ↦ high_byte _ w.if-b-gt57.true ])

pub returns-then-most-d : goal.returns-then-most-d
returns-then-most-d c =
    read-large _ _ _ _ c.loop-b.invariant c.loop-b-test.true
    c.if-b-lt48.false c.if-b-gt57.false
    (elim c.then-most-d.branch [ then-most-d-via-then-most-d w ↦ omega arith | then-most-d-via-else-most-d+then-most-d-2 w ↦ omega arith ])

pub loop-b-preserved : goal.loop-b-preserved
loop-b-preserved c =
    read_more _ _ _ _ c.loop-b.invariant c.loop-b-test.true
    c.if-b-lt48.false c.if-b-gt57.false (omega (arith, ltb-false))

pub returns : goal.returns
returns c = read_done _ _ _ _ c.loop-b.invariant (omega arith)
