-- Goals of `header::read_header` that the search leaves.
use mathlib.Core.Path.{refl, ◌∙◌}
use mathlib.Core.List.{[]}
use native.Mathlib.Omega.{arith}
use Rattle.parser.proofs.All.{less-left}
use Rattle.header.specs.Header.{header_of}
use Rattle.header.proofs.Levels.{keep-here}
use Rattle.header.proofs.Table.{settled}
use Rattle.header.proofs.read_header.Goals as goal

pub returns-in-Err : goal.returns-in-Err
returns-in-Err c =
    let l = c.loop-d in
    let a = c.args in
    let i = l.invariant in
    let g = rw c.in-Scope.is at c.take_item.ensures in
    let f = rw c.in-Err.is at c.parse_scope.ensures in
    let s = settled a.rows.now (header_of a.input.now a.c a.rows.now) l.header _ _ _ _
    (i.4 ∙ g.1.2 [] l.header (refl, refl) ∙ f.1 [] l.header refl) (omega (arith, f.0, i.1)) in
    record { answer = c.answer.ensures ∙ s.0; table = s.1 }

pub loop-d-smaller : goal.loop-d-smaller
loop-d-smaller c =
    let g = rw c.in-Other.is at c.take_item.ensures in
    less-left _ _ _ _ g.1

pub loop-d-preserved : goal.loop-d-preserved
loop-d-preserved c =
    let l = c.loop-d in
    let a = c.args in
    let i = l.invariant in
    let g = rw c.in-Other.is at c.take_item.ensures in
    let kept = rw c.in-On.is at (keep-here a.input.now c.capacity-cap.result l.cur c.in-Other.d l.rows l.n l.header c.in-Other.k g.1 g.2 c.keep.result c.keep.ensures) in
    (i.0, i.1, i.2, c.take_item.auto.rows ∙ i.3, rw g.0 (i.4 ∙ kept))

pub returns-in-Ends : goal.returns-in-Ends
returns-in-Ends c =
    let l = c.loop-d in
    let a = c.args in
    let i = l.invariant in
    let g = rw c.in-Other.is at c.take_item.ensures in
    let kept = rw c.in-Ends.is at (keep-here a.input.now c.capacity-cap.result l.cur c.in-Other.d l.rows l.n l.header c.in-Other.k g.1 g.2 c.keep.result c.keep.ensures) in
    let s = settled a.rows.now (header_of a.input.now a.c a.rows.now) l.header _ _ _ _ (i.4 ∙ kept) (omega (arith, i.2, i.1)) in
    record { answer = c.answer-in-Ends.ensures ∙ s.0; table = rw g.0 s.1 }

pub returns-in-Refused : goal.returns-in-Refused
returns-in-Refused c =
    let l = c.loop-d in
    let a = c.args in
    let i = l.invariant in
    let g = rw c.in-Refused.is at c.take_item.ensures in
    let s = settled a.rows.now (header_of a.input.now a.c a.rows.now) l.header _ _ _ _ (i.4 ∙ g [] l.header (refl, refl)) (omega (arith, i.2, i.1)) in
    record { answer = c.answer-in-Refused.ensures ∙ s.0; table = s.1 }
