-- Goals of `find::seek` that the search leaves.
use mathlib.Core.Path.{sym, ◌∙◌}
use native.Mathlib.Omega.{arith}
use Rattle.rows.specs.Rows.{rows_of}
use Rattle.find.proofs.Finding.{sought-none, sought-some, name-count, left-length, last_name, next-name}
use Rattle.find.proofs.seek.Goals as goal

pub returns-then-path-eq0 : goal.returns-then-path-eq0
returns-then-path-eq0 c = sought-none _ _ _ _ _ c.if-path-eq0.true

pub loop-name-init : goal.loop-name-init
loop-name-init c = (omega arith, sought-some _ _ _ _ _ c.if-path-eq0.false)

pub slice_bounds-name-end : goal.slice_bounds-name-end
slice_bounds-name-end c = name-count _ _ c.name_len-len.ensures

pub returns-then-left-len : goal.returns-then-left-len
returns-then-left-len c =
    let a = c.args in
    let l = c.loop-name in
    sym (l.invariant.1 ∙ last_name a.input.now a.kind (rows_of a.rows.now a.count) l.parent a.path.now l.at c.name_len-len.result c.name_len-len.ensures c.if-left-len.true _ c.first_named.ensures)

pub loop-name-preserved : goal.loop-name-preserved
loop-name-preserved c =
    let a = c.args in
    let l = c.loop-name in
    let len = c.name_len-len.result in
    let rows = rows_of a.rows.now a.count in (
      omega (arith, l.invariant.0, c.if-left-len.false, left-length a.input.now a.kind rows l.parent a.path.now l.at len c.name_len-len.ensures),
      l.invariant.1 ∙ rw c.in_ok-n.was at (next-name a.input.now a.kind rows l.parent a.path.now l.at len c.name_len-len.ensures c.if-left-len.false c.first_named-in-loop-name.result c.first_named-in-loop-name.ensures),
    )

pub returns-in_err-n : goal.returns-in_err-n
returns-in_err-n c =
    let a = c.args in
    let l = c.loop-name in
    c.from_residual.ensures ∙ sym (l.invariant.1 ∙ rw c.in_err-n.was at (next-name a.input.now a.kind (rows_of a.rows.now a.count) l.parent a.path.now l.at c.name_len-len.result c.name_len-len.ensures c.if-left-len.false c.first_named-in-loop-name.result c.first_named-in-loop-name.ensures))
