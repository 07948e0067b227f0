-- Goals of `utf8::next` that the search leaves.
use Rattle.utf8.proofs.WellFormed.{lies_in, lies-below, lies-above, next-first, next-refused, next-taken}
use Rattle.utf8.proofs.next.Goals as goal
use Rattle.utf8.proofs.next.Goals.{then-b-d-via-then-b-d, then-b-d-via-else-b-d+then-d-b}

pub returns-then-d-eq0 : goal.returns-then-d-eq0
returns-then-d-eq0 c = next-first _ _ _ c.if-d-eq0.true c.lead.ensures

pub returns-then-b-d : goal.returns-then-b-d
returns-then-b-d c =
    next-refused _ _ _ c.if-d-eq0.false
    (elim c.then-b-d.branch [ then-b-d-via-then-b-d w ↦ lies-below _ _ w.if-b-d.true | then-b-d-via-else-b-d+then-d-b w ↦ lies-above _ _ w.if-d-b.true ])
    c.due_from.ensures

pub returns : goal.returns
returns c = next-taken _ _ _ c.if-d-eq0.false (lies_in _ _ c.if-b-d.false c.if-d-b.false) c.due_from-2.ensures
