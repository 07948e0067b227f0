-- Goals of `record::used::has_text` that the search leaves.
use mathlib.Core.Path.{◌≡◌}
use native.Mathlib.Omega.{arith}
use borrow.Author.Tests.{eq-eqb, ne_eqb, le-leb, lt-leb}
use Rattle.record.specs.Used.{has_text}
use Rattle.record.proofs.used.has_text.Goals as goal
use Rattle.record.proofs.used.has_text.Goals.{then-kind-le-VERSION, else-kind-le-VERSION}

pub returns-then-kind-eq-SCOPE : goal.returns-then-kind-eq-SCOPE
unfolding has_text
returns-then-kind-eq-SCOPE c =
    elim c.if-kind-le-VERSION.branch [
      | then-kind-le-VERSION w ↦ rw (w.t-3-is, le-leb _ 3 w.if-kind-le-VERSION.true)
      | else-kind-le-VERSION w ↦
          let is : c.args.kind ≡ 5 = omega arith in
          rw (w.t-3-is, lt-leb _ 3 w.if-kind-le-VERSION.false, eq-eqb _ 5 is)
    ]

pub returns-then-kind-ge-VECTOR : goal.returns-then-kind-ge-VECTOR
unfolding has_text
returns-then-kind-ge-VECTOR c = rw (lt-leb _ 3 c.if-kind-eq-SCOPE.false.0, ne_eqb _ 5 c.if-kind-eq-SCOPE.false.1, le-leb 11 _ c.if-kind-ge-VECTOR.true)

pub returns-else-kind-ge-VECTOR : goal.returns-else-kind-ge-VECTOR
unfolding has_text
returns-else-kind-ge-VECTOR c = rw (lt-leb _ 3 c.if-kind-eq-SCOPE.false.0, ne_eqb _ 5 c.if-kind-eq-SCOPE.false.1, lt-leb 11 _ c.if-kind-ge-VECTOR.false)
