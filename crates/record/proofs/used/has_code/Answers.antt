-- Goals of `record::used::has_code` that the search leaves.
use borrow.Author.Tests.{le-leb, lt-leb}
use Rattle.record.specs.Used.{has_code}
use Rattle.record.proofs.used.has_code.Goals as goal

pub returns-then-kind-ge-SCALAR : goal.returns-then-kind-ge-SCALAR
unfolding has_code
returns-then-kind-ge-SCALAR c = rw (le-leb 10 _ c.if-kind-ge-SCALAR.true)

pub returns-else-kind-ge-SCALAR : goal.returns-else-kind-ge-SCALAR
unfolding has_code
returns-else-kind-ge-SCALAR c = rw (lt-leb 10 _ c.if-kind-ge-SCALAR.false)
