-- Goals of `fast::ends` that the search leaves.
use Rattle.std.proofs.Common.{eqb-true}
use Rattle.text.specs.Bytes.{is_blank}
use Rattle.fast.proofs.ends.Goals as goal

pub returns-then-b-eq32 : goal.returns-then-b-eq32
unfolding is_blank
returns-then-b-eq32 c = λ _. rw c.if-b-eq32.true

pub returns-else-b-eq32 : goal.returns-else-b-eq32
unfolding is_blank
returns-else-b-eq32 c = λ e. rw (eqb-true c.args.b 10 e)
