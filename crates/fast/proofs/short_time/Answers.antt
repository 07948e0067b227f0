-- Goals of `fast::short_time` that the search leaves.
use Rattle.std.proofs.Common.{arith}
use Rattle.fast.proofs.Short.{time-eight}
use Rattle.fast.proofs.short_time.Goals as goal

pub eight_value-requires : goal.eight_value-requires
eight_value-requires c = (omega arith, c.eight.ensures c.if-eight.true)

pub returns-then-ends : goal.returns-then-ends
returns-then-ends c =
    let digits = c.eight.ensures c.if-eight.true in
    let blank = c.ends.ensures c.if-ends.true in
    (rw c.eight_value.ensures (time-eight c.args.input.now c.args.at (omega arith) c.requires.at_value digits blank), omega arith)
