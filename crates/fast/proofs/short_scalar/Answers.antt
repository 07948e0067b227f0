-- Goals of `fast::short_scalar` that the search leaves.
use Rattle.std.proofs.Common.{arith}
use Rattle.fast.proofs.Short.{scalar-one}
use Rattle.fast.proofs.short_scalar.Goals as goal

pub returns-then-ends : goal.returns-then-ends
returns-then-ends c =
    let blank = c.ends.ensures c.if-ends.true in (
      scalar-one _ _ _ (omega arith) c.requires.at_value (omega (arith, c.wide.ensures, c.wrapping_sub_u64-i.ensures))
          c.if-i-gt93.false blank,
      omega arith,
    )
