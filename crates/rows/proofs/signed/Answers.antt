-- Goals of `rows::signed` that the search leaves.
use mathlib.Core.Path.{sym}
use native.Mathlib.Omega.{arith}
use Rattle.rows.proofs.Words.{signed_is, signed-over, lower-fits, lower-narrow, lower-signed}
use Rattle.rows.proofs.signed.Goals as goal

pub returns-then-w-lt2147483648 : goal.returns-then-w-lt2147483648
returns-then-w-lt2147483648 c = signed_is _

pub returns-then-w-gt4294967295 : goal.returns-then-w-gt4294967295
returns-then-w-gt4294967295 c = sym (signed-over _ c.if-w-gt4294967295.true)

pub overflow_sub-result-2 : goal.overflow_sub-result-2
overflow_sub-result-2 c = lower-fits _ c.if-w-lt2147483648.false (omega (arith, c.if-w-gt4294967295.false))

pub overflow_cast-result-3 : goal.overflow_cast-result-3
overflow_cast-result-3 c = lower-narrow _ c.if-w-lt2147483648.false (omega (arith, c.if-w-gt4294967295.false))

pub returns : goal.returns
returns c = lower-signed _ c.if-w-lt2147483648.false (omega (arith, c.if-w-gt4294967295.false))
