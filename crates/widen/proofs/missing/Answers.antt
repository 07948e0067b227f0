-- Goals of `widen::missing` that the search leaves.
use mathlib.Core.Path.{sym}
use native.Mathlib.Omega.{arith}
use Rattle.widen.proofs.Widening.{missing-wide, missing-narrow}
use Rattle.widen.proofs.missing.Goals as goal

pub returns-then-width-gt1024 : goal.returns-then-width-gt1024
returns-then-width-gt1024 c = sym (missing-wide _ _ c.if-width-gt1024.true)

pub returns-then-w-n : goal.returns-then-w-n
returns-then-w-n c = let a = c.args in omega (arith, missing-narrow a.width a.n c.if-width-gt1024.false)

pub returns : goal.returns
returns c = let a = c.args in sym (missing-narrow a.width a.n c.if-width-gt1024.false)
