-- Goals of `real::is_exponent` that the search leaves.
use Prim.Native.Nat.{◌<◌}
use mathlib.Core.Path.{◌≡◌}
use mathlib.Core.Bool.{true}
use native.Mathlib.Omega.{arith}
use lib.ListN.{length, get_or, drop}
use Rattle.std.proofs.lemmas.Grind.{common_steps}
use Rattle.text.specs.Bytes.{bytes, has}
use Rattle.text.proofs.Lists.{take_rest}
use Rattle.real.specs.Real.{unsigned}
use Rattle.real.proofs.Reals.{exponent_some}
use Rattle.real.proofs.is_exponent.Goals as goal

pub returns-then-not-is_empty : goal.returns-then-not-is_empty
unfolding has
returns-then-not-is_empty c =
    let e : has (bytes "eE") (get_or c.args.s.now 0 0) ≡ true = grind (arith, common_steps) in
    let l : 0 < length c.args.s.now = omega arith in
    let r : c.unsigned-digits.result.now ≡ unsigned (drop 1 c.args.s.now) = rw (take_rest c.args.s.now 1) at c.unsigned-digits.ensures in
    rw (exponent_some c.args.s.now l e, ← r) (grind (arith, common_steps))
