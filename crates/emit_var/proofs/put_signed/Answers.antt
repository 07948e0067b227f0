-- Goals of `emit_var::put_signed` that the search leaves.
use mathlib.Core.Path.{ap}
use native.Mathlib.Omega.{arith}
use lib.ListN.{length}
use Rattle.text.specs.Bytes.{bytes}
use Rattle.number.proofs.Negating.{write-from-zero, signed_is}
use Rattle.emit_var.proofs.Putting.{both}
use Rattle.emit_var.proofs.put_signed.Goals as goal

-- not below zero
pub put_number-requires : goal.put_number-requires
put_number-requires c = rw (c.unsigned_abs-size.ensures.value, write-from-zero _ c.ranges.a c.if-a-ge0.true) c.requires

pub returns-then-a-ge0 : goal.returns-then-a-ge0
returns-then-a-ge0 c = rw (c.unsigned_abs-size.ensures.value, write-from-zero _ c.ranges.a c.if-a-ge0.true) at c.put_number.ensures

-- below zero
pub put_byte-n-requires : goal.put_byte-n-requires
put_byte-n-requires c = omega (arith, ap length (signed_is _ c.ranges.a c.if-a-ge0.false))

pub put_number-requires-2 : goal.put_number-requires-2
put_number-requires-2 c = rw c.unsigned_abs-size.ensures.value (omega (arith, ap length (signed_is _ c.ranges.a c.if-a-ge0.false)))

pub returns : goal.returns
returns c =
    both c.args.out.now c.args.at (bytes "-") _ (signed_is _ c.ranges.a c.if-a-ge0.false) c.requires c.put_byte-n.ensures
    (rw c.unsigned_abs-size.ensures.value at c.put_number-2.ensures)
