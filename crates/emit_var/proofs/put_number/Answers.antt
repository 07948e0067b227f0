-- Goals of `emit_var::put_number` that the search leaves.
use mathlib.Core.Path.{ap}
use native.Mathlib.Omega.{arith}
use lib.ListN.{length}
use Rattle.number.proofs.Writing.{one-digit, length-one}
use Rattle.emit_var.proofs.Putting.{both, two_digits, part-full}
use Rattle.emit_var.proofs.put_number.Goals as goal

pub put_byte-requires : goal.put_byte-requires
put_byte-requires c = omega (arith, length-one c.args.n c.if-n-lt10.true)

pub returns-then-n-lt10 : goal.returns-then-n-lt10
returns-then-n-lt10 c =
    let x = c.args in
    rw (one-digit x.n c.if-n-lt10.true) c.put_byte.ensures

-- two digits
pub put_byte-o-requires : goal.put_byte-o-requires
put_byte-o-requires c =
    omega (arith, ap length (two_digits _ c.if-n-lt10.false c.if-n-lt100.true), c.requires)

pub put_byte-requires-then-n-lt100 : goal.put_byte-requires-then-n-lt100
put_byte-requires-then-n-lt100 c =
    omega (arith, ap length (two_digits _ c.if-n-lt10.false c.if-n-lt100.true), c.requires)

pub returns-then-n-lt100 : goal.returns-then-n-lt100
returns-then-n-lt100 c =
    both c.args.out.now c.args.at _ _ (two_digits _ c.if-n-lt10.false c.if-n-lt100.true) c.requires c.put_byte-o.ensures
    c.put_byte-then-n-lt100.ensures

pub returns-in-None : goal.returns-in-None
returns-in-None c = part-full _ c.args.out.now c.args.at c.requires c.put_decimal.ensures c.in-None.is
