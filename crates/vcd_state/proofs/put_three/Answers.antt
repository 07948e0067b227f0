-- Goals of `vcd_state::put_three` that the search leaves.
use native.Mathlib.Omega.{arith}
use Prim.Native.Nat.{◌+◌}
use lib.ListN.{set}
use lib.Seq.{lt-length-set}
use Rattle.vcd_state.proofs.Words.{three-stored}
use Rattle.vcd_state.proofs.put_three.Goals as goal

pub bounds-w-at-2 : goal.bounds-w-at-2
bounds-w-at-2 c = let a = c.args in lt-length-set a.w.now a.at a.a (omega (arith, c.requires))

pub bounds-w-at-3 : goal.bounds-w-at-3
bounds-w-at-3 c = let a = c.args in lt-length-set (set a.w.now a.at a.a) (a.at + 1) a.b (lt-length-set a.w.now a.at a.a (omega (arith, c.requires)))

pub returns : goal.returns
returns c = let a = c.args in three-stored a.w.now a.at a.a a.b a.c c.requires
