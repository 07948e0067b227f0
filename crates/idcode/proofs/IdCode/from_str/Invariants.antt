-- What the loops of `idcode::IdCode::from_str` keep.
use Prim.Native.Nat.{◌-◌}
use lib.ListN.{length}
use Rattle.idcode.proofs.Reading.{ReadFrom}
use Rattle.idcode.proofs.IdCode.from_str.Given as goal

abbrev pub invariant-loop-b : goal.invariant-loop-b
invariant-loop-b l = ReadFrom l.s (length l.s - length l.yielded) l.sum
