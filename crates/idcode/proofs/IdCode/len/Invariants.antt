-- What the loops of `idcode::IdCode::len` keep.
use Prim.Native.Nat.{◌+◌}
use mathlib.Core.Path.{◌≡◌}
use lib.ListN.{length}
use Rattle.idcode.specs.Id.{id_text}
use Rattle.idcode.proofs.IdCode.len.Given as goal

abbrev pub invariant-loop-rest : goal.invariant-loop-rest
invariant-loop-rest l = l.n + length (id_text l.rest) ≡ length (id_text l.initial.rest) + 1

abbrev pub decreases-loop-rest : goal.decreases-loop-rest
decreases-loop-rest l = l.rest
