-- Goals of `write_header::write_date` that the search leaves.
use native.Mathlib.Omega.{arith}
use Rattle.write_header.proofs.Places.{placed}
use Rattle.write_header.proofs.write_date.Goals as goal

pub write_one-requires : goal.write_one-requires
write_one-requires c = (omega arith, placed _ _ c.requires.0 (rw c.in-Some.is at c.requires.1))
