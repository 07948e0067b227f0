-- Goals of `timescale::TimescaleUnit::fraction` that the search leaves.
use Rattle.timescale.proofs.Units.{one-is}
use Rattle.timescale.proofs.TimescaleUnit.fraction.Goals as goal

pub returns : goal.returns
returns c = simp (c.divisor.ensures, one-is)
