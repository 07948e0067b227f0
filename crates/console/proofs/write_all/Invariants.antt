-- What is left to write gets shorter.
use Rattle.std.proofs.Common.{length}
use Rattle.console.proofs.write_all.Given as goal

abbrev pub decreases-loop-rest : goal.decreases-loop-rest
decreases-loop-rest g l = length l.rest
