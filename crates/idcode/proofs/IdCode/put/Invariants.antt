-- What the loops of `idcode::IdCode::put` keep.
use Rattle.text.proofs.Rows.{Copied}
use Rattle.idcode.specs.Id.{id_text}
use Rattle.idcode.proofs.Spelling.{Spelling}
use Rattle.idcode.proofs.IdCode.put.Given as goal

abbrev pub invariant-loop-rest : goal.invariant-loop-rest
invariant-loop-rest l = Spelling l.initial.rest l.rest l.n × Copied (id_text l.initial.rest) l.initial.out l.out l.n

abbrev pub decreases-loop-rest : goal.decreases-loop-rest
decreases-loop-rest l = l.rest
