-- What the loops of `idcode::IdCode::spell` keep.
use Rattle.text.proofs.Rows.{Row}
use Rattle.idcode.specs.Id.{id_text}
use Rattle.idcode.proofs.Spelling.{Spelling}
use Rattle.idcode.proofs.IdCode.spell.Given as goal

abbrev pub invariant-loop-rest : goal.invariant-loop-rest
invariant-loop-rest l = Spelling l.initial.rest l.rest l.n × Row (id_text l.initial.rest) l.bytes l.n

abbrev pub decreases-loop-rest : goal.decreases-loop-rest
decreases-loop-rest l = l.rest
