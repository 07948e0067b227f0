-- Goals of `idcode::IdCode::spell` that the search leaves.
use native.Mathlib.Omega.{arith}
use Rattle.text.proofs.Rows.{row-start}
use Rattle.idcode.proofs.Spelling.{spell-start, spell-more, row_next, row_done}
use Rattle.idcode.proofs.IdCode.spell.Goals as goal

pub loop-rest-init : goal.loop-rest-init
loop-rest-init c = (spell-start c.args.self.0 (omega arith), row-start _)

pub loop-rest-preserved : goal.loop-rest-preserved
loop-rest-preserved c = let i = c.loop-rest.invariant in (spell-more _ _ _ i.0 c.if-rest-lt94.false, row_next _ _ _ i.0 i.1)

pub returns : goal.returns
returns c = let i = c.loop-rest.invariant in row_done _ _ _ i.0 i.1 c.if-rest-lt94.true
