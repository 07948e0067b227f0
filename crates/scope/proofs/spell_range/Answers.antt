-- Goals of `scope::spell_range` that the search leaves.
use Rattle.scope.proofs.Spelling.{range-spelled}
use Rattle.scope.proofs.spell_range.Goals as goal

pub returns : goal.returns
returns c =
    range-spelled _ _ c.ranges.msb c.ranges.lsb
    c.spell.ensures c.decimal_i32.ensures c.join-low.ensures
    c.decimal_i32-2.ensures c.join-both.ensures
    c.spell-2.ensures c.join-end.ensures
    c.spell-3.ensures c.join.ensures
