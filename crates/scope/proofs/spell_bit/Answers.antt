-- Goals of `scope::spell_bit` that the search leaves.
use Rattle.scope.proofs.Spelling.{bit-spelled}
use Rattle.scope.proofs.spell_bit.Goals as goal

pub returns : goal.returns
returns c =
    bit-spelled _ c.ranges.n c.decimal_i32.ensures c.spell.ensures c.join-end.ensures c.spell-2.ensures
    c.join.ensures
