-- Goals of `white_space::blank_at` that the search leaves.
use mathlib.Core.Path.{◌∙◌}
use Rattle.white_space.proofs.Blank.{at_place}
use Rattle.white_space.proofs.blank_at.Goals as goal

pub returns : goal.returns
returns c =
    let a = c.args in
    c.blank_of.ensures
    ∙ at_place a.s.now a.i c.byte_at.ensures c.byte_at-2.ensures c.byte_at-3.ensures
