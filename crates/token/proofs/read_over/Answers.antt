-- Goals of `token::read_over` that the search leaves.
use mathlib.Core.Path.{◌∙◌}
use Rattle.token.proofs.Reading.{after_next, after_none}
use Rattle.token.proofs.Texts.{over-next}
use Rattle.token.proofs.read_over.Goals as goal

pub loop-b-init : goal.loop-b-init
loop-b-init c = after_none _

pub byte_read-cur-requires : goal.byte_read-cur-requires
byte_read-cur-requires c =
    let x = over-next _ _ _ c.args.end _ c.requires.valid c.loop-b.invariant c.loop-b-test.true in
    record { place_lt_limit = x.0; line_bound = x.1 }

pub loop-b-preserved : goal.loop-b-preserved
loop-b-preserved c = c.byte_read-cur.ensures ∙ rw c.loop-b.invariant (after_next _ _ _ c.loop-b-test.true)
