-- What the loops of `token::read_over` keep.
use mathlib.Core.Path.{◌≡◌}
use lib.ListN.{take}
use Rattle.token.specs.Read.{after}
use Rattle.token.proofs.read_over.Given as goal

abbrev pub invariant-loop-b : goal.invariant-loop-b
invariant-loop-b l = l.cur ≡ after (take l.b-index l.b-items) l.initial.cur
