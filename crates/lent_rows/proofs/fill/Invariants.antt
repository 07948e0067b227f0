-- What the loop of `lent_rows::fill` keeps.
use Rattle.std.proofs.Common.{◌≡◌}
use Rattle.lent_rows.specs.Rows.{fill_rows}
use Rattle.lent_rows.proofs.fill.Given as goal

abbrev pub invariant-loop-k : goal.invariant-loop-k
invariant-loop-k l = l.rows ≡ fill_rows 0 l.k l.words l.initial.rows
