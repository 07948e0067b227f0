-- What the loop of `unit_tests::show_codes` keeps.
use Rattle.std.proofs.Common.{◌≤◌}
use Rattle.unit_tests.proofs.show_codes.Given as goal

abbrev pub invariant-loop-i : goal.invariant-loop-i
invariant-loop-i l = l.back ≤ l.i
