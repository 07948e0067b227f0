-- Goals of `fast::parse_scalar` that the search leaves.
use Rattle.std.proofs.Common.{◌+◌, Some}
use Rattle.parser_part.specs.FastWord.{FastId}
use Rattle.fast.proofs.Hits.{reads-scalar}
use Rattle.fast.proofs.parse_scalar.Goals as goal
use Rattle.fast.proofs.parse_scalar.Goals.{In-Some}

hit : (c : In-Some) → FastId c.args.input.now (c.args.at + 1) (Some (c.in-Some.i, c.in-Some.end))
hit c = rw c.in-Some.is at c.fast_id.ensures

pub returns-in-Some : goal.returns-in-Some
returns-in-Some c = let h = hit (goal.at.returns-in-Some c).In-Some in reads-scalar _ _ _ h.0 _ c.requires.at_value h.1
