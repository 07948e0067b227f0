-- Goals of `fast::parse_vector` that the search leaves.
use Rattle.std.proofs.Common.{◌+◌, Some}
use Rattle.parser_part.specs.FastWord.{FastId}
use Rattle.fast.proofs.Hits.{reads-vector}
use Rattle.fast.proofs.parse_vector.Goals as goal
use Rattle.fast.proofs.parse_vector.Goals.{In-Some}

hit : (c : In-Some) → FastId c.args.input.now (c.values_end-stop.result + 1) (Some (c.in-Some.i, c.in-Some.end))
hit c = rw c.in-Some.is at c.fast_id.ensures

pub returns-in-Some : goal.returns-in-Some
returns-in-Some c = let h = hit (goal.at.returns-in-Some c).In-Some in reads-vector _ _ _ _ c.if-input-stop-ne32.false h.0 h.1 _ c.requires.at_value c.values_end-stop.ensures c.if-stop-at.false
