-- Goals of `fast::parse_timestamp` that the search leaves.
use Rattle.std.proofs.Common.{◌+◌, arith, Some}
use Rattle.parser_part.specs.FastWord.{FastNumber}
use Rattle.fast.proofs.Hits.{reads-time}
use Rattle.fast.proofs.parse_timestamp.Goals as goal
use Rattle.fast.proofs.parse_timestamp.Goals.{In-Some}

hit : (c : In-Some) → FastNumber c.args.input.now (c.args.at + 1) (Some (c.in-Some.t, c.in-Some.end))
hit c = rw c.in-Some.is at c.fast_number.ensures

pub returns-in-Some : goal.returns-in-Some
returns-in-Some c =
    let h = hit (goal.at.returns-in-Some c).In-Some in
    (reads-time _ _ _ h.0 _ c.requires.at_value h.1, omega (arith, h.0.few))

pub returns-in-None : goal.returns-in-None
returns-in-None c = (tt, tt)
