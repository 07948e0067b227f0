-- Goals of `listing::time_at` that the search leaves.
use Rattle.fast.specs.Fast.{Hits}
use Rattle.fast.specs.declared.Fast.TheVariants.{Time}
use Rattle.listing.proofs.Passing.{reads-there, reads-once}
use Rattle.listing.proofs.time_at.Goals as goal
use Rattle.listing.proofs.time_at.Goals.{In-Time}

-- what a hit says
time : (c : In-Time)
    → let a = c.args in
    Hits a.input.now a.at (Time c.in-Time.t c.in-Time.field-1)
time c = rw c.in-Time.is at c.parse_short.ensures.0

pub returns-in-Time : goal.returns-in-Time
returns-in-Time c = λ v e r.
    let short = c.requires.0 in
    let h = reads-once _ _ _ _ r short _ _ (reads-there _ _ _ _ (time (goal.at.returns-in-Time c).In-Time) short) in
    cc
