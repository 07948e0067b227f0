-- Goals of `listing::so_far` that the search leaves.
use mathlib.Core.Path.{refl, sym, ◌∙◌}
use Rattle.listing.proofs.so_far.Goals as goal

pub returns-then-last-input : goal.returns-then-last-input
returns-then-last-input c = (refl, λ u h. let x = h.1 c.if-last-input.true in c.time_at-since.ensures x.0 x.1 x.2 ∙ sym x.3)
