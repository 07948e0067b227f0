-- Goals of `list_step::first` that the search leaves.
use Rattle.list_step.proofs.first.Goals as goal

pub returns : goal.returns
returns c = rw c.skip-d.ensures
