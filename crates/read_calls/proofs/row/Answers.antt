-- Goals of `read_calls::row` that the search leaves.
use mathlib.Core.Path.{ap}
use mathlib.Core.Logic.{⊎_elim}
use Rattle.read_calls.specs.Reading.{is_row}
use Rattle.read_calls.proofs.Taken.{row_inside}
use Rattle.read_calls.proofs.row.Goals as goal

pub copy_row-requires : goal.copy_row-requires
copy_row-requires c =
    rw c.if-row-ne-WORDS.false (row_inside _ _ c.row_at.ensures (⊎_elim (λ s. ap is_row s.3) (⊎_elim (λ v. ap is_row v.2) (λ t. ap is_row t.2)) c.in-Scope.is))
