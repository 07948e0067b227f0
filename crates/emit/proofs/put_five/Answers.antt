-- Goals of `emit::put_five` that the search leaves.
use mathlib.Core.List.{[], ◌∷◌}
use native.Mathlib.Omega.{arith}
use Rattle.emit.proofs.Storing.{run}
use Rattle.emit.proofs.put_five.Goals as goal

pub returns : goal.returns
returns c =
    let x = c.args in
    run x.out.now x.at (omega arith) (x.a.now ∷ x.b.now ∷ x.c.now ∷ x.d.now ∷ x.e.now ∷ []) _ _ (omega arith) (cc)
