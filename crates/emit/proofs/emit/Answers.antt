-- Goals of `emit::emit` that the search leaves.
use native.Mathlib.Nat.{zero-add}
use mathlib.Core.List.{[], ◌∷◌}
use Rattle.emit.proofs.Storing.{fits-yes, fits-no, lay-none, lay_done}
use Rattle.emit.proofs.emit.Goals as goal

pub returns-then-not-fits : goal.returns-then-not-fits
returns-then-not-fits c =
    let x = c.args in
    lay-none x.a.now (x.b.now ∷ x.c.now ∷ x.d.now ∷ x.e.now ∷ []) x.out.now (fits-no _ _ c.fits.ensures c.if-not-fits.true-raw)

pub returns : goal.returns
returns c =
    let x = c.args in
    lay_done x.a.now (x.b.now ∷ x.c.now ∷ x.d.now ∷ x.e.now ∷ []) x.out.now (fits-yes _ _ c.fits.ensures c.if-not-fits.false-raw)
    (rw zero-add at c.put_five.ensures)
