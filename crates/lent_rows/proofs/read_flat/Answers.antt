-- Goals of `lent_rows::read_flat` that the search leaves.
use mathlib.Core.Path.{ap, sym, ◌∙◌}
use Prim.Native.Nat.{ℕ, ◌*◌}
use mathlib.Core.List.{List, ◌++◌}
use lib.ListN.{drop}
use Rattle.lent_rows.proofs.Flat.{whole}
use Rattle.lent_rows.proofs.read_flat.Goals as goal

pub returns : goal.returns
returns c =
    let a = c.args in
    rw (sym c.least-room.ensures) (c.read_header.ensures.answer, ap (λ (l : List ℕ). l ++ drop (10 * c.least-room.result) a.flat.now) c.read_header.ensures.table ∙ whole a.input.now a.c a.flat.now (10 * c.least-room.result))
