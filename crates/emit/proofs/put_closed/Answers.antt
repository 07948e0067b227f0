-- Goals of `emit::put_closed` that the search leaves.
use mathlib.Core.Path.{◌≡◌, ◌∙◌}
use mathlib.Core.List.{[], ◌∷◌}
use native.Mathlib.Omega.{arith}
use lib.ListN.{set}
use Rattle.text.specs.Bytes.{bytes}
use Rattle.command.specs.Words.{end_mark}
use Rattle.emit.specs.Put.{concat, stored}
use Rattle.emit.proofs.Storing.{stored-byte, stored_next, runs}
use Rattle.emit.proofs.put_closed.Goals as goal

pub returns : goal.returns
returns c =
    let x = c.args in
    let p = c.put_five-n in
    let o = x.out.now in
    let five = x.word.now ∷ x.gap.now ∷ x.a.now ∷ x.mid.now ∷ x.b.now ∷ [] in
    let first : set o 0 36 ≡ stored o 0 (bytes "$") = stored-byte o 0 36 (omega arith) in
    runs o (bytes "$" ∷ five) ((x.last ∷ []) ∷ end_mark ∷ bytes "\n" ∷ [])
    (omega (arith, p.ensures.0), p.ensures.1 ∙ rw first (stored_next o 0 (omega arith) (bytes "$") (concat five)))
    c.put_closing.ensures
