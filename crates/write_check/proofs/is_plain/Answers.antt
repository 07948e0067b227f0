-- Goals of `write_check::is_plain` that the search leaves.
use Rattle.text.proofs.Printable.{plain-join}
use Rattle.write_check.proofs.Checks.{plain-clean}
use Rattle.write_check.proofs.is_plain.Goals as goal

pub returns : goal.returns
returns c =
    λ e.
    let l = c.loop-i in
    plain-clean _ (rw l.invariant.0 at (plain-join c.args.s.now _ _ _ _ l.invariant.2 (c.plain_eight-2.ensures e) c.loop-i-test.false))
