-- Goals of `write_check::is_plain_few` that the search leaves.
use Prim.Native.Nat.{◌<◌}
use borrow.Author.Tests.{tests}
use Rattle.std.proofs.Common.{rules}
use Rattle.std.proofs.lemmas.Iterator.{YieldsList-from_slice, cases_from_all}
use Rattle.write_check.proofs.Checks.{plain-clean}
use Rattle.write_check.proofs.is_plain_few.Goals as goal

pub returns : goal.returns
returns c =
    λ e.
    let all = cases_from_all _ _ c.all.result (λ b. (32 < b) × (b < 127)) (λ b. Unit {0}) c.all.ensures.ran (YieldsList-from_slice c.args.s.now cc) (λ x q k. search (rules, tests)) (λ x q k. search rules) in
    plain-clean _ (λ i l g. (rw e at all) i 0 l g)
