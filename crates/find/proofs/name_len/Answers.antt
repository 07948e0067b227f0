-- Goals of `find::name_len` that the search leaves.
use mathlib.Core.Path.{◌≡◌, ◌∙◌}
use mathlib.Core.Logic.{◌≢◌}
use borrow.Author.Tests.{tests}
use Rattle.std.proofs.Common.{rules}
use Rattle.std.proofs.lemmas.Iterator.{IsFirst-from_position, YieldsList-from_slice}
use Rattle.scope.proofs.Splitting.{up-length}
use Rattle.find.proofs.name_len.Goals as goal

pub returns : goal.returns
returns c =
    c.unwrap_or.ensures
    ∙ up-length 32 _ _
    (IsFirst-from_position _ _ _ (λ b. b ≡ 32) (λ b. b ≢ 32) c.position.ensures.ran (YieldsList-from_slice c.args.s.now cc)
    (λ x q k. search (rules, tests)) (λ x q k. search (rules, tests)))
