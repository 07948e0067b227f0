-- Goals of `command::find_end` that the search leaves.
use mathlib.Core.Path.{◌≡◌}
use mathlib.Core.Bool.{true, false}
use lib.ListN.{drop}
use borrow.Author.Tests.{tests}
use Rattle.std.proofs.Common.{rules}
use Rattle.std.proofs.lemmas.Iterator.{first_from_Range}
use Rattle.text.specs.Bytes.{starts}
use Rattle.command.specs.Words.{end_mark}
use Rattle.command.proofs.Ends.{end_found}
use Rattle.command.proofs.find_end.Goals as goal

pub returns : goal.returns
returns c =
    end_found c.args.s.now c.find.result
    (first_from_Range _ _ _ c.find.result (λ i. starts end_mark (drop i c.args.s.now) ≡ true) (λ i. starts end_mark (drop i c.args.s.now) ≡ false)
    c.find.ensures.ran (λ x q k. search (rules, tests)) (λ x q k. search (rules, tests)))
