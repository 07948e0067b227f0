-- Goals of `token::word_end` that the search leaves.
use Prim.Native.Nat.{◌-◌}
use borrow.Author.Rules.{rules}
use borrow.Author.Tests.{tests}
use Rattle.std.proofs.lemmas.Iterator.{YieldsList-from_slice}
use Rattle.std.proofs.lemmas.Iterator.Search.{position_from_yields_List}
use Rattle.text.specs.Bytes.{is_blank}
use Rattle.token.proofs.Words.{Blank, blank-at, no-blank}
use Rattle.token.proofs.word_end.Goals as goal
use Rattle.token.proofs.word_end.Goals.{After-position}

found : (c : After-position) → Blank c.args.input.now c.args.at (c.stop_at-stop.result - c.args.at) c.position.result
found c = position_from_yields_List is_blank _ _ _ c.position.ensures.ran (YieldsList-from_slice _ cc) (λ x b q k. search (rules, tests))

pub returns-in-Some : goal.returns-in-Some
returns-in-Some c =
    (blank-at _ _ _ _ c.requires c.stop_at-stop.ensures _ (found (goal.at.returns-in-Some c).After-position) _ c.in-Some.is).1

pub returns-in-None : goal.returns-in-None
returns-in-None c = no-blank _ _ _ _ c.requires c.stop_at-stop.ensures _ (found (goal.at.returns-in-None c).After-position) c.in-None.is
