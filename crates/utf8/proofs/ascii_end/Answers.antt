-- Goals of `utf8::ascii_end` that the search leaves.
use borrow.Author.Rules.{rules}
use borrow.Author.Tests.{tests}
use lib.Dec.{ltb}
use mathlib.Core.Path.{◌∙◌}
use Rattle.std.proofs.lemmas.Iterator.{YieldsList-from_slice}
use Rattle.std.proofs.lemmas.Iterator.Search.{position_from_yields_List}
use Rattle.text.proofs.Slices.{position_or_end}
use Rattle.utf8.proofs.WellFormed.{ascii-passed}
use Rattle.utf8.proofs.ascii_end.Goals as goal

pub returns : goal.returns
returns c =
    let s = c.args.s.now in
    let e =
    position_or_end (ltb 127) s c.position.result
    (position_from_yields_List (ltb 127) _ _ _ c.position.ensures.ran (YieldsList-from_slice s cc) (λ x b q k. search (rules, tests))) in
    rw (c.unwrap_or.ensures ∙ e) (ascii-passed s)
