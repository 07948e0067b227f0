-- Goals of `write_check::no_blank` that the search leaves.
use mathlib.Core.Path.{refl, ◌∙◌}
use mathlib.Core.Bool.{not, ◌&&◌}
use borrow.Author.Tests.{tests}
use Rattle.std.proofs.Common.{rules}
use Rattle.std.specs.List.{list_all}
use Rattle.std.proofs.lemmas.Iterator.{YieldsList-from_slice}
use Rattle.std.proofs.lemmas.Iterator.Search.{all_from_yields_List}
use Rattle.std.proofs.lemmas.List.Recursion.{same_from_clauses}
use Rattle.text.specs.Bytes.{is_blank, no_blank}
use Rattle.write_check.proofs.no_blank.Goals as goal

pub returns : goal.returns
unfolding no_blank
returns c =
    all_from_yields_List (λ b. not (is_blank b)) _ _ _ c.all.ensures.ran (YieldsList-from_slice c.args.s.now cc) (λ x b q k. search (rules, tests))
    ∙ same_from_clauses (list_all (λ b. not (is_blank b))) no_blank (λ b t. not (is_blank b) && t) refl (λ b s. refl) (λ b s. refl) c.args.s.now
