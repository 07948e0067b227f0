-- Goals of `value::vector::is_vector` that the search leaves.
use borrow.Author.Rules.{rules}
use borrow.Author.Tests.{tests}
use mathlib.Core.Path.{refl, ◌∙◌}
use Rattle.std.proofs.lemmas.Iterator.{YieldsList-from_slice}
use Rattle.std.proofs.lemmas.Iterator.Search.{all_from_yields_List}
use Rattle.text.proofs.Slices.{all_cases}
use Rattle.value.specs.Values.{is_value, are_values}
use Rattle.value.proofs.vector.is_vector.Goals as goal

pub returns : goal.returns
unfolding are_values
returns c =
    all_from_yields_List is_value _ _ _ c.all.ensures.ran (YieldsList-from_slice c.args.s.now cc) (λ x b q k. search (rules, tests))
    ∙ all_cases is_value are_values refl (λ b s. refl) c.args.s.now
