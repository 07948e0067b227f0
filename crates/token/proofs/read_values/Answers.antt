-- Goals of `token::read_values` that the search leaves.
use mathlib.Core.Path.{◌≡◌, refl, sym, ap, ◌∙◌}
use Prim.Native.Nat.{ℕ, ◌+◌}
use lib.ListN.{length}
use Rattle.token.specs.Read.{Valid, rest, values, token}
use Rattle.token.specs.Flat.{first_passed}
use Rattle.token.proofs.Tokens.{skipped-valid}
use Rattle.token.proofs.Words.{in-input, values-in}
use Rattle.token.proofs.read_values.Goals as goal
use Rattle.token.proofs.read_values.Goals.{After-skip-from, After-values_end-end}

-- the cursor after the blanks is valid
from-valid : (c : After-skip-from) → Valid c.args.input.now c.skip-from.result
from-valid c = rw c.skip-from.ensures (skipped-valid _ _ c.requires)

-- the values lie in the word
passes : (c : After-values_end-end) → c.values_end-end.result ≡ c.skip-from.result.place + length (first_passed values (rest c.args.input.now c.skip-from.result))
passes c = c.values_end-end.ensures ∙ ap (λ (k : ℕ). c.skip-from.result.place + k) (sym (values-in _))

pub values_end-end-requires : goal.values_end-end-requires
values_end-end-requires c = (from-valid (goal.at.values_end-end-requires c).After-skip-from).within

pub token_to-requires : goal.token_to-requires
token_to-requires c = record { valid = (in-input _ _ values _ (from-valid (goal.at.token_to-requires c).After-skip-from) (passes (goal.at.token_to-requires c).After-values_end-end)).0; place_le_end = (in-input _ _ values _ (from-valid (goal.at.token_to-requires c).After-skip-from) (passes (goal.at.token_to-requires c).After-values_end-end)).1 }

pub returns : goal.returns
unfolding token
returns c =
    rw (← c.skip-from.ensures) (c.token_to.ensures values refl (passes (goal.at.returns c).After-values_end-end))
