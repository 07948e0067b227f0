-- Goals of `token::read_token` that the search leaves.
use Rattle.token.specs.Read.{Valid, most}
use Rattle.token.specs.Flat.{first_passed}
use Rattle.token.proofs.Tokens.{skipped-valid}
use Rattle.token.proofs.Words.{in-input}
use Rattle.token.proofs.read_token.Goals as goal
use Rattle.token.proofs.read_token.Goals.{After-skip-from}

-- the cursor after the blanks is valid
from-valid : (c : After-skip-from) → Valid c.args.input.now c.skip-from.result
from-valid c = rw c.skip-from.ensures (skipped-valid _ _ c.requires)

pub word_end-end-requires : goal.word_end-end-requires
word_end-end-requires c = (from-valid (goal.at.word_end-end-requires c).After-skip-from).within

pub token_to-requires : goal.token_to-requires
unfolding first_passed
token_to-requires c = record { valid = (in-input _ _ (most c.args.limit) _ (from-valid (goal.at.token_to-requires c).After-skip-from) c.word_end-end.ensures).0; place_le_end = (in-input _ _ (most c.args.limit) _ (from-valid (goal.at.token_to-requires c).After-skip-from) c.word_end-end.ensures).1 }
