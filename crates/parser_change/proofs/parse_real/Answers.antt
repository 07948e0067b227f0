-- Goals of `parser_change::parse_real` that the search leaves.
use Rattle.parser_part.proofs.Kept.{word_next}
use Rattle.parser_change.proofs.parse_real.Goals as goal

pub read_id-requires : goal.read_id-requires
read_id-requires c = word_next c.requires _ c.read_token_str.ensures c.in_ok-t.was
