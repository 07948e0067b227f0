-- Goals of `parser_change::parse_string` that the search leaves.
use Rattle.parser_part.proofs.Kept.{word_next}
use Rattle.parser_change.proofs.parse_string.Goals as goal

pub read_id-requires : goal.read_id-requires
read_id-requires c = word_next c.requires _ c.read_name.ensures c.in_ok-t.was
