-- Goals of `parser_change::parse_vector` that the search leaves.
use Rattle.parser_part.proofs.Kept.{token-next}
use Rattle.parser_change.proofs.parse_vector.Goals as goal

pub change_id-requires : goal.change_id-requires
change_id-requires c = token-next c.requires _ c.vector_values.ensures c.in_ok-t.was
