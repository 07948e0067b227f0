-- Goals of `parser_declare::read_unit` that the search leaves.
use Rattle.parser_part.proofs.Kept.{word_next}
use Rattle.parser_declare.proofs.read_unit.Goals as goal

pub scale-requires-2 : goal.scale-requires-2
scale-requires-2 c = word_next c.requires _ c.read_token_str.ensures c.in_ok-t.was
