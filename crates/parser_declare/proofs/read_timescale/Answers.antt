-- Goals of `parser_declare::read_timescale` that the search leaves.
use Rattle.parser_part.proofs.Kept.{word_next}
use Rattle.parser_declare.proofs.read_timescale.Goals as goal

pub read_unit-requires : goal.read_unit-requires
read_unit-requires c = word_next c.requires _ c.read_token_str.ensures c.in_ok-t.was
