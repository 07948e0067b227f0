-- Goals of `parser_declare::var_end` that the search leaves.
use Rattle.parser_part.proofs.Kept.{word_next}
use Rattle.parser_declare.proofs.var_end.Goals as goal

pub read_token_str-requires-2 : goal.read_token_str-requires-2
read_token_str-requires-2 c = word_next c.requires _ c.read_token_str.ensures c.in_ok-t.was
