-- Goals of `parser::parse_command` that the search leaves.
use Rattle.parser_part.proofs.Kept.{token-next}
use Rattle.parser.proofs.parse_command.Goals as goal

pub act-requires : goal.act-requires
act-requires c = token-next c.requires _ c.read_token.ensures c.in_ok-t.was
