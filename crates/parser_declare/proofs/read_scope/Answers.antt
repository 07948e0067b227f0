-- Goals of `parser_declare::read_scope` that the search leaves.
use Rattle.parser_part.proofs.Kept.{word_next}
use Rattle.parser_declare.proofs.read_scope.Goals as goal

pub read_name-requires : goal.read_name-requires
read_name-requires c = word_next c.requires _ c.read_token_str.ensures c.in_ok-t.was

pub read_command_end-requires : goal.read_command_end-requires
read_command_end-requires c =
    let kind = word_next c.requires _ c.read_token_str.ensures c.in_ok-t.was in
    word_next kind _ c.read_name.ensures c.in_ok-name.was
