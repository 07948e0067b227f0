-- Goals of `parser_declare::read_var` that the search leaves.
use Rattle.std.proofs.Common.{sym, ◌∙◌, arith}
use Rattle.parser_part.proofs.Kept.{word_next, number-next, id_next}
use Rattle.parser_declare.proofs.Declarations.{number_small}
use Rattle.parser_declare.proofs.read_var.Goals as goal

pub read_number-requires : goal.read_number-requires
read_number-requires c = word_next c.requires _ c.read_token_str.ensures c.in_ok-t.was

pub read_id-requires : goal.read_id-requires
read_id-requires c =
    let kind = word_next c.requires _ c.read_token_str.ensures c.in_ok-t.was in
    number-next kind _ c.read_number.ensures c.in_ok-n.was

pub read_name-requires : goal.read_name-requires
read_name-requires c =
    let kind = word_next c.requires _ c.read_token_str.ensures c.in_ok-t.was in
    let size = number-next kind _ c.read_number.ensures c.in_ok-n.was in
    id_next size c.read_id.ensures c.in_ok-i.was

pub overflow_cast-n : goal.overflow_cast-n
overflow_cast-n c = omega (arith, number_small _ _ _ (sym c.read_number.ensures ∙ c.in_ok-n.was))

pub var_end-requires : goal.var_end-requires
var_end-requires c =
    let kind = word_next c.requires _ c.read_token_str.ensures c.in_ok-t.was in
    let size = number-next kind _ c.read_number.ensures c.in_ok-n.was in
    let code = id_next size c.read_id.ensures c.in_ok-i.was in
    word_next code _ c.read_name.ensures c.in_ok-name.was
