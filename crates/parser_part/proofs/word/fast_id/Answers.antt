-- Goals of `parser_part::word::fast_id` that the search leaves.
use Rattle.std.proofs.Common.{sym, ◌∙◌}
use Rattle.parser_part.proofs.FastWords.{id-one}
use Rattle.parser_part.proofs.word.fast_id.Goals as goal

pub returns-then-whitespace_byte : goal.returns-then-whitespace_byte
returns-then-whitespace_byte c =
    let blank = sym c.whitespace_byte.ensures ∙ c.if-whitespace_byte.true in
    rw c.wide.ensures (id-one _ _ c.if-input-at.false c.if-first-lt33.false c.if-first-gt126.false blank)
