-- Goals of `parser_change::change_time` that the search leaves.
use Rattle.std.proofs.Common.{sym}
use Rattle.parser_part.proofs.Hits.{number_hit}
use Rattle.parser_change.proofs.change_time.Goals as goal

pub returns : goal.returns
returns c = sym (number_hit _ _ c.requires _ c.in-Some.ensures.0 _ c.word_read-next.ensures _ c.in-Some.ensures.1)
