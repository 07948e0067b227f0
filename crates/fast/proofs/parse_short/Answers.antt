-- Goals of `fast::parse_short` that the search leaves.
use Rattle.fast.proofs.Hits.{digit_value, hash-kind}
use Rattle.fast.proofs.parse_short.Goals as goal

pub short_scalar-requires : goal.short_scalar-requires
short_scalar-requires c = record { at_in_bounds = c.requires.at_in_bounds; input_len_bound = c.requires.input_len_bound; at_value = digit_value _ c.if-b-eq24.true }

pub short_time-requires : goal.short_time-requires
short_time-requires c = record { at_in_bounds = c.requires.at_in_bounds; input_len_bound = c.requires.input_len_bound; at_value = hash-kind _ c.if-b-eq35.true }
