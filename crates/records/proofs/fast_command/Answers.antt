-- Goals of `records::fast_command` that the search leaves.
use native.Mathlib.Omega.{arith}
use Rattle.text.proofs.Lists.{take_rest}
use Rattle.fast.proofs.Hits.{letter-value, digit_value, hash-kind, vector-kind}
use Rattle.records.proofs.fast_command.Goals as goal

pub parse_scalar-requires : goal.parse_scalar-requires
parse_scalar-requires c = record { at_in_bounds = omega (arith, c.if-input-at.false); input_len_bound = c.requires.input_len_bound; at_value = digit_value _ c.if-b-eq24.true }

pub parse_timestamp-requires : goal.parse_timestamp-requires
parse_timestamp-requires c = record { at_in_bounds = omega (arith, c.if-input-at.false); input_len_bound = c.requires.input_len_bound; at_value = hash-kind _ c.in-35.is }

pub parse_scalar-requires-in-120 : goal.parse_scalar-requires-in-120
parse_scalar-requires-in-120 c = record { at_in_bounds = omega (arith, c.if-input-at.false); input_len_bound = c.requires.input_len_bound; at_value = letter-value _ c.in-120.is }

pub parse_vector-requires : goal.parse_vector-requires
parse_vector-requires c =
    record {
      at_in_bounds = rw (take_rest c.args.input.now 0) (omega (arith, c.if-input-at.false));
      input_len_bound = rw (take_rest c.args.input.now 0) c.requires.input_len_bound;
      at_value = rw (take_rest c.args.input.now 0) (vector-kind _ c.in-98.is);
    }
