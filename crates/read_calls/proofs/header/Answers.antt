-- Goals of `read_calls::header` that the search leaves.
use Rattle.vcd_state.proofs.Taken.{cursor-four}
use Rattle.read_calls.proofs.header.Goals as goal

pub put_cursor-requires : goal.put_cursor-requires
put_cursor-requires c = cursor-four _ c.cursor_of.ensures c.in-Some.is
