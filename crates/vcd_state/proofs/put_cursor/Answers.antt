-- Goals of `vcd_state::put_cursor` that the search leaves.
use Rattle.vcd_state.specs.State.{cursor_words}
use Rattle.vcd_state.proofs.Words.{sets-whole}
use Rattle.vcd_state.proofs.put_cursor.Goals as goal

pub returns : goal.returns
returns c = rw c.open_word.ensures (sets-whole (cursor_words c.args.c) c.args.w.now c.requires)
