-- Goals of `vcd_state::put_writer` that the search leaves.
use Rattle.vcd_state.specs.State.{writer_words}
use Rattle.vcd_state.proofs.Words.{sets-whole}
use Rattle.vcd_state.proofs.put_writer.Goals as goal

pub returns : goal.returns
returns c = rw c.open_word.ensures (sets-whole (writer_words c.args.v) c.args.w.now c.requires)
