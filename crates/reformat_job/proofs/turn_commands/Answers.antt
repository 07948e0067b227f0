-- Goals of `reformat_job::turn_commands` that the search leaves.
use Rattle.reformat_job.proofs.Calls.{commands-done}
use Rattle.reformat_job.proofs.turn_commands.Goals as goal

pub returns : goal.returns
returns c =
    let x = c.args in
    let p = c.rewrite-r.ensures in
    commands-done x.input.now x.c x.w x.out.now p.answer p.bytes c.next_state.ensures
