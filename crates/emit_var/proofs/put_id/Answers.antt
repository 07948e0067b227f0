-- Goals of `emit_var::put_id` that the search leaves.
use Rattle.emit_var.proofs.Putting.{part-full}
use Rattle.emit_var.proofs.put_id.Goals as goal

pub returns-in-None : goal.returns-in-None
returns-in-None c = part-full _ c.args.out.now c.args.at c.requires c.put.ensures c.in-None.is
