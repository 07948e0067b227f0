-- Goals of `lent_rows::read_rows` that the search leaves.
use Rattle.lent_rows.specs.Rows.{blank}
use Rattle.lent_rows.proofs.Flat.{read}
use Rattle.lent_rows.proofs.read_rows.Goals as goal

pub returns : goal.returns
unfolding blank
returns c = read c.args.input.now c.args.c c.args.rows.now c.fill.new.rows c.read_flat-a.result c.read_flat-a.new.flat c.read_flat-a.ensures c.fill.ensures
