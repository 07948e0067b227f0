-- Goals of `lent_rows::fill` that the search leaves.
use Rattle.std.proofs.Common.{◌∙◌, arith, add-one}
use Rattle.lent_rows.proofs.Filling.{one_more, as_many}
use Rattle.lent_rows.proofs.fill.Goals as goal

pub loop-k-preserved : goal.loop-k-preserved
loop-k-preserved c =
    rw (c.struct_at.ensures, c.loop-k.invariant, add-one) (one_more c.args.words.now 0 c.loop-k.k c.loop-k.k c.args.rows.now (omega arith) (omega (arith, c.least-m.ensures)))

pub returns : goal.returns
returns c = c.loop-k.invariant ∙ as_many c.args.words.now c.args.n c.loop-k.k c.args.rows.now (omega (arith, c.least-m.ensures))
