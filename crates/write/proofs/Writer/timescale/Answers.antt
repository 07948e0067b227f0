-- Goals of `write::Writer::timescale` that the search leaves.
use Rattle.timescale.specs.Ieee.{unit_name}
use mathlib.Core.Path.{refl}
use borrow.Author.Tests.{le-leb}
use Rattle.text.specs.Bytes.{bytes}
use Rattle.number.specs.Decimal.{decimal_of}
use Rattle.write.specs.Layout.{layout, state_after}
use Rattle.write.specs.Call.{call}
use Rattle.text.proofs.Limit.{none-long}
use Rattle.text.proofs.Rows.{spelled_text}
use Rattle.write.proofs.Outcomes.{laid_out}
use Rattle.write.proofs.Writer.timescale.Goals as goal

pub returns : goal.returns
unfolding call state_after layout
returns c =
    let x = c.args in
    let digits = spelled_text (decimal_of x.ts) c.decimal-digits.ensures c.as_bytes.ensures in
    let name = spelled_text (bytes (unit_name x.unit)) c.spell-name.ensures c.as_bytes-2.ensures in
    laid_out _ _ _ _ _ none-long (le-leb _ _ c.if-ts-gt99999999.false) c.laid.ensures c.emit_closed.ensures refl (rw (digits, name))
