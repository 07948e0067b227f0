-- Goals of `value::vector::write_lower` that the search leaves.
use mathlib.Core.Path.{sym, ◌∙◌}
use native.Mathlib.Omega.{arith}
use Rattle.value.proofs.Vectors.{lower-invalid, lower-no-room, lower-more, lower-done}
use Rattle.value.proofs.vector.write_lower.Goals as goal

pub returns-then-not-is_vector : goal.returns-then-not-is_vector
returns-then-not-is_vector c = lower-invalid _ _ (sym c.is_vector.ensures ∙ c.if-not-is_vector.true)

pub returns-then-out-s : goal.returns-then-out-s
returns-then-out-s c = lower-no-room _ _ (sym c.is_vector.ensures ∙ c.if-not-is_vector.false) c.if-out-s.true

pub loop-i-preserved : goal.loop-i-preserved
loop-i-preserved c = rw c.lowered.ensures (lower-more _ _ _ _ c.loop-i.invariant (omega arith))

pub returns : goal.returns
returns c = lower-done _ _ _ _ c.loop-i.invariant (sym c.is_vector.ensures ∙ c.if-not-is_vector.false) (omega arith)
