-- Goals of `rewrite::step_fast` that the search leaves.
use Rattle.fast.specs.Fast.{Reads, ReadsScalar, ReadsVector}
use Rattle.command.specs.declared.Command.{Command}
use Rattle.text.specs.Texts.{part}
use Rattle.rewrite.proofs.Usual.{time-steps, scalar-steps, vector-steps}
use Rattle.rewrite.proofs.step_fast.Goals as goal
use Rattle.rewrite.proofs.step_fast.Goals.{In-Scalar, In-Time, In-Vector}

-- what a hit says
time : (c : In-Time) → Reads c.args.input.now c.args.c.place c.in-Time.end (Command.Timestamp (record { 0 = c.in-Time.t }))
time c = rw c.in-Time.is at c.fast_command.ensures

scalar : (c : In-Scalar) → ReadsScalar c.args.input.now c.args.c.place c.in-Scalar.end c.in-Scalar.i
scalar c = rw c.in-Scalar.is at c.fast_command.ensures

vector : (c : In-Vector) → ReadsVector c.args.input.now c.args.c.place c.in-Vector.stop c.in-Vector.end c.in-Vector.i
vector c = rw c.in-Vector.is at c.fast_command.ensures

pub returns-in-Time : goal.returns-in-Time
returns-in-Time c = time-steps _ _ _ _ c.requires _ _ _ _ c.laid.ensures _ (time (goal.at.returns-in-Time c).In-Time) c.emit_time-p.ensures

pub returns-in-Scalar : goal.returns-in-Scalar
returns-in-Scalar c =
    scalar-steps _ _ _ _ c.requires _ _ _ _ c.laid-in-Scalar.ensures _ (scalar (goal.at.returns-in-Scalar c).In-Scalar)
    (rw c.lowered-v.ensures at c.emit_scalar-p.ensures)

pub returns-in-Vector : goal.returns-in-Vector
unfolding part
returns-in-Vector c = vector-steps _ _ _ _ c.requires _ _ _ _ c.laid-in-Vector.ensures _ _ (vector (goal.at.returns-in-Vector c).In-Vector) c.emit_vector-p.ensures
