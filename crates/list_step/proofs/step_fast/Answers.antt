-- Goals of `list_step::step_fast` that the search leaves.
use native.Mathlib.Omega.{arith}
use mathlib.Core.Path.{refl}
use Rattle.text.proofs.Lists.{take_rest}
use Rattle.fast.specs.Fast.{Hits}
use Rattle.fast.specs.declared.Fast.TheVariants.{Time, Scalar, Vector}
use Rattle.fast.proofs.Hits.{scalar-first}
use Rattle.list_step.proofs.step_fast.Goals as goal
use Rattle.list_step.proofs.step_fast.Goals.{In-Scalar, In-Time, In-Vector}

-- what a hit says
time : (c : In-Time) → Hits c.args.input.now c.args.c.place (Time c.in-Time.t c.in-Time.end)
time c = rw c.in-Time.is at c.fast_command.ensures

scalar : (c : In-Scalar) → Hits c.args.input.now c.args.c.place (Scalar c.in-Scalar.i c.in-Scalar.end)
scalar c = rw c.in-Scalar.is at c.fast_command.ensures

vector : (c : In-Vector) → Hits c.args.input.now c.args.c.place (Vector c.in-Vector.i c.in-Vector.stop c.in-Vector.end)
vector c = rw c.in-Vector.is at c.fast_command.ensures

pub bounds-input-end : goal.bounds-input-end
bounds-input-end c = (time (goal.at.bounds-input-end c).In-Time).inside

pub word_read-requires : goal.word_read-requires
word_read-requires c = record { end_lt_limit = omega (arith, (time (goal.at.word_read-requires c).In-Time).inside, c.requires); line_bound = omega (arith, (time (goal.at.word_read-requires c).In-Time).inside, c.requires) }

pub bounds-input-end-in-Scalar : goal.bounds-input-end-in-Scalar
bounds-input-end-in-Scalar c = (scalar (goal.at.bounds-input-end-in-Scalar c).In-Scalar).change.inside

pub word_read-requires-in-Scalar : goal.word_read-requires-in-Scalar
word_read-requires-in-Scalar c = record { end_lt_limit = omega (arith, (scalar (goal.at.word_read-requires-in-Scalar c).In-Scalar).change.inside, c.requires); line_bound = omega (arith, (scalar (goal.at.word_read-requires-in-Scalar c).In-Scalar).change.inside, c.requires) }

pub overflow_sub-stop : goal.overflow_sub-stop
overflow_sub-stop c = omega (arith, (vector (goal.at.overflow_sub-stop c).In-Vector).some)

pub bounds-input-end-in-Vector : goal.bounds-input-end-in-Vector
bounds-input-end-in-Vector c = (vector (goal.at.bounds-input-end-in-Vector c).In-Vector).change.inside

pub word_read-requires-in-Vector : goal.word_read-requires-in-Vector
word_read-requires-in-Vector c = record { end_lt_limit = omega (arith, (vector (goal.at.word_read-requires-in-Vector c).In-Vector).change.inside, c.requires); line_bound = omega (arith, (vector (goal.at.word_read-requires-in-Vector c).In-Vector).change.inside, c.requires) }

pub step_slow-requires : goal.step_slow-requires
step_slow-requires c = rw (take_rest c.args.input.now 0, c.again.ensures) c.requires

pub returns-in-Time : goal.returns-in-Time
returns-in-Time c = rw ((time (goal.at.returns-in-Time c).In-Time).reads _ c.requires refl, c.word_read.ensures)

pub returns-in-Scalar : goal.returns-in-Scalar
returns-in-Scalar c = let h = scalar (goal.at.returns-in-Scalar c).In-Scalar in rw (h.change.reads _ c.requires refl, c.step_of.ensures, c.word_read-in-Scalar.ensures, c.seen_change.ensures, scalar-first _ c.args.c _ _ h)

pub returns-in-Vector : goal.returns-in-Vector
returns-in-Vector c = rw ((vector (goal.at.returns-in-Vector c).In-Vector).change.reads _ c.requires refl, c.step_of-in-Vector.ensures, c.word_read-in-Vector.ensures, c.seen_change-in-Vector.ensures)

pub returns-in-Miss : goal.returns-in-Miss
returns-in-Miss c = rw (take_rest c.args.input.now 0, c.again.ensures) at c.step_slow.ensures
