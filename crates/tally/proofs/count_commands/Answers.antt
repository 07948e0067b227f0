-- Goals of `tally::count_commands` that the search leaves.
use Rattle.parser.specs.Next.{next_from}
use Rattle.parser.specs.declared.Next.TheVariants.{Command}
use Rattle.token.proofs.Reading.{From}
use Prim.Native.Nat.{◌<◌}
use mathlib.Core.Path.{◌≡◌, sym, ◌∙◌}
use native.Mathlib.Omega.{arith}
use Rattle.parser.proofs.Ahead.{command-past}
use Rattle.tally.proofs.Counts.{count-step}
use Rattle.tally.proofs.count_commands.Goals as goal
use Rattle.tally.proofs.count_commands.Goals.{In-Command}

-- the arm of a command: what was read, and that the cursor moved
read : (c : In-Command) → next_from c.args.input.now c.loop-next.cur ≡ Command c.in-Command.field-0 c.in-Command.next
read c = sym c.next_command.ensures ∙ c.in-Command.is

moved : (c : In-Command) → From c.args.input.now c.loop-next.cur c.in-Command.next × (c.loop-next.cur.place < c.in-Command.next.place)
moved c = command-past _ _ _ _ (read c)

pub overflow_add-n : goal.overflow_add-n
overflow_add-n c =
    let h = moved (goal.at.overflow_add-n c).In-Command in
    omega (arith, h.1, h.0.valid.short, h.0.valid.within, c.loop-next.invariant.0)

pub loop-next-smaller : goal.loop-next-smaller
loop-next-smaller c =
    let h = moved (goal.at.loop-next-smaller c).In-Command in
    omega (arith, h.1, h.0.valid.within)

pub loop-next-preserved : goal.loop-next-preserved
loop-next-preserved c =
    let l = c.loop-next in
    let a = (goal.at.loop-next-preserved c).In-Command in
    (omega (arith, (moved a).1, l.invariant.0), count-step _ l.n _ _ _ (read a) ∙ l.invariant.1)
