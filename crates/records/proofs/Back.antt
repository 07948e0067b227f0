-- The words of a command are that command again, where its numbers are of their types, as those of a command that is read are.
use Rattle.std.specs.Prelude.{Some}
use Prim.Native.Nat.{◌-◌, ◌^◌}
use mathlib.Core.Path.{◌≡◌, refl}
use mathlib.Core.Bool.{Bool, true, ◌&&◌, ◌||◌}
use native.Mathlib.Omega.{arith}
use borrow.Author.Tests.{le-leb, lt-ltb}
use lib.Dec.{eqb}
use Rattle.text.proofs.Lists.{by-test}
use Rattle.value.proofs.Values.{value-back}
use Rattle.timescale.proofs.Units.{unit-back}
use Rattle.scope.proofs.Types.{scope-back, var-back}
use Rattle.command.specs.declared.Command.{Command}
use Rattle.command.proofs.Numbers.{sim-back}
use Rattle.rows.specs.Rows.{all_zero}
use Rattle.rows.proofs.Fits.{index_back}
use Rattle.parser.proofs.Ranged.{Ranged}
use Rattle.record.specs.Record.{record_of, command_in, command_of}
use Rattle.record.specs.Used.{number_most, amount_most, has_code, has_text, is_used}

or-true : (a : Bool) → (a || true) ≡ true
or-true a = by-test a (λ e. rw e) (λ e. rw e)

pub record-back : (k : Command) → Ranged k → command_of (record_of k) ≡ Some k
unfolding command_of command_in all_zero is_used number_most amount_most has_code has_text
record-back (Command.Comment t) r = rw (or-true (eqb t.start 0 && eqb t.len 0))
record-back (Command.Date t) r = rw (or-true (eqb t.start 0 && eqb t.len 0))
record-back (Command.Version t) r = rw (or-true (eqb t.start 0 && eqb t.len 0))
record-back (Command.Timescale n u) r = rw ((unit-back u).0, (unit-back u).1, le-leb n (2 ^ 32 - 1) (omega arith))
record-back (Command.ScopeDef k t) r = rw ((scope-back k).0, (scope-back k).1, or-true (eqb t.start 0 && eqb t.len 0))
record-back Command.Upscope r = refl
record-back (Command.VarDef k n i t x) r =
    let y = index_back x r.1 in
    rw ((var-back k).0, (var-back k).1, lt-ltb n (2 ^ 32) r.0, y.0, y.1)
record-back Command.Enddefinitions r = refl
record-back (Command.Timestamp t) r = rw (le-leb t.0 (2 ^ 64 - 1) (omega arith))
record-back (Command.ChangeScalar i v) r = rw ((value-back v).0, (value-back v).1, or-true (eqb i.0 0))
record-back (Command.ChangeVector i t) r = rw (or-true (eqb i.0 0), or-true (eqb t.start 0 && eqb t.len 0))
record-back (Command.ChangeReal i t) r = rw (or-true (eqb i.0 0), or-true (eqb t.start 0 && eqb t.len 0))
record-back (Command.ChangeString i t) r = rw (or-true (eqb i.0 0), or-true (eqb t.start 0 && eqb t.len 0))
record-back (Command.Begin k) r = rw ((sim-back k).0, (sim-back k).1)
record-back (Command.End k) r = rw ((sim-back k).0, (sim-back k).1)
