-- The open simulation command: whether it is a given one.
use Rattle.std.specs.Prelude.{Option, Some, None, eqb}
use Rattle.std.specs.Option.{option_eq}
use mathlib.Core.Path.{◌≡◌, refl, sym, ap₂, ◌∙◌}
use mathlib.Core.Bool.{Bool, true, false, not}
use borrow.Author.Tests.{not-true, not-false}
use denote.Enum.Declared.{tag_of}
use Rattle.command.specs.Numbers.{sim_number}
use Rattle.command.specs.contracts.SimulationCommand.{the_type}
use Rattle.command.specs.contracts.SimulationCommandPartialEq.TheImpl.{eq-value}
use Rattle.command.specs.declared.SimulationCommand.{SimulationCommand}
use Rattle.write.specs.Layout.{is_open}

-- `==` compares the tags, which are the numbers
numbered : (k : SimulationCommand) → tag_of the_type k ≡ sim_number k
numbered SimulationCommand.Dumpall = refl
numbered SimulationCommand.Dumpoff = refl
numbered SimulationCommand.Dumpon = refl
numbered SimulationCommand.Dumpvars = refl

is : (o : Option SimulationCommand) (k : SimulationCommand) → option_eq eq-value.it o (Some k) ≡ is_open o k
unfolding is_open
is None k = refl
is (Some j) k = ap₂ eqb (numbered j) (numbered k)

-- what `o != Some(k)` says
module _ (o : Option SimulationCommand) (k : SimulationCommand) {r : Bool} (e : r ≡ not (option_eq eq-value.it o (Some k))) where
  pub open-yes : r ≡ false → is_open o k ≡ true
  open-yes h = sym (is o k) ∙ not-false _ (sym e ∙ h)

  pub open-no : r ≡ true → is_open o k ≡ false
  open-no h = sym (is o k) ∙ not-true _ (sym e ∙ h)
