-- Reading on, with no word of how far: `commands` never ends before reading does. Assumes nothing.
use Prim.Native.Nat.{ℕ}
use mathlib.Core.Path.{◌≡◌, refl, ◌∙◌}
use mathlib.Core.List.{List}
use Rattle.parser.specs.Next.{next_from}
use Rattle.parser.specs.All.{followed, commands}
use Rattle.parser.proofs.All as all
use Rattle.parser.specs.declared.Next.{Next}
use Rattle.promises.specs.Stated.{first_of, CommandsStep}

by_cases : (s : List ℕ) (x : Next) → followed (commands s) x ≡ first_of s x
by_cases s (Next.Command k d) = refl
by_cases s (Next.Refused e n d) = refl
by_cases s (Next.Done d) = refl

pub commands-step : CommandsStep
commands-step s c = all.commands-step s c ∙ by_cases s (next_from s c)
