-- The refusals that reading a command can give, by the page's numbers: 1 to 18 without 8 and 16, and 25.
use Rattle.std.specs.Prelude.{Bool, not, ◌&&◌, ◌||◌, eqb, leb}
use Rattle.command.specs.Refusals.{number_of}
use Rattle.command.specs.declared.Refusal.{Refusal}

abbrev pub is_of_reading : Refusal → Bool
is_of_reading e =
    (leb (number_of e) 18 || eqb (number_of e) 25) && (not (eqb (number_of e) 8) && not (eqb (number_of e) 16))
