-- The words after `$` and the closing mark, said once for reading and for writing.
use Rattle.std.specs.Prelude.{ℕ, cond, List, [], ◌∷◌, length, Option, Some, None}
use Prim.Native.String.{String}
use Rattle.text.specs.Bytes.{bytes, holds, up_to}
use Rattle.text.specs.Names.{lookup}
use Rattle.command.specs.declared.SimulationCommand.{SimulationCommand}
use Rattle.command.specs.declared.Word.{Word}

abbrev pub sim_name : SimulationCommand → String
sim_name SimulationCommand.Dumpall = "dumpall"
sim_name SimulationCommand.Dumpoff = "dumpoff"
sim_name SimulationCommand.Dumpon = "dumpon"
sim_name SimulationCommand.Dumpvars = "dumpvars"

-- a word that is none has no name
abbrev pub word_name : Word → String
word_name Word.Comment = "comment"
word_name Word.Date = "date"
word_name Word.Version = "version"
word_name Word.Timescale = "timescale"
word_name Word.Scope = "scope"
word_name Word.Upscope = "upscope"
word_name Word.Var = "var"
word_name Word.Enddefinitions = "enddefinitions"
word_name (Word.Begin k) = sim_name k
word_name Word.End = "end"
word_name Word.Unknown = ""

abbrev pub named : Word → String × Word
named w = (word_name w, w)

abbrev pub words : List (String × Word)
words =
    named Word.Comment ∷ named Word.Date ∷ named Word.Version ∷ named Word.Timescale ∷ named Word.Scope ∷ named Word.Upscope
    ∷ named Word.Var ∷ named Word.Enddefinitions ∷ named (Word.Begin SimulationCommand.Dumpall)
    ∷ named (Word.Begin SimulationCommand.Dumpoff) ∷ named (Word.Begin SimulationCommand.Dumpon)
    ∷ named (Word.Begin SimulationCommand.Dumpvars) ∷ named Word.End ∷ []

abbrev pub word_of : List ℕ → Word
word_of w = lookup words Word.Unknown w

-- a word as it stands in a file
abbrev pub spoken : Word → List ℕ
spoken w = 36 ∷ bytes (word_name w)

-- the closing mark
abbrev pub end_mark : List ℕ
end_mark = spoken Word.End

-- the place of the first one
unfoldable pub first_end : List ℕ → Option ℕ
first_end s = cond (holds end_mark s) (Some (length (up_to end_mark s))) None
