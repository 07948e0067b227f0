-- What a command means: its texts as bytes, its vectors as values.
use Rattle.std.specs.Prelude.{ℕ, List, map, Option, Some, None}
use Rattle.idcode.specs.declared.IdCode.{IdCode}
use Rattle.scope.specs.declared.ReferenceIndex.{ReferenceIndex}
use Rattle.scope.specs.declared.ScopeType.{ScopeType}
use Rattle.scope.specs.declared.VarType.{VarType}
use Rattle.text.specs.Texts.{part}
use Rattle.timescale.specs.declared.TimescaleUnit.{TimescaleUnit}
use Rattle.value.specs.Values.{lower}
use Rattle.value.specs.declared.Value.{Value}
use Rattle.command.specs.declared.Command.{Command}
use Rattle.command.specs.declared.SimulationCommand.{SimulationCommand}
use Rattle.command.specs.declared.Word.{Word}

-- the three commands that are a text alone
pub data Remark : Type 0 where
  comment : Remark
  date : Remark
  version : Remark

-- a variable's new value
pub data Change : Type 0 where
  scalar : Value → Change
  vector : List ℕ → Change
  real : List ℕ → Change
  string : List ℕ → Change

pub data Meaning : Type 0 where
  remark : Remark → List ℕ → Meaning
  timescale : ℕ → TimescaleUnit → Meaning
  scope_def : ScopeType → List ℕ → Meaning
  upscope : Meaning
  var_def : VarType → ℕ → IdCode → List ℕ → ReferenceIndex → Meaning
  enddefinitions : Meaning
  timestamp : ℕ → Meaning
  change : IdCode → Change → Meaning
  begin : SimulationCommand → Meaning
  end : SimulationCommand → Meaning

-- the meaning of a command whose texts lie in s; a vector's `X` is `x`, its `Z` is `z`
abbrev pub meaning : List ℕ → Command → Meaning
meaning s (Command.Comment t) = remark comment (part s t)
meaning s (Command.Date t) = remark date (part s t)
meaning s (Command.Version t) = remark version (part s t)
meaning s (Command.Timescale n u) = timescale n u
meaning s (Command.ScopeDef k t) = scope_def k (part s t)
meaning s Command.Upscope = upscope
meaning s (Command.VarDef k n i t x) = var_def k n i (part s t) x
meaning s Command.Enddefinitions = enddefinitions
meaning s (Command.Timestamp t) = timestamp t.0
meaning s (Command.ChangeScalar i v) = change i (scalar v)
meaning s (Command.ChangeVector i t) = change i (vector (map lower (part s t)))
meaning s (Command.ChangeReal i t) = change i (real (part s t))
meaning s (Command.ChangeString i t) = change i (string (part s t))
meaning s (Command.Begin k) = begin k
meaning s (Command.End k) = end k

-- the simulation command that is open after a command
abbrev pub open_after : Meaning → Option SimulationCommand → Option SimulationCommand
open_after (remark k t) o = o
open_after (timescale n u) o = o
open_after (scope_def k t) o = o
open_after upscope o = o
open_after (var_def k n i t x) o = o
open_after enddefinitions o = o
open_after (timestamp t) o = o
open_after (change i v) o = o
open_after (begin k) o = Some k
open_after (end k) o = None

-- the word of a remark
abbrev pub remark_word : Remark → Word
remark_word comment = Word.Comment
remark_word date = Word.Date
remark_word version = Word.Version
