-- What a command is to a listing, and what the listing of a code sees next.
use Rattle.std.specs.Prelude.{ℕ, cond, List, eqb}
use Rattle.change.specs.declared.ChangeKind.{ChangeKind}
use Rattle.command.specs.declared.Command.{Command}
use Rattle.command.specs.declared.Time.{Time}
use Rattle.idcode.specs.declared.IdCode.{IdCode}
use Rattle.parser.specs.declared.Next.{Next}
use Rattle.text.specs.declared.Text.{Text}
use Rattle.token.specs.Read.{skipped}
use Rattle.token.specs.declared.Cursor.{Cursor}
use Rattle.list_step.specs.declared.Step.{Step}
use Rattle.list_step.specs.declared.Seen.{Seen}

-- what a command is to a listing: a time, a change with the kind and the place of its value, or nothing
pub data Role : Type 0 where
  time : Time → Role
  change : IdCode → ChangeKind → Text → Role
  other : Role

-- a scalar's value is the command's first byte, after the blanks that it was read over
abbrev pub first : List ℕ → Cursor → Text
first s c = record { start = (skipped s c).place; len = 1 }

-- the command k, read from c
abbrev pub role_of : List ℕ → Cursor → Command → Role
role_of s c (Command.Comment t) = other
role_of s c (Command.Date t) = other
role_of s c (Command.Version t) = other
role_of s c (Command.Timescale n u) = other
role_of s c (Command.ScopeDef k t) = other
role_of s c Command.Upscope = other
role_of s c (Command.VarDef k n i t x) = other
role_of s c Command.Enddefinitions = other
role_of s c (Command.Timestamp t) = time t
role_of s c (Command.ChangeScalar i v) = change i ChangeKind.Scalar (first s c)
role_of s c (Command.ChangeVector i t) = change i ChangeKind.Vector t
role_of s c (Command.ChangeReal i t) = change i ChangeKind.Real t
role_of s c (Command.ChangeString i t) = change i ChangeKind.String t
role_of s c (Command.Begin k) = other
role_of s c (Command.End k) = other

-- the same to the listing of the code i
abbrev pub of_code : IdCode → Role → Seen
of_code i (time u) = Seen.Time u
of_code i (change j k v) = cond (eqb j.0 i.0) (Seen.Change k v) Seen.Other
of_code i other = Seen.Other

-- what it sees next, with the cursor d after it
abbrev pub step_of : Seen → Cursor → Step
step_of (Seen.Time u) d = Step.Time d u
step_of (Seen.Change k v) d = Step.Change d k v
step_of Seen.Other d = Step.Other d

abbrev pub step_from : List ℕ → IdCode → Cursor → Next → Step
step_from s i c (Next.Command k d) = step_of (of_code i (role_of s c k)) d
step_from s i c (Next.Refused e n d) = Step.Refused d e n
step_from s i c (Next.Done d) = Step.Done d
