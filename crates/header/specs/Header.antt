-- Reading a header: the commands in order, with a stack of the open scopes. The order of refusals stands in `move` alone.
use Rattle.command.specs.Refusals.{Ended}
use Rattle.rows.specs.declared.RowNumber.{RowNumber}
use Rattle.std.specs.Prelude.{ℕ, ◌+◌, ◌/◌, min, cond, List, [], ◌∷◌, ◌++◌, ltb, length, Option, Some, None, Ok, Err}
use Rattle.scope.specs.Limits.{most_levels, most_rows}
use Rattle.command.specs.declared.Command.{Command}
use Rattle.command.specs.declared.Refusal.{Refusal}
use Rattle.parser.specs.All.{Commands, command, stop, finish, commands}
use Rattle.text.specs.declared.Text.{Text}
use Rattle.timescale.specs.declared.TimescaleUnit.{TimescaleUnit}
use Rattle.token.specs.declared.Cursor.{Cursor}
use Rattle.header.specs.declared.Header.{Header}
use Rattle.header.specs.declared.HeaderAnswer.{HeaderAnswer}
use Rattle.rows.specs.declared.Row.{Row}

-- nothing kept, and a date, a version, a timescale kept
abbrev pub nothing : Header
nothing = record { date = None; version = None; timescale = None }

abbrev pub with_date : Header → Text → Header
with_date h t = record { date = Some t; version = h.version; timescale = h.timescale }

abbrev pub with_version : Header → Text → Header
with_version h t = record { date = h.date; version = Some t; timescale = h.timescale }

abbrev pub with_timescale : Header → ℕ → TimescaleUnit → Header
with_timescale h n u = record { date = h.date; version = h.version; timescale = Some (n, u) }

-- what a command does: the reading goes on, with these scopes open, these rows added and this kept; or the header is whole, or refused
pub data Step : Type 0 where
  on : List ℕ → List Row → Header → Step
  whole : Step
  off : Refusal → Step

-- the parent of an item: the innermost of the open scopes
abbrev pub inner : List ℕ → Option RowNumber
inner [] = None
inner (n ∷ st) = Some (record { 0 = n })

-- a row where there is room
abbrev pub added : ℕ → ℕ → List ℕ → Row → Header → Step
added cap n st r h = cond (ltb n cap) (on st (r ∷ []) h) (off Refusal.TableFull)

-- at top only
abbrev pub at_top : List ℕ → Step → Step
at_top [] x = x
at_top (n ∷ st) x = off Refusal.UnexpectedHeaderCommand

-- the scope that is closed
abbrev pub closed : List ℕ → Header → Step
closed [] h = off Refusal.UnexpectedHeaderCommand
closed (n ∷ st) h = on st [] h

-- where n rows are made of at most cap, and the rows of the open scopes are these, innermost first
unfoldable pub move : ℕ → Command → List ℕ → ℕ → Header → Step
move cap (Command.Comment t) st n h = added cap n st (Row.Comment (inner st) t) h
move cap (Command.Date t) st n h = at_top st (on st [] (with_date h t))
move cap (Command.Version t) st n h = at_top st (on st [] (with_version h t))
move cap (Command.Timescale q u) st n h = at_top st (on st [] (with_timescale h q u))
move cap (Command.ScopeDef k t) st n h =
    cond (ltb (length st) most_levels) (added cap n (n ∷ st) (Row.Scope (inner st) k t) h) (off Refusal.TooDeep)
move cap Command.Upscope st n h = closed st h
move cap (Command.VarDef k w i t x) st n h =
    added cap n st (Row.Var (inner st) (record { var_type = k; size = w; code = i; reference = t; index = x })) h
move cap Command.Enddefinitions st n h = at_top st whole
move cap (Command.Timestamp t) st n h = off Refusal.UnexpectedHeaderCommand
move cap (Command.ChangeScalar i v) st n h = off Refusal.UnexpectedHeaderCommand
move cap (Command.ChangeVector i v) st n h = off Refusal.UnexpectedHeaderCommand
move cap (Command.ChangeReal i v) st n h = off Refusal.UnexpectedHeaderCommand
move cap (Command.ChangeString i v) st n h = off Refusal.UnexpectedHeaderCommand
move cap (Command.Begin k) st n h = off Refusal.UnexpectedHeaderCommand
move cap (Command.End k) st n h = off Refusal.UnexpectedHeaderCommand

-- what reading a header gives
pub record Outcome : Type 0 where
  pub rows : List Row
  pub kept : Header
  pub ended : Ended
  pub cursor : Cursor

abbrev pub ending : Header → Ended → Cursor → Outcome
ending h e d = record { rows = []; kept = h; ended = e; cursor = d }

abbrev pub before : List Row → Outcome → Outcome
before rs o = record { rows = rs ++ o.rows; kept = o.kept; ended = o.ended; cursor = o.cursor }

abbrev pub follow : Cursor → Header → Step → (List ℕ → List Row → Header → Outcome) → Outcome
follow d h (on st rs h') more = before rs (more st rs h')
follow d h whole more = ending h (Ok tt) d
follow d h (off e) more = ending h (Err (e, d.line)) d

-- the rows from these commands, with these scopes open, n rows made and this kept
unfoldable pub read_rows : ℕ → Commands → List ℕ → ℕ → Header → Outcome
read_rows cap (command k d more) st n h =
    follow d h (move cap k st n h) (λ st' rs h'. read_rows cap more st' (n + length rs) h')
read_rows cap (stop e l d) st n h = ending h (Err (e, l)) d
read_rows cap (finish d) st n h = ending h (Err (Refusal.UnexpectedEof, d.line)) d

-- the header at a cursor, into a table with room for as many rows as it has words for, and at most 4,096
abbrev pub header_of : List ℕ → Cursor → List ℕ → Outcome
header_of s c table = read_rows (min most_rows (length table / 10)) (commands s c) [] 0 nothing

abbrev pub answer_of : Outcome → HeaderAnswer
answer_of o = record { cursor = o.cursor; count = length o.rows; header = o.kept; ended = o.ended }
