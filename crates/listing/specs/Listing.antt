-- The listing of a code: every change of it among the commands read from a cursor, up to the first refusal or the end, in file order,
-- each with the last timestamp read before it: the one that was given, until one is read.
use Rattle.command.specs.Refusals.{Ended}
use Rattle.command.specs.declared.Time.{Time}
use Rattle.std.specs.Prelude.{ℕ, ◌/◌, ◌≤◌, ◌<◌, ◌≡◌, cond, List, [], ◌∷◌, ◌++◌, map, eqb, length, take, drop, Option, Some, None, Ok, Err}
use Rattle.command.specs.declared.Command.{Command}
use Rattle.command.specs.declared.Refusal.{Refusal}
use Rattle.idcode.specs.declared.IdCode.{IdCode}
use Rattle.parser.specs.All.{Commands, command, stop, finish, commands}
use Rattle.fast.specs.Fast.{Reads}
use Rattle.token.specs.Read.{Valid}
use Rattle.token.specs.declared.Cursor.{Cursor}
use Rattle.list_step.specs.Step.{Role, time, change, other, role_of}
use Rattle.listing.specs.declared.ListAnswer.{ListAnswer}
use Rattle.change.specs.declared.Change.{Change}

-- a change; and as they stood before it, the cursor and the last time
pub record Entry : Type 0 where
  pub row : Change
  pub from : Cursor
  pub since : Option Time

-- the entries that a command gives: one, if it is a change of the code; and the last time after it
abbrev pub entries : IdCode → Cursor → Option Time → ℕ → Role → List Entry
entries i c t line (time u) = []
entries i c t line (change j k v) =
    cond (eqb j.0 i.0) (record { row = Change.Is t line k v; from = c; since = t } ∷ []) []
entries i c t line other = []

abbrev pub since_after : Option Time → Role → Option Time
since_after t (time u) = Some u
since_after t (change j k v) = t
since_after t other = t

-- every change of the code i: the line is the reader's just after it
unfoldable pub changes : List ℕ → IdCode → Cursor → Option Time → Commands → List Entry
changes s i c t (command k d more) = entries i c t d.line (role_of s c k) ++ changes s i d (since_after t (role_of s c k)) more
changes s i c t (stop e n d) = []
changes s i c t (finish d) = []

-- how reading stops, where, and the last time then
unfoldable pub stop_of : Commands → Ended
stop_of (command k d more) = stop_of more
stop_of (stop e n d) = Err (e, n)
stop_of (finish d) = (Ok tt)

unfoldable pub last_of : Commands → Cursor
last_of (command k d more) = last_of more
last_of (stop e n d) = d
last_of (finish d) = d

unfoldable pub time_of : List ℕ → Cursor → Option Time → Commands → Option Time
time_of s c t (command k d more) = time_of s d (since_after t (role_of s c k)) more
time_of s c t (stop e n d) = t
time_of s c t (finish d) = t

pub record Outcome : Type 0 where
  pub rows : List Change
  pub ended : Ended
  pub cursor : Cursor
  pub since : Option Time

abbrev pub rows_in : List Entry → List Change
rows_in es = map (λ (e : Entry). e.row) es

-- the changes that have rows, and those that have none: at the first of these 24, with the cursor and the time as they stood before it
abbrev pub cut : List Entry → List Entry → Ended → Cursor → Option Time → Outcome
cut made [] e d u = record { rows = rows_in made; ended = e; cursor = d; since = u }
cut made (x ∷ more) e d u =
    record { rows = rows_in made; ended = Err (Refusal.ListFull, x.from.line); cursor = x.from; since = x.since }

-- from c, where t was the last time, into so many rows
unfoldable pub list_in : List ℕ → Cursor → Option Time → IdCode → ℕ → Outcome
list_in s c t i room =
    let cs : Commands = commands s c in
    let all : List Entry = changes s i c t cs in
    cut (take room all) (drop room all) (stop_of cs) (last_of cs) (time_of s c t cs)

abbrev pub list_on_of : List ℕ → Cursor → Option Time → IdCode → List ℕ → Outcome
list_on_of s c t i table = list_in s c t i (length table / 6)

-- where none was read before
abbrev pub list_of : List ℕ → Cursor → IdCode → List ℕ → Outcome
list_of s c i table = list_on_of s c None i table

abbrev pub answer_of : Outcome → ListAnswer
answer_of o = record { cursor = o.cursor; count = length o.rows; ended = o.ended; since = o.since }

-- ---- a run over commands that are no changes of the code
-- what is listed from c on, where t was the last time, is what is listed from d on, where u is it
pub record Passes (s : List ℕ) (i : IdCode) (c : Cursor) (t : Option Time) (d : Cursor) (u : Option Time) : Type 0 where
  pub same : changes s i c t (commands s c) ≡ changes s i d u (commands s d)
  pub stops : stop_of (commands s c) ≡ stop_of (commands s d)
  pub last : last_of (commands s c) ≡ last_of (commands s d)
  pub time : time_of s c t (commands s c) ≡ time_of s d u (commands s d)
  pub valid : Valid s d
  pub past : c.place ≤ d.place

-- u is the last time: that of the timestamp that stands at `at`, or t, where `at` is the end
abbrev pub Held : List ℕ → Option Time → ℕ → Option Time → Type 0
Held s t at u =
    (length s ≤ at → u ≡ t)
    × (at < length s → (v : ℕ) × (e : ℕ) × Reads s at e (Command.Timestamp (record { 0 = v })) × (u ≡ Some (record { 0 = v })))
