-- A turn: the lines that it puts, the state and the tables then; and what is still to be printed from a state on.
use Rattle.command.specs.Refusals.{Ended}
use Rattle.std.specs.Prelude.{ℕ, ◌+◌, ◌-◌, ◌*◌, ◌≤◌, ◌<◌, ◌≡◌, Bool, true, false, cond, ◌&&◌, List, [], ◌∷◌, ◌++◌, eqb, ltb, leb, length, Option, Some, None, Ok, Err}
use Rattle.header.specs.Header.{Outcome as Heading, header_of}
use Rattle.rows.specs.Rows.{row_at, rows_from, filled as header_filled}
use Rattle.rows.specs.declared.Row.{Row}
use Rattle.emit.specs.Put.{concat}
use Rattle.lines.specs.Lines.{taken, header_rows, lines_from, fitting, filled}
use Rattle.change.specs.Rows.{filled as list_filled}
use Rattle.listing.specs.Listing.{Outcome, list_of}
use Rattle.scope.specs.declared.Var.{Var}
use Rattle.text.specs.Texts.{part}
use Rattle.token.specs.declared.Cursor.{Cursor}
use Rattle.parser.specs.Next.{fresh as fresh_cursor}
use Rattle.list_job.specs.Whole.{most_changes, met_lines, met_then, end_lines, long_lines, rows_lines, list_lines, is_whole, rows_whole, list_whole}
use Rattle.list_job.specs.declared.Place.{Place}
use Rattle.list_job.specs.declared.Printing.{Printing}
use Rattle.list_job.specs.declared.State.{State}
use Rattle.list_job.specs.declared.Turn.{Turn}

-- what a turn prints and leaves
pub record Turned : Type 0 where
  pub lines : List (List ℕ)
  pub next : State
  pub rows : List ℕ
  pub changes : List ℕ

-- the lines that have room
abbrev pub fit : ℕ → List (List ℕ) → List (List ℕ)
fit room ls = fitting room ls

abbrev pub count_of : Option ℕ → ℕ
count_of (Some n) = n
count_of None = 0

-- a call puts those of these lines that have room at the output's start, and answers their bytes
abbrev pub Puts : ℕ → List ℕ → List (List ℕ) → List ℕ → Type 0
Puts n out ls out₀ = (n ≡ length (concat (fit (length out₀) ls))) × (out ≡ filled (fit (length out₀) ls) out₀)

-- a turn does so
pub record Does (r : Turn) (rows changes out out₀ : List ℕ) (t : Turned) : Type 0 where
  pub count : r.count ≡ length (concat t.lines)
  pub next : r.next ≡ t.next
  pub table : rows ≡ t.rows
  pub list : changes ≡ t.changes
  pub bytes : out ≡ filled t.lines out₀

abbrev pub final : Bool → List (List ℕ) → List ℕ → List ℕ → Turned
final w ls rows changes = record { lines = ls; next = State.Finished w; rows = rows; changes = changes }

abbrev pub row_on : Place → List ℕ → List ℕ → Turned
row_on p rows changes = record { lines = []; next = State.Row p; rows = rows; changes = changes }

abbrev pub first_row : Cursor → ℕ → Place
first_row c n = record { cursor = c; count = n; row = 0; met = None; whole = true }

abbrev pub opened : ℕ → List ℕ → List ℕ → Heading → Ended → Turned
opened room rows changes o (Ok tt) = row_on (first_row o.cursor (length o.rows)) (header_filled o.rows rows) changes
opened room rows changes o (Err (e, n)) = final false (fit room (met_lines (Some (e, n)))) (header_filled o.rows rows) changes

unfoldable pub begin_turn : List ℕ → ℕ → List ℕ → List ℕ → Turned
begin_turn s room rows changes =
    cond (ltb taken (length s)) (final false (fit room long_lines) rows changes)
    (opened room rows changes (header_of s fresh_cursor rows) (header_of s fresh_cursor rows).ended)

abbrev pub next_row : Place → Place
next_row p = record { cursor = p.cursor; count = p.count; row = p.row + 1; met = p.met; whole = p.whole }

abbrev pub met_row : Place → Ended → Place
met_row p e = record { cursor = p.cursor; count = p.count; row = p.row; met = met_then p.met e; whole = is_whole e && p.whole }

abbrev pub printing : Var → ℕ → Outcome → Printing
printing v n o = record { name = v.reference; width = v.size; next = n; count = length o.rows; ended = o.ended }

abbrev pub var_turn : List ℕ → List ℕ → List ℕ → Place → Var → Turned
var_turn s rows changes p v =
    let o : Outcome = list_of s p.cursor v.code changes in
    record { lines = []; next = State.Lines p (printing v 0 o); rows = rows; changes = list_filled o.rows changes }

abbrev pub row_then : List ℕ → List ℕ → List ℕ → Place → Row → Turned
row_then s rows changes p (Row.Var q v) = var_turn s rows changes p v
row_then s rows changes p (Row.Scope q k t) = row_on p rows changes
row_then s rows changes p (Row.Comment q t) = row_on p rows changes
row_then s rows changes p Row.None = row_on p rows changes

unfoldable pub row_turn : List ℕ → ℕ → List ℕ → List ℕ → Place → Turned
row_turn s room rows changes p =
    cond (leb p.count p.row) (final p.whole (fit room (met_lines p.met)) rows changes)
    (row_then s rows changes (next_row p) (row_at rows p.row))

-- the lines of a variable that are still to come, and those that have room now
abbrev pub ahead : List ℕ → List ℕ → Printing → List (List ℕ)
ahead s changes l = lines_from s (part s l.name) l.width changes l.next (l.count - l.next)

abbrev pub passed : Printing → ℕ → Printing
passed l n = record { name = l.name; width = l.width; next = l.next + n; count = l.count; ended = l.ended }

-- the lines ls have room; none has where a line is longer than the output
abbrev pub some : List ℕ → List ℕ → Place → Printing → List (List ℕ) → Turned
some rows changes p l ls =
    cond (eqb (length ls) 0) (final false [] rows changes)
    (record { lines = ls; next = State.Lines p (passed l (length ls)); rows = rows; changes = changes })

unfoldable pub lines_turn : List ℕ → ℕ → List ℕ → List ℕ → Place → Printing → Turned
lines_turn s room rows changes p l =
    cond (ltb l.next l.count) (some rows changes p l (fit room (ahead s changes l)))
    (record { lines = fit room (end_lines (part s l.name) l.ended); next = State.Row (met_row p l.ended); rows = rows; changes = changes })

abbrev pub turn_of : List ℕ → ℕ → List ℕ → List ℕ → State → Turned
turn_of s room rows changes State.Begin = begin_turn s room rows changes
turn_of s room rows changes (State.Row p) = row_turn s room rows changes p
turn_of s room rows changes (State.Lines p l) = lines_turn s room rows changes p l
turn_of s room rows changes (State.Finished w) = final w [] rows changes

-- a turn of each kind leaves what it is not lent
abbrev pub Begins : Turn → List ℕ → List ℕ → List ℕ → List ℕ → List ℕ → Type 0
Begins r rows out s rows₀ out₀ = (changes : List ℕ) → Does r rows changes out out₀ (begin_turn s (length out₀) rows₀ changes)

abbrev pub Lists : Turn → List ℕ → List ℕ → List ℕ → Place → Var → Type 0
Lists r changes s changes₀ p v = (rows out : List ℕ) → Does r rows changes out out (var_turn s rows changes₀ p v)

abbrev pub Prints : Turn → List ℕ → List ℕ → List ℕ → List ℕ → Place → Printing → Type 0
Prints r out s changes out₀ p l = (rows : List ℕ) → Does r rows changes out out₀ (lines_turn s (length out₀) rows changes p l)

-- ---- all turns from a state on, until it is finished: the bytes of one after those of the other, and the outcome
pub data Runs (s : List ℕ) (room : ℕ) : List ℕ → List ℕ → State → List ℕ → Bool → Type 0 where
  ends : {rows changes : List ℕ} {w : Bool} → Runs s room rows changes (State.Finished w) [] w
  turn : {rows changes : List ℕ} {st : State} {b : List ℕ} {w : Bool} (t : Turned) → turn_of s room rows changes st ≡ t
      → Runs s room t.rows t.changes t.next b w → Runs s room rows changes st (concat t.lines ++ b) w

-- ---- what is still to be printed
abbrev pub rows_ahead : List ℕ → List ℕ → Place → List (List ℕ)
rows_ahead s rows p = rows_lines s p.cursor (rows_from rows p.row (p.count - p.row)) p.met

abbrev pub rest : List ℕ → List ℕ → List ℕ → State → List (List ℕ)
rest s rows changes State.Begin = list_lines s
rest s rows changes (State.Row p) = rows_ahead s rows p
rest s rows changes (State.Lines p l) =
    ahead s changes l ++ (end_lines (part s l.name) l.ended ++ rows_ahead s rows (met_row p l.ended))
rest s rows changes (State.Finished w) = []

-- and the outcome
abbrev pub whole_ahead : List ℕ → List ℕ → Place → Bool
whole_ahead s rows p = p.whole && rows_whole s p.cursor (rows_from rows p.row (p.count - p.row))

abbrev pub outcome : List ℕ → List ℕ → State → Bool
outcome s rows State.Begin = list_whole s
outcome s rows (State.Row p) = whole_ahead s rows p
outcome s rows (State.Lines p l) = whole_ahead s rows (met_row p l.ended)
outcome s rows (State.Finished w) = w

abbrev pub is_finished : State → Bool
is_finished State.Begin = false
is_finished (State.Row p) = false
is_finished (State.Lines p l) = false
is_finished (State.Finished w) = true

abbrev pub ended_whole : State → Bool
ended_whole State.Begin = false
ended_whole (State.Row p) = false
ended_whole (State.Lines p l) = false
ended_whole (State.Finished w) = w

-- the words of both tables, and the bytes of an output in which every line has room
abbrev pub row_words : ℕ
row_words = 10 * header_rows

abbrev pub change_words : ℕ
change_words = 6 * most_changes

abbrev pub lent : ℕ
lent = 131136

-- the tables before a turn: the header's is asked for only at the beginning
abbrev pub RowsFor : List ℕ → State → Type 0
RowsFor rows State.Begin = length rows ≡ row_words
RowsFor rows (State.Row p) = Unit {0}
RowsFor rows (State.Lines p l) = Unit {0}
RowsFor rows (State.Finished w) = Unit {0}

pub record Tables (rows changes : List ℕ) (st : State) : Type 0 where
  pub head : RowsFor rows st
  pub list : length changes ≡ change_words

-- how many turns are left, at most
abbrev pub left : State → ℕ
left State.Begin = 2 + (3 + most_changes) * header_rows
left (State.Row p) = 1 + (3 + most_changes) * (p.count - p.row)
left (State.Lines p l) = 2 + (3 + most_changes) * (p.count - p.row) + (l.count - l.next)
left (State.Finished w) = 0

-- after a turn the tables serve the next one, and fewer turns are left
pub record Nearer (st : State) (t : Turned) : Type 0 where
  pub tables : Tables t.rows t.changes t.next
  pub fewer : left t.next < left st

abbrev pub Ends : Type 0
Ends =
    (s : List ℕ) (room : ℕ) (rows changes : List ℕ) (st : State) → Tables rows changes st → is_finished st ≡ false
    → Nearer st (turn_of s room rows changes st)

-- every line has room
abbrev pub Roomy : ℕ → List (List ℕ) → Type 0
Roomy room [] = Unit {0}
Roomy room (l ∷ ls) = (length l ≤ room) × Roomy room ls
