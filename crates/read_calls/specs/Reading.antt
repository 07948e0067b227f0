-- What each reading call answers, and what it leaves in each lent array. An answer is 0, the page's number of a refusal, or 255 where
-- reading is at the end. 25 with nothing changed, where an array has the wrong length or its words are no state.
use Rattle.command.specs.declared.Refusal.{Refusal}
use Rattle.std.specs.Prelude.{Result, ℕ, ◌*◌, ◌-◌, ◌^◌, Bool, true, false, cond, List, eqb, length, take, drop, Option, Some, None, Ok, Err}
use Rattle.command.specs.Refusals.{Ended, number_of}
use Rattle.header.specs.Header.{Outcome as HeaderOutcome, header_of, answer_of as header_answer}
use Rattle.rows.specs.Rows.{filled as header_filled, row_at}
use Rattle.header.specs.declared.HeaderAnswer.{HeaderAnswer}
use Rattle.rows.specs.declared.RowNumber.{RowNumber}
use Rattle.rows.specs.declared.Row.{Row}
use Rattle.change.specs.Rows.{change_at}
use Rattle.change.specs.declared.Change.{Change}
use Rattle.parser.specs.Next.{next_from}
use Rattle.parser.specs.declared.Next.{Next}
use Rattle.records.specs.Read.{Outcome as ReadOutcome, read_of, filled as read_filled}
use Rattle.record.specs.Record.{record_words}
use Rattle.records.specs.declared.Ended.{Ended as ReadEnded}
use Rattle.token.specs.declared.Cursor.{Cursor}
use Rattle.vcd_state.specs.State.{cursor_words, cursor_of, head_words}

-- no row
abbrev pub none : ℕ
none = 2 ^ 64 - 1

-- ---- reading
-- the answer, the cursor's words, the table, the count
pub record Left : Type 0 where
  pub status : ℕ
  pub cursor : List ℕ
  pub table : List ℕ
  pub count : ℕ

abbrev pub kept : List ℕ → List ℕ → ℕ → Left
kept w t n = record { status = 25; cursor = w; table = t; count = n }

abbrev pub on_cursor : (Cursor → Left) → Left → Option Cursor → Left
on_cursor f x (Some c) = f c
on_cursor f x None = x

-- one command: the count is 1 where there is one
abbrev pub one_read : List ℕ → Next → Left
one_read t (Next.Command k d) = record { status = 0; cursor = cursor_words d; table = record_words k; count = 1 }
one_read t (Next.Refused e line d) = record { status = number_of e; cursor = cursor_words d; table = t; count = 0 }
one_read t (Next.Done d) = record { status = 255; cursor = cursor_words d; table = t; count = 0 }

unfoldable pub next_call : List ℕ → List ℕ → List ℕ → Left
next_call s w t = cond (eqb (length t) 9) (on_cursor (λ c. one_read t (next_from s c)) (kept w t 0) (cursor_of w)) (kept w t 0)

abbrev pub read_status : ReadEnded → ℕ
read_status ReadEnded.Full = 0
read_status ReadEnded.Whole = 255
read_status (ReadEnded.Refused e line) = number_of e

abbrev pub many_read : List ℕ → List ℕ → Cursor → Left
many_read s t c =
    let o : ReadOutcome = read_of s c t in
    record {
      status = read_status o.ended;
      cursor = cursor_words o.cursor;
      table = read_filled o.commands t;
      count = length o.commands;
    }

unfoldable pub read_call : List ℕ → List ℕ → List ℕ → ℕ → Left
read_call s w t n = on_cursor (many_read s t) (kept w t n) (cursor_of w)

-- ---- headers: the table is the rows', and the kept values' words come beside
pub record HeaderLeft : Type 0 where
  pub status : ℕ
  pub cursor : List ℕ
  pub rows : List ℕ
  pub head : List ℕ

abbrev pub header_kept : List ℕ → List ℕ → List ℕ → HeaderLeft
header_kept w t h = record { status = 25; cursor = w; rows = t; head = h }

abbrev pub header_status : Ended → ℕ
header_status (Ok tt) = 0
header_status (Err (e, line)) = number_of e

abbrev pub header_read : List ℕ → List ℕ → Cursor → HeaderLeft
header_read s t c =
    let o : HeaderOutcome = header_of s c t in
    let a : HeaderAnswer = header_answer o in
    record {
      status = header_status a.ended;
      cursor = cursor_words a.cursor;
      rows = header_filled o.rows t;
      head = head_words a.header a.count;
    }

abbrev pub header_on : (Cursor → HeaderLeft) → HeaderLeft → Option Cursor → HeaderLeft
header_on f x (Some c) = f c
header_on f x None = x

unfoldable pub header_call_of : List ℕ → List ℕ → List ℕ → List ℕ → HeaderLeft
header_call_of s w t h = cond (eqb (length h) 10) (header_on (header_read s t) (header_kept w t h) (cursor_of w)) (header_kept w t h)

-- is there a row? its words are those of the table
abbrev pub is_row : Row → Bool
is_row (Row.Scope p k t) = true
is_row (Row.Var p v) = true
is_row (Row.Comment p t) = true
is_row Row.None = false

abbrev pub is_change : Change → Bool
is_change (Change.Is t line k v) = true
is_change Change.None = false

unfoldable pub row_status : Bool → ℕ
row_status ok = cond ok 0 25

-- row i of a table of rows of so many words
unfoldable pub row_copied : Bool → ℕ → List ℕ → ℕ → List ℕ → List ℕ
row_copied ok words t i o = cond ok (take words (drop (words * i) t)) o

-- a row of the wanted length
unfoldable pub is_row_call : List ℕ → ℕ → List ℕ → Bool
is_row_call t i o = cond (eqb (length o) 10) (is_row (row_at t i)) false

unfoldable pub is_change_call : List ℕ → ℕ → List ℕ → Bool
is_change_call t i o = cond (eqb (length o) 6) (is_change (change_at t i)) false

-- a row that is found, or none, is stored; a refusal stores nothing
abbrev pub found_status : Result (Option RowNumber) Refusal → ℕ
found_status (Ok n) = 0
found_status (Err e) = number_of e

abbrev pub found_after : ℕ → Result (Option RowNumber) Refusal → ℕ
found_after w (Ok (Some n)) = n.0
found_after w (Ok None) = none
found_after w (Err e) = w
