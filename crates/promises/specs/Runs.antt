-- Runs of calls: each at the state that the last one left, and with an output of its own. The file is the accepted bytes joined. The state
-- is a writer, or the words that a caller of the library keeps.
use Rattle.timescale.specs.declared.TimescaleUnit.{TimescaleUnit}
use Rattle.command.specs.declared.Refusal.{Refusal}
use Rattle.std.specs.Prelude.{ℕ, ◌^◌, ◌<◌, cond, not, ◌||◌, List, [], ◌∷◌, ◌++◌, eqb, length, take, Option, Some, None, Result, Ok, Err}
use Rattle.text.specs.declared.Text.{Text}
use Rattle.scope.specs.declared.ReferenceIndex.{ReferenceIndex}
use Rattle.scope.specs.declared.VarType.{VarType}
use Rattle.command.specs.Meaning.{Meaning, meaning}
use Rattle.command.specs.declared.Command.{Command}
use Rattle.token.specs.declared.Cursor.{Cursor}
use Rattle.parser.specs.All.{commands}
use Rattle.rows.specs.Good.{is_good_table}
use Rattle.rows.specs.Rows.{rows_of}
use Rattle.rows.specs.declared.Row.{Row}
use Rattle.record.specs.Record.{record_at}
use Rattle.header.specs.declared.Header.{Header}
use Rattle.write.specs.Call.{Outcome as Called, call, new_var}
use Rattle.scope.specs.Index.{SizedIndex}
use Rattle.write.specs.Run.{Sized, taken}
use Rattle.write.specs.declared.Writer.{Writer}
use Rattle.lent_writer.specs.Lent.{lent_answer, lent_state}
use Rattle.write_header.specs.Meanings.{header_meanings}
use Rattle.write_header.specs.Written.{Outcome, misplaced, header_call}
use Rattle.rewrite.specs.Rewrite.{Outcome as Rewriting, meanings_in, rewrite_of, answer_of, filled}
use Rattle.vcd_state.specs.State.{cursor_of, writer_of, head_of}
use Rattle.write_calls.specs.Writing.{WriteLeft, RewriteLeft, command_call, write_header_call, rewrite_call}

-- ---- any calls, whatever their state is
-- what a call gives: bytes of the file, the meanings of the commands that it accepted, and the next state
pub record Effect (S : Type 0) : Type 0 where
  pub bytes : List ℕ
  pub accepted : List Meaning
  pub state : S

-- what a run leaves: the bytes of the file, and the meanings of the accepted commands
pub record Ran : Type 0 where
  pub file : List ℕ
  pub accepted : List Meaning

unfoldable pub ran : {S C : Type 0} → (S → C → Effect S) → S → List C → Ran
ran f w [] = record { file = []; accepted = [] }
ran f w (c ∷ cs) =
    let x = f w c in
    let y : Ran = ran f x.state cs in
    record { file = x.bytes ++ y.file; accepted = x.accepted ++ y.accepted }

-- ---- a writer's calls
-- the numbers of a table and of what a header keeps are of their types
abbrev pub SizedTable : List ℕ → Type 0
SizedTable [] = Unit {0}
SizedTable (w ∷ table) = (w < 2 ^ 64) × SizedTable table

abbrev pub SizedScale : Option (ℕ × TimescaleUnit) → Type 0
SizedScale None = Unit {0}
SizedScale (Some (n, u)) = n < 2 ^ 32

-- A call: a command, whose texts lie in src; the same with the state lent; a variable with the writer's next id; the first n rows of a
-- table as a header; or the commands of src from a cursor on, rewritten. `single` is every call with one command of its own, `adding` is
-- add_var and add_wire.
pub data Call : Type 0 where
  single : (k : Command) (src out : List ℕ) → Sized (meaning src k) → Call
  lent : (k : Command) (src out : List ℕ) → Sized (meaning src k) → Call
  adding : (k : VarType) (width : ℕ) (t : Text) (x : ReferenceIndex) (src out : List ℕ) → width < 2 ^ 32 → SizedIndex x → Call
  header : (src : List ℕ) (h : Header) (table : List ℕ) (n : ℕ) (out : List ℕ) → SizedTable table → SizedScale h.timescale → Call
  rewriting : (src : List ℕ) (c : Cursor) (out : List ℕ) → Call

-- an accepted command gives as many bytes as it answers, from the start of its output, and the next state; a refused one nothing
abbrev pub gives : Writer → Meaning → Result (ℕ × Writer) Refusal → List ℕ → Effect Writer
gives w m (Ok (n, v)) o = record { bytes = take n o; accepted = m ∷ []; state = v }
gives w m (Err e) o = record { bytes = []; accepted = []; state = w }

abbrev pub single_gives : Writer → List ℕ → Command → List ℕ → Effect Writer
single_gives w src k out = let x : Called = call w src k out in gives w (meaning src k) x.answer x.left

-- with the state lent: the one that stands there then
abbrev pub lent_gives : Meaning → Result ℕ Refusal → Writer → List ℕ → Effect Writer
lent_gives m (Ok n) v o = record { bytes = take n o; accepted = m ∷ []; state = v }
lent_gives m (Err e) v o = record { bytes = []; accepted = []; state = v }

-- the commands that a header's call accepts: none where a text is misplaced (25) or the table is not good (23); else those before the
-- first that may not be written (22) or has no room (21)
abbrev pub header_taken : Writer → List ℕ → Header → List Row → ℕ → List Meaning
header_taken w src h rs room = cond (misplaced src h rs || not (is_good_table rs)) [] (taken w room (header_meanings src h rs))

-- what a header's call gives, stopped or not: as many bytes as it answers, from the start of its output, and the state that it answers
abbrev pub header_gives : List Meaning → Result (ℕ × Writer) (Refusal × ℕ × Writer) → List ℕ → Effect Writer
header_gives ms (Ok (n, v)) o = record { bytes = take n o; accepted = ms; state = v }
header_gives ms (Err (e, n, v)) o = record { bytes = take n o; accepted = ms; state = v }

-- the commands that rewriting accepts: of those that are read, the ones before the first that may not be written or has no room
abbrev pub rewrite_taken : Writer → List ℕ → Cursor → ℕ → List Meaning
rewrite_taken w src c room = taken w room (meanings_in src (commands src c))

-- what a call gives
unfoldable pub effect_of : Writer → Call → Effect Writer
effect_of w (single k src out z) = single_gives w src k out
effect_of w (lent k src out z) =
    let x : Called = call w src k out in lent_gives (meaning src k) (lent_answer x.answer) (lent_state w x.answer) x.left
effect_of w (adding k width t x src out z y) = single_gives w src (new_var w k width t x) out
effect_of w (header src h table n out z y) =
    let x : Outcome = header_call w src h table n out in
    header_gives (header_taken w src h (rows_of table n) (length out)) x.answer x.left
effect_of w (rewriting src c out) =
    let x : Rewriting = rewrite_of src c w out in
    record {
      bytes = take (answer_of x).count (filled x.bytes out);
      accepted = rewrite_taken w src c (length out);
      state = (answer_of x).writer;
    }

abbrev pub runs : Writer → List Call → Ran
runs w cs = ran effect_of w cs

-- ---- the library's calls, over words
-- A call of the library that writes, with the arrays that it is lent besides the state: vcd_command with a record, vcd_write_header with a
-- head and rows, vcd_rewrite with a cursor and a line. Its count is 0 before it.
pub data LibraryCall : Type 0 where
  vcd_command : (src words out : List ℕ) → SizedTable words → LibraryCall
  vcd_write_header : (src head table out : List ℕ) → SizedTable table → LibraryCall
  vcd_rewrite : (src cursor out : List ℕ) (line : ℕ) → LibraryCall

-- what words are: nothing is accepted where they are no state, record, head or cursor
abbrev pub on_writer : (Writer → List Meaning) → Option Writer → List Meaning
on_writer f (Some w) = f w
on_writer f None = []

abbrev pub on_record : (Command → List Meaning) → Option Command → List Meaning
on_record f (Some k) = f k
on_record f None = []

abbrev pub on_head : (Header → ℕ → List Meaning) → Option (Header × ℕ) → List Meaning
on_head f (Some (h, n)) = f h n
on_head f None = []

abbrev pub on_cursor : (Cursor → List Meaning) → Option Cursor → List Meaning
on_cursor f (Some c) = f c
on_cursor f None = []

-- the bytes counted, from the start of the output, and the words that are left
abbrev pub left_gives : List Meaning → WriteLeft → Effect (List ℕ)
left_gives ms x = record { bytes = take x.count x.output; accepted = ms; state = x.writer }

-- a record's command is accepted where the answer is 0
abbrev pub record_taken : List ℕ → Option Command → ℕ → List Meaning
record_taken src r status = cond (eqb status 0) (on_record (λ k. meaning src k ∷ []) r) []

unfoldable pub library_effect : List ℕ → LibraryCall → Effect (List ℕ)
library_effect ws (vcd_command src words out z) =
    let x : WriteLeft = command_call ws src words out 0 in left_gives (record_taken src (record_at words 0) x.status) x
library_effect ws (vcd_write_header src head table out z) =
    left_gives (on_writer (λ w. on_head (λ h n. header_taken w src h (rows_of table n) (length out)) (head_of head)) (writer_of ws))
    (write_header_call ws src head table out 0)
library_effect ws (vcd_rewrite src cursor out line) =
    let x : RewriteLeft = rewrite_call src cursor ws out 0 line in
    record {
      bytes = take x.count x.output;
      accepted = on_writer (λ w. on_cursor (λ c. rewrite_taken w src c (length out)) (cursor_of cursor)) (writer_of ws);
      state = x.writer;
    }

abbrev pub library_runs : List ℕ → List LibraryCall → Ran
library_runs ws cs = ran library_effect ws cs
