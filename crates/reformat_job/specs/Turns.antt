-- A turn: the bytes that it prints, the state and the rows then; and what all turns from a state on print.
use Rattle.command.specs.Refusals.{Ended}
use Rattle.std.specs.Prelude.{ℕ, ◌*◌, ◌≡◌, Bool, true, false, cond, List, [], ◌++◌, eqb, leb, ltb, length, drop, Option, Some, None, Result, Ok, Err}
use Rattle.command.specs.Meaning.{Meaning}
use Rattle.command.specs.Refusals.{number_of}
use Rattle.command.specs.declared.Refusal.{Refusal}
use Rattle.header.specs.Header.{Outcome as Heading, header_of}
use Rattle.lines.specs.Lines.{taken as input_limit, header_rows, long_line, refused_line}
use Rattle.parser.specs.All.{commands}
use Rattle.parser.specs.Next.{fresh as fresh_cursor}
use Rattle.rewrite.specs.Rewrite.{Outcome, rewritten}
use Rattle.rows.specs.Rows.{filled}
use Rattle.token.specs.declared.Cursor.{Cursor}
use Rattle.write.specs.Layout.{fresh}
use Rattle.write.specs.Run.{layouts, states_after, taken}
use Rattle.write.specs.declared.Writer.{Writer}
use Rattle.write_header.specs.Meanings.{header_meanings}
use Rattle.write_header.specs.Written.{stopped}
use Rattle.reformat_job.specs.Reformat.{lent_bytes, reformat_text, reformat_whole}
use Rattle.reformat_job.specs.declared.State.{State}
use Rattle.reformat_job.specs.declared.Turn.{Turn}

-- what a turn prints and leaves
pub record Turned : Type 0 where
  pub bytes : List ℕ
  pub next : State
  pub rows : List ℕ

-- a call does so: the bytes stand at the output's start, and the rest is as it was
pub record Does (r : Turn) (rows out out₀ : List ℕ) (t : Turned) : Type 0 where
  pub count : r.count ≡ length t.bytes
  pub next : r.next ≡ t.next
  pub table : rows ≡ t.rows
  pub output : out ≡ t.bytes ++ drop (length t.bytes) out₀

-- a last line, where it has room
abbrev pub last_of : ℕ → List ℕ → List ℕ → Turned
last_of room table line = record { bytes = cond (leb (length line) room) line []; next = State.Finished false; rows = table }

-- ---- the header
abbrev pub written_next : ℕ → List Meaning → List Meaning → Cursor → State
written_next room all l c =
    cond (eqb (length l) (length all)) (State.Commands c (states_after fresh l)) (State.Last (stopped fresh room all) c.line)

abbrev pub opened : List ℕ → ℕ → List ℕ → Heading → Ended → Turned
opened s room table h (Ok tt) =
    let all : List Meaning = header_meanings s h.kept h.rows in
    let l : List Meaning = taken fresh room all in
    record { bytes = layouts l; next = written_next room all l h.cursor; rows = filled h.rows table }
opened s room table h (Err (e, n)) = record { bytes = []; next = State.Last e n; rows = filled h.rows table }

unfoldable pub begin_turn : List ℕ → ℕ → List ℕ → Turned
begin_turn s room table =
    let h : Heading = header_of s fresh_cursor table in
    cond (ltb input_limit (length s)) (last_of room table long_line) (opened s room table h h.ended)

-- ---- the commands: for want of room after some bytes, the next turn goes on
abbrev pub goes_on : Refusal → ℕ → Bool
goes_on e count = cond (eqb count 0) false (eqb (number_of e) (number_of Refusal.NoRoom))

abbrev pub next_of : Cursor → Writer → ℕ → Ended → State
next_of c w count (Ok tt) = State.Finished true
next_of c w count (Err (e, n)) = cond (goes_on e count) (State.Commands c w) (State.Last e n)

unfoldable pub commands_turn : List ℕ → ℕ → List ℕ → Cursor → Writer → Turned
commands_turn s room table c w =
    let o : Outcome = rewritten s room w c (commands s c) in
    record { bytes = o.bytes; next = next_of o.cursor o.writer (length o.bytes) o.ended; rows = table }

abbrev pub turn_of : List ℕ → ℕ → List ℕ → State → Turned
turn_of s room table State.Begin = begin_turn s room table
turn_of s room table (State.Commands c w) = commands_turn s room table c w
turn_of s room table (State.Last e n) = last_of room table (refused_line (number_of e) n)
turn_of s room table (State.Finished whole) = record { bytes = []; next = State.Finished whole; rows = table }

abbrev pub is_finished : State → Bool
is_finished State.Begin = false
is_finished (State.Commands c w) = false
is_finished (State.Last e n) = false
is_finished (State.Finished whole) = true

-- whether a state ended whole
abbrev pub is_whole : State → Bool
is_whole State.Begin = false
is_whole (State.Commands c w) = false
is_whole (State.Last e n) = false
is_whole (State.Finished whole) = whole

-- ---- what the parts of the code promise
abbrev pub count_of : Option ℕ → ℕ
count_of (Some n) = n
count_of None = 0

-- how a header was written
abbrev pub headed_turn : Cursor → Result (ℕ × Writer) (Refusal × ℕ × Writer) → Turn
headed_turn c (Ok (n, w)) = record { count = n; next = State.Commands c w }
headed_turn c (Err (e, n, w)) = record { count = n; next = State.Last e c.line }

-- a turn that is not lent the rows leaves them
abbrev pub Leaves : Turn → List ℕ → List ℕ → (List ℕ → Turned) → Type 0
Leaves r out out₀ turn = (table : List ℕ) → Does r table out out₀ (turn table)

-- ---- all turns from a state on: the bytes of one after those of the other, until they are finished, whole or not
pub data Runs (s : List ℕ) (room : ℕ) : List ℕ → State → List ℕ → Bool → Type 0 where
  over : {table : List ℕ} {whole : Bool} → Runs s room table (State.Finished whole) [] whole
  turn : {table : List ℕ} {st : State} {b : List ℕ} {whole : Bool} (t : Turned) → turn_of s room table st ≡ t → Runs s room t.rows t.next b whole
      → Runs s room table st (t.bytes ++ b) whole

-- the words of the rows that are lent
abbrev pub row_words : ℕ
row_words = 10 * header_rows

-- The turns from the first state, with 256 rows and 65,536 bytes lent, print exactly the text, and end whole or not as it is.
abbrev pub Prints : Type 0
Prints =
    (s table : List ℕ) → length table ≡ row_words → Runs s lent_bytes table State.Begin (reformat_text s) (reformat_whole s)
