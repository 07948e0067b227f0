-- What is promised: the statements of this crate in one place. Their proofs are in proofs/, under the same names in lower case.
use Rattle.command.specs.Refusals.{Ended}
use Rattle.command.specs.declared.Time.{Time}
use Rattle.std.specs.Prelude.{ℕ, suc, ◌+◌, ◌-◌, ◌*◌, ◌/◌, ◌^◌, ◌≤◌, ◌<◌, ◌≡◌, true, false, List, [], ◌∷◌, ◌++◌, length, take, replicate, Option, None, Result, Ok, Err}
use Rattle.text.specs.Bytes.{bytes, all_blank}
use Rattle.text.specs.declared.Text.{Text}
use Rattle.value.specs.declared.Value.{Value}
use Rattle.idcode.specs.Id.{parse_id, id_text, id_sum}
use Rattle.idcode.specs.declared.IdCode.{IdCode}
use Rattle.scope.specs.declared.ReferenceIndex.{ReferenceIndex}
use Rattle.scope.specs.declared.VarType.{VarType}
use Rattle.command.specs.Meaning.{Meaning, remark, timescale, scope_def, upscope, var_def, enddefinitions, timestamp, change, scalar, begin, end, meaning, remark_word, open_after}
use Rattle.command.specs.Words.{spoken, end_mark}
use Rattle.command.specs.declared.Command.{Command}
use Rattle.command.specs.declared.Refusal.{Refusal}
use Rattle.token.specs.Read.{Valid, after, rest}
use Rattle.token.specs.declared.Cursor.{Cursor}
use Rattle.parser_part.specs.Plan.{with_open}
use Rattle.parser.specs.Next.{next_from, fresh as start}
use Rattle.parser.specs.Refusals.{is_of_reading}
use Rattle.parser.specs.All.{Commands, command, stop, finish, commands, said, says, read_all, exactly}
use Rattle.parser.specs.declared.Next.{Next}
use Rattle.rows.specs.Rows.{rows_of}
use Rattle.header.specs.declared.Header.{Header}
use Rattle.text.specs.Texts.{limit, outside}
use Rattle.write.specs.Call.{Outcome, refusal, call, Does, new_var, Adds}
use Rattle.write.specs.Layout.{layout, writable, fresh}
use Rattle.write.specs.Run.{layouts, Sized, Accepted}
use Rattle.write.specs.declared.Writer.{Writer}
use Rattle.write_header.specs.Meanings.{header_meanings}
use Rattle.write_header.specs.Written.{Outcome as HeaderOutcome, header_call, Does as HeaderDoes}
use Rattle.vcd_state.specs.State.{writer_words}
use Rattle.list_step.specs.Step.{change as change_told}
use Rattle.listing.specs.Listing.{Outcome as Listing, list_in}
use Rattle.change.specs.declared.ChangeKind.{ChangeKind}
use Rattle.list_job.specs.Whole.{list_text, list_whole}
use Rattle.list_job.specs.Turns.{lent, row_words, change_words, Runs as Turns, Turned, Does as ListDoes}
use Rattle.list_job.specs.declared.State.{State}
use Rattle.list_job.specs.declared.Turn.{Turn}
use Rattle.lines.specs.Lines.{header_rows}
use Rattle.reformat_job.specs.Reformat.{lent_bytes, reformat_text, reformat_whole}
use Rattle.reformat_job.specs.Turns.{Runs as ReformatTurns, Turned as ReformatTurned, Does as ReformatDoes}
use Rattle.reformat_job.specs.declared.State.{State as ReformatState}
use Rattle.reformat_job.specs.declared.Turn.{Turn as ReformatTurn}
use Rattle.promises.specs.Runs.{SizedTable, SizedScale, Call, header, effect_of, Ran, runs, LibraryCall, library_runs}
use Rattle.promises.specs.Listed.{Step, Steps, Stops, role_in, count, Holds, HoldsOn, joined, paged}

-- All commands from a cursor, as everything below has them: a command and then those from the cursor after it; or the refusal, or the
-- end, where reading says so and nowhere else.
abbrev pub first_of : List ℕ → Next → Commands
first_of s (Next.Command k d) = command k d (commands s d)
first_of s (Next.Refused e n d) = stop e n d
first_of s (Next.Done d) = finish d

abbrev pub CommandsStep : Type 0
CommandsStep = (s : List ℕ) (c : Cursor) → commands s c ≡ first_of s (next_from s c)

-- a layout in two parts: what reading its command leaves to the next read, the newline after a comment's `$end`; and before it what reading takes
abbrev pub due : Meaning → List ℕ
due (remark k t) = bytes "\n"
due (timescale n u) = []
due (scope_def k t) = []
due upscope = []
due (var_def k n i t x) = []
due enddefinitions = []
due (timestamp n) = []
due (change i v) = []
due (begin k) = []
due (end k) = []

abbrev pub core : Meaning → List ℕ
core (remark k t) = spoken (remark_word k) ++ (bytes "\n" ++ ((bytes "    " ++ t) ++ (bytes "\n" ++ end_mark)))
core (timescale n u) = layout (timescale n u)
core (scope_def k t) = layout (scope_def k t)
core upscope = layout upscope
core (var_def k n i t x) = layout (var_def k n i t x)
core enddefinitions = layout enddefinitions
core (timestamp n) = layout (timestamp n)
core (change i v) = layout (change i v)
core (begin k) = layout (begin k)
core (end k) = layout (end k)

-- the cursor after a command of this meaning that stands after the blanks g: past what reading it takes, with what is then open
abbrev pub cursor_after : List ℕ → Meaning → Cursor → Cursor
cursor_after g m c = let e : Cursor = after (g ++ core m) c in with_open e (open_after m e.sim)

-- One command: where the layout of a writable command stands, after blanks and before anything, and the same simulation command is
-- open, the next command is that one. The line does not matter.
abbrev pub OneBack : Type 0
OneBack =
    (m : Meaning) (w : Writer) (s g r : List ℕ) (c : Cursor) → writable w m ≡ true → Sized m → Valid s c → c.sim ≡ w.sim → all_blank g ≡ true
    → rest s c ≡ g ++ (layout m ++ r) → says s (next_from s c) ≡ said m (cursor_after g m c)

-- Commands that a new writer accepts in order: their layouts read back as exactly these, then the end.
abbrev pub WrittenRead : Type 0
WrittenRead = (ms : List Meaning) → Accepted fresh ms → length (layouts ms) ≤ limit → read_all (layouts ms) start ≡ exactly ms

-- What calls leave: the file is the layouts of the accepted commands, and each of these might be written in its turn.
pub record Joined (w : Writer) (x : Ran) : Type 0 where
  pub bytes : x.file ≡ layouts x.accepted
  pub each : Accepted w x.accepted

-- of every state whose next id is of its type, as a new writer's is; as a writer, and as words
abbrev pub RunAccepted : Type 0
RunAccepted = (w : Writer) (cs : List Call) → w.id.0 < 2 ^ 64 → Joined w (runs w cs)

abbrev pub LibraryAccepted : Type 0
LibraryAccepted = (w : Writer) (cs : List LibraryCall) → w.id.0 < 2 ^ 64 → Joined w (library_runs (writer_words w) cs)

-- A header that is written whole: its commands are accepted, all of them.
abbrev pub HeaderWhole : Type 0
HeaderWhole =
    (w v : Writer) (src : List ℕ) (h : Header) (table : List ℕ) (n m : ℕ) (out : List ℕ) (z : SizedTable table) (y : SizedScale h.timescale)
    → (header_call w src h table n out).answer ≡ Ok (m, v)
    → (effect_of w (header src h table n out z y)).accepted ≡ header_meanings src h (rows_of table n)

-- Any calls of a new writer, in any mixture, refused ones among them: the file reads back as exactly the accepted commands, then the end.
abbrev pub RoundTrip : Type 0
RoundTrip = (cs : List Call) → length (runs fresh cs).file ≤ limit → read_all (runs fresh cs).file start ≡ exactly (runs fresh cs).accepted

-- The same of the library: from the words of VCD_WRITER_START, each call given the words that the last one left.
abbrev pub start_words : List ℕ
start_words = 0 ∷ 0 ∷ 0 ∷ []

abbrev pub LibraryRoundTrip : Type 0
LibraryRoundTrip =
    (cs : List LibraryCall) → length (library_runs start_words cs).file ≤ limit
    → read_all (library_runs start_words cs).file start ≡ exactly (library_runs start_words cs).accepted

-- Rewriting: a command that was read and that the writer accepts at its state w is read again, from what was written, as the same
-- command: from any good cursor where the same simulation command is open, after blanks and before anything.
abbrev pub Rewritten : Type 0
Rewritten =
    (s : List ℕ) (c d : Cursor) (k : Command) (w : Writer) (t g r : List ℕ) (e : Cursor) → next_from s c ≡ Next.Command k d → writable w (meaning s k) ≡ true
    → Valid t e → e.sim ≡ w.sim → all_blank g ≡ true → rest t e ≡ g ++ (layout (meaning s k) ++ r)
    → says t (next_from t e) ≡ said (meaning s k) (cursor_after g (meaning s k) e)

-- the same of the call that writes it to an output, by its answer
abbrev pub RewrittenCall : Type 0
RewrittenCall =
    (s : List ℕ) (c d : Cursor) (k : Command) (w v : Writer) (out : List ℕ) (n : ℕ) (t g r : List ℕ) (e : Cursor) → next_from s c ≡ Next.Command k d
    → (call w s k out).answer ≡ Ok (n, v) → Valid t e → e.sim ≡ w.sim → all_blank g ≡ true → rest t e ≡ g ++ (take n (call w s k out).left ++ r)
    → (says t (next_from t e) ≡ said (meaning s k) (cursor_after g (meaning s k) e)) × ((cursor_after g (meaning s k) e).sim ≡ v.sim)

-- the same of a whole input: where every command that was read was accepted, the file that was written is read as the input was
abbrev pub RewrittenFile : Type 0
RewrittenFile =
    (s : List ℕ) (c : Cursor) (cs : List Call) → read_all s c ≡ exactly (runs fresh cs).accepted → length (runs fresh cs).file ≤ limit
    → read_all (runs fresh cs).file start ≡ read_all s c

-- Ids: the codes 0 to 2^64 - 2 and the accepted texts are paired one to one, over the sum.
pub record IdsPaired : Type 0 where
  -- a code's text is read as the code, and has 1 to 10 bytes
  pub read : (code : ℕ) → code < 2 ^ 64 - 1 → parse_id (id_text code) ≡ Ok (record { 0 = code })
  pub short : (code : ℕ) → code < 2 ^ 64 - 1 → (1 ≤ length (id_text code)) × (length (id_text code) ≤ 10)
  -- a text that is read as a code is that code's text, and its sum is one more
  pub only : (s : List ℕ) (i : IdCode) → parse_id s ≡ Ok i → s ≡ id_text i.0
  pub sum : (s : List ℕ) (i : IdCode) → parse_id s ≡ Ok i → id_sum s ≡ i.0 + 1
  pub below : (s : List ℕ) (i : IdCode) → parse_id s ≡ Ok i → i.0 < 2 ^ 64 - 1

-- Listing: from any cursor reading stops, after some commands, at the end or by a refusal.
abbrev pub ReadingStops : Type 0
ReadingStops = (s : List ℕ) (c : Cursor) → (xs : List Step) × (d : Cursor) × (e : Ended) × (f : Cursor) × Steps s c xs d × Stops s d e f

-- With enough room a listing holds every change of the code up to there, once, in file order, with the last timestamp read since the
-- start, or none; and it ends as reading does.
abbrev pub ListingComplete : Type 0
ListingComplete =
    (s : List ℕ) (c : Cursor) (i : IdCode) (xs : List Step) (d : Cursor) (e : Ended) (f : Cursor) → Steps s c xs d → Stops s d e f
    → (table : List ℕ) → count s i xs ≤ length table / 6 → Holds s c i table xs e f

-- the first change that finds no row: as many changes stand before it as there are rows
pub record Beyond (s : List ℕ) (i : IdCode) (room : ℕ) (xs ys : List Step) (x : Step) : Type 0 where
  pub later : List Step
  pub kind : ChangeKind
  pub value : Text
  pub splits : xs ≡ ys ++ (x ∷ later)
  pub is : role_in s x ≡ change_told i kind value
  pub before : count s i ys ≡ room

-- With too little it holds those before that change, and ends by 24 with the cursor as it stood before it.
abbrev pub ListingFull : Type 0
ListingFull =
    (s : List ℕ) (c : Cursor) (i : IdCode) (xs : List Step) (d : Cursor) → Steps s c xs d → (table : List ℕ) → length table / 6 < count s i xs
    → (ys : List Step) × (x : Step) × Beyond s i (length table / 6) xs ys x
    × Holds s c i table ys (Err (Refusal.ListFull, x.from.line)) x.from

-- A statement pins what its call does: two answers of which it holds are equal. Of calls that answer alone;
abbrev pub Pinned : Type 1
Pinned = (A : Type 0) (r q x : A) → r ≡ x → q ≡ x → r ≡ q

-- of calls that answer and leave a lent table or output: reading a header, listing, widening, putting a text and their like;
abbrev pub PinnedTwo : Type 1
PinnedTwo = (A B : Type 0) (r q x : A) (o p y : B) → (r ≡ x) × (o ≡ y) → (q ≡ x) × (p ≡ y) → (r ≡ q) × (o ≡ p)

-- of calls that write a command, a variable with the next id, a header.
abbrev pub DoesPinned : Type 0
DoesPinned = (r q : Result (ℕ × Writer) Refusal) (o p : List ℕ) (x : Outcome) → Does r o x → Does q p x → (r ≡ q) × (o ≡ p)

abbrev pub AddsPinned : Type 0
AddsPinned = (i : IdCode) (r q : Result (ℕ × Writer × IdCode) Refusal) (o p : List ℕ) (x : Outcome) → Adds i r o x → Adds i q p x → (r ≡ q) × (o ≡ p)

abbrev pub HeaderPinned : Type 0
HeaderPinned = (r q : Result (ℕ × Writer) (Refusal × ℕ × Writer)) (o p : List ℕ) (x : HeaderOutcome) → HeaderDoes r o x → HeaderDoes q p x → (r ≡ q) × (o ≡ p)

-- of a turn of each program, which answers and leaves its tables and its output.
abbrev pub ListTurnPinned : Type 0
ListTurnPinned =
    (r q : Turn) (rows rows' changes changes' out out' out₀ : List ℕ) (t : Turned) → ListDoes r rows changes out out₀ t → ListDoes q rows' changes' out' out₀ t
    → (r ≡ q) × (rows ≡ rows') × (changes ≡ changes') × (out ≡ out')

abbrev pub TurnPinned : Type 0
TurnPinned =
    (r q : ReformatTurn) (rows rows' out out' out₀ : List ℕ) (t : ReformatTurned) → ReformatDoes r rows out out₀ t → ReformatDoes q rows' out' out₀ t
    → (r ≡ q) × (rows ≡ rows') × (out ≡ out')

-- Points on the writer's side of its borders. Inside a scope of a new writer:
abbrev pub inside : IdCode → Writer
inside i = record { depth = 1; id = i; sim = None }

abbrev pub far : IdCode
far = record { 0 = 14_478_900_916_529_561_927 }

pub record WriterPoints : Type 0 where
  -- a variable with id 2^64 - 2 is accepted, and the next id is 2^64 - 1;
  pub last : (call (inside (record { 0 = 0 })) (bytes "a") (Command.VarDef VarType.Wire 1 (record { 0 = 2 ^ 64 - 2 }) (record { start = 0; len = 1 }) ReferenceIndex.None) (replicate 40 0)).answer
      ≡ Ok (30, inside (record { 0 = 2 ^ 64 - 1 }))
  -- automatic numbering then gives 22, whatever the variable is, and changes no byte
  pub spent : (w : Writer) (k : VarType) (n : ℕ) (t : Text) (x : ReferenceIndex) (src out : List ℕ) → w.id.0 ≡ 2 ^ 64 - 1 → outside src t ≡ false
      → call w src (new_var w k n t x) out ≡ refusal Refusal.NotWritable out
  -- the id `n999999999` is rewritten the same, and so is a line with it
  pub same : (parse_id (bytes "n999999999") ≡ Ok far) × (id_text far.0 ≡ bytes "n999999999")
  pub line : (read_all (bytes "1n999999999\n") start ≡ exactly (change far (scalar Value.V1) ∷ [])) × (layout (change far (scalar Value.V1)) ≡ bytes "1n999999999\n")

-- ---- refusals of reading
-- the line that one role_in is that of the cursor it returns
abbrev pub RefusalLine : Type 0
RefusalLine = (s : List ℕ) (c : Cursor) (e : Refusal) (n : ℕ) (d : Cursor) → next_from s c ≡ Next.Refused e n d → n ≡ d.line

-- ---- listing on, from any cursor and any time
-- With enough room `list_on` holds every change of the code up to where reading stops, once, in file order, with the last timestamp before
-- it: the time that was given, until one is read. It ends as reading does, and answers the last time then.
abbrev pub ListingOnComplete : Type 0
ListingOnComplete =
    (s : List ℕ) (c : Cursor) (t : Option Time) (i : IdCode) (xs : List Step) (d : Cursor) (e : Ended) (f : Cursor) → Steps s c xs d → Stops s d e f
    → (table : List ℕ) → count s i xs ≤ length table / 6 → HoldsOn s c t i table xs e f

-- With too little it holds those before the first change that finds no row, and ends by 24 with the cursor and the time as they stood
-- before it.
abbrev pub ListingOnFull : Type 0
ListingOnFull =
    (s : List ℕ) (c : Cursor) (t : Option Time) (i : IdCode) (xs : List Step) (d : Cursor) → Steps s c xs d → (table : List ℕ) → length table / 6 < count s i xs
    → (ys : List Step) × (x : Step) × Beyond s i (length table / 6) xs ys x
    × HoldsOn s c t i table ys (Err (Refusal.ListFull, x.from.line)) x.from

-- Reading refuses by 1 to 7, 9 to 15, 17, 18 or 25 alone, so that 24 says that rows were wanting.
abbrev pub ReadingRefusals : Type 0
ReadingRefusals = (s : List ℕ) (c : Cursor) (e : Refusal) (n : ℕ) (d : Cursor) → next_from s c ≡ Next.Refused e n d → is_of_reading e ≡ true

-- Pages joined are the one listing.
pub record ListingPages : Type 0 where
  -- n rows that end by 24, and then m rows from the cursor and the time that came out, are the listing of n + m rows: the same rows, end,
  -- cursor and time
  pub two : (s : List ℕ) (c : Cursor) (t : Option Time) (i : IdCode) (n m line : ℕ) → (list_in s c t i n).ended ≡ Err (Refusal.ListFull, line)
      → let a : Listing = list_in s c t i n in joined a (list_in s a.cursor a.since i m) ≡ list_in s c t i (n + m)
  -- so are any number of pages
  pub many : (s : List ℕ) (c : Cursor) (t : Option Time) (i : IdCode) (n k : ℕ) → paged s i n k c t ≡ list_in s c t i (n * suc k)
  -- and with as many rows in all as there are changes, they are the listing with enough room
  pub all : (s : List ℕ) (c : Cursor) (t : Option Time) (i : IdCode) (xs : List Step) (d : Cursor) (e : Ended) (f : Cursor) → Steps s c xs d → Stops s d e f
      → (n k m : ℕ) → count s i xs ≤ n * suc k → count s i xs ≤ m → paged s i n k c t ≡ list_in s c t i m

-- ---- the programs
-- The turns of the listing program, from the first state, into tables for the most rows and changes and an output of so many bytes, end;
-- their bytes, joined, are the whole of its text, and the last one tells whether the input was whole. Whatever the input is.
abbrev pub Printed : Type 0
Printed =
    (s : List ℕ) (room : ℕ) (rows changes : List ℕ) → lent ≤ room → length rows ≡ row_words → length changes ≡ change_words
    → Turns s room rows changes State.Begin (list_text s) (list_whole s)

-- The turns of vcd_reformat from the first state, with the rows and the bytes of output that a program lends, print exactly the text
-- that is stated for the input, whatever it is, and they end: whole where the whole dump was written, else not.
abbrev pub Reformatted : Type 0
Reformatted =
    (s table : List ℕ) → length table ≡ 10 * header_rows → ReformatTurns s lent_bytes table ReformatState.Begin (reformat_text s) (reformat_whole s)
