-- What a run writes is the layouts of the accepted commands, joined, and each of them was writable in its turn; so it reads back. Assumes nothing.
use Rattle.std.specs.Prelude.{Option, Some, None, Result, Ok, Err}
use Rattle.timescale.specs.declared.TimescaleUnit.{TimescaleUnit}
use Prim.Native.Nat.{ℕ, zero, suc, ◌+◌, ◌-◌, ◌^◌, ◌≤◌, ◌<◌}
use mathlib.Core.Path.{◌≡◌, refl, sym, ap, ap₂, subst, ◌∙◌}
use mathlib.Core.Bool.{Bool, true, false, cond, not, ◌&&◌}
use mathlib.Core.List.{List, [], ◌∷◌, ◌++◌, append_assoc, append-nil}
use native.Mathlib.Omega.{arith}
use borrow.Author.Tests.{eqb-false}
use lib.Dec.{leb, eqb}
use lib.ListN.{length, take, drop}
use lib.Seq.{take-append_seam}
use Rattle.text.specs.Texts.{limit, put_answer, put_bytes}
use Rattle.text.proofs.Lists.{by-test, both, not-swap}
use Rattle.command.specs.Meaning.{Meaning, remark, timescale, scope_def, upscope, var_def, enddefinitions, timestamp, change, begin, end, meaning}
use Rattle.command.specs.Refusals.{number_of}
use Rattle.command.specs.declared.Command.{Command}
use Rattle.command.specs.declared.Refusal.{Refusal}
use Rattle.token.specs.declared.Cursor.{Cursor}
use Rattle.parser.specs.declared.Next.{Next}
use Rattle.parser.specs.Next.{next_from, fresh as start}
use Rattle.parser.specs.All.{followed, commands_on, commands, read_all, exactly}
use Rattle.rows.specs.Rows.{rows_of}
use Rattle.record.specs.Record.{record_at}
use Rattle.header.specs.declared.Header.{Header}
use Rattle.write_check.specs.Check.{is_name}
use Rattle.write.specs.Call.{Outcome, outcome, misplaced, call, new_var}
use Rattle.write.specs.Layout.{layout, is_id, raised, writable, state_after, fresh}
use Rattle.write.specs.Run.{layouts, states_after, Sized, AllSized, Accepted, taken}
use Rattle.write.specs.declared.Writer.{Writer}
use Rattle.lent_writer.specs.Lent.{lent_answer, lent_state}
use Rattle.write_header.specs.Meanings.{header_meanings}
use Rattle.write_header.specs.Written.{Outcome as HeaderOutcome, header_call}
use Rattle.write_header.proofs.Takes.{Takes, AreWords, KeptSized, refused, accepted, header-takes, header-all, sized-header}
use Rattle.rewrite.specs.Rewrite.{Outcome as Rewriting, meanings_in, rewrite_of, filled}
use Rattle.rewrite.proofs.Taken.{rewrite-takes}
use Rattle.vcd_state.specs.State.{writer_words, cursor_of, head_of}
use Rattle.vcd_state.proofs.Back.{writer-back}
use Rattle.write_calls.specs.Writing.{WriteLeft, wrote_command, command_on, command_call, wrote_header, head_on, write_header_call, RewriteLeft, rewrite_kept, rewritten, rewrite_on, rewrite_call}
use Rattle.promises.specs.Runs.{Effect, Ran, ran, SizedTable, SizedScale, Call, single, lent, adding, header, rewriting, gives, single_gives, lent_gives, header_taken, header_gives, rewrite_taken, effect_of, runs, LibraryCall, vcd_command, vcd_write_header, vcd_rewrite, on_head, on_cursor, left_gives, record_taken, library_effect, library_runs}
use Rattle.promises.specs.Stated.{Joined, RunAccepted, HeaderWhole, RoundTrip, start_words, LibraryAccepted, LibraryRoundTrip, RewrittenFile}
use Rattle.promises.proofs.Numbers.{command-sized, SizedRecord, sized-record, SizedHead, sized-head}
use Rattle.promises.proofs.WrittenRead.{written_read}

layouts-append : (ms ns : List Meaning) → layouts (ms ++ ns) ≡ layouts ms ++ layouts ns
unfolding layouts
layouts-append [] ns = refl
layouts-append (m ∷ ms) ns = ap (λ (l : List ℕ). layout m ++ l) (layouts-append ms ns) ∙ sym (append_assoc (layout m) (layouts ms) (layouts ns))

accepted-append : (w : Writer) (ms ns : List Meaning) → Accepted w ms → Accepted (states_after w ms) ns → Accepted w (ms ++ ns)
unfolding states_after
accepted-append w [] ns a b = b
accepted-append w (m ∷ ms) ns a b = (a.0, a.1, accepted-append (state_after w m) ms ns a.2 b)

-- what one call gives: the layouts of what it accepted, each writable in its turn, and the state after them, as the caller keeps it
record Gave (S : Type 0) (form : Writer → S) (w : Writer) (x : Effect S) : Type 0 where
  bytes : x.bytes ≡ layouts x.accepted
  each : Accepted w x.accepted
  state : x.state ≡ form (states_after w x.accepted)

abbrev itself : Writer → Writer
itself w = w

abbrev ByValue : Writer → Effect Writer → Type 0
ByValue w x = Gave Writer itself w x

abbrev ByWords : Writer → Effect (List ℕ) → Type 0
ByWords w x = Gave (List ℕ) writer_words w x

-- a command, whatever its tests say
one-gave : (out ok : Bool) (w : Writer) (m : Meaning) (o : List ℕ) → writable w m ≡ ok → Sized m
    → let x : Outcome = outcome out ok (state_after w m) (layout m) o in ByValue w (gives w m x.answer x.left)
unfolding outcome put_answer put_bytes layouts states_after
one-gave true ok w m o e z = record { bytes = refl; each = tt; state = refl }
one-gave false false w m o e z = record { bytes = refl; each = tt; state = refl }
one-gave false true w m o e z =
    by-test (leb (length (layout m)) (length o))
    (λ q. rw q (record { bytes = take-append_seam (layout m) (drop (length (layout m)) o) ∙ sym (append-nil (layout m)); each = (e, z, tt); state = refl }))
    (λ q. rw q (record { bytes = refl; each = tt; state = refl }))

taken-each : (w : Writer) (room : ℕ) (ms : List Meaning) → AllSized ms → Accepted w (taken w room ms)
unfolding taken
taken-each w room [] z = tt
taken-each w room (m ∷ ms) z =
    let ih = taken-each (state_after w m) (room - length (layout m)) ms z.1 in
    by-test (writable w m && leb (length (layout m)) room) (λ q. rw q ((both _ _ q).0, z.0, ih)) (λ q. rw q tt)

-- a header: what it took
header-gives : (w : Writer) (o : List ℕ) (l : List Meaning) (r : Result (ℕ × Writer) (Refusal × ℕ × Writer)) (left : List ℕ) → Takes w o l (record { answer = r; left = left }) → Accepted w l
    → ByValue w (header_gives l r left)
header-gives w o l (Ok (n, v)) left x a = record { bytes = rw (x.leaves, x.counts) (take-append_seam (layouts l) _); each = a; state = x.state }
header-gives w o l (Err (e, n, v)) left x a = record { bytes = rw (x.leaves, x.counts) (take-append_seam (layouts l) _); each = a; state = x.state }

taken-or : (off : Bool) (w : Writer) (room : ℕ) (ms : List Meaning) → AllSized ms → Accepted w (cond off [] (taken w room ms))
taken-or true w room ms z = tt
taken-or false w room ms z = taken-each w room ms z

-- the numbers' types as the header's laws have them
words_are : (table : List ℕ) → SizedTable table → AreWords table
words_are [] z = tt
words_are (w ∷ table) z = (z.0, words_are table z.1)

scale-is : (t : Option (ℕ × TimescaleUnit)) → SizedScale t → KeptSized t
scale-is None z = tt
scale-is (Some (n, u)) z = z

single-gave : (w : Writer) (src : List ℕ) (k : Command) (out : List ℕ) → Sized (meaning src k) → ByValue w (single_gives w src k out)
unfolding call
single-gave w src k out z = let m : Meaning = meaning src k in one-gave (misplaced src k) (writable w m) w m out refl z

-- a lent state changes nothing of it
lent-gave : (w : Writer) (m : Meaning) (r : Result (ℕ × Writer) Refusal) (o : List ℕ) → ByValue w (gives w m r o) → ByValue w (lent_gives m (lent_answer r) (lent_state w r) o)
lent-gave w m (Ok (n, v)) o x = x
lent-gave w m (Err e) o x = x

header-gave : (w : Writer) (src : List ℕ) (h : Header) (table : List ℕ) (n : ℕ) (out : List ℕ) → SizedTable table → SizedScale h.timescale
    → let x : HeaderOutcome = header_call w src h table n out in
    ByValue w (header_gives (header_taken w src h (rows_of table n) (length out)) x.answer x.left)
header-gave w src h table n out z y =
    let x : HeaderOutcome = header_call w src h table n out in
    let ms : List Meaning = header_meanings src h (rows_of table n) in
    header-gives w out (accepted w src h table n out) x.answer x.left (header-takes w src h table n out)
    (taken-or (refused src h table n) w (length out) ms (sized-header src h table n (words_are table z) (scale-is h.timescale y)))

-- what is read is of its types
read-sized : (fuel : ℕ) (s : List ℕ) (c : Cursor) → AllSized (meanings_in s (commands_on fuel s c))
unfolding commands_on meanings_in
read-sized zero s c = tt
read-sized (suc fuel) s c = go (next_from s c) refl (read-sized fuel s)
  where
    go : (x : Next) → next_from s c ≡ x → ((d : Cursor) → AllSized (meanings_in s (commands_on fuel s d))) → AllSized (meanings_in s (followed (commands_on fuel s) x))
    go (Next.Command k d) e ih = (command-sized s c d k e, ih d)
    go (Next.Refused r n d) e ih = tt
    go (Next.Done d) e ih = tt

-- rewriting: what it took, whoever keeps the state
rewrite-gave : (S : Type 0) (form : Writer → S) (w : Writer) (src : List ℕ) (c : Cursor) (out : List ℕ) → let x : Rewriting = rewrite_of src c w out in
    Gave S form w
    (record { bytes = take (length x.bytes) (filled x.bytes out); accepted = rewrite_taken w src c (length out); state = form x.writer })
unfolding commands
rewrite-gave S form w src c out =
    let x : Rewriting = rewrite_of src c w out in
    let t = rewrite-takes src c w out in
    record {
      bytes = take-append_seam x.bytes (drop (length x.bytes) out) ∙ t.0;
      each = taken-each w (length out) (meanings_in src (commands src c)) (read-sized (suc (length src - c.place)) src c);
      state = ap form t.1;
    }

-- the writer's next id is of its type, so a variable may have it
gave : (w : Writer) (c : Call) → w.id.0 < 2 ^ 64 → ByValue w (effect_of w c)
unfolding effect_of
gave w (single k src out z) h = single-gave w src k out z
gave w (lent k src out z) h = let x : Outcome = call w src k out in lent-gave w (meaning src k) x.answer x.left (single-gave w src k out z)
gave w (adding k width t x src out z y) h = single-gave w src (new_var w k width t x) out (z, h, y)
gave w (header src k table n out z y) h = header-gave w src k table n out z y
gave w (rewriting src c out) h = rewrite-gave Writer itself w src c out

given : (ms : List Meaning) (r : Result (ℕ × Writer) (Refusal × ℕ × Writer)) (o : List ℕ) → (header_gives ms r o).accepted ≡ ms
given ms (Ok (n, v)) o = refl
given ms (Err (e, n, v)) o = refl

pub header-whole : HeaderWhole
unfolding effect_of
header-whole w v src h table n m out z y e =
    let x : HeaderOutcome = header_call w src h table n out in
    given _ x.answer x.left ∙ header-all w src h table n out m v e

-- ---- the next id stays of its type: only an id below 2^64 - 1 is written and raises it
id-after : (w : Writer) (m : Meaning) → writable w m ≡ true → Sized m → w.id.0 < 2 ^ 64 → (state_after w m).id.0 < 2 ^ 64
unfolding state_after raised is_id
id-after w (remark k t) q z h = h
id-after w (timescale n u) q z h = h
id-after w (scope_def k t) q z h = h
id-after w upscope q z h = h
id-after w (var_def k n i t x) q z h =
    let a = both (is_id i && is_name t) (not (eqb w.depth 0)) q in
    let b = both (is_id i) (is_name t) a.0 in
    let c = eqb-false i.0 (2 ^ 64 - 1) (not-swap _ b.0) in
    let up : i.0 + 1 < 2 ^ 64 = omega (arith, z.1) in
    by-test (leb w.id.0 i.0) (λ e. rw e up) (λ e. rw e h)
id-after w enddefinitions q z h = h
id-after w (timestamp n) q z h = h
id-after w (change i v) q z h = h
id-after w (begin k) q z h = h
id-after w (end k) q z h = h

ids-after : (w : Writer) (ms : List Meaning) → Accepted w ms → w.id.0 < 2 ^ 64 → (states_after w ms).id.0 < 2 ^ 64
unfolding states_after
ids-after w [] a h = h
ids-after w (m ∷ ms) a h = ids-after (state_after w m) ms a.2 (id-after w m a.0 a.1 h)

-- ---- runs
module _ (S C : Type 0) (form : Writer → S) (f : S → C → Effect S) (each_gave : (w : Writer) (c : C) → w.id.0 < 2 ^ 64 → Gave S form w (f (form w) c)) where
  joined : (w : Writer) (cs : List C) → w.id.0 < 2 ^ 64 → Joined w (ran f (form w) cs)
  unfolding ran layouts
  joined w [] h = record { bytes = refl; each = tt }
  joined w (c ∷ cs) h =
      let x = each_gave w c h in
      let e : Effect S = f (form w) c in
      let l : List Meaning = (ran f e.state cs).accepted in
      let v : Writer = states_after w e.accepted in
      let y : Joined v (ran f e.state cs) =
      subst (λ (s : S). Joined v (ran f s cs)) (sym x.state) (joined v cs (ids-after w e.accepted x.each h)) in
      record {
        bytes = ap₂ ◌++◌ x.bytes y.bytes ∙ sym (layouts-append e.accepted l);
        each = accepted-append w e.accepted l x.each y.each;
      }

-- what is left by calls of a new writer reads back
back : (x : Ran) → Joined fresh x → length x.file ≤ limit → read_all x.file start ≡ exactly x.accepted
back x j h = ap (λ (f : List ℕ). read_all f start) j.bytes ∙ written_read x.accepted j.each (rw j.bytes at h)

pub run-accepted : RunAccepted
run-accepted w cs h = joined Writer Call itself effect_of gave w cs h

pub round_trip : RoundTrip
round_trip cs h = back (runs fresh cs) (run-accepted fresh cs (omega arith)) h

pub rewritten-file : RewrittenFile
rewritten-file s c cs e h = round_trip cs h ∙ sym e

-- ---- the library
-- no refusal's number is 0
refused-number : (e : Refusal) → eqb (number_of e) 0 ≡ false
refused-number Refusal.UnexpectedEof = refl
refused-number Refusal.InvalidUtf8 = refl
refused-number Refusal.UnexpectedCharacter = refl
refused-number Refusal.TokenTooLong = refl
refused-number Refusal.ExpectedEndCommand = refl
refused-number Refusal.UnmatchedEnd = refl
refused-number Refusal.UnknownCommand = refl
refused-number Refusal.UnexpectedHeaderCommand = refl
refused-number Refusal.ParseIntError = refl
refused-number Refusal.ParseFloatError = refl
refused-number Refusal.InvalidTimescaleUnit = refl
refused-number Refusal.InvalidScopeType = refl
refused-number Refusal.InvalidVarType = refl
refused-number Refusal.InvalidReferenceIndex = refl
refused-number Refusal.InvalidValueChar = refl
refused-number Refusal.IdEmpty = refl
refused-number Refusal.IdInvalidChars = refl
refused-number Refusal.IdTooLong = refl
refused-number Refusal.TooDeep = refl
refused-number Refusal.TableFull = refl
refused-number Refusal.NoRoom = refl
refused-number Refusal.NotWritable = refl
refused-number Refusal.BadTable = refl
refused-number Refusal.ListFull = refl
refused-number Refusal.BadPlace = refl

-- a record's command, whatever the writer answers
answer-gave : (w : Writer) (src : List ℕ) (k : Command) (r : Result (ℕ × Writer) Refusal) (o : List ℕ) → ByValue w (gives w (meaning src k) r o)
    → let x : WriteLeft = wrote_command (writer_words w) 0 r o in ByWords w (left_gives (record_taken src (Some k) x.status) x)
unfolding layouts states_after
answer-gave w src k (Ok (n, v)) o x = record { bytes = x.bytes; each = x.each; state = ap writer_words x.state }
answer-gave w src k (Err e) o x = rw (refused-number e) (record { bytes = refl; each = tt; state = refl })

record-gave : (w : Writer) (src out : List ℕ) (r : Option Command) → SizedRecord src r
    → let x : WriteLeft = command_on (writer_words w) src out 0 w r in ByWords w (left_gives (record_taken src r x.status) x)
unfolding layouts states_after
record-gave w src out (Some k) z =
    let x : Outcome = call w src k out in
    answer-gave w src k x.answer x.left (single-gave w src k out z)
record-gave w src out None z = record { bytes = refl; each = tt; state = refl }

head-gives : (w : Writer) (l : List Meaning) (r : Result (ℕ × Writer) (Refusal × ℕ × Writer)) (o : List ℕ) → ByValue w (header_gives l r o) → ByWords w (left_gives l (wrote_header r o))
head-gives w l (Ok (n, v)) o x = record { bytes = x.bytes; each = x.each; state = ap writer_words x.state }
head-gives w l (Err (e, n, v)) o x = record { bytes = x.bytes; each = x.each; state = ap writer_words x.state }

head-gave : (w : Writer) (src table out : List ℕ) (r : Option (Header × ℕ)) → SizedTable table → SizedHead r
    → ByWords w
    (left_gives (on_head (λ h n. header_taken w src h (rows_of table n) (length out)) r) (head_on (writer_words w) src table out 0 w r))
unfolding layouts states_after
head-gave w src table out (Some (h, n)) z y =
    let x : HeaderOutcome = header_call w src h table n out in
    head-gives w (header_taken w src h (rows_of table n) (length out)) x.answer x.left (header-gave w src h table n out z y)
head-gave w src table out None z y = record { bytes = refl; each = tt; state = refl }

library-gave : (w : Writer) (c : LibraryCall) → w.id.0 < 2 ^ 64 → ByWords w (library_effect (writer_words w) c)
unfolding library_effect command_call write_header_call rewrite_call layouts states_after
library-gave w (vcd_command src words out z) h =
    by-test (eqb (length words) 9)
    (λ e. rw (e, writer-back w) (record-gave w src out (record_at words 0) (sized-record src words 0 (words_are words z))))
    (λ e. rw e (record { bytes = refl; each = tt; state = refl }))
library-gave w (vcd_write_header src head table out z) h = rw (writer-back w) (head-gave w src table out (head_of head) z (sized-head head))
library-gave w (vcd_rewrite src cursor out line) h = rw (writer-back w) (go (cursor_of cursor))
  where
    go : (r : Option Cursor) → let x : RewriteLeft = rewrite_on (rewritten src out line) (rewrite_kept cursor (writer_words w) out 0 line) r (Some w) in
        ByWords w (record { bytes = take x.count x.output; accepted = on_cursor (λ c. rewrite_taken w src c (length out)) r; state = x.writer })
    go (Some c) = rewrite-gave (List ℕ) writer_words w src c out
    go None = record { bytes = refl; each = tt; state = refl }

pub library-accepted : LibraryAccepted
library-accepted w cs h = joined (List ℕ) LibraryCall writer_words library_effect library-gave w cs h

pub library-round-trip : LibraryRoundTrip
library-round-trip cs h = back (library_runs start_words cs) (library-accepted fresh cs (omega arith)) h
