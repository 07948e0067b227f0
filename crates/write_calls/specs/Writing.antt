-- What each writing call answers, and what it leaves in each lent array. An answer is 0 or the page's number of a refusal. 25 with nothing
-- changed, where an array has the wrong length or its words are no state.
use Rattle.command.specs.Refusals.{Ended}
use Rattle.command.specs.declared.Refusal.{Refusal}
use Rattle.idcode.specs.declared.InvalidIdCode.{InvalidIdCode}
use Rattle.idcode.specs.declared.IdCode.{IdCode}
use Rattle.header.specs.declared.Header.{Header}
use Rattle.command.specs.declared.Command.{Command}
use Rattle.std.specs.Prelude.{ℕ, ◌-◌, ◌^◌, cond, List, eqb, length, Option, Some, None, Result, Ok, Err}
use Rattle.command.specs.Refusals.{number_of, id_refusal}
use Rattle.idcode.specs.Id.{id_text}
use Rattle.record.specs.Record.{record_at}
use Rattle.rewrite.specs.Rewrite.{Outcome as RewriteOutcome, rewrite_of, filled as rewrite_filled}
use Rattle.text.specs.Texts.{put_answer, put_bytes}
use Rattle.token.specs.declared.Cursor.{Cursor}
use Rattle.write.specs.Call.{call}
use Rattle.write.specs.declared.Writer.{Writer}
use Rattle.write_header.specs.Written.{header_call}
use Rattle.vcd_state.specs.State.{cursor_words, cursor_of, writer_words, writer_of, head_of}

-- no id
abbrev pub none : ℕ
none = 2 ^ 64 - 1

-- ---- writing: the writer's words, the output, the count
pub record WriteLeft : Type 0 where
  pub status : ℕ
  pub writer : List ℕ
  pub output : List ℕ
  pub count : ℕ

abbrev pub unwritten : ℕ → List ℕ → List ℕ → ℕ → WriteLeft
unwritten e w o n = record { status = e; writer = w; output = o; count = n }

-- a refused command changes nothing
abbrev pub written_status : Result (ℕ × Writer) Refusal → ℕ
written_status (Ok (m, v)) = 0
written_status (Err e) = number_of e

abbrev pub written_state : List ℕ → Result (ℕ × Writer) Refusal → List ℕ
written_state w (Ok (m, v)) = writer_words v
written_state w (Err e) = w

abbrev pub written_count : ℕ → Result (ℕ × Writer) Refusal → ℕ
written_count n (Ok (m, v)) = m
written_count n (Err e) = n

abbrev pub wrote_command : List ℕ → ℕ → Result (ℕ × Writer) Refusal → List ℕ → WriteLeft
wrote_command w n x o = record { status = written_status x; writer = written_state w x; output = o; count = written_count n x }

abbrev pub command_on : List ℕ → List ℕ → List ℕ → ℕ → Writer → Option Command → WriteLeft
command_on w s o n v (Some k) = wrote_command w n (call v s k o).answer (call v s k o).left
command_on w s o n v None = unwritten 25 w o n

abbrev pub writer_on : (Writer → WriteLeft) → WriteLeft → Option Writer → WriteLeft
writer_on f x (Some v) = f v
writer_on f x None = x

unfoldable pub command_call : List ℕ → List ℕ → List ℕ → List ℕ → ℕ → WriteLeft
command_call w s r o n =
    cond (eqb (length r) 9)
    (writer_on (λ v. command_on w s o n v (record_at r 0)) (unwritten 25 w o n) (writer_of w))
    (unwritten 25 w o n)

-- commands written before a refusal stay
abbrev pub head_status : Result (ℕ × Writer) (Refusal × ℕ × Writer) → ℕ
head_status (Ok (m, v)) = 0
head_status (Err (e, m, v)) = number_of e

abbrev pub head_state : Result (ℕ × Writer) (Refusal × ℕ × Writer) → List ℕ
head_state (Ok (m, v)) = writer_words v
head_state (Err (e, m, v)) = writer_words v

abbrev pub head_count : Result (ℕ × Writer) (Refusal × ℕ × Writer) → ℕ
head_count (Ok (m, v)) = m
head_count (Err (e, m, v)) = m

abbrev pub wrote_header : Result (ℕ × Writer) (Refusal × ℕ × Writer) → List ℕ → WriteLeft
wrote_header x o = record { status = head_status x; writer = head_state x; output = o; count = head_count x }

abbrev pub head_on : List ℕ → List ℕ → List ℕ → List ℕ → ℕ → Writer → Option (Header × ℕ) → WriteLeft
head_on w s t o n v (Some (h, m)) = wrote_header (header_call v s h t m o).answer (header_call v s h t m o).left
head_on w s t o n v None = unwritten 25 w o n

unfoldable pub write_header_call : List ℕ → List ℕ → List ℕ → List ℕ → List ℕ → ℕ → WriteLeft
write_header_call w s h t o n = writer_on (λ v. head_on w s t o n v (head_of h)) (unwritten 25 w o n) (writer_of w)

-- ---- rewriting: both states, the output, the count, the line of a refusal
pub record RewriteLeft : Type 0 where
  pub status : ℕ
  pub cursor : List ℕ
  pub writer : List ℕ
  pub output : List ℕ
  pub count : ℕ
  pub line : ℕ

abbrev pub rewrite_kept : List ℕ → List ℕ → List ℕ → ℕ → ℕ → RewriteLeft
rewrite_kept w v o n l = record { status = 25; cursor = w; writer = v; output = o; count = n; line = l }

abbrev pub rewrite_status : Ended → ℕ
rewrite_status (Ok tt) = 0
rewrite_status (Err (e, line)) = number_of e

abbrev pub line_after : ℕ → Ended → ℕ
line_after l (Ok tt) = l
line_after l (Err (e, line)) = line

abbrev pub rewritten : List ℕ → List ℕ → ℕ → Cursor → Writer → RewriteLeft
rewritten s o l c v =
    let x : RewriteOutcome = rewrite_of s c v o in
    record {
      status = rewrite_status x.ended;
      cursor = cursor_words x.cursor;
      writer = writer_words x.writer;
      output = rewrite_filled x.bytes o;
      count = length x.bytes;
      line = line_after l x.ended;
    }

abbrev pub rewrite_on : (Cursor → Writer → RewriteLeft) → RewriteLeft → Option Cursor → Option Writer → RewriteLeft
rewrite_on f x (Some c) (Some v) = f c v
rewrite_on f x (Some c) None = x
rewrite_on f x None v = x

unfoldable pub rewrite_call : List ℕ → List ℕ → List ℕ → List ℕ → ℕ → ℕ → RewriteLeft
rewrite_call s w v o n l = rewrite_on (rewritten s o l) (rewrite_kept w v o n l) (cursor_of w) (writer_of v)

-- ---- texts: the answer and the count; a refusal leaves the count
abbrev pub widen_status : Result ℕ Refusal → ℕ
widen_status (Ok m) = 0
widen_status (Err e) = number_of e

abbrev pub widen_count : ℕ → Result ℕ Refusal → ℕ
widen_count n (Ok m) = m
widen_count n (Err e) = n

abbrev pub placed_status : Option ℕ → ℕ
placed_status (Some m) = 0
placed_status None = 21

abbrev pub placed_count : ℕ → Option ℕ → ℕ
placed_count n (Some m) = m
placed_count n None = n

-- the largest number is no id
unfoldable pub id_status : ℕ → List ℕ → ℕ
id_status i o = cond (eqb i none) 22 (placed_status (put_answer (id_text i) o))

unfoldable pub id_count : ℕ → List ℕ → ℕ → ℕ
id_count i o n = cond (eqb i none) n (placed_count n (put_answer (id_text i) o))

unfoldable pub id_bytes : ℕ → List ℕ → List ℕ
id_bytes i o = cond (eqb i none) o (put_bytes (id_text i) o)

abbrev pub code_status : Result IdCode InvalidIdCode → ℕ
code_status (Ok i) = 0
code_status (Err e) = number_of (id_refusal e)

abbrev pub code_after : ℕ → Result IdCode InvalidIdCode → ℕ
code_after n (Ok i) = i.0
code_after n (Err e) = n
