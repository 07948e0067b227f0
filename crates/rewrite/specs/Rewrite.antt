-- Rewriting: the commands read from a cursor, written one after the other into an output, up to the end, a refusal of reading, or the
-- first command that may not be written or finds no room.
use Rattle.command.specs.Refusals.{Ended}
use Rattle.std.specs.Prelude.{ℕ, ◌-◌, ◌<◌, cond, List, [], ◌∷◌, ◌++◌, leb, length, drop, get_or, Option, Some, None, Result, Ok, Err}
use Rattle.command.specs.Meaning.{Meaning, meaning}
use Rattle.command.specs.declared.Refusal.{Refusal}
use Rattle.parser.specs.All.{Commands, command, stop, finish, commands}
use Rattle.parser.specs.declared.Next.{Next}
use Rattle.token.specs.Flat.{word_read}
use Rattle.token.specs.declared.Cursor.{Cursor}
use Rattle.write.specs.Call.{call}
use Rattle.write.specs.Layout.{layout, writable, state_after}
use Rattle.write.specs.declared.Writer.{Writer}
use Rattle.rewrite.specs.declared.Rewritten.{Rewritten}
use Rattle.rewrite.specs.declared.Step.{Step}

pub record Outcome : Type 0 where
  pub bytes : List ℕ
  pub writer : Writer
  pub cursor : Cursor
  pub ended : Ended

-- nothing written, and how it ends
abbrev pub ends : Writer → Cursor → Ended → Outcome
ends w c e = record { bytes = []; writer = w; cursor = c; ended = e }

abbrev pub after : List ℕ → Outcome → Outcome
after b o = record { bytes = b ++ o.bytes; writer = o.writer; cursor = o.cursor; ended = o.ended }

-- into so much room; a command that is not written leaves the cursor before it, and the line is the reader's after it
unfoldable pub rewritten : List ℕ → ℕ → Writer → Cursor → Commands → Outcome
rewritten s room w c (command k d more) =
    let m : Meaning = meaning s k in
    let b : List ℕ = layout m in
    cond (writable w m)
    (cond (leb (length b) room)
    (after b (rewritten s (room - length b) (state_after w m) d more))
    (ends w c (Err (Refusal.NoRoom, d.line))))
    (ends w c (Err (Refusal.NotWritable, d.line)))
rewritten s room w c (stop e line d) = ends w d (Err (e, line))
rewritten s room w c (finish d) = ends w d (Ok tt)

unfoldable pub rewrite_of : List ℕ → Cursor → Writer → List ℕ → Outcome
rewrite_of s c w o = rewritten s (length o) w c (commands s c)

-- what the commands mean, in order: of these the first are laid out, as `taken` has it
unfoldable pub meanings_in : List ℕ → Commands → List Meaning
meanings_in s (command k d more) = meaning s k ∷ meanings_in s more
meanings_in s (stop e line d) = []
meanings_in s (finish d) = []

abbrev pub answer_of : Outcome → Rewritten
answer_of o = record { cursor = o.cursor; writer = o.writer; count = length o.bytes; ended = o.ended }

-- the output then: the bytes, and the rest as it was
abbrev pub filled : List ℕ → List ℕ → List ℕ
filled b o = b ++ drop (length b) o

-- ---- what one step of it answers and leaves
-- a call's answer, for a command between the cursors c and d
abbrev pub wrote_of : Cursor → Cursor → Result (ℕ × Writer) Refusal → Step
wrote_of c d (Ok (n, v)) = Step.Wrote d n v
wrote_of c d (Err e) = Step.Ends c (Err (e, d.line))

abbrev pub step_of : List ℕ → Cursor → Writer → List ℕ → Next → Step
step_of s c w o (Next.Command k d) = wrote_of c d (call w s k o).answer
step_of s c w o (Next.Refused e line d) = Step.Ends d (Err (e, line))
step_of s c w o (Next.Done d) = Step.Ends d (Ok tt)

abbrev pub left_by : List ℕ → Writer → List ℕ → Next → List ℕ
left_by s w o (Next.Command k d) = (call w s k o).left
left_by s w o (Next.Refused e line d) = o
left_by s w o (Next.Done d) = o

-- ---- a hit says only where the blank stands that ends the command, and the bytes written
abbrev pub as_slow : List ℕ → Cursor → Writer → Step → Step
as_slow s c w (Step.Hit e n) = Step.Wrote (word_read c e (get_or s e 0)) n w
as_slow s c w (Step.Wrote d n v) = Step.Wrote d n v
as_slow s c w (Step.Ends d e) = Step.Ends d e

abbrev pub Inside : List ℕ → Step → Type 0
Inside s (Step.Hit e n) = e < length s
Inside s (Step.Wrote d n v) = Unit {0}
Inside s (Step.Ends d e) = Unit {0}

-- one that the byte b at e ends, where only the room was in question
abbrev pub laid_of : Cursor → ℕ → ℕ → Option ℕ → Step
laid_of c e b (Some n) = Step.Hit e n
laid_of c e b None = Step.Ends c (Err (Refusal.NoRoom, (word_read c e b).line))
