-- All that vcd-reformat prints for an input, and whether that is the whole dump; `room` bytes are lent to a call of the writer.
use Rattle.command.specs.Refusals.{Ended}
use Rattle.std.specs.Prelude.{ℕ, Bool, true, false, cond, List, [], ◌++◌, eqb, leb, ltb, length, Ok, Err}
use Rattle.command.specs.Meaning.{Meaning, meaning}
use Rattle.command.specs.Refusals.{number_of}
use Rattle.command.specs.declared.Refusal.{Refusal}
use Rattle.header.specs.Header.{Outcome as Heading, read_rows, nothing}
use Rattle.lines.specs.Lines.{taken as input_limit, header_rows, long_line, refused_line}
use Rattle.parser.specs.All.{Commands, command, stop, finish, commands}
use Rattle.parser.specs.Next.{fresh as fresh_cursor}
use Rattle.token.specs.declared.Cursor.{Cursor}
use Rattle.write.specs.Layout.{layout, writable, state_after, fresh}
use Rattle.write.specs.Run.{layouts, states_after, taken}
use Rattle.write.specs.declared.Writer.{Writer}
use Rattle.write_header.specs.Meanings.{header_meanings}
use Rattle.write_header.specs.Written.{stopped}

-- the bytes that are lent to a call
abbrev pub lent_bytes : ℕ
lent_bytes = 65536

-- what is printed, and whether nothing was refused
pub record Report : Type 0 where
  pub text : List ℕ
  pub whole : Bool

abbrev pub ends : Bool → Report
ends whole = record { text = []; whole = whole }

abbrev pub refused_at : Refusal → ℕ → Report
refused_at e line = record { text = refused_line (number_of e) line; whole = false }

-- these bytes first
abbrev pub after : List ℕ → Report → Report
after b r = record { text = b ++ r.text; whole = r.whole }

-- the commands, each with all the room of a call, up to the first that is refused
unfoldable pub commands_report : List ℕ → ℕ → Writer → Commands → Report
commands_report s room w (command k d more) =
    let m : Meaning = meaning s k in
    let b : List ℕ = layout m in
    cond (writable w m)
    (cond (leb (length b) room) (after b (commands_report s room (state_after w m) more)) (refused_at Refusal.NoRoom d.line))
    (refused_at Refusal.NotWritable d.line)
commands_report s room w (stop e n d) = refused_at e n
commands_report s room w (finish d) = ends true

-- of a header's commands those that are accepted in one call, then the commands after it
abbrev pub written_report : List ℕ → ℕ → List Meaning → List Meaning → Cursor → Report
written_report s room all l c =
    after (layouts l)
    (cond (eqb (length l) (length all))
    (commands_report s room (states_after fresh l) (commands s c))
    (refused_at (stopped fresh room all) c.line))

-- a header that was read, and what it amounts to; 25 and 23 do not come, since the rows and texts are the reader's own
abbrev pub headed_report : List ℕ → ℕ → Heading → Ended → Report
headed_report s room h (Ok tt) =
    let all : List Meaning = header_meanings s h.kept h.rows in written_report s room all (taken fresh room all) h.cursor
headed_report s room h (Err (e, n)) = refused_at e n

unfoldable pub heading : List ℕ → Heading
heading s = read_rows header_rows (commands s fresh_cursor) [] 0 nothing

unfoldable pub reformatted : List ℕ → Report
reformatted s =
    cond (ltb input_limit (length s)) (after long_line (ends false)) (headed_report s lent_bytes (heading s) (heading s).ended)

-- standard output
abbrev pub reformat_text : List ℕ → List ℕ
reformat_text s = (reformatted s).text

-- whether the whole dump was written
abbrev pub reformat_whole : List ℕ → Bool
reformat_whole s = (reformatted s).whole
