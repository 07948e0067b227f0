-- The header of a dump: its rows and texts are the reader's own, so that writing them is refused by neither 25 nor 23; and where its
-- reading stops. Assumes nothing.
use Rattle.command.specs.Refusals.{Ended}
use Rattle.std.specs.Prelude.{Option, Some, None, Ok, Err}
use Rattle.text.specs.declared.Text.{Text}
use Prim.Native.Nat.{ℕ, ◌+◌, ◌≤◌}
use mathlib.Core.Path.{◌≡◌, refl}
use mathlib.Core.Bool.{false}
use mathlib.Core.List.{List, [], ◌∷◌}
use native.Mathlib.Omega.{arith}
use borrow.Author.Tests.{le-leb}
use lib.ListN.{length}
use Rattle.header.specs.Header.{Outcome, Step, on, whole, off, move, follow, read_rows, header_of}
use Rattle.header.specs.declared.Header.{Header}
use Rattle.header.proofs.Good.{header-good}
use Rattle.header.proofs.Kept.{TextIn, KeptIn, header-texts, header-kept, header-back}
use Rattle.lines.specs.Lines.{taken as input_limit}
use Rattle.parser.specs.All.{Commands, command, stop, finish}
use Rattle.rows.specs.Rows.{filled}
use Rattle.rows.specs.declared.Row.{Row}
use Rattle.text.specs.Texts.{limit, too_long}
use Rattle.text.proofs.Each.{Each}
use Rattle.token.specs.Read.{Valid}
use Rattle.token.specs.declared.Cursor.{Cursor}
use Rattle.write.specs.Run.{taken}
use Rattle.write.specs.declared.Writer.{Writer}
use Rattle.write_header.specs.Meanings.{header_meanings}
use Rattle.tree.specs.Place.{row_outside, some_outside}
use Rattle.write_header.specs.Written.{kept_outside, misplaced, poured, header_call}
use Rattle.reformat_job.proofs.Reading.{Sound}
use Rattle.reformat_job.proofs.Joining.{line-in}

-- ---- no text lies outside the input
kept-inside : (s : List ℕ) (k : Option Text) → KeptIn s k → kept_outside s k ≡ false
kept-inside s None h = refl
kept-inside s (Some t) h = rw h

row_inside : (s : List ℕ) (r : Row) → TextIn s r → row_outside s r ≡ false
row_inside s (Row.Scope p k t) h = rw h
row_inside s (Row.Var p v) h = rw h
row_inside s (Row.Comment p t) h = rw h
row_inside s Row.None h = refl

none-outside : (s : List ℕ) (rs : List Row) → Each (TextIn s) rs → some_outside s rs ≡ false
unfolding some_outside
none-outside s [] h = refl
none-outside s (r ∷ rs) h = rw (row_inside s r h.0) (none-outside s rs h.1)

module _ (w : Writer) (s : List ℕ) (c : Cursor) (table out : List ℕ) (short : length s ≤ input_limit) where
  abbrev h : Outcome
  h = header_of s c table

  placed : misplaced s h.kept h.rows ≡ false
  unfolding misplaced too_long
  placed =
      let k = header-kept s c table in
      rw (le-leb (length s) limit (omega arith), kept-inside s h.kept.date k.0, kept-inside s h.kept.version k.1, none-outside s h.rows (header-texts s c table))

  -- the rows that were read, written: as far as they are accepted
  pub header-written : let all = header_meanings s h.kept h.rows in
      header_call w s h.kept (filled h.rows table) (length h.rows) out ≡ poured w all (taken w (length out) all) out
  unfolding header_call
  header-written = rw (header-back s c table) (rw (placed, header-good s c table))

-- ---- where the reading stops
abbrev pub HeaderLineIn : List ℕ → Ended → Type 0
HeaderLineIn s (Ok tt) = Unit {0}
HeaderLineIn s (Err (e, n)) = n ≤ length s + 1

abbrev pub Stops : List ℕ → Outcome → Type 0
Stops s o = Valid s o.cursor × HeaderLineIn s o.ended

follow-stops : (s : List ℕ) (d : Cursor) (h : Header) (v : Step) (more : List ℕ → List Row → Header → Outcome) → Valid s d
    → ((st : List ℕ) (rs : List Row) (h' : Header) → Stops s (more st rs h')) → Stops s (follow d h v more)
follow-stops s d h (on st rs h') more x f = f st rs h'
follow-stops s d h whole more x f = (x, tt)
follow-stops s d h (off e) more x f = (x, line-in s d x)

pub header-stops : (s : List ℕ) (cap : ℕ) (cs : Commands) → Sound s cs → (st : List ℕ) (n : ℕ) (h : Header) → Stops s (read_rows cap cs st n h)
unfolding read_rows
header-stops s cap (command k d more) x st n h =
    follow-stops s d h (move cap k st n h) (λ st' rs h'. read_rows cap more st' (n + length rs) h') x.0
    (λ st' rs h'. header-stops s cap more x.1 st' (n + length rs) h')
header-stops s cap (stop e l d) x st n h = (x.0, rw x.1 (line-in s d x.0))
header-stops s cap (finish d) x st n h = (x, line-in s d x)
