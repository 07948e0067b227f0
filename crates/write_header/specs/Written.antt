-- Writing a header: what is answered, and the output then.
use Rattle.text.specs.declared.Text.{Text}
use Rattle.std.specs.Prelude.{ℕ, ◌-◌, ◌≡◌, Bool, false, cond, not, ◌||◌, List, [], ◌∷◌, ◌++◌, leb, eqb, length, drop, Option, Some, None, Result, Ok, Err}
use Rattle.command.specs.Meaning.{Meaning}
use Rattle.command.specs.declared.Refusal.{Refusal}
use Rattle.text.specs.Texts.{is_within, too_long}
use Rattle.rows.specs.Good.{is_good_table}
use Rattle.rows.specs.Rows.{rows_of}
use Rattle.header.specs.declared.Header.{Header}
use Rattle.rows.specs.declared.Row.{Row}
use Rattle.write.specs.Layout.{layout, writable, state_after}
use Rattle.write.specs.Run.{layouts, states_after, taken}
use Rattle.write.specs.declared.Writer.{Writer}
use Rattle.tree.specs.Place.{some_outside}
use Rattle.write_header.specs.Meanings.{header_meanings}

-- ---- 25
abbrev pub kept_outside : List ℕ → Option Text → Bool
kept_outside s None = false
kept_outside s (Some t) = not (is_within s t)

unfoldable pub misplaced : List ℕ → Header → List Row → Bool
misplaced s h rs = too_long s || kept_outside s h.date || kept_outside s h.version || some_outside s rs

-- ---- the commands in order, up to the first that may not be written (22) or has no room (21)
-- why they stop there; only asked where they do
unfoldable pub stopped : Writer → ℕ → List Meaning → Refusal
stopped w room [] = Refusal.NoRoom
stopped w room (m ∷ ms) =
    cond (writable w m)
    (cond (leb (length (layout m)) room) (stopped (state_after w m) (room - length (layout m)) ms) Refusal.NoRoom)
    Refusal.NotWritable

pub record Outcome : Type 0 where
  pub answer : Result (ℕ × Writer) (Refusal × ℕ × Writer)
  pub left : List ℕ

-- those that were written, of all: they stand in the output and are in the state
abbrev pub poured : Writer → List Meaning → List Meaning → List ℕ → Outcome
poured w all l o =
    let b : List ℕ = layouts l in
    let v : Writer = states_after w l in
    record {
      answer =
          cond (eqb (length l) (length all))
          (Ok (length b, v))
          (Err (stopped w (length o) all, length b, v));
      left = b ++ drop (length b) o;
    }

abbrev pub refusal : Refusal → Writer → List ℕ → Outcome
refusal e w o = record { answer = Err (e, 0, w); left = o }

-- the first n rows of a table as a header
unfoldable pub header_call : Writer → List ℕ → Header → List ℕ → ℕ → List ℕ → Outcome
header_call w s h table n o =
    let rs : List Row = rows_of table n in
    let all : List Meaning = header_meanings s h rs in
    cond (misplaced s h rs) (refusal Refusal.BadPlace w o)
    (cond (is_good_table rs) (poured w all (taken w (length o) all) o)
    (refusal Refusal.BadTable w o))

-- the answer r and the output o are those of the outcome x
pub record Does (r : Result (ℕ × Writer) (Refusal × ℕ × Writer)) (o : List ℕ) (x : Outcome) : Type 0 where
  pub answers : r ≡ x.answer
  pub leaves : o ≡ x.left
