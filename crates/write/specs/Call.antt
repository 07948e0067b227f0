-- What a call answers and what it leaves in the output: one pattern for every command.
use Rattle.std.specs.Prelude.{ℕ, ◌≡◌, Bool, cond, List, Option, Some, None, Result, Ok, Err}
use Rattle.command.specs.Meaning.{Meaning, meaning}
use Rattle.command.specs.declared.Command.{Command}
use Rattle.command.specs.declared.Refusal.{Refusal}
use Rattle.idcode.specs.declared.IdCode.{IdCode}
use Rattle.scope.specs.declared.ReferenceIndex.{ReferenceIndex}
use Rattle.scope.specs.declared.VarType.{VarType}
use Rattle.text.specs.Texts.{too_long, outside, put_answer, put_bytes}
use Rattle.text.specs.declared.Text.{Text}
use Rattle.write.specs.Layout.{layout, writable, state_after}
use Rattle.write.specs.declared.Writer.{Writer}

-- the answer, and the output afterwards
pub record Outcome : Type 0 where
  pub answer : Result (ℕ × Writer) Refusal
  pub left : List ℕ

-- refused: no byte changes
abbrev pub refusal : Refusal → List ℕ → Outcome
refusal e o = record { answer = Err e; left = o }

abbrev pub written : Writer → Option ℕ → Result (ℕ × Writer) Refusal
written w (Some n) = Ok (n, w)
written w None = Err Refusal.NoRoom

-- the bytes b at the start of the output o and the state w, or 21
abbrev pub fitted : Writer → List ℕ → List ℕ → Outcome
fitted w b o = record { answer = written w (put_answer b o); left = put_bytes b o }

-- 25 for what is misplaced, then 22 for what may not be written, then 21
unfoldable pub outcome : Bool → Bool → Writer → List ℕ → List ℕ → Outcome
outcome misplaced ok w b o = cond misplaced (refusal Refusal.BadPlace o) (cond ok (fitted w b o) (refusal Refusal.NotWritable o))

-- is the input over the limit, or a text outside it?
abbrev pub misplaced : List ℕ → Command → Bool
misplaced s (Command.Comment t) = outside s t
misplaced s (Command.Date t) = outside s t
misplaced s (Command.Version t) = outside s t
misplaced s (Command.Timescale n u) = too_long s
misplaced s (Command.ScopeDef k t) = outside s t
misplaced s Command.Upscope = too_long s
misplaced s (Command.VarDef k n i t x) = outside s t
misplaced s Command.Enddefinitions = too_long s
misplaced s (Command.Timestamp n) = too_long s
misplaced s (Command.ChangeScalar i v) = too_long s
misplaced s (Command.ChangeVector i t) = outside s t
misplaced s (Command.ChangeReal i t) = outside s t
misplaced s (Command.ChangeString i t) = outside s t
misplaced s (Command.Begin k) = too_long s
misplaced s (Command.End k) = too_long s

-- writing at the state w what the command k of the input s means, to the output o
unfoldable pub call : Writer → List ℕ → Command → List ℕ → Outcome
call w s k o =
    let m : Meaning = meaning s k in
    outcome (misplaced s k) (writable w m) (state_after w m) (layout m) o

-- the answer r and the output o are those of the outcome x
pub record Does (r : Result (ℕ × Writer) Refusal) (o : List ℕ) (x : Outcome) : Type 0 where
  pub answers : r ≡ x.answer
  pub leaves : o ≡ x.left

-- a variable with the next id: the answer names it
abbrev pub added : IdCode → Result (ℕ × Writer) Refusal → Result (ℕ × Writer × IdCode) Refusal
added i (Ok (n, w)) = Ok (n, w, i)
added i (Err e) = Err e

abbrev pub new_var : Writer → VarType → ℕ → Text → ReferenceIndex → Command
new_var w k n t x = Command.VarDef k n w.id t x

pub record Adds (i : IdCode) (r : Result (ℕ × Writer × IdCode) Refusal) (o : List ℕ) (x : Outcome) : Type 0 where
  pub answers : r ≡ added i x.answer
  pub leaves : o ≡ x.left
