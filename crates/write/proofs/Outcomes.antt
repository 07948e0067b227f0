-- The ways to answer a command, one law for each.
use Rattle.std.specs.Prelude.{Option, Result, Err}
use Prim.Native.Nat.{ℕ, ◌≤◌, ◌<◌}
use mathlib.Core.Path.{◌≡◌, refl, sym, ap, ◌∙◌}
use mathlib.Core.Bool.{Bool, true, false}
use mathlib.Core.List.{List, []}
use lib.ListN.{length}
use Rattle.command.specs.Meaning.{meaning}
use Rattle.command.specs.declared.Command.{Command}
use Rattle.command.specs.declared.Refusal.{Refusal}
use Rattle.idcode.specs.declared.IdCode.{IdCode}
use Rattle.text.specs.Texts.{limit, too_long, put_answer, put_bytes}
use Rattle.text.proofs.Limit.{too_long_lem, not-long, none-long, outside-long}
use Rattle.text.proofs.Rows.{text_in_lem}
use Rattle.write.specs.Call.{Outcome, outcome, written, misplaced, call, Does, Adds}
use Rattle.write.specs.declared.Writer.{Writer}
use Rattle.write.proofs.Ids.{id-none, id-some}
use Rattle.write.proofs.Open.{open-yes, open-no}

module _ (out ok : Bool) (w : Writer) (b o : List ℕ) where
  pub bad-place : out ≡ true → Does (Err Refusal.BadPlace) o (outcome out ok w b o)
  unfolding outcome
  bad-place e = rw e (record { answers = refl; leaves = refl })

  pub not-writable : out ≡ false → ok ≡ false → Does (Err Refusal.NotWritable) o (outcome out ok w b o)
  unfolding outcome
  not-writable e f = rw (e, f) (record { answers = refl; leaves = refl })

  -- the state v was answered for the bytes l: they are those of the outcome
  pub laid_out : out ≡ false → ok ≡ true → {r : Result (ℕ × Writer) Refusal} {left l : List ℕ} {v : Writer} {p : Option ℕ} → r ≡ written v p
      → (p ≡ put_answer l o) × (left ≡ put_bytes l o) → v ≡ w → l ≡ b → Does r left (outcome out ok w b o)
  unfolding outcome
  laid_out e f q d g h = rw (e, f, ← g, ← h) (record { answers = q ∙ ap (written _) d.0; leaves = d.1 })

-- what every answer rests on, besides the definitions
pub ruleset outcomes = (none-long, text_in_lem, id-none, id-some, open-yes, open-no)

-- ---- any command: an input over the limit is refused, and one within it says nothing about a command that has no text
module _ (w : Writer) (s : List ℕ) where
  long : limit < length s → (k : Command) → misplaced s k ≡ true
  long h (Command.Comment t) = outside-long s t h
  long h (Command.Date t) = outside-long s t h
  long h (Command.Version t) = outside-long s t h
  long h (Command.Timescale n u) = too_long_lem s h
  long h (Command.ScopeDef k t) = outside-long s t h
  long h Command.Upscope = too_long_lem s h
  long h (Command.VarDef k n i t x) = outside-long s t h
  long h Command.Enddefinitions = too_long_lem s h
  long h (Command.Timestamp n) = too_long_lem s h
  long h (Command.ChangeScalar i v) = too_long_lem s h
  long h (Command.ChangeVector i t) = outside-long s t h
  long h (Command.ChangeReal i t) = outside-long s t h
  long h (Command.ChangeString i t) = outside-long s t h
  long h (Command.Begin k) = too_long_lem s h
  long h (Command.End k) = too_long_lem s h

  pub long-call : (k : Command) (o : List ℕ) → limit < length s → Does (Err Refusal.BadPlace) o (call w s k o)
  unfolding call
  long-call k o h = bad-place _ _ _ _ _ (long h k)

  module _ (k : Command) (o : List ℕ) (m : misplaced s k ≡ too_long s) (n : misplaced [] k ≡ too_long []) (e : meaning s k ≡ meaning [] k) where
    pub no_text : length s ≤ limit → {r : Result (ℕ × Writer) Refusal} {left : List ℕ} → Does r left (call w [] k o) → Does r left (call w s k o)
    unfolding call
    no_text h d = rw (m ∙ not-long s h ∙ sym (n ∙ none-long), e) d

pub ruleset any_command = (long-call)

-- ---- the statements pin the answer and every byte
pub determined : {r r' : Result (ℕ × Writer) Refusal} {o o' : List ℕ} (x : Outcome) → Does r o x → Does r' o' x → (r ≡ r') × (o ≡ o')
determined x d e = (d.answers ∙ sym e.answers, d.leaves ∙ sym e.leaves)

pub determined-id : (i : IdCode) {r r' : Result (ℕ × Writer × IdCode) Refusal} {o o' : List ℕ} (x : Outcome) → Adds i r o x → Adds i r' o' x → (r ≡ r') × (o ≡ o')
determined-id i x d e = (d.answers ∙ sym e.answers, d.leaves ∙ sym e.leaves)
