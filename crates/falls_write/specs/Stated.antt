-- The wrong writers that the public statement rules out. A writer is what it answers and leaves for each state, input, command and
-- output; that it meets the statement is the contract of the witness in src/.
use Rattle.std.specs.Prelude.{ℕ, ◌≡◌, List, Result, Err}
use Rattle.command.specs.Refusals.{number_of}
use Rattle.command.specs.declared.Command.{Command}
use Rattle.command.specs.declared.Refusal.{Refusal}
use Rattle.write.specs.Call.{call, Does}
use Rattle.write.specs.declared.Writer.{Writer}

-- something for each state, input, command and output
abbrev pub OfWrite : Type 0 → Type 0
OfWrite A = Writer → List ℕ → Command → List ℕ → A

abbrev pub Writes : OfWrite (Result (ℕ × Writer) Refusal) → OfWrite (List ℕ) → Type 0
Writes a l = (w : Writer) (s : List ℕ) (k : Command) (o : List ℕ) → Does (a w s k o) (l w s k o) (call w s k o)

-- 4: it changes no byte, whatever it answers
abbrev pub untouched : OfWrite (List ℕ)
untouched w s k o = o

-- 5: it refuses every command, by 22 or by another number
abbrev pub refused : OfWrite Refusal → OfWrite (Result (ℕ × Writer) Refusal)
refused e w s k o = Err (e w s k o)

-- the refusal is 22 each time
abbrev pub By22 : OfWrite Refusal → Type 0
By22 e = (w : Writer) (s : List ℕ) (k : Command) (o : List ℕ) → number_of (e w s k o) ≡ 22

pub record WritersFall : Type 0 where
  pub writes_nothing : (a : OfWrite (Result (ℕ × Writer) Refusal)) → Writes a untouched → ⊥
  pub refuses-all-by-22 : (e : OfWrite Refusal) (l : OfWrite (List ℕ)) → By22 e → Writes (refused e) l → ⊥
  pub refuses-all : (e : OfWrite Refusal) (l : OfWrite (List ℕ)) → Writes (refused e) l → ⊥
