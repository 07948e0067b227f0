-- What writing with a lent state answers, and the state that it leaves: the parts of the by-value answer.
use Rattle.std.specs.Prelude.{ℕ, Result, Ok, Err}
use Rattle.command.specs.declared.Refusal.{Refusal}
use Rattle.write.specs.declared.Writer.{Writer}
use Rattle.lent_writer.specs.declared.Stepped.{Stepped}

abbrev pub lent_answer : Result (ℕ × Writer) Refusal → Result ℕ Refusal
lent_answer (Ok (n, v)) = Ok n
lent_answer (Err e) = Err e

-- refused: the state w stays
abbrev pub lent_state : Writer → Result (ℕ × Writer) Refusal → Writer
lent_state w (Ok (n, v)) = v
lent_state w (Err e) = w

abbrev pub lent_step : Writer → Result (ℕ × Writer) Refusal → Stepped
lent_step w a = record { state = lent_state w a; answer = lent_answer a }
