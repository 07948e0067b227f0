-- Two commands written with one state, and the rows before a header is read.
use Rattle.command.specs.declared.Refusal.{Refusal}
use Rattle.std.specs.Prelude.{ℕ, ◌≡◌, List, replicate, None, Result}
use Rattle.command.specs.declared.Command.{Command}
use Rattle.write.specs.Call.{Outcome, call}
use Rattle.write.specs.Layout.{fresh}
use Rattle.lent_writer.specs.Lent.{lent_answer, lent_state}
use Rattle.lent_rows.specs.declared.HeaderRow.{HeaderRow}
use Rattle.lent_rows.specs.declared.ScopeItem.{ScopeItem}

-- the command a from the input s, to the output o
abbrev pub once : List ℕ → Command → List ℕ → Outcome
once s a o = call fresh s a o

-- then the command b, to the output p
abbrev pub twice : List ℕ → Command → Command → List ℕ → List ℕ → Outcome
twice s a b o p = call (lent_state fresh (once s a o).answer) s b p

-- the answer r and the outputs afterwards
abbrev pub Two : Result ℕ Refusal → List ℕ → List ℕ → List ℕ → Command → Command → List ℕ → List ℕ → Type 0
Two r first second s a b o p = (r ≡ lent_answer (twice s a b o p).answer) × (first ≡ (once s a o).left) × (second ≡ (twice s a b o p).left)

abbrev pub no_row : HeaderRow
no_row = record { parent = None; item = ScopeItem.None }

abbrev pub no_rows : List HeaderRow
no_rows = replicate 16 no_row
