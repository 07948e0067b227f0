-- Reading on until the end or a refusal.
use Rattle.command.specs.declared.Refusal.{Refusal}
use Rattle.std.specs.Prelude.{ℕ, zero, suc, ◌+◌, List, length, Result, Ok, Err}
use Rattle.parser.specs.Next.{next_from}
use Rattle.token.specs.declared.Cursor.{Cursor}
use Rattle.parser.specs.declared.Next.{Next}

-- n commands were read, and k is the next answer; `more` reads on
abbrev pub counted : (ℕ → Cursor → Result (ℕ × Cursor) (Refusal × ℕ × ℕ × Cursor)) → ℕ → Next → Result (ℕ × Cursor) (Refusal × ℕ × ℕ × Cursor)
counted more n (Next.Command k c) = more (n + 1) c
counted more n (Next.Refused e l c) = Err (e, l, n, c)
counted more n (Next.Done c) = Ok (n, c)

-- at most `fuel` commands are read on
unfoldable pub counts : ℕ → List ℕ → ℕ → Cursor → Result (ℕ × Cursor) (Refusal × ℕ × ℕ × Cursor)
counts zero s n c = Ok (n, c)
counts (suc fuel) s n c = counted (counts fuel s) n (next_from s c)

-- every command takes at least one byte, so as many as the input's bytes and one more is enough
abbrev pub count_from : List ℕ → Cursor → Result (ℕ × Cursor) (Refusal × ℕ × ℕ × Cursor)
count_from s c = counts (length s + 1) s 0 c
