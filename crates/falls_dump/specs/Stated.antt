-- Programs that change nothing of what is lent to them, whatever they answer: each would have to meet what its call's contract says of
-- the table or the output then.
use Rattle.std.specs.Prelude.{ℕ, ◌≡◌, List, replicate}
use Rattle.command.specs.declared.Command.{Command}
use Rattle.command.specs.declared.Refusal.{Refusal}
use Rattle.scope.specs.declared.ScopeType.{ScopeType}
use Rattle.text.specs.declared.Text.{Text}
use Rattle.token.specs.declared.Cursor.{Cursor}
use Rattle.rows.specs.Rows.{filled as rows_filled}
use Rattle.header.specs.Header.{off, move, header_of}
use Rattle.header.specs.declared.Header.{Header}
use Rattle.records.specs.Read.{read_of, filled as records_filled}
use Rattle.write.specs.declared.Writer.{Writer}
use Rattle.rewrite.specs.Rewrite.{rewrite_of, filled as bytes_filled}
use Rattle.write_header.specs.Written.{header_call}

pub record DumpsFall : Type 0 where
  pub header_read : ((s : List ℕ) (c : Cursor) (t : List ℕ) → t ≡ rows_filled (header_of s c t).rows t) → ⊥
  pub records-read : ((s : List ℕ) (c : Cursor) (t : List ℕ) → t ≡ records_filled (read_of s c t).commands t) → ⊥
  pub rewritten : ((s : List ℕ) (c : Cursor) (w : Writer) (o : List ℕ) → o ≡ bytes_filled (rewrite_of s c w o).bytes o) → ⊥
  pub header-written :
      ((w : Writer) (s : List ℕ) (h : Header) (t : List ℕ) (n : ℕ) (o : List ℕ) → o ≡ (header_call w s h t n o).left) → ⊥

-- a 65th scope that finds no row either: 19 is judged first
abbrev pub DeepFirst : Type 0
DeepFirst = (k : ScopeType) (t : Text) (h : Header) → move 64 (Command.ScopeDef k t) (replicate 64 0) 64 h ≡ off Refusal.TooDeep
