-- Reading on until the end or a refusal: the commands, each with the cursor after it; and what they mean, in order.
use Rattle.std.specs.Prelude.{ℕ, zero, suc, ◌-◌, List, [], ◌∷◌, length}
use Rattle.command.specs.Meaning.{Meaning, meaning}
use Rattle.command.specs.declared.Command.{Command}
use Rattle.command.specs.declared.Refusal.{Refusal}
use Rattle.parser.specs.Next.{next_from}
use Rattle.token.specs.declared.Cursor.{Cursor}
use Rattle.parser.specs.declared.Next.{Next}

-- the commands in order, each with the cursor after it, then how reading stops
pub data Commands : Type 0 where
  command : Command → Cursor → Commands → Commands
  stop : Refusal → ℕ → Cursor → Commands
  finish : Cursor → Commands

abbrev pub followed : (Cursor → Commands) → Next → Commands
followed more (Next.Command k d) = command k d (more d)
followed more (Next.Refused e n d) = stop e n d
followed more (Next.Done d) = finish d

-- at most `fuel` commands
unfoldable pub commands_on : ℕ → List ℕ → Cursor → Commands
commands_on zero s c = finish c
commands_on (suc fuel) s c = followed (commands_on fuel s) (next_from s c)

-- every command takes a byte at least, so what is left and one more is enough
unfoldable pub commands : List ℕ → Cursor → Commands
commands s c = commands_on (suc (length s - c.place)) s c

-- what an answer says: its command's meaning
pub data Said : Type 0 where
  said : Meaning → Cursor → Said
  refusal : Refusal → ℕ → Cursor → Said
  done : Cursor → Said

abbrev pub says : List ℕ → Next → Said
says s (Next.Command k d) = said (meaning s k) d
says s (Next.Refused e n d) = refusal e n d
says s (Next.Done d) = done d

-- the commands' meanings in order, then how it ends
pub data Reading : Type 0 where
  reads : Meaning → Reading → Reading
  stops : Refusal → ℕ → Reading
  ends : Reading

unfoldable pub reading : List ℕ → Commands → Reading
reading s (command k d more) = reads (meaning s k) (reading s more)
reading s (stop e n d) = stops e n
reading s (finish d) = ends

unfoldable pub read_all : List ℕ → Cursor → Reading
read_all s c = reading s (commands s c)

-- exactly these, then the end
unfoldable pub exactly : List Meaning → Reading
exactly [] = ends
exactly (m ∷ ms) = reads m (exactly ms)
