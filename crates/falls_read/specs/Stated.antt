-- The wrong readers that the public statement rules out. A reader is what it answers for each input and cursor; that it meets the
-- statement is the contract of the witness in src/.
use Rattle.std.specs.Prelude.{ℕ, ◌≡◌, cond, List, eqb}
use Rattle.command.specs.declared.Refusal.{Refusal}
use Rattle.parser.specs.Next.{next_from}
use Rattle.parser.specs.declared.Next.{Next}
use Rattle.token.specs.declared.Cursor.{Cursor}

-- something for each input and cursor
abbrev pub OfRead : Type 0 → Type 0
OfRead A = List ℕ → Cursor → A

abbrev pub Reads : OfRead Next → Type 0
Reads f = (s : List ℕ) (c : Cursor) → f s c ≡ next_from s c

-- 1: it refuses everything, for whatever reason
abbrev pub refusing : OfRead Refusal → OfRead ℕ → OfRead Cursor → OfRead Next
refusing e n d s c = Next.Refused (e s c) (n s c) (d s c)

-- 2: it always says Done, wherever it leaves the cursor
abbrev pub done : OfRead Cursor → OfRead Next
done d s c = Next.Done (d s c)

-- 3: it is right at the start of the input, and says Done ever after
abbrev pub once : OfRead Cursor → OfRead Next
once d s c = cond (eqb c.place 0) (next_from s c) (Next.Done (d s c))

pub record ReadersFall : Type 0 where
  pub refuses-all : (e : OfRead Refusal) (n : OfRead ℕ) (d : OfRead Cursor) → Reads (refusing e n d) → ⊥
  pub always-done : (d : OfRead Cursor) → Reads (done d) → ⊥
  pub right-once : (d : OfRead Cursor) → Reads (once d) → ⊥
