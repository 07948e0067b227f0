-- A hit of the fast path: the command that reading from there gives, wherever the lines stand. A miss says nothing.
use Rattle.std.specs.Prelude.{◌≡◌, ℕ, ◌+◌, ◌-◌, ◌^◌, ◌<◌, ◌≤◌, true, List, length, slice_index, Some}
use Rattle.text.specs.Texts.{part}
use Rattle.text.specs.declared.Text.{Text}
use Rattle.command.specs.declared.Command.{Command}
use Rattle.parser.specs.Next.{next_from}
use Rattle.parser.specs.declared.Next.{Next}
use Rattle.token.specs.Flat.{word_read}
use Rattle.token.specs.Read.{Valid}
use Rattle.token.specs.declared.Cursor.{Cursor}
use Rattle.value.specs.Values.{value_of, are_values}
use Rattle.value.specs.declared.Value.{Value}
use Rattle.fast.specs.declared.Fast.{Fast}

-- from every valid cursor at `at` the command k is read, no newline in it, up to the blank at e
pub record Reads (s : List ℕ) (at e : ℕ) (k : Command) : Type 0 where
  pub past : at < e
  pub inside : e < length s
  pub reads : (c : Cursor) → Valid s c → c.place ≡ at → next_from s c ≡ Next.Command k (word_read c e (slice_index s e))

-- a change of a scalar, whose value the first byte means, of an id that has a text
pub record ReadsScalar (s : List ℕ) (at e i : ℕ) : Type 0 where
  pub value : Value
  pub means : value_of (slice_index s at) ≡ Some value
  pub id : i < 2 ^ 64 - 1
  pub change : Reads s at e (Command.ChangeScalar (record { 0 = i }) value)

-- a vector's values, from after the first byte up to `stop`
abbrev pub values_at : ℕ → ℕ → Text
values_at at stop = record { start = at + 1; len = stop - (at + 1) }

-- a change of a vector
pub record ReadsVector (s : List ℕ) (at stop e i : ℕ) : Type 0 where
  pub some : at + 1 < stop
  pub before : stop < e
  pub values : are_values (part s (values_at at stop)) ≡ true
  pub id : i < 2 ^ 64 - 1
  pub change : Reads s at e (Command.ChangeVector (record { 0 = i }) (values_at at stop))

abbrev pub Hits : List ℕ → ℕ → Fast → Type 0
Hits s at (Fast.Time t e) = Reads s at e (Command.Timestamp (record { 0 = t }))
Hits s at (Fast.Scalar i e) = ReadsScalar s at e i
Hits s at (Fast.Vector i stop e) = ReadsVector s at stop e i
Hits s at Fast.Miss = Unit {0}

-- ---- short commands
-- none has more than 34 bytes, the blank that ends it among them
abbrev pub Short : ℕ → Fast → Type 0
Short at (Fast.Time t e) = e < at + 34
Short at (Fast.Scalar i e) = e < at + 34
Short at (Fast.Vector i stop e) = Unit {0}
Short at Fast.Miss = Unit {0}

-- eight digits stand from `at` on
abbrev pub EightDigits : List ℕ → ℕ → Type 0
EightDigits s at = (i : ℕ) → at ≤ i → i < at + 8 → (48 ≤ slice_index s i) × (slice_index s i ≤ 57)
