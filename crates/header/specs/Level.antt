-- What the private functions of the header's reading promise: that the rest of the reading, from where they stop, ends the same.
use Rattle.command.specs.Refusals.{Ended}
use Rattle.rows.specs.declared.RowNumber.{RowNumber}
use Rattle.std.specs.Prelude.{ℕ, suc, ◌+◌, ◌-◌, ◌≤◌, ◌<◌, ◌≡◌, Bool, true, false, cond, List, [], ◌∷◌, eqb, ltb, length, Option, Result, Ok, Err}
use Rattle.scope.specs.Limits.{most_levels}
use Rattle.command.specs.declared.Command.{Command}
use Rattle.command.specs.declared.Refusal.{Refusal}
use Rattle.idcode.specs.declared.IdCode.{IdCode}
use Rattle.parser.specs.All.{commands}
use Rattle.parser.specs.Next.{next_from}
use Rattle.parser.specs.declared.Next.{Next}
use Rattle.scope.specs.declared.ReferenceIndex.{ReferenceIndex}
use Rattle.scope.specs.declared.Var.{Var}
use Rattle.scope.specs.declared.VarType.{VarType}
use Rattle.text.specs.declared.Text.{Text}
use Rattle.token.specs.declared.Cursor.{Cursor}
use Rattle.header.specs.Header.{Outcome, inner, read_rows, with_date, with_version, with_timescale}
use Rattle.rows.specs.Rows.{put, row_words}
use Rattle.header.specs.declared.Header.{Header}
use Rattle.header.specs.declared.Item.{Item}
use Rattle.header.specs.declared.Move.{Move}
use Rattle.rows.specs.declared.Row.{Row}

-- ---- one command
abbrev pub var_of : VarType → ℕ → IdCode → Text → ReferenceIndex → Var
var_of k w i t x = record { var_type = k; size = w; code = i; reference = t; index = x }

-- what a command is for: a row, which its parent is still to be told of, something to keep, or neither
pub data Duty : Type 0 where
  scope : (Option RowNumber → Row) → Duty
  leaf : (Option RowNumber → Row) → Duty
  keeps : (Header → Header) → Duty
  closes : Duty
  ends : Duty
  strange : Duty

unfoldable pub duty : Command → Duty
duty (Command.Comment t) = leaf (λ p. Row.Comment p t)
duty (Command.Date t) = keeps (λ h. with_date h t)
duty (Command.Version t) = keeps (λ h. with_version h t)
duty (Command.Timescale q u) = keeps (λ h. with_timescale h q u)
duty (Command.ScopeDef k t) = scope (λ p. Row.Scope p k t)
duty Command.Upscope = closes
duty (Command.VarDef k w i t x) = leaf (λ p. Row.Var p (var_of k w i t x))
duty Command.Enddefinitions = ends
duty (Command.Timestamp t) = strange
duty (Command.ChangeScalar i v) = strange
duty (Command.ChangeVector i v) = strange
duty (Command.ChangeReal i v) = strange
duty (Command.ChangeString i v) = strange
duty (Command.Begin k) = strange
duty (Command.End k) = strange

abbrev pub has_row : Duty → Bool
has_row (scope r) = true
has_row (leaf r) = true
has_row (keeps f) = false
has_row closes = false
has_row ends = false
has_row strange = false

-- the item, and the table then
abbrev pub refused : Refusal → Cursor → Item
refused e d = Item.Refused e d.line d

abbrev pub item_by : ℕ → ℕ → ℕ → Command → Cursor → Duty → Item
item_by cap levels n k d (scope r) =
    cond (eqb levels 0) (refused Refusal.TooDeep d) (cond (ltb n cap) (Item.Scope d) (refused Refusal.TableFull d))
item_by cap levels n k d (leaf r) = cond (ltb n cap) (Item.Leaf d) (refused Refusal.TableFull d)
item_by cap levels n k d (keeps f) = Item.Other k d
item_by cap levels n k d closes = Item.Other k d
item_by cap levels n k d ends = Item.Other k d
item_by cap levels n k d strange = Item.Other k d

unfoldable pub item_of : ℕ → ℕ → ℕ → Command → Cursor → Item
item_of cap levels n k d = item_by cap levels n k d (duty k)

abbrev pub table_by : ℕ → Option RowNumber → ℕ → ℕ → List ℕ → Duty → List ℕ
table_by cap p levels n m (scope r) = cond (eqb levels 0) m (cond (ltb n cap) (put m n (row_words (r p))) m)
table_by cap p levels n m (leaf r) = cond (ltb n cap) (put m n (row_words (r p))) m
table_by cap p levels n m (keeps f) = m
table_by cap p levels n m closes = m
table_by cap p levels n m ends = m
table_by cap p levels n m strange = m

unfoldable pub table_of : ℕ → Option RowNumber → ℕ → ℕ → Command → List ℕ → List ℕ
table_of cap p levels n k m = table_by cap p levels n m (duty k)

-- inside a scope only `$upscope` is left
abbrev pub close_by : Cursor → ℕ → Duty → Result (Cursor × ℕ) (Refusal × ℕ × Cursor × ℕ)
close_by d n closes = Ok (d, n)
close_by d n (scope r) = Err (Refusal.UnexpectedHeaderCommand, d.line, d, n)
close_by d n (leaf r) = Err (Refusal.UnexpectedHeaderCommand, d.line, d, n)
close_by d n (keeps f) = Err (Refusal.UnexpectedHeaderCommand, d.line, d, n)
close_by d n ends = Err (Refusal.UnexpectedHeaderCommand, d.line, d, n)
close_by d n strange = Err (Refusal.UnexpectedHeaderCommand, d.line, d, n)

unfoldable pub close_of : Command → Cursor → ℕ → Result (Cursor × ℕ) (Refusal × ℕ × Cursor × ℕ)
close_of k d n = close_by d n (duty k)

-- at top: what is kept, and the end
abbrev pub misplaced : ℕ → Move
misplaced line = Move.Ends (Err (Refusal.UnexpectedHeaderCommand, line))

abbrev pub keep_by : Header → ℕ → Duty → Move
keep_by h line (keeps f) = Move.On (f h)
keep_by h line ends = Move.Ends (Ok tt)
keep_by h line (scope r) = misplaced line
keep_by h line (leaf r) = misplaced line
keep_by h line closes = misplaced line
keep_by h line strange = misplaced line

unfoldable pub keep_of : Header → Command → ℕ → Move
keep_of h k line = keep_by h line (duty k)

-- ---- how everything ends: what is kept, the end, the cursor, the rows made, the table
pub data Final : Type 0 where
  final : Header → Ended → Cursor → ℕ → List ℕ → Final

-- rows stored one after the other, from row n on
abbrev pub fill : List ℕ → ℕ → List Row → List ℕ
fill m n [] = m
fill m n (r ∷ rs) = fill (put m n (row_words r)) (n + 1) rs

-- what comes of an outcome that is still to come, where n rows are in the table m already
abbrev pub after : List ℕ → ℕ → Outcome → Final
after m n o = final o.kept o.ended o.cursor (n + length o.rows) (fill m n o.rows)

-- the rest of a header from a cursor on
abbrev pub rest : List ℕ → ℕ → Cursor → List ℕ → ℕ → Header → Outcome
rest s cap c st n h = read_rows cap (commands s c) st n h

-- ---- the next item, with n rows in the table m before it and the table m' after it; the open scopes are any that fit
abbrev pub Here : ℕ → Option RowNumber → List ℕ → Type 0
Here levels p st = (length st + levels ≡ most_levels) × (inner st ≡ p)

-- a row was stored, and the reading goes on in the scopes that `then` makes of those open
abbrev pub Stores : List ℕ → ℕ → Option RowNumber → ℕ → Cursor → List ℕ → ℕ → Cursor → List ℕ → (List ℕ → List ℕ) → Type 0
Stores s cap p levels c m n d m' then =
    (n < cap) × (length s - d.place < length s - c.place)
    × ((st : List ℕ) (h : Header) → Here levels p st → after m n (rest s cap c st n h) ≡ after m' (n + 1) (rest s cap d (then st) (n + 1) h))

abbrev pub Took : List ℕ → ℕ → Option RowNumber → ℕ → Cursor → List ℕ → ℕ → Item → List ℕ → Type 0
Took s cap p levels c m n (Item.Leaf d) m' = Stores s cap p levels c m n d m' (λ st. st)
Took s cap p levels c m n (Item.Scope d) m' = (0 < levels) × Stores s cap p levels c m n d m' (λ st. n ∷ st)
Took s cap p levels c m n (Item.Other k d) m' = (m' ≡ m) × (next_from s c ≡ Next.Command k d) × (has_row (duty k) ≡ false)
Took s cap p levels c m n (Item.Refused e l d) m' =
    (st : List ℕ) (h : Header) → Here levels p st → after m n (rest s cap c st n h) ≡ final h (Err (e, l)) d n m'

-- ---- some variables: the reading goes on after them in the same scopes, with n' rows in the table m'
abbrev pub Passes : List ℕ → ℕ → Option RowNumber → Cursor → List ℕ → ℕ → Cursor → ℕ → List ℕ → Type 0
Passes s cap p c m n d n' m' =
    (n' ≤ cap) × (length s - d.place ≤ length s - c.place)
    × ((levels : ℕ) (st : List ℕ) (h : Header) → Here levels p st → after m n (rest s cap c st n h) ≡ after m' n' (rest s cap d st n' h))

-- ---- the items of the scope at row p
abbrev pub Follows : List ℕ → ℕ → ℕ → ℕ → Cursor → List ℕ → ℕ → Result (Cursor × ℕ) (Refusal × ℕ × Cursor × ℕ) → List ℕ → Type 0
Follows s cap p levels c m n (Ok (d, n')) m' =
    (n' ≤ cap) × (length s - d.place ≤ length s - c.place)
    × ((st : List ℕ) (h : Header) → suc (length st) + levels ≡ most_levels
    → after m n (rest s cap c (p ∷ st) n h) ≡ after m' n' (rest s cap d st n' h))
Follows s cap p levels c m n (Err (e, l, d, n')) m' =
    (n' ≤ cap)
    × ((st : List ℕ) (h : Header) → suc (length st) + levels ≡ most_levels
    → after m n (rest s cap c (p ∷ st) n h) ≡ final h (Err (e, l)) d n' m')
