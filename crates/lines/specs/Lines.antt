-- The lines that the programs print, and the limits that both keep.
use Rattle.command.specs.declared.Time.{Time}
use Rattle.std.specs.Prelude.{ℕ, zero, suc, ◌+◌, ◌-◌, cond, List, [], ◌∷◌, ◌++◌, leb, length, drop, Option, Some, None}
use Rattle.emit.specs.Put.{concat}
use Rattle.change.specs.Rows.{change_at}
use Rattle.widen.specs.Widen.{widened}
use Rattle.change.specs.declared.Change.{Change}
use Rattle.change.specs.declared.ChangeKind.{ChangeKind}
use Rattle.number.specs.Decimal.{decimal_of}
use Rattle.text.specs.Bytes.{bytes}
use Rattle.text.specs.Texts.{part}
use Rattle.lines.specs.declared.Lines.{Lines}

-- the longest dump that is taken, and the most rows of its header
abbrev pub taken : ℕ
taken = 65536

abbrev pub header_rows : ℕ
header_rows = 256

abbrev pub long_line : List ℕ
long_line = bytes "input too long\n"

abbrev pub time_text : Option Time → List ℕ
time_text None = bytes "-"
time_text (Some t) = decimal_of t.0

-- scalars and vectors in lower case, a vector at its width; real and string texts as read
abbrev pub value_text : ℕ → ChangeKind → List ℕ → List ℕ
value_text width ChangeKind.Scalar v = widened v 1
value_text width ChangeKind.Vector v = widened v width
value_text width ChangeKind.Real v = v
value_text width ChangeKind.String v = v

-- reference, time, line, value; nothing for no change
abbrev pub change_line : List ℕ → List ℕ → ℕ → Change → List ℕ
change_line s name width (Change.Is since line kind v) =
    concat (name ∷ bytes " " ∷ time_text since ∷ bytes " " ∷ decimal_of line ∷ bytes " " ∷ value_text width kind (part s v) ∷ bytes "\n" ∷ [])
change_line s name width Change.None = []

abbrev pub full_line : List ℕ → List ℕ
full_line name = concat (name ∷ bytes " full\n" ∷ [])

abbrev pub refused_line : ℕ → ℕ → List ℕ
refused_line number line = concat (bytes "refused " ∷ decimal_of number ∷ bytes " at " ∷ decimal_of line ∷ bytes "\n" ∷ [])

-- the lines of n rows from row i on
unfoldable pub lines_from : List ℕ → List ℕ → ℕ → List ℕ → ℕ → ℕ → List (List ℕ)
lines_from s name width table i zero = []
lines_from s name width table i (suc n) = change_line s name width (change_at table i) ∷ lines_from s name width table (i + 1) n

-- the first of some lines, as many as have room
unfoldable pub fitting : ℕ → List (List ℕ) → List (List ℕ)
fitting room [] = []
fitting room (l ∷ ls) = cond (leb (length l) room) (l ∷ fitting (room - length l) ls) []

-- of the rows from `from` up to `to`
unfoldable pub put : List ℕ → List ℕ → ℕ → List ℕ → ℕ → ℕ → List ℕ → List (List ℕ)
put s name width table from to out = fitting (length out) (lines_from s name width table from (to - from))

abbrev pub answer_of : ℕ → List (List ℕ) → Lines
answer_of from ls = record { next = from + length ls; count = length (concat ls) }

-- the output then
abbrev pub filled : List (List ℕ) → List ℕ → List ℕ
filled ls out = concat ls ++ drop (length (concat ls)) out
