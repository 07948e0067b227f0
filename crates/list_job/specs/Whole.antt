-- All that the listing program prints for an input, and whether the input was whole.
use Rattle.command.specs.Refusals.{Ended}
use Rattle.std.specs.Prelude.{ℕ, Bool, true, false, cond, ◌&&◌, List, [], ◌∷◌, ◌++◌, map, eqb, ltb, length, Option, Some, None, Ok, Err}
use Rattle.command.specs.Refusals.{number_of}
use Rattle.command.specs.declared.Refusal.{Refusal}
use Rattle.header.specs.Header.{Outcome as Heading, read_rows, nothing}
use Rattle.rows.specs.declared.Row.{Row}
use Rattle.idcode.specs.declared.IdCode.{IdCode}
use Rattle.emit.specs.Put.{concat}
use Rattle.lines.specs.Lines.{taken, header_rows, long_line, change_line, full_line, refused_line}
use Rattle.listing.specs.Listing.{Outcome, list_in}
use Rattle.parser.specs.All.{commands}
use Rattle.text.specs.Texts.{part}
use Rattle.token.specs.declared.Cursor.{Cursor}
use Rattle.parser.specs.Next.{fresh as fresh_cursor}

-- the most changes of a variable that are listed
abbrev pub most_changes : ℕ
most_changes = 1024

-- the last line, if a listing met a refusal of reading
abbrev pub met_lines : Option (Refusal × ℕ) → List (List ℕ)
met_lines None = []
met_lines (Some (e, n)) = refused_line (number_of e) n ∷ []

abbrev pub is_full : Refusal → Bool
is_full e = eqb (number_of e) (number_of Refusal.ListFull)

-- a listing that met one: not a full one
abbrev pub met_then : Option (Refusal × ℕ) → Ended → Option (Refusal × ℕ)
met_then m (Ok tt) = m
met_then m (Err (e, n)) = cond (is_full e) m (Some (e, n))

-- the line after those of a full listing
abbrev pub end_lines : List ℕ → Ended → List (List ℕ)
end_lines name (Ok tt) = []
end_lines name (Err (e, n)) = cond (is_full e) (full_line name ∷ []) []

-- the changes of a code, as many as are taken
unfoldable pub listed : List ℕ → Cursor → IdCode → Outcome
listed s c i = list_in s c None i most_changes

-- a variable's lines
abbrev pub var_lines : List ℕ → List ℕ → ℕ → Outcome → List (List ℕ)
var_lines s name width o = map (change_line s name width) o.rows ++ end_lines name o.ended

-- the lines of the variables among these rows, in order, and the last line
unfoldable pub rows_lines : List ℕ → Cursor → List Row → Option (Refusal × ℕ) → List (List ℕ)
rows_lines s c [] m = met_lines m
rows_lines s c (Row.Var p v ∷ rs) m =
    var_lines s (part s v.reference) v.size (listed s c v.code) ++ rows_lines s c rs (met_then m (listed s c v.code).ended)
rows_lines s c (Row.Scope p k t ∷ rs) m = rows_lines s c rs m
rows_lines s c (Row.Comment p t ∷ rs) m = rows_lines s c rs m
rows_lines s c (Row.None ∷ rs) m = rows_lines s c rs m

-- the header; a refused one gives one line
unfoldable pub heading : List ℕ → Heading
heading s = read_rows header_rows (commands s fresh_cursor) [] 0 nothing

abbrev pub headed_lines : List ℕ → List Row → Cursor → Ended → List (List ℕ)
headed_lines s rs c (Ok tt) = rows_lines s c rs None
headed_lines s rs c (Err (e, n)) = refused_line (number_of e) n ∷ []

abbrev pub long_lines : List (List ℕ)
long_lines = long_line ∷ []

unfoldable pub list_lines : List ℕ → List (List ℕ)
list_lines s =
    cond (ltb taken (length s)) long_lines (headed_lines s (heading s).rows (heading s).cursor (heading s).ended)

-- standard output
unfoldable pub list_text : List ℕ → List ℕ
list_text s = concat (list_lines s)

-- ---- whether the input was whole: not too long, its header whole, and the listing of each variable
abbrev pub is_whole : Ended → Bool
is_whole (Ok tt) = true
is_whole (Err (e, n)) = false

unfoldable pub rows_whole : List ℕ → Cursor → List Row → Bool
rows_whole s c [] = true
rows_whole s c (Row.Var p v ∷ rs) = is_whole (listed s c v.code).ended && rows_whole s c rs
rows_whole s c (Row.Scope p k t ∷ rs) = rows_whole s c rs
rows_whole s c (Row.Comment p t ∷ rs) = rows_whole s c rs
rows_whole s c (Row.None ∷ rs) = rows_whole s c rs

abbrev pub headed_whole : List ℕ → List Row → Cursor → Ended → Bool
headed_whole s rs c (Ok tt) = rows_whole s c rs
headed_whole s rs c (Err (e, n)) = false

unfoldable pub list_whole : List ℕ → Bool
list_whole s = cond (ltb taken (length s)) false (headed_whole s (heading s).rows (heading s).cursor (heading s).ended)
