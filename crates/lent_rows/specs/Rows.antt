-- A header's rows as structs, and a lent list of structs whose first ones are those.
use Rattle.std.specs.Prelude.{ℕ, zero, suc, ◌+◌, ◌*◌, ◌/◌, min, List, [], ◌∷◌, ◌++◌, length, take, drop, replicate, None}
use Rattle.scope.specs.Limits.{most_rows}
use Rattle.header.specs.Header.{Outcome, header_of, read_rows, nothing}
use Rattle.rows.specs.Rows.{row_at}
use Rattle.rows.specs.declared.Row.{Row}
use Rattle.parser.specs.All.{commands}
use Rattle.token.specs.declared.Cursor.{Cursor}
use Rattle.lent_rows.specs.declared.HeaderRow.{HeaderRow}
use Rattle.lent_rows.specs.declared.ScopeItem.{ScopeItem}

abbrev pub struct_of : Row → HeaderRow
struct_of (Row.Scope p k t) = record { parent = p; item = ScopeItem.Scope k t }
struct_of (Row.Var p v) = record { parent = p; item = ScopeItem.Var v }
struct_of (Row.Comment p t) = record { parent = p; item = ScopeItem.Comment t }
struct_of Row.None = record { parent = None; item = ScopeItem.None }

-- what reading the header at a cursor gives where there is room for n rows: `header_of` of a table of that many
abbrev pub header_in : List ℕ → Cursor → ℕ → Outcome
header_in s c n = read_rows (min most_rows n) (commands s c) [] 0 nothing

-- rows as structs
unfoldable pub structs : List Row → List HeaderRow
structs [] = []
structs (r ∷ rs) = struct_of r ∷ structs rs

-- the lent list then: the rows, and the later ones as they were
abbrev pub placed : List Row → List HeaderRow → List HeaderRow
placed rs old = structs rs ++ drop (length rs) old

-- ---- the private functions: the flat table
-- the part with room for n rows
abbrev pub front : List ℕ → ℕ → List ℕ
front flat n = take (10 * min n (length flat / 10)) flat

abbrev pub header_into : List ℕ → Cursor → List ℕ → ℕ → Outcome
header_into s c flat n = header_of s c (front flat n)

-- n rows from row i of the table on, or as many as there are places; the later ones stay
unfoldable pub fill_rows : ℕ → ℕ → List ℕ → List HeaderRow → List HeaderRow
fill_rows i zero ws old = old
fill_rows i (suc n) ws [] = []
fill_rows i (suc n) ws (r ∷ old) = struct_of (row_at ws i) ∷ fill_rows (i + 1) n ws old

-- the flat table before anything is read
unfoldable pub blank : List ℕ
blank = replicate 40960 0
