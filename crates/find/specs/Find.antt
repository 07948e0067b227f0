-- Looking up a row by a path of names, as the crate's find_scope and find_var: each name but the last is the first scope of that name
-- among the items of the one before; the last is the first scope or variable of that name among the items there.
use Rattle.std.specs.Prelude.{ℕ, zero, suc, ◌+◌, Bool, false, cond, ◌&&◌, ◌||◌, List, [], ◌∷◌, eqb, ltb, length, drop, Option, Some, None, Result, Ok, Err}
use Rattle.scope.specs.Index.{up_to_byte}
use Rattle.text.specs.Bytes.{equal}
use Rattle.text.specs.Texts.{part, too_long}
use Rattle.command.specs.declared.Refusal.{Refusal}
use Rattle.tree.specs.Place.{some_outside}
use Rattle.rows.specs.Rows.{parent_word, rows_of, top}
use Rattle.find.specs.declared.Kind.{Kind}
use Rattle.rows.specs.declared.Row.{Row}
use Rattle.rows.specs.declared.RowNumber.{RowNumber}

-- is it a row of this kind, with the parent p and this name?
abbrev pub is_named : List ℕ → Kind → ℕ → List ℕ → Row → Bool
is_named s Kind.Scope p name (Row.Scope q k t) = eqb (parent_word q) p && equal (part s t) name
is_named s Kind.Var p name (Row.Var q v) = eqb (parent_word q) p && equal (part s v.reference) name
is_named s Kind.Scope p name (Row.Var q v) = false
is_named s Kind.Scope p name (Row.Comment q t) = false
is_named s Kind.Scope p name Row.None = false
is_named s Kind.Var p name (Row.Scope q k t) = false
is_named s Kind.Var p name (Row.Comment q t) = false
is_named s Kind.Var p name Row.None = false

-- the first one, in file order; the rows are numbered from n on
unfoldable pub first_named : List ℕ → Kind → ℕ → List ℕ → ℕ → List Row → Option RowNumber
first_named s kind p name n [] = None
first_named s kind p name n (r ∷ rs) = cond (is_named s kind p name r) (Some (record { 0 = n })) (first_named s kind p name (n + 1) rs)

-- the names of a path, parted by one space each; none in an empty one
unfoldable pub names_on : ℕ → List ℕ → List (List ℕ)
names_on zero path = []
names_on (suc fuel) path =
    let a : List ℕ = up_to_byte 32 path in
    a ∷ cond (ltb (length a) (length path)) (names_on fuel (drop (length a + 1) path)) []

unfoldable pub names : List ℕ → List (List ℕ)
names [] = []
names (b ∷ path) = names_on (suc (length (b ∷ path))) (b ∷ path)

-- down the path from the items of p
abbrev pub into : (ℕ → Option RowNumber) → Option RowNumber → Option RowNumber
into more (Some n) = more n.0
into more None = None

unfoldable pub find_from : List ℕ → Kind → List Row → ℕ → List (List ℕ) → Option RowNumber
find_from s kind rs p [] = None
find_from s kind rs p (name ∷ []) = first_named s kind p name 0 rs
find_from s kind rs p (name ∷ more ∷ path) =
    into (λ q. find_from s kind rs q (more ∷ path)) (first_named s Kind.Scope p name 0 rs)

-- among the first n rows of a table, or as many as it has
unfoldable pub sought : List ℕ → Kind → List ℕ → ℕ → List ℕ → Option RowNumber
sought s kind table n path = find_from s kind (rows_of table n) top (names path)

-- 25 first: the input is over the limit, or one of these rows has a text outside it
unfoldable pub found : List ℕ → Kind → List ℕ → ℕ → List ℕ → Result (Option RowNumber) Refusal
found s kind table n path =
    cond (too_long s || some_outside s (rows_of table n)) (Err Refusal.BadPlace) (Ok (sought s kind table n path))
