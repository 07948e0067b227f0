-- Tables of names.
use Rattle.std.specs.Prelude.{ℕ, Bool, true, false, cond, ◌&&◌, List, [], ◌∷◌}
use Prim.Native.String.{String}
use Rattle.text.specs.Bytes.{bytes, equal}

-- what a table of names has for w; `none` where it has nothing
unfoldable pub lookup : {A : Type 0} → List (String × A) → A → List ℕ → A
lookup [] none w = none
lookup (e ∷ r) none w = cond (equal w (bytes e.0)) e.1 (lookup r none w)

-- the names of a table
abbrev pub names_of : {A : Type 0} → List (String × A) → List String
names_of [] = []
names_of (e ∷ r) = e.0 ∷ names_of r

-- the same names, in any order
abbrev pub is_among : List String → String → Bool
is_among [] n = false
is_among (m ∷ r) n = cond (equal (bytes n) (bytes m)) true (is_among r n)

abbrev pub all_among : List String → List String → Bool
all_among l [] = true
all_among l (n ∷ r) = is_among l n && all_among l r

abbrev pub same_names : List String → List String → Bool
same_names a b = all_among a b && all_among b a
