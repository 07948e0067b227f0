-- Bytes: whitespace, the bytes of a quoted text, equality, and marks.
use Rattle.std.specs.Prelude.{ℕ, Bool, true, false, cond, not, ◌||◌, ◌&&◌, List, [], ◌∷◌, eqb}
use Prim.Native.Char.{code}
use Prim.Native.String as string
use Prim.Native.String.{String}

-- space, LF, CR, TAB
unfoldable pub is_blank : ℕ → Bool
is_blank b = eqb b 32 || eqb b 10 || eqb b 13 || eqb b 9

-- the bytes of an ASCII text
abbrev pub bytes : String → List ℕ
bytes string.[] = []
bytes (string.◌∷◌ c s) = code c ∷ bytes s

-- are two byte strings equal?
unfoldable pub equal : List ℕ → List ℕ → Bool
equal [] [] = true
equal [] (y ∷ ys) = false
equal (x ∷ xs) [] = false
equal (x ∷ xs) (y ∷ ys) = eqb x y && equal xs ys

-- is b one of these bytes?
unfoldable pub has : List ℕ → ℕ → Bool
has [] b = false
has (x ∷ r) b = eqb b x || has r b

-- does a list begin with the mark m? does it hold m anywhere?
unfoldable pub starts : List ℕ → List ℕ → Bool
starts [] r = true
starts (x ∷ m) [] = false
starts (x ∷ m) (b ∷ r) = eqb x b && starts m r

unfoldable pub holds : List ℕ → List ℕ → Bool
holds m [] = starts m []
holds m (b ∷ r) = starts m (b ∷ r) || holds m r

-- the bytes before the first mark m, or all where there is none
unfoldable pub up_to : List ℕ → List ℕ → List ℕ
up_to m [] = []
up_to m (b ∷ r) = cond (starts m (b ∷ r)) [] (b ∷ up_to m r)

-- only blanks; no blank
unfoldable pub all_blank : List ℕ → Bool
all_blank [] = true
all_blank (b ∷ r) = is_blank b && all_blank r

unfoldable pub no_blank : List ℕ → Bool
no_blank [] = true
no_blank (b ∷ r) = not (is_blank b) && no_blank r

-- what one token can be: some bytes, no blank
unfoldable pub is_token : List ℕ → Bool
is_token [] = false
is_token (b ∷ r) = no_blank (b ∷ r)
