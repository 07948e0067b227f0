-- Well-formed UTF-8: the Unicode Standard's table 3-7 as data, and the texts that it makes.
use Rattle.std.specs.Prelude.{ℕ, zero, suc, Bool, true, false, cond, ◌&&◌, List, [], ◌∷◌, leb, replicate}
use Rattle.utf8.specs.declared.Due.{Due}

-- the bytes from low to high
pub record Range : Type 0 where
  pub low : ℕ
  pub high : ℕ

infix 5 ◌to◌
abbrev pub ◌to◌ : ℕ → ℕ → Range
low to high = record { low = low; high = high }

unfoldable pub lies : Range → ℕ → Bool
lies r b = leb r.low b && leb b r.high

-- a character: its first byte's range, and the ranges of those that follow
pub record Row : Type 0 where
  pub first : Range
  pub follow : List Range

abbrev pub row : Range → List Range → Row
row r l = record { first = r; follow = l }

-- any byte that only follows
abbrev pub tail : Range
tail = 0x80 to 0xBF

-- table 3-7
abbrev pub table37 : List Row
table37 =
    row (0x00 to 0x7F) []
    ∷ row (0xC2 to 0xDF) (tail ∷ [])
    ∷ row (0xE0 to 0xE0) ((0xA0 to 0xBF) ∷ tail ∷ [])
    ∷ row (0xE1 to 0xEC) (tail ∷ tail ∷ [])
    ∷ row (0xED to 0xED) ((0x80 to 0x9F) ∷ tail ∷ [])
    ∷ row (0xEE to 0xEF) (tail ∷ tail ∷ [])
    ∷ row (0xF0 to 0xF0) ((0x90 to 0xBF) ∷ tail ∷ tail ∷ [])
    ∷ row (0xF1 to 0xF3) (tail ∷ tail ∷ tail ∷ [])
    ∷ row (0xF4 to 0xF4) ((0x80 to 0x8F) ∷ tail ∷ tail ∷ [])
    ∷ []

-- a byte that none is
abbrev pub never : Range
never = 1 to 0

-- what is due behind a first byte b, by the first row that has it
unfoldable pub due_after : List Row → ℕ → List Range
due_after [] b = never ∷ []
due_after (r ∷ rows) b = cond (lies r.first b) r.follow (due_after rows b)

-- a text, where bytes of these ranges are due first: each that is due is in its range, each other begins a character of the
-- table, and nothing is due at the end
unfoldable pub well_formed : List ℕ → List Range → Bool
well_formed [] [] = true
well_formed [] (r ∷ due) = false
well_formed (b ∷ s) [] = well_formed s (due_after table37 b)
well_formed (b ∷ s) (r ∷ due) = lies r b && well_formed s due

unfoldable pub valid_utf8 : List ℕ → Bool
valid_utf8 s = well_formed s []

-- so many bytes due, the next of them in the range r, the others any that follow: how the code keeps it
unfoldable pub due_from : ℕ → Range → List Range
due_from zero r = []
due_from (suc more) r = r ∷ replicate more tail

abbrev pub due_list : Due → List Range
due_list d = due_from d.more (d.low to d.high)
